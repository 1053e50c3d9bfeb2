-- What an answer that arrives does to what has come: it is the same, or the answer is added, new or again, or the gathering is over.
use mathlib.Core.Logic.{◌⊎◌, inl, inr}
use mathlib.Core.Path.{◌≡◌, refl, sym, ◌∙◌, subst}
use mathlib.Core.Bool.{Bool, true, false, false≢true}
use mathlib.Core.List.{List, [], ◌∷◌}
use Prim.Native.Nat.{ℕ, zero, suc, ◌+◌, ◌<◌, ◌≤◌}
use native.Mathlib.Omega.{arith}
use Rattle.messages.specs.Layout.{Message}
use Rattle.dock.specs.Data.{listed}
use Rattle.dock.specs.declared.Dock.{Dock}
use Rattle.hearing.specs.Hearing.{Result, is_late_page}
use Rattle.laptop.specs.declared.Laptop.{Laptop}
use Rattle.link.specs.Demand.{Meets}
use Rattle.link.specs.Needed.{answers_needed, needed, with_taken, is_new}
use Rattle.unharmed.proofs.LastAnswer.{is_last_head}
use Rattle.progress.proofs.Missing.{missing_most}
use Rattle.progress.proofs.Tells.{Tells, needs_some}

module _ (modes_of : ℕ → List ℕ) (d : Dock) (meets : Meets modes_of d) (l : Laptop) (x : Message) (got : List Message) where
  -- `after` has come then, and the answer is new or not
  pub record ComesTo (r : Result) (new : Bool) (after : List Message) : Type 0 where
    pub tells_on : Tells modes_of d meets r.step.laptop after
    pub lowered : new ≡ true → needed modes_of d after + 1 ≡ needed modes_of d got
    pub kept : new ≡ false → needed modes_of d got ≤ needed modes_of d after
    pub raised : needed modes_of d got < needed modes_of d after → (is_late_page l x.head ≡ true) ⊎ (r.step.refusal ≡ 14)
    pub last_comes : is_last_head l x.head ≡ true → (0 < needed modes_of d got) × (needed modes_of d after ≡ 0)
    pub pages_kept : is_last_head l x.head ≡ true → r.step.laptop.pages ≡ l.pages
    pub other_comes : is_last_head l x.head ≡ false → (needed modes_of d got ≡ 0) ⊎ (0 < needed modes_of d after)

  abbrev pub Comes : Result → Type 0
  Comes r = ComesTo r (is_new l.wait (listed d) x got) (with_taken l.wait (listed d) x got)

  comes_to : (r : Result) (new : Bool) (after : List Message) → is_new l.wait (listed d) x got ≡ new →
      with_taken l.wait (listed d) x got ≡ after → ComesTo r new after → Comes r
  comes_to r new after e f c =
      subst (λ (b : Bool). ComesTo r b (with_taken l.wait (listed d) x got)) (sym e) (subst (ComesTo r new) (sym f) c)

  zero_or_more : (n : ℕ) → (n ≡ 0) ⊎ (0 < n)
  zero_or_more zero = inl refl
  zero_or_more (suc n) = inr (omega arith)

  module _ (r : Result) where
    pub comes_same : is_new l.wait (listed d) x got ≡ false → with_taken l.wait (listed d) x got ≡ got →
        is_last_head l x.head ≡ false → Tells modes_of d meets r.step.laptop got → Comes r
    comes_same e f last t =
        comes_to r false got e f
        (record {
          tells_on = t;
          lowered = λ n. absurd (false≢true n);
          kept = λ n. omega arith;
          raised = λ h. absurd (omega arith);
          last_comes = λ n. absurd (false≢true (sym last ∙ n));
          pages_kept = λ n. absurd (false≢true (sym last ∙ n));
          other_comes = λ n. zero_or_more (needed modes_of d got);
        })

    pub comes_new : is_new l.wait (listed d) x got ≡ true → with_taken l.wait (listed d) x got ≡ x ∷ got →
        needed modes_of d (x ∷ got) + 1 ≡ needed modes_of d got → (is_last_head l x.head ≡ true → needed modes_of d (x ∷ got) ≡ 0) →
        (is_last_head l x.head ≡ false → 0 < needed modes_of d (x ∷ got)) → (is_last_head l x.head ≡ true → r.step.laptop.pages ≡ l.pages) →
        Tells modes_of d meets r.step.laptop (x ∷ got) → Comes r
    comes_new e f less last other pages t =
        comes_to r true (x ∷ got) e f
        (record {
          tells_on = t;
          lowered = λ n. less;
          kept = λ n. absurd (false≢true (sym n));
          raised = λ h. absurd (omega (arith, less));
          last_comes = λ n. (omega (arith, less), last n);
          pages_kept = pages;
          other_comes = λ n. inr (other n);
        })

    pub comes_again : is_new l.wait (listed d) x got ≡ false → with_taken l.wait (listed d) x got ≡ x ∷ got →
        needed modes_of d (x ∷ got) ≡ needed modes_of d got → is_last_head l x.head ≡ false → 0 < needed modes_of d got →
        Tells modes_of d meets r.step.laptop (x ∷ got) → Comes r
    comes_again e f same last some t =
        comes_to r false (x ∷ got) e f
        (record {
          tells_on = t;
          lowered = λ n. absurd (false≢true n);
          kept = λ n. omega (arith, same);
          raised = λ h. absurd (omega (arith, same));
          last_comes = λ n. absurd (false≢true (sym last ∙ n));
          pages_kept = λ n. absurd (false≢true (sym last ∙ n));
          other_comes = λ n. inr (omega (arith, same, some));
        })

    pub comes_none : is_new l.wait (listed d) x got ≡ false → with_taken l.wait (listed d) x got ≡ [] →
        is_last_head l x.head ≡ false → (is_late_page l x.head ≡ true) ⊎ (r.step.refusal ≡ 14) → Tells modes_of d meets r.step.laptop [] → Comes r
    comes_none e f last why t =
        comes_to r false [] e f
        (record {
          tells_on = t;
          lowered = λ n. absurd (false≢true n);
          kept = λ n. missing_most got (answers_needed modes_of d);
          raised = λ h. why;
          last_comes = λ n. absurd (false≢true (sym last ∙ n));
          pages_kept = λ n. absurd (false≢true (sym last ∙ n));
          other_comes = λ n. inr (needs_some modes_of d meets);
        })

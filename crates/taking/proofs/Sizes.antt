-- What each verdict on a page says of sizes.
use mathlib.Core.Path.{◌≡◌, refl, ap, sym, ◌∙◌}
use mathlib.Core.Bool.{Bool, true, false, cond, not, ◌&&◌, false≢true}
use mathlib.Core.List.{List}
use Prim.Native.Nat.{ℕ, ◌+◌, ◌≤◌}
use native.Mathlib.Omega.{arith}
use lib.Dec.{eqb}
use lib.ListN.{length}
use borrow.Author.Tests.{eqb-true}
use Rattle.laws.proofs.Lines.{and_left, and_right}
use Rattle.pages.specs.Pages.{read_off}
use Rattle.taking.specs.Taking.{is_repeat, before, is_full, is_ending, adds, nothing, bad, repeats, full, ends, judged_ending, shown, ending_verdict, verdict}
use Rattle.taking.specs.declared.Verdict.{Verdict}
use Rattle.taking.specs.declared.Verdict.TheVariants.{Bad, Repeat, More, Ends}
use Rattle.taking.proofs.Judging.{adds_fits, before_most}

abbrev pub is_more : Verdict → Bool
is_more Bad = false
is_more Repeat = false
is_more More = true
is_more (Ends k) = false

abbrev pub ends_with : Verdict → ℕ
ends_with Bad = 0
ends_with Repeat = 0
ends_with More = 0
ends_with (Ends k) = k

abbrev pub is_ends : Verdict → Bool
is_ends Bad = false
is_ends Repeat = false
is_ends More = false
is_ends (Ends k) = true

pub full_twelve : (v : List ℕ) → is_full v ≡ true → length v ≡ 12
unfolding is_full
full_twelve v e = eqb-true (length v) 12 (and_left (eqb (length v) 12) (eqb (before v) 12) e)

module _ (l v : List ℕ) where
  pub ending_not_more : is_more (ending_verdict l v) ≡ false
  unfolding ending_verdict
  ending_not_more = go (is_ending v && (not (nothing (length l) (before v)) && adds l (read_off v)))
    where
      go : (t : Bool) → is_more (shown (cond t (ends (read_off v)) bad)) ≡ false
      go true = refl
      go false = refl

  -- a page that is taken as full has twelve values, and they fit
  pub more_fits : verdict l v ≡ More → (length v ≡ 12) × (length l + length v ≤ 72)
  unfolding verdict ending_verdict
  more_fits e = go (is_repeat l v) (is_full v) (adds l v) refl refl (ap is_more e)
    where
      go : (r f a : Bool) → is_full v ≡ f → adds l v ≡ a → is_more (shown (cond r repeats (cond f (cond a (full v) bad) (judged_ending l v)))) ≡ true →
          (length v ≡ 12) × (length l + length v ≤ 72)
      go true f a ef ea h = absurd (false≢true h)
      go false true true ef ea h = (full_twelve v ef, adds_fits l v ea)
      go false true false ef ea h = absurd (false≢true h)
      go false false a ef ea h = absurd (false≢true (sym ending_not_more ∙ h))

  -- an ending page's values are among those that came, and they fit
  ending_fits : (k : ℕ) → ending_verdict l v ≡ Ends k → (k ≤ length v) × (length l + k ≤ 72)
  unfolding ending_verdict
  ending_fits k e = go (is_ending v && (not (nothing (length l) (before v)) && adds l (read_off v))) refl (ap is_ends e) (ap ends_with e)
    where
      go : (t : Bool) → (is_ending v && (not (nothing (length l) (before v)) && adds l (read_off v))) ≡ t →
          is_ends (shown (cond t (ends (read_off v)) bad)) ≡ true → ends_with (shown (cond t (ends (read_off v)) bad)) ≡ k → (k ≤ length v) × (length l + k ≤ 72)
      go true et h s =
          let added = and_right (not (nothing (length l) (before v))) (adds l (read_off v)) (and_right (is_ending v) _ et) in
          (omega (arith, before_most v, s), omega (arith, adds_fits l (read_off v) added, s))
      go false et h s = absurd (false≢true h)

  pub ends_fits : (k : ℕ) → verdict l v ≡ Ends k → (k ≤ length v) × (length l + k ≤ 72)
  unfolding verdict ending_verdict
  ends_fits k e = go (is_repeat l v) (is_full v) (adds l v) e
    where
      go : (r f a : Bool) → shown (cond r repeats (cond f (cond a (full v) bad) (judged_ending l v))) ≡ Ends k → (k ≤ length v) × (length l + k ≤ 72)
      go true f a h = absurd (false≢true (ap is_ends h))
      go false true true h = absurd (false≢true (ap is_ends h))
      go false true false h = absurd (false≢true (ap is_ends h))
      go false false a h = ending_fits k h

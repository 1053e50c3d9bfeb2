-- What is kept, by the walk: its numbers are those of what comes out.
use mathlib.Core.Path.{◌≡◌, refl, ap, sym}
use mathlib.Core.Bool.{Bool, true, false, cond}
use Prim.Native.Nat.{ℕ, ◌+◌, ◌*◌, ◌-◌, ◌≤◌}
use native.Mathlib.Omega.{arith}
use lib.Dec.{ltb, eqb}
use borrow.Author.Tests.{ltb-true}
use Rattle.laws.proofs.Lines.{and_left}
use Rattle.laptop.specs.Catalogue.{Catalogue}
use Rattle.catalogue.proofs.Lengths.{length_catalogue}
use Rattle.judging.specs.Judging.{Judgement}
use Rattle.judging.specs.Walking.{walk_of, is_bare}
use Rattle.judging.specs.declared.walk.Walk.{Walk}
use Rattle.mending.specs.Keeping.{svids_kept, kept_by_of}
use Rattle.mending.specs.Mending.{without_bare, kept_of, kept_bytes, report_of}
use Rattle.mending.specs.declared.keeping.Kept.{Kept}
use Rattle.mending.proofs.Leaving.{entries_size, modes_left, svids_left}

-- the tests of the code
module _ (walk : Walk) where
  pub bare_one : is_bare walk ≡ true → 1 ≤ walk.count
  unfolding is_bare
  bare_one e = omega (arith, ltb-true 0 walk.count (and_left (ltb 0 walk.count) (eqb walk.last 0) e))

  pub kept_test : (b : Bool) → is_bare walk ≡ b → svids_kept walk ≡ cond b (walk.count - 1) walk.count
  unfolding svids_kept
  kept_test b e = ap (λ (t : Bool). cond t (walk.count - 1) walk.count) e

  pub kept_most : svids_kept walk ≤ walk.count
  kept_most = go (is_bare walk) refl
    where
      go : (b : Bool) → is_bare walk ≡ b → svids_kept walk ≤ walk.count
      go true e = omega (arith, kept_test true e)
      go false e = omega (arith, kept_test false e)

  pub kept_made : (svids : ℕ) → svids ≡ svids_kept walk →
      record { svids = svids; modes = walk.modes; length = 2 + walk.extent * 4 + svids * 3 + walk.modes * 5 } ≡ kept_by_of walk
  unfolding kept_by_of
  kept_made svids e =
      ap (λ (n : ℕ). let k : Kept = record { svids = n; modes = walk.modes; length = 2 + walk.extent * 4 + n * 3 + walk.modes * 5 } in k) e

-- the report's numbers
pub kept_is : (at : ℕ) (j : Judgement) → kept_by_of (walk_of at j.catalogue) ≡ report_of j
unfolding kept_by_of report_of kept_of kept_bytes walk_of
kept_is at j =
    made (sym (svids_left at c)) (sym (modes_left c.entries))
    (omega (arith, length_catalogue (kept_of c), entries_size (without_bare c.entries), modes_left c.entries, svids_left at c))
  where
    c : Catalogue
    c = j.catalogue

    made : {s s' m m' l l' : ℕ} → s ≡ s' → m ≡ m' → l ≡ l' →
        ◌≡◌ {A = Kept} (record { svids = s; modes = m; length = l }) (record { svids = s'; modes = m'; length = l' })
    made es em el = cc

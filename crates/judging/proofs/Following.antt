-- Which record may follow a walk, by the tests that lead there.
use mathlib.Core.Path.{◌≡◌, refl}
use mathlib.Core.Bool.{Bool, true, false, not, ◌&&◌}
use mathlib.Core.List.{List}
use Prim.Native.Nat.{ℕ, ◌<◌}
use native.Mathlib.Omega.{arith}
use lib.Dec.{ltb, eqb}
use borrow.Author.Tests.{lt-ltb, le-ltb, ne_eqb, ltb-true, eqb-false, not-true}
use Rattle.laws.proofs.Lines.{and_left, and_right}
use Rattle.pages.specs.Lists.{most_svids, is_in}
use Rattle.laptop.specs.Catalogue.{modes_each}
use Rattle.records.specs.declared.Record.TheVariants.{Svid, Mode, End}
use Rattle.judging.specs.Walking.{is_bare, may_follow}
use Rattle.judging.specs.declared.walk.Walk.{Walk}

and_true : (b : Bool) → (b && true) ≡ b
and_true true = refl
and_true false = refl

zero_ltb : (n : ℕ) → n ≡ 0 → ltb 0 n ≡ false
zero_ltb n e = le-ltb 0 n (omega arith)

some_ltb : (n : ℕ) → (n ≡ 0 → ⊥) → ltb 0 n ≡ true
some_ltb n some = lt-ltb 0 n (omega arith)

-- an SVID that may follow
pub record Listed (w : Walk) (svids : List ℕ) (svid : ℕ) : Type 0 where
  pub begun : 0 < w.extent
  pub closed : is_bare w ≡ false
  pub some : svid ≡ 0 → ⊥
  pub room : w.count < most_svids
  pub new : is_in svid svids ≡ false

module _ (w : Walk) where
  pub bare_none : w.count ≡ 0 → is_bare w ≡ false
  unfolding is_bare
  bare_none e = simp (zero_ltb w.count e)

  pub bare_some : (w.count ≡ 0 → ⊥) → is_bare w ≡ eqb w.last 0
  unfolding is_bare
  bare_some some = simp (some_ltb w.count some)

  module _ (svids : List ℕ) where
    -- an SVID
    module _ (svid : ℕ) where
      pub list_new : (w.extent ≡ 0 → ⊥) → is_bare w ≡ false → (svid ≡ 0 → ⊥) → w.count < most_svids → may_follow w svids (Svid svid) ≡ not (is_in svid svids)
      unfolding may_follow
      list_new begun closed some room =
          simp (some_ltb w.extent begun, closed, ne_eqb svid 0 some, lt-ltb w.count most_svids room) (and_true (not (is_in svid svids)))

      -- where it may follow, all of this holds
      pub listed_as : may_follow w svids (Svid svid) ≡ true → Listed w svids svid
      unfolding may_follow
      listed_as e =
          let a = ltb 0 w.extent in
          let b = not (is_bare w) in
          let z = not (eqb svid 0) in
          let r = ltb w.count most_svids in
          let n = not (is_in svid svids) && true in
          let e₁ = and_right a (b && (z && (r && n))) e in
          let e₂ = and_right b (z && (r && n)) e₁ in
          let e₃ = and_right z (r && n) e₂ in
          record {
            begun = ltb-true 0 w.extent (and_left a (b && (z && (r && n))) e);
            closed = not-true (is_bare w) (and_left b (z && (r && n)) e₁);
            some = eqb-false svid 0 (not-true (eqb svid 0) (and_left z (r && n) e₂));
            room = ltb-true w.count most_svids (and_left r n e₃);
            new = not-true (is_in svid svids) (and_left (not (is_in svid svids)) true (and_right r n e₃));
          }

    -- a mode
    module _ (mode : ℕ) where
      pub add_some : (w.count ≡ 0 → ⊥) → may_follow w svids (Mode mode) ≡ ltb w.last modes_each
      unfolding may_follow
      add_some some = simp (some_ltb w.count some) (and_true (ltb w.last modes_each))

      pub added_under : may_follow w svids (Mode mode) ≡ true → (0 < w.count) × (w.last < modes_each)
      unfolding may_follow
      added_under e =
          let a = ltb 0 w.count in
          let b = ltb w.last modes_each in
          (ltb-true 0 w.count (and_left a (b && true) e), ltb-true w.last modes_each (and_left b true (and_right a (b && true) e)))

    -- the end
    pub end_closed : (w.extent ≡ 0 → ⊥) → may_follow w svids End ≡ not (is_bare w)
    unfolding may_follow
    end_closed begun = simp (some_ltb w.extent begun) (and_true (not (is_bare w)))

    pub ended_closed : may_follow w svids End ≡ true → (0 < w.extent) × (is_bare w ≡ false)
    unfolding may_follow
    ended_closed e =
        let a = ltb 0 w.extent in
        let b = not (is_bare w) in
        (ltb-true 0 w.extent (and_left a (b && true) e), not-true (is_bare w) (and_left b true (and_right a (b && true) e)))

-- The tests on which record may follow are 02's words.
use mathlib.Core.Logic.{◌↔◌}
use mathlib.Core.Path.{◌≡◌, refl, sym, ◌∙◌}
use mathlib.Core.Bool.{Bool, true, false, not, false≢true}
use mathlib.Core.List.{[], ◌∷◌}
use Prim.Native.Nat.{ℕ}
use native.Mathlib.Omega.{arith}
use lib.Dec.{ltb, eqb}
use lib.ListN.{length}
use borrow.Author.Tests.{ltb-true, ltb-false, eqb-true, eqb-false, lt-ltb, eq-eqb}
use Rattle.laws.specs.Lines.{all_hold}
use Rattle.laws.proofs.Lines.{and_left, and_right}
use Rattle.pages.specs.Lists.{most_svids, is_in}
use Rattle.pages.proofs.Words.{in_exactly}
use Rattle.laptop.specs.Catalogue.{Catalogue, modes_each}
use Rattle.records.specs.declared.Record.{Record}
use Rattle.records.specs.declared.Record.TheVariants.{Identity, Svid, Mode, End}
use Rattle.judging.specs.Walking.{svids_of, last_number, walk_of, is_bare, may_follow}
use Rattle.judging.proofs.Following.{Listed, listed_as, added_under, ended_closed}
use Rattle.catalogue_laws.specs.Words.{Bare, Wrong}
use Rattle.catalogue_laws.specs.Words.Wrong.{identity_again, svid_first, svid_behind_bare, svid_zero, svid_again, svid_past_most}
use Rattle.catalogue_laws.specs.Words.Wrong.{mode_without_svid, mode_past_six, end_first, end_behind_bare}
use Rattle.catalogue_laws.proofs.Steps.{follows}

module _ (at : ℕ) (c : Catalogue) where
  bare_words : is_bare (walk_of at c) ≡ true → Bare c
  unfolding is_bare walk_of
  bare_words e =
      let some = ltb 0 (length c.entries) in
      let none = eqb (last_number c.entries) 0 in
      (ltb-true 0 (length c.entries) (and_left some none e), eqb-true (last_number c.entries) 0 (and_right some none e))

  words_bare : Bare c → is_bare (walk_of at c) ≡ true
  unfolding is_bare walk_of
  words_bare b = rw (lt-ltb 0 (length c.entries) b.0, eq-eqb (last_number c.entries) 0 b.1)

  -- the first test that fails says which words hold
  wrong_svid : (svid : ℕ) → follows at c (Svid svid) ≡ false → Wrong c (Svid svid)
  unfolding may_follow walk_of
  wrong_svid svid e =
      go (ltb 0 (length c.identity)) (is_bare (walk_of at c)) (eqb svid 0) (ltb (length c.entries) most_svids) (is_in svid (svids_of c.entries))
      refl refl refl refl refl e
    where
      go : (begun bare zero room again : Bool) → ltb 0 (length c.identity) ≡ begun → is_bare (walk_of at c) ≡ bare → eqb svid 0 ≡ zero →
          ltb (length c.entries) most_svids ≡ room → is_in svid (svids_of c.entries) ≡ again →
          all_hold (begun ∷ not bare ∷ not zero ∷ room ∷ not again ∷ []) ≡ false → Wrong c (Svid svid)
      go false bare zero room again eb er ez em ea h = svid_first svid (omega (arith, ltb-false 0 (length c.identity) eb))
      go true true zero room again eb er ez em ea h = svid_behind_bare svid (bare_words er)
      go true false true room again eb er ez em ea h = rw (eqb-true svid 0 ez) svid_zero
      go true false false false again eb er ez em ea h = svid_past_most svid (ltb-false (length c.entries) most_svids em)
      go true false false true true eb er ez em ea h = svid_again svid ((in_exactly svid (svids_of c.entries)).0 ea)
      go true false false true false eb er ez em ea h = absurd (false≢true (sym h))

  wrong_mode : (mode : ℕ) → follows at c (Mode mode) ≡ false → Wrong c (Mode mode)
  unfolding may_follow walk_of
  wrong_mode mode e = go (ltb 0 (length c.entries)) (ltb (last_number c.entries) modes_each) refl refl e
    where
      go : (some room : Bool) → ltb 0 (length c.entries) ≡ some → ltb (last_number c.entries) modes_each ≡ room → all_hold (some ∷ room ∷ []) ≡ false →
          Wrong c (Mode mode)
      go false room es em h = mode_without_svid mode (omega (arith, ltb-false 0 (length c.entries) es))
      go true false es em h = mode_past_six mode (ltb-false (last_number c.entries) modes_each em)
      go true true es em h = absurd (false≢true (sym h))

  wrong_end : follows at c End ≡ false → Wrong c End
  unfolding may_follow walk_of
  wrong_end e = go (ltb 0 (length c.identity)) (is_bare (walk_of at c)) refl refl e
    where
      go : (begun bare : Bool) → ltb 0 (length c.identity) ≡ begun → is_bare (walk_of at c) ≡ bare → all_hold (begun ∷ not bare ∷ []) ≡ false → Wrong c End
      go false bare eb er h = end_first (omega (arith, ltb-false 0 (length c.identity) eb))
      go true true eb er h = end_behind_bare (bare_words er)
      go true false eb er h = absurd (false≢true (sym h))

  wrong_because : (r : Record) → follows at c r ≡ false → Wrong c r
  unfolding may_follow walk_of
  wrong_because (Identity objects) e =
      let some : length c.identity ≡ 0 → ⊥ = eqb-false (length c.identity) 0 e in
      identity_again objects (omega arith)
  wrong_because (Svid svid) e = wrong_svid svid e
  wrong_because (Mode mode) e = wrong_mode mode e
  wrong_because End e = wrong_end e

  -- where it may follow, none of them holds
  listed : (svid : ℕ) → follows at c (Svid svid) ≡ true → Listed (walk_of at c) (svids_of c.entries) svid
  listed svid f = listed_as (walk_of at c) (svids_of c.entries) svid f

  wrong_never : {r : Record} → Wrong c r → follows at c r ≡ true → ⊥
  unfolding may_follow walk_of
  wrong_never (identity_again objects some) f = omega (arith, eqb-true (length c.identity) 0 f)
  wrong_never (svid_first svid none) f = omega (arith, (listed svid f).begun)
  wrong_never (svid_behind_bare svid b) f = false≢true (sym (listed svid f).closed ∙ words_bare b)
  wrong_never svid_zero f = (listed 0 f).some refl
  wrong_never (svid_again svid s) f = false≢true (sym (listed svid f).new ∙ (in_exactly svid (svids_of c.entries)).1 s)
  wrong_never (svid_past_most svid most) f = omega (arith, (listed svid f).room)
  wrong_never (mode_without_svid mode none) f = omega (arith, (added_under (walk_of at c) (svids_of c.entries) mode f).0)
  wrong_never (mode_past_six mode six) f = omega (arith, (added_under (walk_of at c) (svids_of c.entries) mode f).1)
  wrong_never (end_first none) f = omega (arith, (ended_closed (walk_of at c) (svids_of c.entries) f).0)
  wrong_never (end_behind_bare b) f = false≢true (sym (ended_closed (walk_of at c) (svids_of c.entries) f).1 ∙ words_bare b)

  -- a record may not follow exactly when one of 02's words holds of it
  pub wrong_exactly : (r : Record) → (may_follow (walk_of at c) (svids_of c.entries) r ≡ false) ↔ Wrong c r
  wrong_exactly r = (wrong_because r, λ w. go w (follows at c r) refl)
    where
      go : Wrong c r → (b : Bool) → follows at c r ≡ b → follows at c r ≡ false
      go w false e = e
      go w true e = absurd (wrong_never w e)

  pub right_exactly : (r : Record) → (may_follow (walk_of at c) (svids_of c.entries) r ≡ true) ↔ (Wrong c r → ⊥)
  right_exactly r = (λ f w. wrong_never w f, λ right. go right (follows at c r) refl)
    where
      go : (Wrong c r → ⊥) → (b : Bool) → follows at c r ≡ b → follows at c r ≡ true
      go right true e = e
      go right false e = absurd (right (wrong_because r e))

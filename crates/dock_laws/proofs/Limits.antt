-- Data breaks its limits in 01's words exactly where the tests say so.
use mathlib.Core.Logic.{◌↔◌, ◌⊎◌, inl, inr}
use mathlib.Core.Path.{◌≡◌, refl, sym}
use mathlib.Core.Bool.{Bool, true, false, ◌&&◌, false≢true}
use mathlib.Core.List.{List}
use Prim.Native.Nat.{ℕ}
use lib.Dec.{leb}
use lib.ListN.{length}
use borrow.Author.Tests.{lt-leb, leb-false}
use Rattle.pages.specs.Lists.{sound_list}
use Rattle.pages.specs.Words.{Stands, Twice}
use Rattle.pages.proofs.Words.{unsound_exactly}
use Rattle.dock.specs.Data.{good_identity, good_data}
use Rattle.dock_laws.specs.Given.{NotThreeToSix, BreaksLimits, not_3_to_6, more_than_72, one_is_0, two_are_equal}

pub and_false : (a b : Bool) → b ≡ false → (a && b) ≡ false
and_false true b e = e
and_false false b e = refl

pub outside : (n : ℕ) → good_identity n ≡ false → NotThreeToSix n
unfolding good_identity
outside n e = go (leb 3 n) (leb n 6) refl refl e
  where
    go : (l m : Bool) → leb 3 n ≡ l → leb n 6 ≡ m → (l && m) ≡ false → NotThreeToSix n
    go false m el em h = inl (leb-false 3 n el)
    go true true el em h = absurd (false≢true (sym h))
    go true false el em h = inr (leb-false n 6 em)

pub not_good : (n : ℕ) → NotThreeToSix n → good_identity n ≡ false
unfolding good_identity
not_good n (inl h) = simp (lt-leb 3 n h)
not_good n (inr h) = and_false (leb 3 n) (leb n 6) (lt-leb n 6 h)

module _ (identity svids : List ℕ) where
  breaks : good_data identity svids ≡ false → BreaksLimits identity svids
  unfolding good_data
  breaks e = go (good_identity (length identity)) (leb (length svids) 72) refl refl e
    where
      list : Stands 0 svids ⊎ Twice svids → BreaksLimits identity svids
      list (inl zero) = one_is_0 zero
      list (inr twice) = two_are_equal twice

      go : (g l : Bool) → good_identity (length identity) ≡ g → leb (length svids) 72 ≡ l → (g && (l && sound_list svids)) ≡ false → BreaksLimits identity svids
      go false l eg el h = not_3_to_6 (outside (length identity) eg)
      go true false eg el h = more_than_72 (leb-false (length svids) 72 el)
      go true true eg el h = list ((unsound_exactly svids).0 h)

  broken : BreaksLimits identity svids → good_data identity svids ≡ false
  unfolding good_data
  broken (not_3_to_6 h) = rw (not_good (length identity) h)
  broken (more_than_72 h) = and_false (good_identity (length identity)) _ (rw (lt-leb (length svids) 72 h))
  broken (one_is_0 s) = and_false (good_identity (length identity)) _ (and_false (leb (length svids) 72) _ ((unsound_exactly svids).1 (inl s)))
  broken (two_are_equal t) = and_false (good_identity (length identity)) _ (and_false (leb (length svids) 72) _ ((unsound_exactly svids).1 (inr t)))

  pub limits_exactly : (good_data identity svids ≡ false) ↔ BreaksLimits identity svids
  limits_exactly = (breaks, broken)

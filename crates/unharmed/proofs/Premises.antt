-- The premises of demand 3 are met by what the calls make: a dock that was loaded, and a laptop that was fresh once.
use mathlib.Core.Path.{◌≡◌, refl, ap, sym, subst}
use mathlib.Core.Bool.{true}
use mathlib.Core.List.{List}
use Prim.Native.Nat.{ℕ, ◌^◌, ◌<◌, ◌≤◌}
use lib.Dec.{leb}
use lib.ListN.{length, get_or, take, replicate}
use lib.Seq.{take-append_seam}
use borrow.Author.Tests.{leb-true}
use Rattle.laws.specs.Bounded.{Below}
use Rattle.laws.proofs.Lines.{and_left, and_right}
use Rattle.laws.proofs.Padded.{padded_at, take_padded}
use Rattle.messages.specs.declared.edition.Edition.{Edition}
use Rattle.dock.specs.Data.{listed, good_identity, good_data, loaded}
use Rattle.dock.specs.declared.Dock.{Dock}
use Rattle.dock.specs.declared.Standing.TheVariants.{Ready}
use Rattle.dock.proofs.Kept.{loaded_sound}
use Rattle.laptop.specs.State.{Memory, fresh_laptop}
use Rattle.std.specs.Prelude.{None}
use Rattle.laptop_laws.specs.Effects.{Call, kept_after}
use Rattle.laptop_laws.specs.WellFormed.{Lent}
use Rattle.laptop_laws.proofs.Laws.{fresh, keeps_all}
use Rattle.link.specs.Demand.{Meets, AtRest, apart}
use Rattle.link.specs.Exchanges.{HasAll}

-- data that loading takes, whose numbers are as wide as messages have them
module _ (modes_of : ℕ → List ℕ) (at : Edition) (identity svids : List ℕ) (good : good_data identity svids ≡ true) where
  few_objects : length identity ≤ 6
  unfolding good_data good_identity
  few_objects =
      leb-true (length identity) 6 (and_right (leb 3 (length identity)) _ (and_left (good_identity (length identity)) _ good))

  list_again : listed (loaded at identity svids) ≡ svids
  unfolding loaded
  list_again = take-append_seam svids _

  identity_again : take (loaded at identity svids).extent (loaded at identity svids).identity ≡ identity
  unfolding loaded
  identity_again = take_padded identity few_objects

  pub loaded_meets : Below (2 ^ 16) svids → Below (2 ^ 32) identity → ((svid : ℕ) → Below (2 ^ 32) (modes_of svid)) → Meets modes_of (loaded at identity svids)
  loaded_meets s i m =
      record {
        sound = loaded_sound at identity svids good;
        svids_fit = subst (Below (2 ^ 16)) (sym list_again) s;
        identity_fits = subst (Below (2 ^ 32)) (sym identity_again) i;
        modes_fit = m;
      }

  -- 3 to 6 identity objects in the dock's array of six; where each SVID has 1 to 6 modes the dock has all that is asked
  pub loaded_has_all : ((i : ℕ) → i < length svids → 1 ≤ length (modes_of (get_or svids i 0))) →
      ((i : ℕ) → i < length svids → length (modes_of (get_or svids i 0)) ≤ 6) → HasAll modes_of (loaded at identity svids)
  unfolding good_data loaded
  loaded_has_all some few =
      record {
        identity_good = and_left (good_identity (length identity)) _ good;
        identity_there = ap length (sym (padded_at identity));
        some_modes = λ i h. subst (λ (list : List ℕ). 1 ≤ length (modes_of (get_or list i 0))) (sym list_again) (some i (subst (λ (list : List ℕ). i < length list) list_again h));
        few_modes = λ i h. subst (λ (list : List ℕ). length (modes_of (get_or list i 0)) ≤ 6) (sym list_again) (few i (subst (λ (list : List ℕ). i < length list) list_again h));
      }

-- a laptop that was fresh and was lent its arrays, after any calls, where it awaits nothing, and a dock that is ready
pub rests_after : (history : List (Call × List ℕ)) (m : Memory) (highest : Edition) (d : Dock) → Lent m → m.entered ≡ replicate 72 0 → d.standing ≡ Ready →
    (kept_after history (record { laptop = fresh_laptop; memory = m })).laptop.wait ≡ None →
    AtRest (apart (kept_after history (record { laptop = fresh_laptop; memory = m })) highest d)
rests_after history m highest d lent e r idle =
    record {
      formed = keeps_all history (record { laptop = fresh_laptop; memory = m }) (fresh m lent e);
      nothing_awaited = idle;
      nothing_comes = refl;
      dock_ready = r;
    }

-- Where a walk stands before the end, by what it has passed.
use mathlib.Core.Path.{◌≡◌, ap, sym, ◌∙◌}
use mathlib.Core.Bool.{true, false, false≢true}
use mathlib.Core.List.{List}
use Prim.Native.Nat.{ℕ, ◌+◌, ◌*◌, ◌-◌, ◌<◌, ◌≤◌, min}
use native.Mathlib.Omega.{arith}
use borrow.Author.Tests.{eqb-true}
use Rattle.pages.specs.Lists.{most_svids}
use Rattle.laptop.specs.Catalogue.{Catalogue, modes_each}
use Rattle.catalogue.specs.Bytes.{least_objects, most_objects, most_bytes}
use Rattle.records.specs.Records.{body_length, svid_in, mode_in, record_of, found_in}
use Rattle.records.specs.Records.{Whole}
use Rattle.records.specs.declared.Record.{Record}
use Rattle.records.specs.declared.Record.TheVariants.{Identity, Svid, Mode}
use Rattle.records.proofs.Bodies.{identity_bounds}
use Rattle.records.proofs.Laws.{whole, Told, told}
use Rattle.records.proofs.Laws.Told.{identity, svid, mode, end}
use Rattle.judging.specs.Judging.{nothing_yet}
use Rattle.judging.specs.Noting.{walk_behind}
use Rattle.judging.specs.Walking.{svids_of, all_modes, last_number, walk_of, is_end, may_follow, added}
use Rattle.judging.specs.declared.walk.Walk.{Walk}
use Rattle.judging.proofs.Following.{listed_as, added_under}
use Rattle.judging.proofs.Walks.{behind_walk}
use Rattle.catalogue_laws.proofs.Steps.{follows}

-- each SVID before the last has at most six modes
pub record Sized (w : Walk) : Type 0 where
  pub place : w.at ≡ min 1 w.extent + 4 * w.extent + 3 * w.count + 5 * w.modes
  pub objects_most : w.extent ≤ most_objects
  pub svids_most : w.count ≤ most_svids
  pub modes_before : w.modes ≤ modes_each * (w.count - 1) + w.last
  pub modes_most : w.modes ≤ modes_each * w.count

-- and behind one record more
module _ (w : Walk) (s : Sized w) (svids : List ℕ) where
  sized_identity : (kind : ℕ) → (least_objects ≤ kind) × (kind ≤ most_objects) → may_follow w svids (Identity kind) ≡ true →
      Sized (walk_behind w (Identity kind) (1 + kind * 4))
  unfolding walk_behind may_follow
  sized_identity kind within follows = omega (arith, eqb-true w.extent 0 follows)

  sized_svid : (number : ℕ) → may_follow w svids (Svid number) ≡ true → Sized (walk_behind w (Svid number) 3)
  unfolding walk_behind
  sized_svid number follows = omega (arith, (listed_as w svids number follows).room)

  sized_mode : (word : ℕ) → may_follow w svids (Mode word) ≡ true → Sized (walk_behind w (Mode word) 5)
  unfolding walk_behind
  sized_mode word follows = omega (arith, added_under w svids word follows)

  sized_told : (kind : ℕ) (rest : List ℕ) → Told kind rest → may_follow w svids (record_of kind rest) ≡ true → is_end (record_of kind rest) ≡ false →
      Sized (walk_behind w (record_of kind rest) (1 + body_length kind))
  sized_told kind rest (identity i e l) f n = rw (e, l) (sized_identity kind (identity_bounds kind i) (rw e at f))
  sized_told kind rest (svid k e l) f n = rw (e, l) (sized_svid (svid_in rest) (rw e at f))
  sized_told kind rest (mode k e l) f n = rw (e, l) (sized_mode (mode_in rest) (rw e at f))
  sized_told kind rest (end k e l) f n = absurd (false≢true (sym (rw e at n)))

sized_as : (w after : Walk) (r r' : Record) (n n' : ℕ) → walk_behind w r n ≡ after → r ≡ r' → n ≡ n' → Sized (walk_behind w r' n') → Sized after
sized_as w after r r' n n' e er en s = rw (← e, er, en) s

pub sized_on : (at : ℕ) (c : Catalogue) (bytes : List ℕ) → Sized (walk_of at c) → (r : Record) (n : ℕ) → found_in bytes ≡ Whole r n → follows at c r ≡ true →
    is_end r ≡ false → Sized (walk_of (at + n) (added c r bytes))
sized_on at c bytes s r n found f is =
    let w = whole bytes r n found in
    let svids = svids_of c.entries in
    sized_as (walk_of at c) (walk_of (at + n) (added c r bytes)) r (record_of w.kind w.rest) n (1 + body_length w.kind)
    (behind_walk at c bytes r n found f).walk_is w.record_is w.length_is
    (sized_told (walk_of at c) s svids w.kind w.rest (told w.kind w.rest w.known) (ap (may_follow (walk_of at c) svids) (sym w.record_is) ∙ f)
    (ap is_end (sym w.record_is) ∙ is))

pub sized_front : Sized (walk_of 0 nothing_yet)
unfolding walk_of last_number all_modes
sized_front = omega arith

pub sized_place : (at : ℕ) (c : Catalogue) → Sized (walk_of at c) → at < most_bytes
unfolding walk_of
sized_place at c s = omega arith

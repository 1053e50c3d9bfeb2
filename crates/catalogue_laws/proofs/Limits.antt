-- What is accepted keeps all limits of 01.
use mathlib.Core.Logic.{◌⊎◌, inl, inr}
use mathlib.Core.Path.{◌≡◌, refl, ap, sym, ◌∙◌}
use mathlib.Core.Bool.{Bool, true, false}
use mathlib.Core.List.{List, [], ◌∷◌, ◌++◌}
use Prim.Native.Nat.{ℕ, zero, suc, ◌+◌, ◌*◌, ◌^◌, ◌<◌, ◌≤◌}
use native.Mathlib.Omega.{arith}
use lib.ListN.{length, take, drop, length-append, length-take}
use borrow.Author.Tests.{eq-eqb}
use Rattle.laws.specs.Bounded.{Below}
use Rattle.messages.specs.Layout.{objects_of}
use Rattle.messages.proofs.Objects.{length_objects, objects_below}
use Rattle.pages.specs.Lists.{most_svids, sound_list}
use Rattle.laptop.specs.Catalogue.{Entry, Catalogue, modes_each}
use Rattle.catalogue.specs.Bytes.{least_objects, most_objects, Each, EntryFits, Representable}
use Rattle.records.specs.Records.{svid_in, mode_in, found_in}
use Rattle.records.specs.Records.{Whole}
use Rattle.records.specs.declared.Record.{Record}
use Rattle.records.specs.declared.Record.TheVariants.{Identity, Svid, Mode, End}
use Rattle.records.proofs.Laws.{IsWhole, whole, Told, told}
use Rattle.records.proofs.Laws.Told.{identity, svid, mode, end}
use Rattle.records.proofs.Bodies.{identity_bounds}
use Rattle.judging.specs.Judging.{nothing_yet, judgement_of}
use Rattle.judging.specs.Walking.{svids_of, last_number, walk_of, is_bare, may_follow, with_mode, added}
use Rattle.judging.proofs.Entries.{svids_append, last_behind, more, mode_behind, Split, split}
use Rattle.judging.proofs.Following.{listed_as, added_under, ended_closed, bare_some}
use Rattle.catalogue_laws.specs.Within.{OneToSix, Within}
use Rattle.catalogue_laws.specs.Given.{Passed}
use Rattle.catalogue_laws.specs.Given.Passed.{front, behind}
use Rattle.catalogue_laws.proofs.Accepted.{accepted_ended}
use Rattle.catalogue_laws.proofs.Words.{right_exactly}
use Rattle.catalogue_laws.proofs.Below.{take_below, drop_below}
use Rattle.catalogue_laws.proofs.Behind.{each_behind, each_before, sound_behind}

-- the modes of entries: 1 to 6 each, or the last has none yet
pub data Modes (entries : List Entry) : Type 0 where
  closed : Each OneToSix entries → Modes entries
  bare : (a : List Entry) (number : ℕ) → entries ≡ a ++ record { svid = number; modes = [] } ∷ [] → Each OneToSix a → Modes entries

-- what the records that a walk has passed keep
pub record Keeping (c : Catalogue) : Type 0 where
  pub objects : (length c.identity ≡ 0) ⊎ ((least_objects ≤ length c.identity) × (length c.identity ≤ most_objects))
  pub sound : sound_list (svids_of c.entries) ≡ true
  pub most : length c.entries ≤ most_svids
  pub modes : Modes c.entries
  pub fits : Representable c

pub keeping_front : Keeping nothing_yet
unfolding sound_list svids_of
keeping_front = record {
  objects = inl refl;
  sound = refl;
  most = omega arith;
  modes = closed tt;
  fits = record { identity_fits = λ k. omega arith; entries_fit = tt };
}

module _ (at : ℕ) (c : Catalogue) (k : Keeping c) where
  -- where the walk is not bare, each has its modes
  pub all_closed : is_bare (walk_of at c) ≡ false → Each OneToSix c.entries
  unfolding walk_of
  all_closed e = go k.modes
    where
      go : Modes c.entries → Each OneToSix c.entries
      go (closed each) = each
      go (bare a number is each) =
          let new : Entry = record { svid = number; modes = [] } in
          let some : length c.entries ≡ 0 → ⊥ = λ none. omega (arith, ap length is, length-append a (new ∷ []), none) in
          let none : last_number c.entries ≡ 0 = ap last_number is ∙ last_behind a new in
          absurd (let z : ◌≡◌ {A = Bool} true false = sym (eq-eqb (last_number c.entries) 0 none) ∙ sym (bare_some (walk_of at c) some) ∙ e in let y : ◌≡◌ {A = ℕ} 0 1 = cc in omega arith)

  keeps_identity : (kind : ℕ) (rest : List ℕ) → Below 256 rest → 3 ≤ kind → kind ≤ 6 → kind * 4 ≤ length rest → Keeping (added c (Identity kind) (kind ∷ rest))
  unfolding added
  keeps_identity kind rest b least most there =
      let size : length (take kind (objects_of rest)) ≡ kind = omega (arith, length-take kind (objects_of rest), length_objects rest) in
      record {
        objects = inr (omega (arith, size), omega (arith, size));
        sound = k.sound;
        most = k.most;
        modes = k.modes;
        fits = record { identity_fits = take_below (2 ^ 32) kind (objects_of rest) (objects_below rest b); entries_fit = k.fits.entries_fit };
      }

  keeps_svid : (number : ℕ) (bytes : List ℕ) → number < 2 ^ 16 → may_follow (walk_of at c) (svids_of c.entries) (Svid number) ≡ true → Keeping (added c (Svid number) bytes)
  unfolding added svids_of walk_of
  keeps_svid number bytes small follows =
      let new : Entry = record { svid = number; modes = [] } in
      let may = listed_as (walk_of at c) (svids_of c.entries) number follows in
      record {
        objects = k.objects;
        sound = ap sound_list (svids_append c.entries (new ∷ [])) ∙ sound_behind (svids_of c.entries) number k.sound may.some may.new;
        most = omega (arith, may.room, length-append c.entries (new ∷ []));
        modes = bare c.entries number refl (all_closed may.closed);
        fits = record {
          identity_fits = k.fits.identity_fits;
          entries_fit = each_behind EntryFits c.entries new k.fits.entries_fit (small, λ j. omega arith);
        };
      }

  more_modes : (word : ℕ) (s : Split c.entries) → last_number c.entries < modes_each → Each OneToSix (s.before ++ more s.last word ∷ [])
  more_modes word s few = go k.modes
    where
      size : length (s.last.modes ++ word ∷ []) ≡ length s.last.modes + 1
      size = length-append s.last.modes (word ∷ [])

      last : last_number c.entries ≡ length s.last.modes
      last = ap last_number s.is ∙ last_behind s.before s.last

      fits : OneToSix (more s.last word)
      fits = (omega (arith, size), omega (arith, size, last, few))

      go : Modes c.entries → Each OneToSix (s.before ++ more s.last word ∷ [])
      go (closed each) = each_behind OneToSix s.before (more s.last word) (each_before OneToSix s.before s.last (rw s.is at each)).0 fits
      go (bare a number is each) =
          each_behind OneToSix s.before (more s.last word) (rw (fronts s.before a s.last (record { svid = number; modes = [] }) (sym s.is ∙ is)) each) fits
        where
          fronts : (x y : List Entry) (p q : Entry) → x ++ p ∷ [] ≡ y ++ q ∷ [] → x ≡ y
          fronts [] [] p q e = refl
          fronts [] (b ∷ y) p q e = absurd (omega (arith, ap length e, length-append y (q ∷ [])))
          fronts (a ∷ x) [] p q e = absurd (omega (arith, ap length e, length-append x (p ∷ [])))
          fronts (a ∷ x) (b ∷ y) p q e = let rest : x ++ p ∷ [] ≡ y ++ q ∷ [] = cc in let same = fronts x y p q rest in cc

  keeps_mode : (word : ℕ) (bytes : List ℕ) → word < 2 ^ 32 → may_follow (walk_of at c) (svids_of c.entries) (Mode word) ≡ true → Keeping (added c (Mode word) bytes)
  unfolding added svids_of walk_of
  keeps_mode word bytes small follows =
      let under = added_under (walk_of at c) (svids_of c.entries) word follows in
      let s = split c.entries under.0 in
      let now : with_mode c.entries word ≡ s.before ++ more s.last word ∷ [] = ap (λ (l : List Entry). with_mode l word) s.is ∙ mode_behind s.before s.last word in
      let fit = each_before EntryFits s.before s.last (rw s.is at k).fits.entries_fit in
      record {
        objects = k.objects;
        sound =
            ap (λ (l : List Entry). sound_list (svids_of l)) now ∙ ap sound_list (svids_append s.before (more s.last word ∷ []) ∙ sym (svids_append s.before (s.last ∷ []))) ∙
            ap (λ (l : List Entry). sound_list (svids_of l)) (sym s.is) ∙ k.sound;
        most =
            omega (arith, ap length now, ap length s.is, length-append s.before (more s.last word ∷ []), length-append s.before (s.last ∷ []), k.most);
        modes = closed (rw now (more_modes word s under.1));
        fits = record {
          identity_fits = k.fits.identity_fits;
          entries_fit = rw now (each_behind EntryFits s.before (more s.last word) fit.0 (fit.1.0, behind_fits s.last.modes fit.1.1));
        };
      }
    where
      behind_fits : (l : List ℕ) → Below (2 ^ 32) l → Below (2 ^ 32) (l ++ word ∷ [])
      behind_fits [] b zero = small
      behind_fits [] b (suc j) = omega arith
      behind_fits (x ∷ l) b zero = b 0
      behind_fits (x ∷ l) b (suc j) = behind_fits l (λ i. b (suc i)) j

-- one record more keeps them
keeping_as : (c : Catalogue) (bytes bytes' : List ℕ) → bytes ≡ bytes' → (r r' : Record) → r ≡ r' → Keeping (added c r' bytes') → Keeping (added c r bytes)
keeping_as c bytes bytes' e r r' h k = rw (e, h) k

pub keeps : (at : ℕ) (c : Catalogue) (bytes : List ℕ) (r : Record) (n : ℕ) → Below 256 bytes → Keeping c → found_in bytes ≡ Whole r n →
    may_follow (walk_of at c) (svids_of c.entries) r ≡ true → Keeping (added c r bytes)
unfolding added svid_in mode_in
keeps at c bytes r n b k found follows = go (told w.kind w.rest w.known)
  where
    w : IsWhole bytes r n
    w = whole bytes r n found

    below : Below 256 w.rest
    below j = rw w.bytes_are at b (suc j)

    may : (variant : Record) → r ≡ variant → may_follow (walk_of at c) (svids_of c.entries) variant ≡ true
    may variant e = ap (may_follow (walk_of at c) (svids_of c.entries)) (sym e) ∙ follows

    go : Told w.kind w.rest → Keeping (added c r bytes)
    go (identity i e l) =
        let bounds = identity_bounds w.kind i in
        keeping_as c bytes (w.kind ∷ w.rest) w.bytes_are r (Identity w.kind) (w.record_is ∙ e)
        (keeps_identity at c k w.kind w.rest below bounds.0 bounds.1 (omega (arith, l, w.there)))
    go (svid j e l) =
        let variant = w.record_is ∙ e in
        let low = below 0 in
        let high = below 1 in
        keeping_as c bytes bytes refl r (Svid (svid_in w.rest)) variant (keeps_svid at c k (svid_in w.rest) bytes (omega (arith, low, high)) (may _ variant))
    go (mode j e l) =
        let variant = w.record_is ∙ e in
        keeping_as c bytes bytes refl r (Mode (mode_in w.rest)) variant (keeps_mode at c k (mode_in w.rest) bytes (objects_below w.rest below 0) (may _ variant))
    go (end j e l) = keeping_as c bytes bytes refl r End (w.record_is ∙ e) k

pub passed_keeps : {bytes : List ℕ} {at : ℕ} {c : Catalogue} → Below 256 bytes → Passed bytes at c → Keeping c
passed_keeps b front = keeping_front
passed_keeps {bytes} b (behind {at} {c} p r n e right more) =
    keeps at c (drop at bytes) r n (drop_below 256 at bytes b) (passed_keeps b p) e ((right_exactly at c r).1 right)

pub accepted_within : (bytes : List ℕ) → Below 256 bytes → (judgement_of bytes).refusal ≡ 0 → Within (judgement_of bytes).catalogue
unfolding walk_of
accepted_within bytes b accepted =
    let c = (judgement_of bytes).catalogue in
    let e = accepted_ended bytes accepted in
    let k = passed_keeps b e.passed in
    let ended = ended_closed (walk_of e.place c) (svids_of c.entries) ((right_exactly e.place c End).1 e.right) in
    let objects = begun k.objects ended.0 in
    record {
      objects_least = objects.0;
      objects_most = objects.1;
      svids_sound = k.sound;
      svids_most = k.most;
      modes_each_lem = all_closed e.place c k ended.1;
      fits = k.fits;
    }
  where
    begun : {n : ℕ} → (n ≡ 0) ⊎ ((least_objects ≤ n) × (n ≤ most_objects)) → 0 < n → (least_objects ≤ n) × (n ≤ most_objects)
    begun (inl none) some = absurd (omega arith)
    begun (inr both) some = both

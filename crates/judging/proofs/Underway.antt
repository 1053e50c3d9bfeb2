-- Where the loop of judging stands, and the ways out of it.
use mathlib.Core.Path.{◌≡◌, refl, ap, ap₂, sym, ◌∙◌}
use mathlib.Core.Bool.{Bool, true, false, cond}
use mathlib.Core.List.{List, [], ◌∷◌}
use Prim.Native.Nat.{ℕ, zero, suc, ◌+◌, ◌-◌, ◌^◌, ◌<◌, ◌≤◌}
use native.Mathlib.Omega.{arith}
use lib.Dec.{ltb}
use lib.ListN.{length, take, drop, replicate, length-drop, length-replicate, drop_of_length-le}
use lib.Seq.{drop-drop, take-append_seam}
use borrow.Author.Tests.{lt-ltb, le-ltb}
use Rattle.std.specs.Prelude.{Err}
use Rattle.laws.proofs.Stores.{sets_front}
use Rattle.messages.specs.Refusals.{number_of}
use Rattle.pages.specs.Lists.{most_svids}
use Rattle.laptop.specs.Catalogue.{Catalogue}
use Rattle.records.specs.Records.{cut_record, found_in, found_at, found_number}
use Rattle.records.specs.Records.{Found}
use Rattle.records.specs.Records.{Whole, Unknown, Cut, Nothing}
use Rattle.records.specs.Refused.{refusal_for}
use Rattle.records.specs.Shown.{as_found}
use Rattle.records.specs.declared.Record.{Record}
use Rattle.records.specs.declared.Record.TheVariants.{Identity, Svid, Mode, End}
use Rattle.records.specs.declared.missing.Missing.{Missing}
use Rattle.records.specs.declared.missing.Missing.TheVariants.{Unknown as MissingUnknown}
use Rattle.records.specs.declared.missing.Missing.TheVariants.{Cut as MissingCut}
use Rattle.records.specs.declared.missing.Missing.TheVariants.{Nothing as MissingNothing}
use Rattle.records.proofs.Finding.{at_within}
use Rattle.records.proofs.Laws.{whole_length}
use Rattle.judging.specs.Judging.{Judgement, judgement, bytes_after_end, out_of_order, ended, turn, length_of, with, walk_from, nothing_yet, judgement_of, shown_as, noted, FileJudged}
use Rattle.judging.specs.Noting.{front, walk_behind, svids_noted, numbers_noted}
use Rattle.judging.specs.Walking.{svids_of, numbers_of, all_modes, last_number, walk_of, is_end, may_follow, added}
use Rattle.judging.specs.Judging.{Judged}
use Rattle.judging.specs.declared.walk.Walk.{Walk}
use Rattle.judging.proofs.Entries.{length_svids}
use Rattle.judging.proofs.Walks.{BehindWalk, behind_walk}

-- the walk has passed a catalogue's records, and from here it comes to what it comes to from the front
pub record Underway (bytes svids numbers : List ℕ) (w : Walk) : Type 0 where
  pub catalogue : Catalogue
  pub records : ℕ
  pub walk_is : w ≡ walk_of w.at catalogue
  pub svids_are : svids ≡ noted (svids_of catalogue.entries)
  pub numbers_are : numbers ≡ noted (numbers_of catalogue.entries)
  pub within : w.at ≤ length bytes
  pub enough : length bytes < w.at + records
  pub count_most : length catalogue.entries ≤ most_svids
  pub modes_most : all_modes catalogue.entries ≤ w.at
  pub same : walk_from records w.at catalogue (drop w.at bytes) ≡ judgement_of bytes

pub underway_front : (bytes svids numbers : List ℕ) (w : Walk) → w ≡ front → svids ≡ noted [] → numbers ≡ noted [] → Underway bytes svids numbers w
unfolding walk_of last_number all_modes svids_of numbers_of judgement_of
underway_front bytes svids numbers w e es en = rw (e, es, en) (record {
  catalogue = nothing_yet;
  records = suc (length bytes);
  walk_is = refl;
  svids_are = refl;
  numbers_are = refl;
  within = omega arith;
  enough = omega arith;
  count_most = omega arith;
  modes_most = omega arith;
  same = refl;
})

-- behind the end: 18 exactly where bytes are left
ended_as : (at : ℕ) (c : Catalogue) (all : ℕ) (rest : List ℕ) → length rest ≡ all - at → ended at c rest ≡ judgement (cond (ltb at all) bytes_after_end 0) at c
unfolding ended
ended_as at c all [] e = ap (λ (t : Bool). judgement (cond t bytes_after_end 0) at c) (sym (le-ltb at all (omega (arith, e))))
ended_as at c all (byte ∷ rest) e = ap (λ (t : Bool). judgement (cond t bytes_after_end 0) at c) (sym (lt-ltb at all (omega (arith, e))))

added_end : (c : Catalogue) (r : Record) (bytes : List ℕ) → is_end r ≡ true → added c r bytes ≡ c
unfolding added
added_end c (Identity objects) bytes e = absurd (let z : ◌≡◌ {A = ℕ} 0 1 = cc in omega arith)
added_end c (Svid svid) bytes e = absurd (let z : ◌≡◌ {A = ℕ} 0 1 = cc in omega arith)
added_end c (Mode mode) bytes e = absurd (let z : ◌≡◌ {A = ℕ} 0 1 = cc in omega arith)
added_end c End bytes e = refl

pub other_end : (r : Record) → (r ≡ End → ⊥) → is_end r ≡ false
other_end (Identity objects) n = refl
other_end (Svid svid) n = refl
other_end (Mode mode) n = refl
other_end End n = absurd (n refl)

pub the_end : (r : Record) → r ≡ End → is_end r ≡ true
the_end r e = ap is_end e

-- why none stands whole
pub missing_whole : (missing : Missing) (r : Record) (n : ℕ) → as_found (Err missing) ≡ Whole r n → ⊥
missing_whole MissingUnknown r n e = cc
missing_whole MissingCut r n e = cc
missing_whole MissingNothing r n e = cc

pub missing_number : (missing : Missing) → number_of (refusal_for missing) ≡ found_number (as_found (Err missing))
missing_number MissingUnknown = refl
missing_number MissingCut = refl
missing_number MissingNothing = refl

-- a turn over what is not whole
unfound : (found : Found) → ((r : Record) (n : ℕ) → found ≡ Whole r n → ⊥) → (at : ℕ) (c : Catalogue) (bytes : List ℕ) (further : Judgement) →
    turn found at c bytes further ≡ judgement (found_number found) at c
unfolding turn
unfound (Whole r n) k at c bytes further = absurd (k r n refl)
unfound Unknown k at c bytes further = refl
unfound Cut k at c bytes further = refl
unfound Nothing k at c bytes further = refl

module _ {bytes svids numbers : List ℕ} {w : Walk} (u : Underway bytes svids numbers w) where
  abbrev rest : List ℕ
  rest = drop w.at bytes

  -- one turn is made, and so many records are left
  record Turned : Type 0 where
    left : ℕ
    records_are : u.records ≡ suc left
    turn_is : turn (found_in rest) w.at u.catalogue rest
        (walk_from left (w.at + length_of (found_in rest)) (with (found_in rest) u.catalogue rest) (drop (length_of (found_in rest)) rest)) ≡ judgement_of bytes

  turned : Turned
  unfolding walk_from
  turned = go u.records refl
    where
      go : (n : ℕ) → u.records ≡ n → Turned
      go zero e = absurd (omega (arith, e, u.within, u.enough))
      go (suc left) e = record {
        left = left;
        records_are = e;
        turn_is = sym (ap (λ (n : ℕ). walk_from n w.at u.catalogue rest) e) ∙ u.same;
      }

  -- the SVIDs that are passed are those that are noted
  noted_svids : take w.count svids ≡ svids_of u.catalogue.entries
  unfolding walk_of
  noted_svids =
      let zeros : List ℕ = replicate most_svids 0 in
      let list = svids_of u.catalogue.entries in
      let size : w.count ≡ length list = ap (λ (x : Walk). x.count) u.walk_is ∙ sym (length_svids u.catalogue.entries) in
      let room : length list ≤ length zeros = omega (arith, length-replicate {A = ℕ} most_svids 0, length_svids u.catalogue.entries, u.count_most) in
      ap₂ (λ (n : ℕ) (l : List ℕ). take n l) size (u.svids_are ∙ sets_front zeros list room) ∙
      take-append_seam list (drop (length list) zeros)

  may_follow_lem : (r : Record) → may_follow w (take w.count svids) r ≡ may_follow (walk_of w.at u.catalogue) (svids_of u.catalogue.entries) r
  may_follow_lem r = ap₂ (λ (x : Walk) (l : List ℕ). may_follow x l r) u.walk_is noted_svids

  -- the walk is over where it stands
  stops : (number : ℕ) → judgement_of bytes ≡ judgement number w.at u.catalogue → (result : Judged) → result ≡ record { refusal = number; walk = w } →
      FileJudged bytes result svids numbers
  stops number j result e = record {
    result_is = e ∙ ap (λ (x : Walk). record { refusal = number; walk = x }) u.walk_is ∙ sym (ap shown_as j);
    svids_are = u.svids_are ∙ sym (ap (λ (x : Judgement). noted (svids_of x.catalogue.entries)) j);
    numbers_are = u.numbers_are ∙ sym (ap (λ (x : Judgement). noted (numbers_of x.catalogue.entries)) j);
  }

  pub stops_unfound : (found : Found) → found ≡ found_at bytes w.at → ((r : Record) (n : ℕ) → found ≡ Whole r n → ⊥) →
      (number : ℕ) → number ≡ found_number found → (result : Judged) → result ≡ record { refusal = number; walk = w } → FileJudged bytes result svids numbers
  stops_unfound found e k number en result er =
      let there : found_in rest ≡ found = sym (e ∙ at_within bytes w.at u.within) in
      let t = turned in
      stops number
      (
      sym t.turn_is ∙ ap (λ (f : Found). turn f w.at u.catalogue rest
      (walk_from t.left (w.at + length_of (found_in rest)) (with (found_in rest) u.catalogue rest) (drop (length_of (found_in rest)) rest))) there ∙
      unfound found k w.at u.catalogue rest _ ∙ ap (λ (m : ℕ). judgement m w.at u.catalogue) (sym en)
      )
      result er

  -- at the end of the bytes there is none
  pub stops_cut : length bytes ≤ w.at → (result : Judged) → result ≡ record { refusal = cut_record; walk = w } → FileJudged bytes result svids numbers
  unfolding found_in turn
  stops_cut all result er =
      let t = turned in
      stops cut_record
      (sym t.turn_is ∙ ap (λ (l : List ℕ). turn (found_in l) w.at u.catalogue l
      (walk_from t.left (w.at + length_of (found_in l)) (with (found_in l) u.catalogue l) (drop (length_of (found_in l)) l))) (drop_of_length-le bytes all))
      result er

  module _ (found : Found) (e : found ≡ found_at bytes w.at) (r : Record) (n : ℕ) (is : found ≡ Whole r n) where
    there : found_in rest ≡ Whole r n
    there = sym (at_within bytes w.at u.within) ∙ sym e ∙ is

    -- the turn at a whole record
    at_record : (t : Turned) →
        judgement_of bytes ≡ cond (may_follow w (take w.count svids) r)
        (cond (is_end r) (ended (w.at + n) u.catalogue (drop n rest)) (walk_from t.left (w.at + n) (added u.catalogue r rest) (drop n rest)))
        (judgement out_of_order w.at u.catalogue)
    unfolding turn length_of with
    at_record t =
        sym t.turn_is ∙ ap (λ (f : Found). turn f w.at u.catalogue rest
        (walk_from t.left (w.at + length_of f) (with f u.catalogue rest) (drop (length_of f) rest))) there ∙
        ap (λ (b : Bool). cond b
        (cond (is_end r) (ended (w.at + n) u.catalogue (drop n rest)) (walk_from t.left (w.at + n) (added u.catalogue r rest) (drop n rest)))
        (judgement out_of_order w.at u.catalogue)) (sym (may_follow_lem r))

    pub stops_out_of_order : may_follow w (take w.count svids) r ≡ false → (result : Judged) → result ≡ record { refusal = out_of_order; walk = w } →
        FileJudged bytes result svids numbers
    stops_out_of_order never result er =
        let t = turned in
        stops out_of_order
        (
        at_record t ∙ ap (λ (b : Bool). cond b
        (cond (is_end r) (ended (w.at + n) u.catalogue (drop n rest)) (walk_from t.left (w.at + n) (added u.catalogue r rest) (drop n rest)))
        (judgement out_of_order w.at u.catalogue)) never
        )
        result er

    -- what passing it asks for
    pub passes : may_follow w (take w.count svids) r ≡ true → length bytes < 2 ^ 63 →
        (w.at + n < 2 ^ 64) × (w.count ≤ 72) × (w.modes < 2 ^ 63) × ((list : List ℕ) × (may_follow w list r ≡ true))
    unfolding walk_of
    passes follows fits =
        let size = whole_length rest r n there in (
          omega (arith, size.1, length-drop w.at bytes, u.within, fits),
          omega (arith, ap (λ (x : Walk). x.count) u.walk_is, u.count_most),
          omega (arith, ap (λ (x : Walk). x.modes) u.walk_is, u.modes_most, u.within, fits),
          (take w.count svids, follows),
        )

    module _ (follows : may_follow w (take w.count svids) r ≡ true) (after : Walk) (list counts : List ℕ) (ew : after ≡ walk_behind w r n)
        (es : list ≡ svids_noted w r svids) (en : counts ≡ numbers_noted w r numbers) where
      behind : BehindWalk w.at u.catalogue rest r n
      behind = behind_walk w.at u.catalogue rest r n there (sym (may_follow_lem r) ∙ follows)

      after_is : after ≡ walk_of (w.at + n) (added u.catalogue r rest)
      after_is = ew ∙ ap (λ (x : Walk). walk_behind x r n) u.walk_is ∙ behind.walk_is

      list_is : list ≡ noted (svids_of (added u.catalogue r rest).entries)
      list_is = es ∙ ap₂ (λ (x : Walk) (l : List ℕ). svids_noted x r l) u.walk_is u.svids_are ∙ behind.svids_are

      counts_is : counts ≡ noted (numbers_of (added u.catalogue r rest).entries)
      counts_is = en ∙ ap₂ (λ (x : Walk) (l : List ℕ). numbers_noted x r l) u.walk_is u.numbers_are ∙ behind.numbers_are

      at_is : after.at ≡ w.at + n
      unfolding walk_of
      at_is = ap (λ (x : Walk). x.at) after_is

      further : (t : Turned) → is_end r ≡ false →
          walk_from t.left (w.at + n) (added u.catalogue r rest) (drop n rest) ≡ judgement_of bytes
      further t go_on = sym
          (
          at_record t ∙ ap₂ (λ (b : Bool) (i : Bool). cond b
          (cond i (ended (w.at + n) u.catalogue (drop n rest)) (walk_from t.left (w.at + n) (added u.catalogue r rest) (drop n rest)))
          (judgement out_of_order w.at u.catalogue)) follows go_on
          )

      -- the loop goes on,
      pub goes_on : is_end r ≡ false → Underway bytes list counts after
      goes_on go_on =
          let t = turned in
          let size = whole_length rest r n there in
          record {
            catalogue = added u.catalogue r rest;
            records = t.left;
            walk_is = after_is ∙ ap (λ (k : ℕ). walk_of k (added u.catalogue r rest)) (sym at_is);
            svids_are = list_is;
            numbers_are = counts_is;
            within = omega (arith, at_is, size.1, length-drop w.at bytes, u.within);
            enough = omega (arith, at_is, size.0, u.enough, t.records_are);
            count_most = behind.count_most u.count_most;
            modes_most = omega (arith, behind.modes_most, u.modes_most, at_is);
            same =
                ap₂ (λ (k : ℕ) (l : List ℕ). walk_from t.left k (added u.catalogue r rest) l) at_is
                (ap (λ (k : ℕ). drop k bytes) at_is ∙ sym (drop-drop n w.at bytes)) ∙
                further t go_on;
          }

      -- nearer to the end of the bytes,
      pub nearer : (w.at < after.at) × (after.at ≤ length bytes)
      nearer =
          let size = whole_length rest r n there in
          (omega (arith, at_is, size.0), omega (arith, at_is, size.1, length-drop w.at bytes, u.within))

      -- or the end is reached
      pub stops_ended : is_end r ≡ true → (number : ℕ) → number ≡ cond (ltb after.at (length bytes)) bytes_after_end 0 →
          (result : Judged) → result ≡ record { refusal = number; walk = after } → FileJudged bytes result list counts
      stops_ended is_end_lem number e_number result er =
          let t = turned in
          let same = added_end u.catalogue r rest is_end_lem in
          let size : length (drop n rest) ≡ length bytes - (w.at + n) = omega (arith, length-drop n rest, length-drop w.at bytes) in
          let j : judgement_of bytes ≡ judgement number (w.at + n) (added u.catalogue r rest) =
          at_record t ∙ ap₂ (λ (b : Bool) (i : Bool). cond b
          (cond i (ended (w.at + n) u.catalogue (drop n rest)) (walk_from t.left (w.at + n) (added u.catalogue r rest) (drop n rest)))
          (judgement out_of_order w.at u.catalogue)) follows is_end_lem ∙
          ended_as (w.at + n) u.catalogue (length bytes) (drop n rest) size ∙
          ap₂ (λ (m : ℕ) (c : Catalogue). judgement m (w.at + n) c) (sym (e_number ∙ ap (λ (k : ℕ). cond (ltb k (length bytes)) bytes_after_end 0) at_is)) (sym same) in
          record {
            result_is = er ∙ ap (λ (x : Walk). record { refusal = number; walk = x }) after_is ∙ sym (ap shown_as j);
            svids_are = list_is ∙ sym (ap (λ (x : Judgement). noted (svids_of x.catalogue.entries)) j);
            numbers_are = counts_is ∙ sym (ap (λ (x : Judgement). noted (numbers_of x.catalogue.entries)) j);
          }

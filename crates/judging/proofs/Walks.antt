-- A walk behind one record more is the walk of the catalogue with that record, and so is what is noted.
use mathlib.Core.Path.{◌≡◌, refl, ap, ap₂, sym, ◌∙◌}
use mathlib.Core.Bool.{true}
use mathlib.Core.List.{List, [], ◌∷◌, ◌++◌}
use Prim.Native.Nat.{ℕ, ◌+◌, ◌*◌, ◌-◌, ◌≤◌}
use native.Mathlib.Omega.{arith}
use lib.ListN.{length, set, replicate, length-append, length-take}
use lib.Seq.{set-set}
use Rattle.laws.proofs.Stores.{sets_append}
use Rattle.messages.specs.Layout.{objects_of}
use Rattle.messages.proofs.Objects.{length_objects}
use Rattle.pages.specs.Lists.{most_svids}
use Rattle.laptop.specs.Catalogue.{Entry, Catalogue}
use Rattle.records.specs.Records.{svid_in, mode_in, found_in}
use Rattle.records.specs.Records.{Whole}
use Rattle.records.specs.declared.Record.{Record}
use Rattle.records.specs.declared.Record.TheVariants.{Identity, Svid, Mode, End}
use Rattle.records.proofs.Laws.{IsWhole, whole, Told, told}
use Rattle.records.proofs.Laws.Told.{identity, svid, mode, end}
use Rattle.judging.specs.Judging.{noted}
use Rattle.judging.specs.Noting.{walk_behind, svids_noted, numbers_noted}
use Rattle.judging.specs.Walking.{svids_of, numbers_of, all_modes, last_number, walk_of, may_follow, with_mode, added}
use Rattle.judging.specs.declared.walk.Walk.{Walk}
use Rattle.judging.proofs.Entries.{svids_append, numbers_append, modes_append, length_svids, length_numbers, last_behind, more, mode_behind, Split, split}
use Rattle.judging.proofs.Following.{listed_as, added_under}

walk_equal : (at : ℕ) {extent extent' count count' last last' modes modes' : ℕ} → extent ≡ extent' → count ≡ count' → last ≡ last' → modes ≡ modes' →
    ◌≡◌ {A = Walk} (record { at = at; extent = extent; count = count; last = last; modes = modes })
    (record { at = at; extent = extent'; count = count'; last = last'; modes = modes' })
walk_equal at e f g h = cc

-- one value more behind those that are noted, and the last of them changed
noted_more : (list : List ℕ) (value : ℕ) → set (noted list) (length list) value ≡ noted (list ++ value ∷ [])
noted_more list value =
    let e : 0 + length list ≡ length list = omega arith in
    ap (λ (k : ℕ). set (noted list) k value) (sym e) ∙ sym (sets_append (replicate most_svids 0) 0 list (value ∷ []))

noted_last : (list : List ℕ) (value other : ℕ) → set (noted (list ++ value ∷ [])) (length list) other ≡ noted (list ++ other ∷ [])
noted_last list value other =
    ap (λ (l : List ℕ). set l (length list) other) (sym (noted_more list value)) ∙ set-set (noted list) (length list) value other ∙ noted_more list other

module _ (at : ℕ) (c : Catalogue) (n : ℕ) where
  behind_identity : (kind : ℕ) (rest : List ℕ) → kind * 4 ≤ length rest →
      walk_behind (walk_of at c) (Identity kind) n ≡ walk_of (at + n) (added c (Identity kind) (kind ∷ rest))
  unfolding walk_behind walk_of added
  behind_identity kind rest there =
      walk_equal (at + n) (omega (arith, length-take kind (objects_of rest), length_objects rest)) refl refl refl

  behind_svid : (number : ℕ) (bytes : List ℕ) → walk_behind (walk_of at c) (Svid number) n ≡ walk_of (at + n) (added c (Svid number) bytes)
  unfolding walk_behind walk_of added all_modes
  behind_svid number bytes =
      let new : Entry = record { svid = number; modes = [] } in
      walk_equal (at + n) refl (sym (length-append c.entries (new ∷ []))) (sym (last_behind c.entries new))
      (omega (arith, modes_append c.entries (new ∷ [])))

  behind_mode : (word : ℕ) (bytes : List ℕ) → Split c.entries → walk_behind (walk_of at c) (Mode word) n ≡ walk_of (at + n) (added c (Mode word) bytes)
  unfolding walk_behind walk_of added all_modes
  behind_mode word bytes s =
      let now : with_mode c.entries word ≡ s.before ++ more s.last word ∷ [] = ap (λ (l : List Entry). with_mode l word) s.is ∙ mode_behind s.before s.last word in
      let size = length-append s.last.modes (word ∷ []) in
      walk_equal (at + n) refl
      (omega (arith, ap length now, ap length s.is, length-append s.before (more s.last word ∷ []), length-append s.before (s.last ∷ [])))
      (omega (arith, ap last_number now, ap last_number s.is, last_behind s.before s.last, last_behind s.before (more s.last word), size))
      (omega (arith, ap all_modes now, ap all_modes s.is, modes_append s.before (s.last ∷ []), modes_append s.before (more s.last word ∷ []), size))

  noted_svid : (number : ℕ) (bytes : List ℕ) →
      (svids_noted (walk_of at c) (Svid number) (noted (svids_of c.entries)) ≡ noted (svids_of (added c (Svid number) bytes).entries)) ×
      (numbers_noted (walk_of at c) (Svid number) (noted (numbers_of c.entries)) ≡ noted (numbers_of (added c (Svid number) bytes).entries))
  unfolding svids_noted numbers_noted walk_of added svids_of numbers_of
  noted_svid number bytes =
      let new : Entry = record { svid = number; modes = [] } in (
        ap (λ (k : ℕ). set (noted (svids_of c.entries)) k number) (sym (length_svids c.entries)) ∙ noted_more (svids_of c.entries) number ∙
            ap noted (sym (svids_append c.entries (new ∷ []))),
        ap (λ (k : ℕ). set (noted (numbers_of c.entries)) k 0) (sym (length_numbers c.entries)) ∙ noted_more (numbers_of c.entries) 0 ∙
            ap noted (sym (numbers_append c.entries (new ∷ []))),
      )

  noted_mode : (word : ℕ) (bytes : List ℕ) → Split c.entries →
      (svids_noted (walk_of at c) (Mode word) (noted (svids_of c.entries)) ≡ noted (svids_of (added c (Mode word) bytes).entries)) ×
      (numbers_noted (walk_of at c) (Mode word) (noted (numbers_of c.entries)) ≡ noted (numbers_of (added c (Mode word) bytes).entries))
  unfolding svids_noted numbers_noted walk_of added svids_of numbers_of
  noted_mode word bytes s =
      let a = s.before in
      let now : with_mode c.entries word ≡ a ++ more s.last word ∷ [] = ap (λ (l : List Entry). with_mode l word) s.is ∙ mode_behind a s.last word in
      let old : numbers_of c.entries ≡ numbers_of a ++ length s.last.modes ∷ [] = ap numbers_of s.is ∙ numbers_append a (s.last ∷ []) in
      let new : numbers_of (with_mode c.entries word) ≡ numbers_of a ++ length (s.last.modes ++ word ∷ []) ∷ [] = ap numbers_of now ∙ numbers_append a (more s.last word ∷ []) in
      let place : length c.entries - 1 ≡ length (numbers_of a) = omega (arith, ap length s.is, length-append a (s.last ∷ []), length_numbers a) in
      let value : last_number c.entries + 1 ≡ length (s.last.modes ++ word ∷ []) =
      omega (arith, ap last_number s.is, last_behind a s.last, length-append s.last.modes (word ∷ [])) in (
        ap (λ (l : List Entry). noted (svids_of l)) s.is ∙
            ap noted (svids_append a (s.last ∷ []) ∙ sym (svids_append a (more s.last word ∷ []))) ∙ ap (λ (l : List Entry). noted (svids_of l)) (sym now),
        ap₂ (λ (k : ℕ) (v : ℕ). set (noted (numbers_of c.entries)) k v) place value ∙
            ap (λ (l : List ℕ). set (noted l) (length (numbers_of a)) (length (s.last.modes ++ word ∷ []))) old ∙
            noted_last (numbers_of a) (length s.last.modes) (length (s.last.modes ++ word ∷ [])) ∙ ap noted (sym new),
      )

-- behind whatever record may follow
pub record BehindWalk (at : ℕ) (c : Catalogue) (bytes : List ℕ) (r : Record) (n : ℕ) : Type 0 where
  pub walk_is : walk_behind (walk_of at c) r n ≡ walk_of (at + n) (added c r bytes)
  pub svids_are : svids_noted (walk_of at c) r (noted (svids_of c.entries)) ≡ noted (svids_of (added c r bytes).entries)
  pub numbers_are : numbers_noted (walk_of at c) r (noted (numbers_of c.entries)) ≡ noted (numbers_of (added c r bytes).entries)
  pub count_most : length c.entries ≤ most_svids → length (added c r bytes).entries ≤ most_svids
  pub modes_most : all_modes (added c r bytes).entries ≤ all_modes c.entries + n

behind_as : (at : ℕ) (c : Catalogue) (n : ℕ) (bytes bytes' : List ℕ) → bytes ≡ bytes' → (r r' : Record) → r ≡ r' → BehindWalk at c bytes' r' n → BehindWalk at c bytes r n
behind_as at c n bytes bytes' e r r' h b = rw (e, h) b

pub behind_walk : (at : ℕ) (c : Catalogue) (bytes : List ℕ) (r : Record) (n : ℕ) → found_in bytes ≡ Whole r n →
    may_follow (walk_of at c) (svids_of c.entries) r ≡ true → BehindWalk at c bytes r n
unfolding svids_noted numbers_noted walk_behind walk_of added
behind_walk at c bytes r n found follows = go (told w.kind w.rest w.known)
  where
    w : IsWhole bytes r n
    w = whole bytes r n found

    go : Told w.kind w.rest → BehindWalk at c bytes r n
    go (identity i e l) =
        behind_as at c n bytes (w.kind ∷ w.rest) w.bytes_are r (Identity w.kind) (w.record_is ∙ e) (record {
          walk_is = behind_identity at c n w.kind w.rest (omega (arith, l, w.there));
          svids_are = refl;
          numbers_are = refl;
          count_most = λ few. few;
          modes_most = omega arith;
        })
    go (svid k e l) =
        let variant = w.record_is ∙ e in
        let number = svid_in w.rest in
        let may = listed_as (walk_of at c) (svids_of c.entries) number (ap (may_follow (walk_of at c) (svids_of c.entries)) (sym variant) ∙ follows) in
        let walk_as = behind_svid at c n number bytes in
        let noted_as = noted_svid at c n number bytes in
        behind_as at c n bytes bytes refl r (Svid number) variant (record {
          walk_is = walk_as;
          svids_are = noted_as.0;
          numbers_are = noted_as.1;
          count_most = λ few. omega (arith, may.room, ap (λ (x : Walk). x.count) walk_as);
          modes_most = omega (arith, ap (λ (x : Walk). x.modes) walk_as);
        })
    go (mode k e l) =
        let variant = w.record_is ∙ e in
        let word = mode_in w.rest in
        let under = added_under (walk_of at c) (svids_of c.entries) word (ap (may_follow (walk_of at c) (svids_of c.entries)) (sym variant) ∙ follows) in
        let s = split c.entries under.0 in
        let walk_as = behind_mode at c n word bytes s in
        let noted_as = noted_mode at c n word bytes s in
        behind_as at c n bytes bytes refl r (Mode word) variant (record {
          walk_is = walk_as;
          svids_are = noted_as.0;
          numbers_are = noted_as.1;
          count_most = λ few. omega (arith, few, ap (λ (x : Walk). x.count) walk_as);
          modes_most = omega (arith, w.length_is, l, ap (λ (x : Walk). x.modes) walk_as);
        })
    go (end k e l) =
        behind_as at c n bytes bytes refl r End (w.record_is ∙ e) (record {
          walk_is = refl;
          svids_are = refl;
          numbers_are = refl;
          count_most = λ few. few;
          modes_most = omega arith;
        })

-- One turn of the walk, by what was found.
use mathlib.Core.Path.{◌≡◌, ap, ap₂, ◌∙◌}
use mathlib.Core.Bool.{Bool, true, false, cond}
use mathlib.Core.List.{List}
use Prim.Native.Nat.{ℕ, suc, ◌+◌}
use lib.ListN.{drop}
use Rattle.laptop.specs.Catalogue.{Catalogue}
use Rattle.records.specs.Records.{found_in, unknown_kind, cut_record}
use Rattle.records.specs.Records.{Found}
use Rattle.records.specs.Records.{Whole, Unknown, Cut, Nothing}
use Rattle.records.specs.declared.Record.{Record}
use Rattle.judging.specs.Judging.{judgement, out_of_order, ended, turn, length_of, with, walk_from}
use Rattle.judging.specs.Walking.{svids_of, walk_of, is_end, may_follow, added}

module _ (records at : ℕ) (c : Catalogue) (bytes : List ℕ) where
  abbrev turned : Found → Type 0
  turned found =
      walk_from (suc records) at c bytes ≡ turn found at c bytes (walk_from records (at + length_of found) (with found c bytes) (drop (length_of found) bytes))

  at_found : (found : Found) → found_in bytes ≡ found → turned found
  unfolding walk_from
  at_found found e =
      ap (λ (f : Found). turn f at c bytes (walk_from records (at + length_of f) (with f c bytes) (drop (length_of f) bytes))) e

  pub turn_unknown : found_in bytes ≡ Unknown → walk_from (suc records) at c bytes ≡ judgement unknown_kind at c
  unfolding turn
  turn_unknown e = at_found Unknown e

  pub turn_cut : found_in bytes ≡ Cut → walk_from (suc records) at c bytes ≡ judgement cut_record at c
  unfolding turn
  turn_cut e = at_found Cut e

  pub turn_nothing : found_in bytes ≡ Nothing → walk_from (suc records) at c bytes ≡ judgement cut_record at c
  unfolding turn
  turn_nothing e = at_found Nothing e

  module _ (r : Record) (n : ℕ) (found : found_in bytes ≡ Whole r n) where
    turn_whole : walk_from (suc records) at c bytes ≡
        cond (may_follow (walk_of at c) (svids_of c.entries) r)
        (cond (is_end r) (ended (at + n) c (drop n bytes)) (walk_from records (at + n) (added c r bytes) (drop n bytes)))
        (judgement out_of_order at c)
    unfolding turn length_of with
    turn_whole = at_found (Whole r n) found

    pub turn_wrong : may_follow (walk_of at c) (svids_of c.entries) r ≡ false → walk_from (suc records) at c bytes ≡ judgement out_of_order at c
    turn_wrong never =
        turn_whole ∙ ap (λ (b : Bool). cond b
        (cond (is_end r) (ended (at + n) c (drop n bytes)) (walk_from records (at + n) (added c r bytes) (drop n bytes)))
        (judgement out_of_order at c)) never

    either : may_follow (walk_of at c) (svids_of c.entries) r ≡ true → (i : Bool) → is_end r ≡ i → walk_from (suc records) at c bytes ≡
        cond i (ended (at + n) c (drop n bytes)) (walk_from records (at + n) (added c r bytes) (drop n bytes))
    either follows i is =
        turn_whole ∙ ap₂ (λ (b : Bool) (j : Bool). cond b
        (cond j (ended (at + n) c (drop n bytes)) (walk_from records (at + n) (added c r bytes) (drop n bytes)))
        (judgement out_of_order at c)) follows is

    pub turn_end : may_follow (walk_of at c) (svids_of c.entries) r ≡ true → is_end r ≡ true → walk_from (suc records) at c bytes ≡ ended (at + n) c (drop n bytes)
    turn_end follows is = either follows true is

    pub turn_on : may_follow (walk_of at c) (svids_of c.entries) r ≡ true → is_end r ≡ false →
        walk_from (suc records) at c bytes ≡ walk_from records (at + n) (added c r bytes) (drop n bytes)
    turn_on follows is = either follows false is

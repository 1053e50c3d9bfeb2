-- A catalogue's bytes judged: sound, or the first fault from the front (02, R-1).
use Rattle.std.specs.Prelude.{◌≡◌, ℕ, zero, suc, ◌+◌, cond, List, [], ◌∷◌, length, drop, replicate}
use Rattle.std.proofs.lemmas.List.Edits.{sets}
use Rattle.pages.specs.Lists.{most_svids}
use Rattle.laptop.specs.Catalogue.{Catalogue}
use Rattle.records.specs.Records.{cut_record, found_in, found_number}
use Rattle.records.specs.Records.{Found}
use Rattle.records.specs.Records.{Whole, Unknown, Cut, Nothing}
use Rattle.judging.specs.Walking.{svids_of, numbers_of, walk_of, is_end, may_follow, added}
use Rattle.judging.specs.declared.walk.Walk.{Walk}

-- 17 wrong order, repeated item or limit passed; 18 bytes after the end
abbrev pub out_of_order : ℕ
out_of_order = 17

abbrev pub bytes_after_end : ℕ
bytes_after_end = 18

-- 0, or the number of the first fault; where it stands, or the end of the file; and the catalogue of the records before it
pub record Judgement : Type 0 where
  pub refusal : ℕ
  pub at : ℕ
  pub catalogue : Catalogue

abbrev pub judgement : ℕ → ℕ → Catalogue → Judgement
judgement number at c = record { refusal = number; at = at; catalogue = c }

-- behind the end record nothing may stand
unfoldable pub ended : ℕ → Catalogue → List ℕ → Judgement
ended at c [] = judgement 0 at c
ended at c (byte ∷ rest) = judgement bytes_after_end at c

-- at what was found: 15 comes before 16, and 16 before 17; with the end the walk is over, else it goes further
unfoldable pub turn : Found → ℕ → Catalogue → List ℕ → Judgement → Judgement
turn (Whole r n) at c bytes further =
    cond (may_follow (walk_of at c) (svids_of c.entries) r) (cond (is_end r) (ended (at + n) c (drop n bytes)) further) (judgement out_of_order at c)
turn Unknown at c bytes further = judgement (found_number Unknown) at c
turn Cut at c bytes further = judgement (found_number Cut) at c
turn Nothing at c bytes further = judgement (found_number Nothing) at c

-- what was found as the walk goes further: its bytes, and the catalogue with it
unfoldable pub length_of : Found → ℕ
length_of (Whole r n) = n
length_of Unknown = 0
length_of Cut = 0
length_of Nothing = 0

unfoldable pub with : Found → Catalogue → List ℕ → Catalogue
with (Whole r n) c bytes = added c r bytes
with Unknown c bytes = c
with Cut c bytes = c
with Nothing c bytes = c

-- the walk from an offset, over the bytes from there on, of which it takes at most so many records
unfoldable pub walk_from : ℕ → ℕ → Catalogue → List ℕ → Judgement
walk_from zero at c bytes = judgement cut_record at c
walk_from (suc records) at c bytes =
    turn (found_in bytes) at c bytes
    (walk_from records (at + length_of (found_in bytes)) (with (found_in bytes) c bytes) (drop (length_of (found_in bytes)) bytes))

abbrev pub nothing_yet : Catalogue
nothing_yet = record { identity = []; entries = [] }

-- a record has at least one byte, so there are no more records than bytes, and one turn more finds that they stop
unfoldable pub judgement_of : List ℕ → Judgement
judgement_of bytes = walk_from (suc (length bytes)) 0 nothing_yet bytes

-- 0 or the number of the first fault, and the walk as it stands there, or behind the end
pub record Judged : Type 0 where
  pub refusal : ℕ
  pub walk : Walk

-- what judging promises: the number and the walk, and in the arrays that it is lent the SVIDs before the fault with the numbers of their modes, and zeros
-- behind them
abbrev pub shown_as : Judgement → Judged
shown_as j = record { refusal = j.refusal; walk = walk_of j.at j.catalogue }

abbrev pub noted : List ℕ → List ℕ
noted list = sets (replicate most_svids 0) 0 list

pub record FileJudged (bytes : List ℕ) (result : Judged) (svids numbers : List ℕ) : Type 0 where
  pub result_is : result ≡ shown_as (judgement_of bytes)
  pub svids_are : svids ≡ noted (svids_of (judgement_of bytes).catalogue.entries)
  pub numbers_are : numbers ≡ noted (numbers_of (judgement_of bytes).catalogue.entries)

-- The dock's state as eight numbers beside its identity and its SVIDs, and back. Any numbers are taken: of one that is to be a byte the low eight
-- bits count, and one that says where the dock stands, its edition, or what policy says, and is none of those below counts as ready, 2.1, and give.
use Rattle.std.specs.Prelude.{ℕ, Bool, true, false, cond, List, [], ◌∷◌, eqb, get_or}
use Rattle.messages.specs.Editions.{edition_number}
use Rattle.messages.specs.declared.request.Request.{Request}
use Rattle.dock.specs.declared.Dock.{Dock}
use Rattle.dock.specs.declared.Policy.{Policy}
use Rattle.dock.specs.declared.Policy.TheVariants.{Give, Nak, Busy}
use Rattle.dock.specs.declared.Standing.{Standing}
use Rattle.dock.specs.declared.Standing.TheVariants.{Ready, Asking, Sending}
use Rattle.controller.specs.Port.{low_byte, request_from, edition_from}

-- 1 asking, 2 sending an answer, 3 sending a page, any other ready
abbrev pub standing_from : ℕ → Request → Standing
standing_from tag request = cond (eqb tag 1) (Asking request) (cond (eqb tag 2) (Sending false) (cond (eqb tag 3) (Sending true) Ready))

unfoldable pub dock_from : List ℕ → List ℕ → List ℕ → Dock
dock_from s identity svids =
    record {
      identity = identity;
      extent = low_byte (get_or s 0 0);
      svids = svids;
      count = low_byte (get_or s 1 0);
      page = low_byte (get_or s 2 0);
      standing = standing_from (get_or s 3 0) (request_from (get_or s 4 0) (get_or s 5 0) (get_or s 6 0));
      edition = edition_from (get_or s 7 0);
    }

-- what policy says: 1 NAK, 2 BUSY, any other give
abbrev pub policy_from : ℕ → Policy
policy_from number = cond (eqb number 1) Nak (cond (eqb number 2) Busy Give)

-- sending a page is 3, another answer 2
abbrev pub sending_number : Bool → ℕ
sending_number is_page = cond is_page 3 2

abbrev pub standing_numbers : Standing → List ℕ
standing_numbers Ready = 0 ∷ 0 ∷ 0 ∷ 0 ∷ []
standing_numbers (Asking r) = 1 ∷ r.svid ∷ r.command ∷ r.position ∷ []
standing_numbers (Sending is_page) = sending_number is_page ∷ 0 ∷ 0 ∷ 0 ∷ []

abbrev pub numbers_with : List ℕ → ℕ → Dock → List ℕ
numbers_with standing edition d =
    d.extent ∷ d.count ∷ d.page ∷ get_or standing 0 0 ∷ get_or standing 1 0 ∷ get_or standing 2 0 ∷ get_or standing 3 0 ∷ edition ∷ []

unfoldable pub dock_numbers : Dock → List ℕ
dock_numbers d = numbers_with (standing_numbers d.standing) (edition_number d.edition) d

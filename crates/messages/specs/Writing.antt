-- Writing a message at an edition into a lent buffer: refusal 5, then 11, or just its bytes (01, "Message layout" and "Refusal numbers"; 02, R-5).
use Rattle.std.specs.Prelude.{◌≡◌, ℕ, Option, Some, None, ◌+◌, Bool, cond, not, List, ◌++◌, ltb, eqb, length, drop}
use Rattle.messages.specs.Layout.{Message, message_bytes, message_length}
use Rattle.messages.specs.Editions.{edition_named}
use Rattle.messages.specs.Table.{shape}
use Rattle.messages.specs.declared.edition.Edition.{Edition}

-- the header is counted
unfoldable pub well_shaped : Message → Bool
well_shaped m = shape m.head (length m.objects + 1)

unfoldable pub write_refusal : Message → ℕ → ℕ
write_refusal m room = cond (not (well_shaped m)) 5 (cond (ltb room (message_length m)) 11 0)

-- the buffer afterwards: a refusal leaves it alone, and so does a message the bytes past its end
unfoldable pub written : Edition → Message → List ℕ → List ℕ
written e m out =
    cond (eqb (write_refusal m (length out)) 0) (message_bytes e m ++ drop (message_length m) out) out

-- what writing promises: the number, and the whole buffer
pub record Written (e : Edition) (m : Message) (out : List ℕ) (number : ℕ) (after : List ℕ) : Type 0 where
  pub number_is : number ≡ write_refusal m (length out)
  pub buffer_is : after ≡ written e m out

-- at the edition that a number names; a number that names none is 5
abbrev pub WrittenBy : Option Edition → Message → List ℕ → ℕ → List ℕ → Type 0
WrittenBy None m out number after = (number ≡ 5) × (after ≡ out)
WrittenBy (Some e) m out number after = Written e m out number after

abbrev pub WrittenAs : ℕ → Message → List ℕ → ℕ → List ℕ → Type 0
WrittenAs edition m out number after = WrittenBy (edition_named edition) m out number after

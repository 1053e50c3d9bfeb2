-- Every public function that answers by a number of its own, as one, with the number that its promise says (docs/PROMISES.md).
use Rattle.std.specs.Option.{ok_or}
use Rattle.std.specs.Prelude.{ℕ, Bool, Option, Some, None, List, length}
use Rattle.messages.specs.Editions.{edition_named}
use Rattle.messages.specs.Layout.{Message}
use Rattle.messages.specs.Reading.{read_outcome, shown, read_number}
use Rattle.messages.specs.Refusals.{number_of, number_in}
use Rattle.messages.specs.Writing.{write_refusal}
use Rattle.messages.specs.declared.edition.Edition.{Edition}
use Rattle.messages.specs.declared.refusal.Refusal.TheVariants.{WrongShape}
use Rattle.messages.specs.declared.request.Request.{Request}
use Rattle.dock.specs.Data.{with_edition}
use Rattle.dock.specs.Dock.{reply, sending}
use Rattle.dock.specs.Dock.{sends as dock_sends}
use Rattle.dock.specs.Dock.{step_of as dock_step_of}
use Rattle.dock.specs.declared.Dock.{Dock}
use Rattle.dock_laws.specs.Effects.{Call as DockCall}
use Rattle.dock_laws.specs.Effects.{effect_of as dock_effect_of}
use Rattle.laptop.specs.Calls.{step_of}
use Rattle.laptop.specs.State.{Memory}
use Rattle.laptop.specs.declared.Laptop.{Laptop}
use Rattle.laptop_laws.specs.Effects.{Call, effect_of}
use Rattle.port.specs.declared.Port.{Port}
use Rattle.port_laws.specs.Effects.{Call as PortCall}
use Rattle.port_laws.specs.Effects.{effect_of as port_effect_of}
use Rattle.owner.specs.Owner.{owner_refusal, asks}
use Rattle.gathering.specs.Gathering.{hear_identity, hear_svids}
use Rattle.answers.specs.Answers.{hear_modes, hear_mode}
use Rattle.catalogue.specs.Bytes.{HeldCatalogue, catalogue_refusal}
use Rattle.records.specs.Records.{found_number}
use Rattle.records.specs.Records.{Found}
use Rattle.records.specs.Refused.{refusal_for}
use Rattle.records.specs.declared.missing.Missing.{Missing}
use Rattle.judging.specs.Judging.{judgement_of}
use Rattle.rebuilding.specs.Rebuilding.{read_as}
use Rattle.stretches.specs.Stretches.{stretch_in}
use Rattle.mending.specs.Mending.{mended_number, mending_of}

pub data AnyCall : Type 0 where
  -- a message's bytes; a message, and the buffer; and what its edition's number names; an edition's number alone
  reads : List ℕ → AnyCall
  writes : Message → List ℕ → AnyCall
  writes_numbered : Option Edition → Message → List ℕ → AnyCall
  names : ℕ → AnyCall
  -- a call of the dock, of a laptop of 01 or of the port, the state, what is lent, and the buffer
  of_dock : DockCall → Dock → List ℕ → AnyCall
  of_laptop : Call → Laptop → Memory → List ℕ → AnyCall
  of_port : PortCall → Port → Memory → List ℕ → AnyCall
  -- the held catalogue, the words of its run, and the buffer
  writes_catalogue : HeldCatalogue → ℕ → List ℕ → AnyCall
  -- what was found where a record is to stand; why there is none; a file's bytes; and with the words of the run; and with an SVID; and with a second buffer
  tells_fault : Found → AnyCall
  tells_missing : Missing → AnyCall
  judges : List ℕ → AnyCall
  reads_catalogue : List ℕ → ℕ → AnyCall
  finds_stretch : List ℕ → ℕ → AnyCall
  mends : List ℕ → List ℕ → AnyCall
  -- parts that stand between the crates: the dock's answer to a request, at an edition, of a type, with objects, a page or not; the words of both runs; a request of the
  -- laptop's; an answer to Identity at an edition, to SVIDs, Modes, and Enter or Exit, by its type, what it brings and what is lent
  sends_answer : Edition → Request → ℕ → List ℕ → Bool → Dock → List ℕ → AnyCall
  refuses_owner : Laptop → ℕ → ℕ → AnyCall
  asks_for : Request → Laptop → List ℕ → AnyCall
  hears_identity : Laptop → Edition → ℕ → ℕ → List ℕ → List ℕ → List ℕ → AnyCall
  hears_svids : Laptop → ℕ → List ℕ → List ℕ → AnyCall
  hears_modes : Laptop → ℕ → List ℕ → List ℕ → List ℕ → AnyCall
  hears_mode : Laptop → ℕ → Request → List ℕ → List ℕ → AnyCall

unfoldable pub number_given : AnyCall → ℕ
number_given (reads bytes) = read_number (shown (read_outcome bytes)).outcome
number_given (writes m out) = write_refusal m (length out)
number_given (writes_numbered None m out) = 5
number_given (writes_numbered (Some e) m out) = write_refusal m (length out)
number_given (names number) = number_in (ok_or (edition_named number) WrongShape)
number_given (of_dock c d out) = (dock_effect_of c d out).refusal
number_given (of_laptop c l m out) = (effect_of c l m out).step.refusal
number_given (of_port c p m out) = (port_effect_of c p m out).step.refusal
number_given (writes_catalogue held words out) = catalogue_refusal held words (length out)
number_given (tells_fault found) = found_number found
number_given (tells_missing missing) = number_of (refusal_for missing)
number_given (judges bytes) = (judgement_of bytes).refusal
number_given (reads_catalogue bytes words) = (read_as words (judgement_of bytes)).refusal
number_given (finds_stretch bytes svid) = (stretch_in (judgement_of bytes) svid).refusal
number_given (mends bytes out) = mended_number (mending_of bytes out).0
number_given (sends_answer e r kind objects is_page d out) =
    (dock_step_of d (dock_sends (reply r kind objects) (sending is_page (with_edition e d))) (length out)).refusal
number_given (refuses_owner l run held_run) = owner_refusal l run held_run
number_given (asks_for r l out) = (step_of l (asks r l) (length out)).refusal
number_given (hears_identity l e kind n objects svids identity) = (hear_identity l e kind n objects svids identity).step.refusal
number_given (hears_svids l kind values svids) = (hear_svids l kind values svids).step.refusal
number_given (hears_modes l kind words modes run) = (hear_modes l kind words modes run).step.refusal
number_given (hears_mode l kind r held_svids entered) = (hear_mode l kind r held_svids entered).step.refusal

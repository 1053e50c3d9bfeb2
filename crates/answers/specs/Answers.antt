-- Answers about modes (01, "The laptop end").
use Rattle.std.specs.Prelude.{◌≡◌, ℕ, ◌+◌, ◌*◌, cond, List, ltb, eqb, length, set}
use Rattle.std.proofs.lemmas.List.Edits.{sets}
use Rattle.messages.specs.Layout.{ack, nak, busy}
use Rattle.messages.specs.declared.request.Request.{Request}
use Rattle.pages.specs.Lists.{most_svids}
use Rattle.laptop.specs.Calls.{refused_by, accepted_with}
use Rattle.laptop.specs.Catalogue.{modes_each, held_list}
use Rattle.laptop.specs.Marks.{marks_after}
use Rattle.laptop.specs.State.{ended, dropped, stored_to}
use Rattle.laptop.specs.declared.Laptop.{Laptop}
use Rattle.laptop.specs.Step.{Step}
use Rattle.laptop.specs.declared.Told.{Told}
use Rattle.laptop.specs.declared.Told.TheVariants.{Nothing, Nak, Busy}

-- Modes: an ACK stores the modes of the first SVID without them, at its words of the run
pub record Storing : Type 0 where
  pub step : Step
  pub modes : List ℕ
  pub run : List ℕ

-- what hearing it promises: the step and all that may change
abbrev pub StoringIs : Storing → Step → List ℕ → List ℕ → Type 0
StoringIs f step modes run = (step ≡ f.step) × (modes ≡ f.modes) × (run ≡ f.run)

abbrev pub storing : Step → List ℕ → List ℕ → Storing
storing step modes run = record { step = step; modes = modes; run = run }

unfoldable pub store_modes : Laptop → List ℕ → List ℕ → List ℕ → Storing
store_modes l words modes run =
    cond (ltb l.stored most_svids)
    (storing (accepted_with Nothing (stored_to (l.stored + 1) l)) (set modes l.stored (length words)) (sets run (l.stored * modes_each) words))
    (storing (refused_by 8 (dropped l)) modes run)

-- BUSY changes nothing more; NAK is refused 8
unfoldable pub hear_modes : Laptop → ℕ → List ℕ → List ℕ → List ℕ → Storing
hear_modes l kind words modes run =
    cond (eqb kind busy) (storing (accepted_with Nothing (ended l)) modes run)
    (cond (eqb kind ack) (store_modes l words modes run) (storing (refused_by 8 (dropped l)) modes run))

-- Enter and Exit: an ACK marks or unmarks; NAK or BUSY is told to policy and changes no mark
pub record Marking : Type 0 where
  pub step : Step
  pub entered : List ℕ

abbrev pub MarkingIs : Marking → Step → List ℕ → Type 0
MarkingIs k step entered = (step ≡ k.step) × (entered ≡ k.entered)

unfoldable pub declined_as : ℕ → Request → Told
declined_as kind r = cond (eqb kind nak) (Nak r) (Busy r)

unfoldable pub hear_mode : Laptop → ℕ → Request → List ℕ → List ℕ → Marking
hear_mode l kind r held_svids entered =
    cond (eqb kind ack)
    (record {
      step = accepted_with Nothing (ended l);
      entered = marks_after (held_list l.held held_svids) entered r.svid r.command r.position;
    }) (record { step = accepted_with (declined_as kind r) (ended l); entered = entered })

-- Bit 5 of a message's header means nothing to the functions for C, and none of them gives refusal 4 (02, R-2).
use mathlib.Core.Logic.{◌↔◌, ◌⊎◌, inl, inr}
use mathlib.Core.Path.{◌≡◌, ap, subst, sym, ◌∙◌}
use mathlib.Core.Bool.{Bool, true, false, cond}
use mathlib.Core.List.{List, []}
use Prim.Native.Nat.{ℕ, ◌%◌, ◌≤◌}
use native.Mathlib.Omega.{arith}
use lib.ListN.{length}
use Rattle.laws.specs.Lent.{Lent, lent}
use Rattle.messages.specs.Layout.{with_reserved_clear}
use Rattle.messages.specs.Reading.{Outcome, read_outcome}
use Rattle.messages.specs.declared.request.Request.{Request}
use Rattle.messages.proofs.Reserved.{reserved_ignored}
use Rattle.dock.specs.Dock.{decide_message, decide_policy_answer, decide_sent, decide_failed}
use Rattle.dock.specs.declared.Policy.{Policy}
use Rattle.dock_laws.specs.Effects.{load, policy_answer, sent, failed}
use Rattle.dock_laws.specs.Effects.{message as dock_message}
use Rattle.dock_laws.proofs.Given.{never_four as dock_never_four}
use Rattle.laptop.specs.Calls.{Decision, step_of, unless, short_runs}
use Rattle.laptop.specs.State.{Memory, LentMemory}
use Rattle.laptop.specs.declared.Laptop.{Laptop}
use Rattle.laptop_laws.specs.Effects.{message, next, start_over, drop, enter, exit, timer, protocol_error}
use Rattle.laptop_laws.proofs.CatalogueGiven.{catalogue_never_four}
use Rattle.laptop_laws.proofs.Given.{never_four}
use Rattle.catalogue.specs.Bytes.{HeldCatalogue}
use Rattle.hearing.specs.Hearing.{heard}
use Rattle.owner.specs.Owner.{decide_next, decide_start_over, decide_drop, decide_enter, decide_exit}
use Rattle.timers.specs.Timers.{decide_timer, decide_error}
use Rattle.port.specs.Calls.{is_waiting, owners_refusal, waiting_side}
use Rattle.port.specs.Sides.{seen, stepped_on}
use Rattle.port.specs.declared.Port.{Port}
use Rattle.port.specs.declared.Side.{Side}
use Rattle.rebuilding.proofs.Laws.{only_these}
use Rattle.stretches.proofs.Laws.{only_these as stretch_only_these}
use Rattle.judging.specs.Judging.{judgement_of}
use Rattle.catalogue_laws.proofs.Given.{only_these as file_only_these}
use Rattle.mending.specs.Mending.{no_identity, short_buffer, mended_number, mended_offset, mending_of}
use Rattle.mending.proofs.Laws.{number_given_lem}
use Rattle.controller.specs.CatalogueCall.{CatalogueCall}
use Rattle.controller.specs.CatalogueMending.{number_given, MendCall}
use Rattle.controller.specs.CatalogueReading.{with_offset, read_of, ReadCall, place_of, StretchCall}
use Rattle.controller.specs.DockCalls.{dock_lent, DockSendsNothing, DockSends, DockLoads}
use Rattle.controller.specs.LaptopCalls.{LaptopStep, LaptopSendsNothing, LaptopSends, LaptopHears}
use Rattle.controller.specs.Port.{port_from}
use Rattle.controller.proofs.Refusing.{nothing_lent}

-- what is promised of a message with bit 5 clear is promised of the message with bit 5 set, and the other way round: the number, the state, what is
-- handed over, and all that is lent
pub dock_message_same : (bytes : List ℕ) {number : ℕ} {state : Lent (List ℕ)} {identity svids : List ℕ} {out : Lent (List ℕ)} {handed : Lent ℕ} →
    DockSends (λ d. decide_message d (read_outcome (with_reserved_clear bytes))) number state identity svids out handed ↔
    DockSends (λ d. decide_message d (read_outcome bytes)) number state identity svids out handed
dock_message_same bytes {number} {state} {identity} {svids} {out} {handed} =
    (subst promise (reserved_ignored bytes), subst promise (sym (reserved_ignored bytes)))
  where
    promise : Outcome → Type 0
    promise o = DockSends (λ d. decide_message d o) number state identity svids out handed

module _ {side : Side} {number : ℕ} {state handed : Lent (List ℕ)} {memory : LentMemory} where
  heard_same : (a b : List ℕ) → read_outcome a ≡ read_outcome b → LaptopHears side a number state memory handed → LaptopHears side b number state memory handed
  heard_same a b e p =
      let port : Port = port_from (lent state) in
      record {
        step_is = subst (λ (o : Outcome). LaptopStep (stepped_on side port (heard (seen side port) memory.entry o).step) number state handed) e p.step_is;
        memory_is = p.memory_is ∙ ap (λ (o : Outcome). (heard (seen side port) memory.entry o).after) e;
      }

  pub laptop_message_same : (bytes : List ℕ) →
      LaptopHears side (with_reserved_clear bytes) number state memory handed ↔ LaptopHears side bytes number state memory handed
  laptop_message_same bytes = (heard_same _ _ (reserved_ignored bytes), heard_same _ _ (sym (reserved_ignored bytes)))

-- the dock's functions do not return 4,
module _ {number : ℕ} {state : Lent (List ℕ)} {identity svids : List ℕ} {handed : Lent ℕ} (four : number ≡ 4) where
  pub dock_message_not_4 : (bytes : List ℕ) {out : Lent (List ℕ)} → DockSends (λ d. decide_message d (read_outcome bytes)) number state identity svids out handed → ⊥
  dock_message_not_4 bytes {out} p = dock_never_four (dock_message bytes) (dock_lent state identity svids) (lent out) (sym p.step_is.number_is ∙ four)

  pub dock_policy_answer_not_4 : (policy : Policy) (r : Request) (objects : List ℕ) {out : Lent (List ℕ)} →
      DockSends (λ d. decide_policy_answer d d.standing policy r objects) number state identity svids out handed → ⊥
  dock_policy_answer_not_4 policy r objects {out} p =
      dock_never_four (policy_answer policy r objects) (dock_lent state identity svids) (lent out) (sym p.step_is.number_is ∙ four)

  pub dock_sent_not_4 : DockSendsNothing (λ d. decide_sent d d.standing) number state identity svids handed → ⊥
  dock_sent_not_4 p = dock_never_four sent (dock_lent state identity svids) [] (sym p.step_is.number_is ∙ four)

  pub dock_failed_not_4 : DockSendsNothing (λ d. decide_failed d d.standing) number state identity svids handed → ⊥
  dock_failed_not_4 p = dock_never_four failed (dock_lent state identity svids) [] (sym p.step_is.number_is ∙ four)

module _ {number : ℕ} {state identity svids : Lent (List ℕ)} {handed : Lent ℕ} (four : number ≡ 4) where
  pub dock_load_not_4 : {new_identity new_svids : List ℕ} → DockLoads new_identity new_svids number state identity svids handed → ⊥
  dock_load_not_4 {new_identity} {new_svids} p =
      dock_never_four (load new_identity new_svids) (dock_lent state (lent identity) (lent svids)) [] (sym p.step_is.number_is ∙ four)

-- nor the laptop's,
refused_first_not_4 : (l : Laptop) (d : Decision) (room : ℕ) (short waits : Bool) → ((step_of l d room).refusal ≡ 4 → ⊥) →
    (step_of l (unless (cond short 11 (cond waits 7 0)) l d) room).refusal ≡ 4 → ⊥
unfolding unless step_of
refused_first_not_4 l d room true waits h e = omega arith
refused_first_not_4 l d room false true h e = omega arith
refused_first_not_4 l d room false false h e = h e

module _ {number : ℕ} {state handed : Lent (List ℕ)} (four : number ≡ 4) where
  module _ (side : Side) (m : Memory) {out : Lent (List ℕ)} where
    owners_not_4 : (decide : Laptop → Decision) →
        ((step_of (seen side (port_from (lent state))) (decide (seen side (port_from (lent state)))) (length (lent out))).refusal ≡ 4 → ⊥) →
        LaptopSends side decide (length m.run) (length m.held_run) number state out handed → ⊥
    unfolding owners_refusal
    owners_not_4 decide never p =
        refused_first_not_4 (seen side (port_from (lent state))) (decide (seen side (port_from (lent state)))) (length (lent out))
        (short_runs (length m.run) (length m.held_run)) (is_waiting (port_from (lent state)).wait) never (sym p.step_is.number_is ∙ four)

    pub next_not_4 :
        LaptopSends side (λ l. decide_next l m.svids m.entered (length m.run) (length m.held_run)) (length m.run) (length m.held_run)
        number state out handed → ⊥
    next_not_4 = owners_not_4 _ (never_four next (seen side (port_from (lent state))) m (lent out))

    pub start_over_not_4 :
        LaptopSends side (λ l. decide_start_over l m.entered (length m.run) (length m.held_run)) (length m.run) (length m.held_run)
        number state out handed → ⊥
    start_over_not_4 = owners_not_4 _ (never_four start_over (seen side (port_from (lent state))) m (lent out))

    pub drop_not_4 :
        LaptopSends side (λ l. decide_drop l (length m.run) (length m.held_run)) (length m.run) (length m.held_run)
        number state out handed → ⊥
    drop_not_4 = owners_not_4 _ (never_four drop (seen side (port_from (lent state))) m (lent out))

    pub enter_not_4 : (svid position : ℕ) →
        LaptopSends side (λ l. decide_enter l m.held_svids m.held_modes m.entered (length m.run) (length m.held_run) svid position) (length m.run) (length m.held_run)
        number state out handed → ⊥
    enter_not_4 svid position = owners_not_4 _ (never_four (enter svid position) (seen side (port_from (lent state))) m (lent out))

    pub exit_not_4 : (svid position : ℕ) →
        LaptopSends side (λ l. decide_exit l m.held_svids m.held_modes m.entered (length m.run) (length m.held_run) svid position) (length m.run) (length m.held_run)
        number state out handed → ⊥
    exit_not_4 svid position = owners_not_4 _ (never_four (exit svid position) (seen side (port_from (lent state))) m (lent out))

  pub timer_not_4 : (first last : ℕ) → LaptopSendsNothing (λ l. decide_timer first last l l.wait) number state handed → ⊥
  timer_not_4 first last p =
      never_four (timer first last) (seen (waiting_side (port_from (lent state)).wait) (port_from (lent state))) nothing_lent [] (sym p.step_is.number_is ∙ four)

  pub error_not_4 : LaptopSendsNothing (λ l. decide_error l l.wait) number state handed → ⊥
  error_not_4 p =
      never_four protocol_error (seen (waiting_side (port_from (lent state)).wait) (port_from (lent state))) nothing_lent [] (sym p.step_is.number_is ∙ four)

  pub message_not_4 : {side : Side} {bytes : List ℕ} {memory : LentMemory} → LaptopHears side bytes number state memory handed → ⊥
  message_not_4 {side} {bytes} {memory} p =
      never_four (message bytes) (seen side (port_from (lent state))) memory.entry [] (sym p.step_is.number_is ∙ four)

-- nor those of the catalogue; where the offset is above the number, the low eight bits are not 4
pub catalogue_not_4 : {held : HeldCatalogue} {run : List ℕ} {number : ℕ} {out : Lent (List ℕ)} {bytes : Lent ℕ} → number ≡ 4 →
    CatalogueCall held run number out bytes → ⊥
catalogue_not_4 {held} {run} {out = out} four p = catalogue_never_four held (length run) (length (lent out)) (sym p.number_is ∙ four)

low_not_4 : (number other at result : ℕ) → (number ≡ 0) ⊎ (number ≡ other) ⊎ ((15 ≤ number) × (number ≤ 18)) → 11 ≤ other → other ≤ 12 →
    result ≡ with_offset number at → result % 256 ≡ 4 → ⊥
low_not_4 number other at result (inl z) least most e four = omega arith
low_not_4 number other at result (inr (inl z)) least most e four = omega arith
low_not_4 number other at result (inr (inr z)) least most e four = omega arith

pub catalogue_read_not_4 : {bytes : List ℕ} {result : ℕ} {svids modes identity run sizes : Lent (List ℕ)} → result % 256 ≡ 4 →
    ReadCall bytes result svids modes identity run sizes → ⊥
catalogue_read_not_4 {bytes} {result} {run = run} four p =
    low_not_4 (read_of bytes (lent run)).refusal 11 (read_of bytes (lent run)).at result (only_these bytes (length (lent run))) (omega arith) (omega arith) p.result_is four

pub catalogue_stretch_not_4 : {bytes : List ℕ} {svid result : ℕ} {found : Lent ℕ} → result % 256 ≡ 4 → StretchCall bytes svid result found → ⊥
catalogue_stretch_not_4 {bytes} {svid} {result} four p =
    low_not_4 (place_of bytes svid).refusal 12 (place_of bytes svid).at result (stretch_only_these bytes svid) (omega arith) (omega arith) p.result_is four

pub catalogue_mend_not_4 : {bytes : List ℕ} {result : ℕ} {out kept : Lent (List ℕ)} → result % 256 ≡ 4 → MendCall bytes result out kept → ⊥
unfolding number_given
catalogue_mend_not_4 {bytes} {result} {out} four p =
    go (mended_number (mending_of bytes (lent out)).0) (mended_offset (mending_of bytes (lent out)).0) (number_given_lem bytes (lent out)) (file_only_these bytes) p.result_is
  where
    go : (n at : ℕ) → (n ≡ no_identity) ⊎ ((n ≡ short_buffer) ⊎ (n ≡ (judgement_of bytes).refusal)) →
        ((judgement_of bytes).refusal ≡ 0) ⊎ ((15 ≤ (judgement_of bytes).refusal) × ((judgement_of bytes).refusal ≤ 18)) → result ≡ with_offset n at → ⊥
    go n at (inl e) other is = omega arith
    go n at (inr (inl e)) other is = omega arith
    go n at (inr (inr e)) (inl none) is = omega arith
    go n at (inr (inr e)) (inr fault) is = omega arith

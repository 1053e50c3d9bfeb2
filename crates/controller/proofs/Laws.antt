-- What holds of the numbers that a caller lends, by the promises of the calls.
use mathlib.Core.Logic.{◌⊎◌, inl, inr}
use mathlib.Core.Path.{◌≡◌, refl, ap, sym, ◌∙◌}
use mathlib.Core.List.{List, []}
use Prim.Native.Nat.{ℕ}
use native.Mathlib.Omega.{arith}
use lib.ListN.{length, replicate}
use denote.Ref.{MutBor}
use Rattle.dock.specs.Data.{fresh_dock}
use Rattle.dock.specs.Dock.{Decision}
use Rattle.dock.specs.declared.Dock.{Dock}
use Rattle.laptop.specs.Calls.{Decision as LaptopDecision}
use Rattle.laptop.specs.Marks.{reported}
use Rattle.laptop.specs.State.{Memory, LentMemory}
use Rattle.laptop.specs.declared.Laptop.{Laptop}
use Rattle.catalogue.specs.Bytes.{HeldCatalogue}
use Rattle.owner.specs.Owner.{decide_next, decide_start_over, decide_drop, decide_enter, decide_exit}
use Rattle.timers.specs.Timers.{decide_timer, decide_error}
use Rattle.laptop_laws.specs.Effects.{message, next, start_over, drop, enter, exit, timer, protocol_error}
use Rattle.laptop_laws.proofs.Refusing.{refusal_state}
use Rattle.port.specs.Calls.{waiting_side}
use Rattle.port.specs.Sides.{own_of, seen, put_back, fresh_port}
use Rattle.port.specs.declared.Port.{Port}
use Rattle.port.specs.declared.Side.{Side}
use Rattle.controller.specs.CatalogueCall.{CatalogueCall}
use Rattle.controller.specs.CatalogueMending.{number_given, kept_given, MendCall}
use Rattle.controller.specs.CatalogueReading.{arrays_of, read_of, ReadCall, place_of, StretchCall}
use Rattle.judging.specs.Judging.{judgement_of}
use Rattle.rebuilding.proofs.Laws.{refused_leaves}
use Rattle.mending.specs.Mending.{no_identity, short_buffer, mend_refusal}
use Rattle.mending.specs.Mending.{Mended}
use Rattle.mending.proofs.Laws.{number_given_lem}
use Rattle.mending.proofs.Outcomes.{mending_refused}
use Rattle.controller.specs.Dock.{dock_from, dock_numbers}
use Rattle.controller.specs.DockCalls.{DockSendsNothing, DockSends, DockLoads}
use Rattle.controller.specs.LaptopCalls.{LaptopSendsNothing, LaptopSends, LaptopHears}
use Rattle.controller.specs.Port.{side_from, side_number, port_from, port_numbers, numbers_after}
use Rattle.laws.specs.Lent.{Lent, lent, left, leaving}
use Rattle.controller.proofs.DockNumbers.{from_numbers}
use Rattle.controller.proofs.DockNumbers.{Fits as DockFits}
use Rattle.controller.proofs.PortNumbers.{from_numbers as port_from_numbers}
use Rattle.controller.proofs.PortNumbers.{Fits, side_again, numbers_stand, numbers_stay}
use Rattle.controller.proofs.Only.{accepted_only, dock_step_only, laptop_step_only}
use Rattle.controller.proofs.Refusing.{LaptopLeft, nothing_lent, put_back_seen, dock_step_left, dock_buffer_left, laptop_left, owners_left, owners_buffer_left, memory_left, catalogue_left}
use Rattle.controller.proofs.Accepting.{refused_kept}

-- numbers made of a state stand for it
pub dock_again : (d : Dock) → DockFits d → dock_from (dock_numbers d) d.identity d.svids ≡ d
dock_again = from_numbers

pub port_again : (p : Port) → Fits p → port_from (port_numbers p) ≡ p
port_again = port_from_numbers

pub side_number_again : (side : Side) → side_from (side_number side) ≡ side
side_number_again = side_again

-- after a laptop's call the numbers stand for its port, and where that is the one that they stood for they are as they were lent
pub after_stands : (before : List ℕ) (p : Port) → Fits p → port_from (numbers_after before p) ≡ p
after_stands = numbers_stand

pub after_stays : (before : List ℕ) → numbers_after before (port_from before) ≡ before
after_stays = numbers_stay

-- so they are where a side's laptop is the one that it was
pub after_left_alone : (side : Side) (before : List ℕ) → numbers_after before (put_back side (seen side (port_from before)) (port_from before)) ≡ before
after_left_alone side before = ap (numbers_after before) (put_back_seen side (port_from before)) ∙ numbers_stay before

-- a refusal of a dock's call leaves all that was lent
module _ {decide : Dock → Decision} {number : ℕ} {state : Lent (List ℕ)} {identity svids : List ℕ} {bytes : Lent ℕ} (refused : number ≡ 0 → ⊥) where
  pub dock_sends_nothing_refusal : DockSendsNothing decide number state identity svids bytes → (left state ≡ lent state) × (left bytes ≡ lent bytes)
  dock_sends_nothing_refusal p = dock_step_left p.step_is refused

  pub dock_sends_refusal : {out : Lent (List ℕ)} → DockSends decide number state identity svids out bytes →
      (left state ≡ lent state) × (left bytes ≡ lent bytes) × (left out ≡ lent out)
  dock_sends_refusal p =
      let (state_left, bytes_left) = dock_step_left p.step_is refused in
      (state_left, bytes_left, dock_buffer_left p refused)

pub dock_loads_refusal : {new_identity new_svids : List ℕ} {number : ℕ} {state identity svids : Lent (List ℕ)} {bytes : Lent ℕ} → (number ≡ 0 → ⊥) →
    DockLoads new_identity new_svids number state identity svids bytes →
    (left state ≡ lent state) × (left identity ≡ lent identity) × (left svids ≡ lent svids) × (left bytes ≡ lent bytes)
dock_loads_refusal refused p =
    let (state_left, bytes_left) = dock_step_left p.step_is refused in
    (state_left, refused_kept _ refused p.identity_is, refused_kept _ refused p.svids_is, bytes_left)

-- a refusal of a laptop's call hands nothing over, and leaves the numbers of the state that 01 says of its side: those that were lent, but for 6 with a late page, 8 and 14
module _ {number : ℕ} {state handed : Lent (List ℕ)} (refused : number ≡ 0 → ⊥) where
  module _ (side : Side) (m : Memory) {out : Lent (List ℕ)} where
    pub next_refusal :
        LaptopSends side (λ l. decide_next l m.svids m.entered (length m.run) (length m.held_run)) (length m.run) (length m.held_run)
        number state out handed → LaptopLeft side next number state handed
    next_refusal p = owners_left side _ _ _ p refused next (refusal_state next (seen side (port_from (lent state))) m (lent out))

    pub start_over_refusal :
        LaptopSends side (λ l. decide_start_over l m.entered (length m.run) (length m.held_run)) (length m.run) (length m.held_run)
        number state out handed → LaptopLeft side start_over number state handed
    start_over_refusal p = owners_left side _ _ _ p refused start_over (refusal_state start_over (seen side (port_from (lent state))) m (lent out))

    pub drop_refusal :
        LaptopSends side (λ l. decide_drop l (length m.run) (length m.held_run)) (length m.run) (length m.held_run)
        number state out handed → LaptopLeft side drop number state handed
    drop_refusal p = owners_left side _ _ _ p refused drop (refusal_state drop (seen side (port_from (lent state))) m (lent out))

    pub enter_refusal : (svid position : ℕ) →
        LaptopSends side (λ l. decide_enter l m.held_svids m.held_modes m.entered (length m.run) (length m.held_run) svid position) (length m.run) (length m.held_run)
        number state out handed → LaptopLeft side (enter svid position) number state handed
    enter_refusal svid position p = owners_left side _ _ _ p refused (enter svid position) (refusal_state (enter svid position) (seen side (port_from (lent state))) m (lent out))

    pub exit_refusal : (svid position : ℕ) →
        LaptopSends side (λ l. decide_exit l m.held_svids m.held_modes m.entered (length m.run) (length m.held_run) svid position) (length m.run) (length m.held_run)
        number state out handed → LaptopLeft side (exit svid position) number state handed
    exit_refusal svid position p = owners_left side _ _ _ p refused (exit svid position) (refusal_state (exit svid position) (seen side (port_from (lent state))) m (lent out))

  pub timer_refusal : (first last : ℕ) → LaptopSendsNothing (λ l. decide_timer first last l l.wait) number state handed →
      LaptopLeft (waiting_side (port_from (lent state)).wait) (timer first last) number state handed
  timer_refusal first last p =
      let side : Side = waiting_side (port_from (lent state)).wait in
      laptop_left side (timer first last) _ (refusal_state (timer first last) (seen side (port_from (lent state))) nothing_lent []) p.step_is refused

  pub error_refusal : LaptopSendsNothing (λ l. decide_error l l.wait) number state handed →
      LaptopLeft (waiting_side (port_from (lent state)).wait) protocol_error number state handed
  error_refusal p =
      let side : Side = waiting_side (port_from (lent state)).wait in
      laptop_left side protocol_error _ (refusal_state protocol_error (seen side (port_from (lent state))) nothing_lent []) p.step_is refused

  pub message_refusal : {side : Side} {bytes : List ℕ} {memory : LentMemory} → LaptopHears side bytes number state memory handed →
      LaptopLeft side (message bytes) number state handed
  message_refusal {side} {bytes} {memory} p =
      laptop_left side (message bytes) _ (refusal_state (message bytes) (seen side (port_from (lent state))) memory.entry []) p.step_is refused

-- it leaves the output buffer, and all nine arrays and runs
pub laptop_sends_refusal : {side : Side} {decide : Laptop → LaptopDecision} {run held_run number : ℕ} {state out handed : Lent (List ℕ)} → (number ≡ 0 → ⊥) →
    LaptopSends side decide run held_run number state out handed → left out ≡ lent out
laptop_sends_refusal refused p = owners_buffer_left _ _ _ _ p refused

pub laptop_hears_refusal : {side : Side} {bytes : List ℕ} {number : ℕ} {state handed : Lent (List ℕ)} {memory : LentMemory} → (number ≡ 0 → ⊥) →
    LaptopHears side bytes number state memory handed → memory.exit ≡ memory.entry
laptop_hears_refusal refused p = memory_left p refused

-- a refusal of catalogue writing leaves the number of bytes and the output buffer
pub catalogue_refusal : {held : HeldCatalogue} {run : List ℕ} {number : ℕ} {out : Lent (List ℕ)} {bytes : Lent ℕ} → (number ≡ 0 → ⊥) →
    CatalogueCall held run number out bytes → (left bytes ≡ lent bytes) × (left out ≡ lent out)
catalogue_refusal refused p = (refused_kept _ refused p.bytes_is, catalogue_left p refused)

-- a refusal of reading leaves the sizes, the arrays and the run, and one of finding a stretch the length
pub catalogue_read_refusal : {bytes : List ℕ} {result : ℕ} {svids modes identity run sizes : Lent (List ℕ)} → ((read_of bytes (lent run)).refusal ≡ 0 → ⊥) →
    ReadCall bytes result svids modes identity run sizes →
    (left sizes ≡ lent sizes) × (arrays_of (left svids) (left modes) (left identity) (left run) ≡ arrays_of (lent svids) (lent modes) (lent identity) (lent run))
catalogue_read_refusal {bytes} {run = run} refused p = (
  refused_kept _ refused p.sizes_are,
  refused_leaves bytes _ (read_of bytes (lent run)) _ (record { result_is = refl; arrays_are = p.arrays_are }) refused,
)

pub catalogue_stretch_refusal : {bytes : List ℕ} {svid result : ℕ} {found : Lent ℕ} → ((place_of bytes svid).refusal ≡ 0 → ⊥) → StretchCall bytes svid result found →
    left found ≡ lent found
catalogue_stretch_refusal refused p = refused_kept _ refused p.length_is

-- one of mending leaves the buffer and what is kept; and 0 is given of a sound file alone
pub catalogue_mend_refusal : {bytes : List ℕ} {result : ℕ} {out kept : Lent (List ℕ)} (number : ℕ) → (number ≡ 0 → ⊥) →
    mend_refusal (judgement_of bytes) (length (lent out)) ≡ number → MendCall bytes result out kept → (left out ≡ lent out) × (left kept ≡ lent kept)
unfolding kept_given
catalogue_mend_refusal {bytes} {out = out} {kept} number other is p =
    let refused = mending_refused bytes (lent out) number other is in
    (p.buffer_is ∙ ap (λ (m : Mended × List ℕ). m.1) refused, p.kept_are ∙ ap (λ (m : Mended × List ℕ). kept_given m.0 (lent kept)) refused)

pub catalogue_mend_sound : {bytes : List ℕ} {result : ℕ} {out kept : Lent (List ℕ)} → result ≡ 0 → MendCall bytes result out kept → (judgement_of bytes).refusal ≡ 0
unfolding number_given
catalogue_mend_sound {bytes} {result} {out} zero p = go (number_given_lem bytes (lent out)) (omega (arith, zero, p.result_is))
  where
    go : {n : ℕ} → (n ≡ no_identity) ⊎ ((n ≡ short_buffer) ⊎ (n ≡ (judgement_of bytes).refusal)) → n ≡ 0 → (judgement_of bytes).refusal ≡ 0
    go (inl e) z = absurd (omega arith)
    go (inr (inl e)) z = absurd (omega arith)
    go (inr (inr e)) z = sym e ∙ z

-- of two results that a promise allows of one call, lent the same, all that is returned and left is the same
module _ {decide : Dock → Decision} {number number' : ℕ} {state : Lent (List ℕ)} {identity svids : List ℕ} {bytes : Lent ℕ}
    {state' : MutBor (List ℕ)} {bytes' : MutBor ℕ} where
  pub dock_sends_nothing_only : DockSendsNothing decide number state identity svids bytes →
      DockSendsNothing decide number' (leaving state state') identity svids (leaving bytes bytes') →
      (number ≡ number') × (left state ≡ state'.now) × (left bytes ≡ bytes'.now)
  dock_sends_nothing_only p p' = dock_step_only p.step_is p'.step_is

  pub dock_sends_only : {out : Lent (List ℕ)} {out' : MutBor (List ℕ)} → DockSends decide number state identity svids out bytes →
      DockSends decide number' (leaving state state') identity svids (leaving out out') (leaving bytes bytes') →
      ((number ≡ number') × (left state ≡ state'.now) × (left bytes ≡ bytes'.now)) × (left out ≡ out'.now)
  dock_sends_only p p' = (dock_step_only p.step_is p'.step_is, p.buffer_is ∙ sym p'.buffer_is)

pub dock_loads_only : {new_identity new_svids : List ℕ} {number number' : ℕ} {state identity svids : Lent (List ℕ)} {bytes : Lent ℕ}
    {state' identity' svids' : MutBor (List ℕ)} {bytes' : MutBor ℕ} → DockLoads new_identity new_svids number state identity svids bytes →
    DockLoads new_identity new_svids number' (leaving state state') (leaving identity identity') (leaving svids svids') (leaving bytes bytes') →
    ((number ≡ number') × (left state ≡ state'.now) × (left bytes ≡ bytes'.now)) × (left identity ≡ identity'.now) × (left svids ≡ svids'.now)
dock_loads_only {identity = identity} {svids = svids} p p' =
    let step_same = dock_step_only p.step_is p'.step_is in
    (step_same, accepted_only _ (lent identity) step_same.0 p.identity_is p'.identity_is, accepted_only _ (lent svids) step_same.0 p.svids_is p'.svids_is)

module _ {number number' : ℕ} {state handed : Lent (List ℕ)} {state' handed' : MutBor (List ℕ)} where
  pub laptop_sends_nothing_only : {decide : Laptop → LaptopDecision} → LaptopSendsNothing decide number state handed →
      LaptopSendsNothing decide number' (leaving state state') (leaving handed handed') →
      (number ≡ number') × (left state ≡ state'.now) × (left handed ≡ handed'.now)
  laptop_sends_nothing_only p p' = laptop_step_only p.step_is p'.step_is

  pub laptop_sends_only : {side : Side} {decide : Laptop → LaptopDecision} {run held_run : ℕ} {out : Lent (List ℕ)} {out' : MutBor (List ℕ)} →
      LaptopSends side decide run held_run number state out handed →
      LaptopSends side decide run held_run number' (leaving state state') (leaving out out') (leaving handed handed') →
      ((number ≡ number') × (left state ≡ state'.now) × (left handed ≡ handed'.now)) × (left out ≡ out'.now)
  laptop_sends_only p p' = (laptop_step_only p.step_is p'.step_is, p.buffer_is ∙ sym p'.buffer_is)

  pub laptop_hears_only : {side : Side} {bytes : List ℕ} {before after after' : Memory} →
      LaptopHears side bytes number state (record { entry = before; exit = after }) handed →
      LaptopHears side bytes number' (leaving state state') (record { entry = before; exit = after' }) (leaving handed handed') →
      ((number ≡ number') × (left state ≡ state'.now) × (left handed ≡ handed'.now)) × (after ≡ after')
  laptop_hears_only p p' = (laptop_step_only p.step_is p'.step_is, p.memory_is ∙ sym p'.memory_is)

pub catalogue_only : {held : HeldCatalogue} {run : List ℕ} {number number' : ℕ} {out : Lent (List ℕ)} {bytes : Lent ℕ} {out' : MutBor (List ℕ)}
    {bytes' : MutBor ℕ} → CatalogueCall held run number out bytes → CatalogueCall held run number' (leaving out out') (leaving bytes bytes') →
    (number ≡ number') × (left bytes ≡ bytes'.now) × (left out ≡ out'.now)
catalogue_only {bytes = bytes} p p' =
    let same = p.number_is ∙ sym p'.number_is in
    (same, accepted_only _ (lent bytes) same p.bytes_is p'.bytes_is, p.buffer_is ∙ sym p'.buffer_is)

pub catalogue_read_only : {bytes : List ℕ} {result result' : ℕ} {svids modes identity run sizes : Lent (List ℕ)} {svids' modes' identity' run' sizes' : MutBor (List ℕ)} →
    ReadCall bytes result svids modes identity run sizes →
    ReadCall bytes result' (leaving svids svids') (leaving modes modes') (leaving identity identity') (leaving run run') (leaving sizes sizes') →
    (result ≡ result') × (left sizes ≡ sizes'.now) × (arrays_of (left svids) (left modes) (left identity) (left run) ≡ arrays_of svids'.now modes'.now identity'.now run'.now)
catalogue_read_only p p' = (p.result_is ∙ sym p'.result_is, p.sizes_are ∙ sym p'.sizes_are, p.arrays_are ∙ sym p'.arrays_are)

pub catalogue_stretch_only : {bytes : List ℕ} {svid result result' : ℕ} {found : Lent ℕ} {found' : MutBor ℕ} → StretchCall bytes svid result found →
    StretchCall bytes svid result' (leaving found found') → (result ≡ result') × (left found ≡ found'.now)
catalogue_stretch_only p p' = (p.result_is ∙ sym p'.result_is, p.length_is ∙ sym p'.length_is)

pub catalogue_mend_only : {bytes : List ℕ} {result result' : ℕ} {out kept : Lent (List ℕ)} {out' kept' : MutBor (List ℕ)} → MendCall bytes result out kept →
    MendCall bytes result' (leaving out out') (leaving kept kept') → (result ≡ result') × (left out ≡ out'.now) × (left kept ≡ kept'.now)
catalogue_mend_only p p' = (p.result_is ∙ sym p'.result_is, p.buffer_is ∙ sym p'.buffer_is, p.kept_are ∙ sym p'.kept_are)

-- a fresh dock, a fresh laptop, and the report
pub dock_fresh_only : {state identity svids state' identity' svids' : List ℕ} →
    (state ≡ dock_numbers fresh_dock) × (identity ≡ fresh_dock.identity) × (svids ≡ fresh_dock.svids) →
    (state' ≡ dock_numbers fresh_dock) × (identity' ≡ fresh_dock.identity) × (svids' ≡ fresh_dock.svids) →
    (state ≡ state') × (identity ≡ identity') × (svids ≡ svids')
dock_fresh_only p p' = (p.0 ∙ sym p'.0, p.1 ∙ sym p'.1, p.2 ∙ sym p'.2)

pub laptop_fresh_only : {state partner cable state' partner' cable' : List ℕ} →
    (state ≡ port_numbers fresh_port) × (partner ≡ replicate 72 0) × (cable ≡ replicate 72 0) →
    (state' ≡ port_numbers fresh_port) × (partner' ≡ replicate 72 0) × (cable' ≡ replicate 72 0) →
    (state ≡ state') × (partner ≡ partner') × (cable ≡ cable')
laptop_fresh_only p p' = (p.0 ∙ sym p'.0, p.1 ∙ sym p'.1, p.2 ∙ sym p'.2)

pub report_only : (side : Side) (state held_svids entered : List ℕ) (svid number number' : ℕ) →
    number ≡ reported (own_of side (port_from state)).held held_svids entered svid →
    number' ≡ reported (own_of side (port_from state)).held held_svids entered svid → number ≡ number'
report_only side state held_svids entered svid number number' e e' = e ∙ sym e'

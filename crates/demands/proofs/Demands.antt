-- The three demands, as theorems about the definitions that the promises of the code cite. Every public function promises that its result is the
-- one that its definition gives, for all arguments: it has no `requires`, and it finishes (docs/PROMISES.md).
use mathlib.Core.Logic.{◌⊎◌, ◌↔◌}
use mathlib.Core.Path.{◌≡◌}
use mathlib.Core.Bool.{true, false}
use mathlib.Core.List.{List, [], ◌∷◌, ◌++◌}
use Prim.Native.Nat.{ℕ, ◌+◌, ◌-◌, ◌*◌, ◌/◌, ◌^◌, ◌<◌, ◌≤◌}
use lib.ListN.{length, get_or, take, replicate}
use Rattle.laws.specs.Bounded.{Below}
use Rattle.messages.specs.Editions.{ours, lower}
use Rattle.messages.specs.Layout.{reserved, req, nak, Message, Representable, message_bytes, with_version, with_reserved_clear, with_reserved_set}
use Rattle.messages.specs.Reading.{header_in, accepted, read_outcome}
use Rattle.messages.specs.Requests.{attention_command, request_of}
use Rattle.messages.specs.Writing.{well_shaped, Written}
use Rattle.messages.specs.declared.edition.Edition.{Edition}
use Rattle.messages.specs.declared.request.Request.{Request}
use Rattle.messages.proofs.Editions.{LowerOf, lower_of}
use Rattle.messages.proofs.Laws.{write_read}
use Rattle.messages.proofs.Reserved.{reserved_ignored, clear_and_set, set_as_clear}
use Rattle.messages.proofs.RoundTrip.{read_bytes}
use Rattle.pages.specs.Lists.{is_in, sound_list}
use Rattle.pages.specs.Pages.{halves, page, is_last, remaining, read_off, pages, read_pages}
use Rattle.taking.specs.Taking.{verdict}
use Rattle.taking.specs.Words.{RepeatPage, BadPage}
use Rattle.taking.specs.declared.Verdict.TheVariants.{Bad, More, Ends}
use Rattle.taking.proofs.Gathering.{take_more, take_last}
use Rattle.taking.proofs.Words.{bad_exactly}
use Rattle.dock.specs.Data.{listed, good_data, fresh_dock, loaded}
use Rattle.dock.specs.Dock.{Decision, refused_by, step_of, buffer_of, reply}
use Rattle.dock.specs.Sound.{Sound}
use Rattle.dock.specs.declared.Dock.{Dock}
use Rattle.dock.specs.declared.Policy.{Policy}
use Rattle.dock.specs.declared.Standing.TheVariants.{Ready}
use Rattle.dock.proofs.Laws.{refusal_leaves as refusal_leaves_of_dock}
use Rattle.dock.proofs.Laws.{dock_pages}
use Rattle.laptop.specs.Calls.{refused_by as laptop_refused_by}
use Rattle.laptop.specs.State.{Memory, fresh_laptop, identity_request}
use Rattle.owner.specs.Owner.{any_entered}
use Rattle.laptop.specs.declared.Candidate.TheVariants.{Absent}
use Rattle.laptop.specs.declared.Laptop.{Laptop}
use Rattle.std.specs.Prelude.{Some, None}
use Rattle.laptop_laws.specs.Effects.{Call, effect_of, Kept, kept_after}
use Rattle.laptop_laws.specs.Editions.{identity_out, acknowledged, edition_by, request_edition, SentAt, NoIdentityOut, NoneAcknowledged}
use Rattle.laptop_laws.specs.Given.{ShortRun, AnyEntered, Given}
use Rattle.laptop_laws.specs.Refusing.{RefusedAs}
use Rattle.laptop_laws.specs.Reserved.{reserved_clear, all_reserved_clear}
use Rattle.laptop_laws.specs.WellFormed.{Lent, WellFormed}
use Rattle.laptop_laws.proofs.Given.{given_exactly}
use Rattle.laptop_laws.proofs.Laws.{keeps}
use Rattle.laptop_laws.proofs.Leaves.{refusal_leaves}
use Rattle.laptop_laws.proofs.Refusing.{refusal_state}
use Rattle.laptop_laws.proofs.Reserved.{effect_same, kept_same}
use Rattle.dock_laws.specs.Effects.{Call as DockCall}
use Rattle.dock_laws.specs.Effects.{effect_of as dock_effect_of}
use Rattle.dock_laws.specs.Effects.{message as dock_message}
use Rattle.dock_laws.specs.Effects.{policy_answer, decision, dock_after}
use Rattle.dock_laws.specs.Editions.{edition_by as dock_edition_by}
use Rattle.dock_laws.specs.Editions.{edition_after as dock_edition_after}
use Rattle.dock_laws.specs.Editions.{SentAt as DockSentAt}
use Rattle.dock_laws.specs.Editions.{request, newest_in}
use Rattle.dock_laws.specs.Given.{Given as DockGiven}
use Rattle.dock_laws.specs.Given.{HasToSend}
use Rattle.dock_laws.specs.Reserved.{reserved_clear as dock_reserved_clear}
use Rattle.dock_laws.specs.Reserved.{all_reserved_clear as dock_all_reserved_clear}
use Rattle.dock_laws.proofs.Editions.{edition_after_lem, edition_newest}
use Rattle.dock_laws.proofs.Given.{given_exactly as given_exactly_of_dock}
use Rattle.dock_laws.proofs.Reserved.{effect_same as dock_effect_same}
use Rattle.dock_laws.proofs.Reserved.{dock_same}
use Rattle.dock_laws.proofs.SentAt.{sent_at as dock_sent_at}
use Rattle.dock_laws.proofs.SentAt.{answered_at, nak_at}
use Rattle.catalogue.specs.Bytes.{end_kind, catalogue_bytes, written_into, HeldCatalogue, holding, held_catalogue, CatalogueWritten}
use Rattle.catalogue.specs.Bytes.{Bytes}
use Rattle.catalogue.proofs.Laws.{refused_leaves}
use Rattle.laptop.specs.Catalogue.{Catalogue, catalogue_in}
use Rattle.records.specs.declared.Record.{Record}
use Rattle.judging.specs.Judging.{judgement, judgement_of}
use Rattle.judging.specs.Walking.{svids_of, all_modes, walk_of, may_follow}
use Rattle.catalogue_laws.specs.Given.{Given as FileGiven}
use Rattle.catalogue_laws.specs.Within.{Within}
use Rattle.catalogue_laws.specs.Words.{Wrong}
use Rattle.catalogue_laws.proofs.Beginnings.{beginning_cut}
use Rattle.catalogue_laws.proofs.Given.{given_exactly as given_exactly_of_file}
use Rattle.catalogue_laws.proofs.Limits.{accepted_within}
use Rattle.catalogue_laws.proofs.ReadWrite.{read_write}
use Rattle.catalogue_laws.proofs.Words.{wrong_exactly}
use Rattle.catalogue_laws.proofs.WriteRead.{write_read as catalogue_write_read}
use Rattle.rebuilding.specs.Rebuilding.{Arrays, CatalogueRead}
use Rattle.rebuilding.specs.Rebuilding.{Rebuilt}
use Rattle.rebuilding.proofs.Holding.{read_holds}
use Rattle.rebuilding.proofs.Laws.{refused_leaves as reading_refused_leaves}
use Rattle.stretches.specs.Stretches.{stretch_in}
use Rattle.stretches.proofs.Laws.{not_listed_exactly}
use Rattle.mending.specs.Beginning.{BeginningOf}
use Rattle.mending.specs.Mending.{kept_of, kept_bytes, mend_refusal, report_of, mending_of}
use Rattle.mending.specs.Words.{AtFront}
use Rattle.mending.specs.Mending.{Refused as MendedRefused}
use Rattle.mending.specs.Mending.{Sound as MendedSound}
use Rattle.mending.specs.declared.keeping.Kept.{Kept as MendingKept}
use Rattle.mending.proofs.Cutting.{cut_begins, nothing_behind}
use Rattle.mending.proofs.Front.{kept_before, kept_front}
use Rattle.mending.proofs.Fronts.{identity_exactly, refused_19_exactly, refused_11_exactly}
use Rattle.mending.proofs.Laws.{sound_mended, mended_again, report_true, only_sound, front_mended}
use Rattle.mending.proofs.Outcomes.{mending_refused}
use Rattle.mending.proofs.Within.{mended_accepted}
use Rattle.demands.specs.Numbers.{AnyCall, number_given}
use Rattle.demands.proofs.HeldWithin.{Wide, held_within, held_reads}
use Rattle.demands.proofs.NeverFour.{never_four}
use Rattle.port.specs.Sides.{is_others, seen, stepped_on}
use Rattle.port.specs.declared.Port.{Port}
use Rattle.port.specs.declared.Side.{Side}
use Rattle.port_laws.specs.Cases.{given as port_given}
use Rattle.port_laws.specs.Cases.{said as port_said}
use Rattle.port_laws.specs.Effects.{Call as PortCall}
use Rattle.port_laws.specs.Effects.{message as port_message}
use Rattle.port_laws.specs.Effects.{next as port_next}
use Rattle.port_laws.specs.Effects.{effect_of as port_effect_of}
use Rattle.port_laws.specs.Effects.{Kept as PortKept}
use Rattle.port_laws.specs.Effects.{kept_after as port_kept_after}
use Rattle.port_laws.specs.Effects.{is_owners, of_side, effect_seen, effect_in, kept_by_of}
use Rattle.port_laws.specs.Editions.{said_on, said_over_on}
use Rattle.port_laws.specs.Given.{Given as PortGiven}
use Rattle.port_laws.specs.Leaving.{is_others_call, is_blocked, is_left_out, leaving, without_others, NoneRefusedSeven}
use Rattle.port_laws.specs.Refusing.{RefusedAs as PortRefusedAs}
use Rattle.port_laws.specs.Refusing.{left_by_unawaited}
use Rattle.port_laws.specs.Reserved.{reserved_clear as port_reserved_clear}
use Rattle.port_laws.specs.Reserved.{all_reserved_clear as port_all_reserved_clear}
use Rattle.port_laws.specs.WellFormed.{WellFormedOn}
use Rattle.port_laws.proofs.Cases.{cases_hold as port_cases_hold}
use Rattle.port_laws.proofs.Editions.{edition_on, sent_on, sent_since_acknowledged, since_identity}
use Rattle.port_laws.proofs.Given.{given_exactly as given_exactly_of_port}
use Rattle.port_laws.proofs.Given.{seven_exactly, thirteen_by_own}
use Rattle.port_laws.proofs.Isolation.{ShareIs, share_is_a_laptops, SameShare, isolated, isolated_as_02}
use Rattle.port_laws.proofs.Keeping.{keeps as port_keeps}
use Rattle.port_laws.proofs.OneCall.{AsLaptop, ChangesNothing, others_change_nothing, own_as_laptop, blocked_changes_nothing}
use Rattle.port_laws.proofs.Refusing.{refusal_leaves as refusal_leaves_of_port}
use Rattle.port_laws.proofs.Refusing.{refusal_state as refusal_state_of_port}
use Rattle.port_laws.proofs.Refusing.{six_from_the_other_side}
use Rattle.port_laws.proofs.Reserved.{effect_same as port_effect_same}
use Rattle.port_laws.proofs.Reserved.{kept_same as port_kept_same}
use Rattle.links.specs.Joint.{Joint, far_end, system_seen, kept_in_of, is_message, is_unheard}
use Rattle.links.specs.Joint.{Event as JointEvent}
use Rattle.links.specs.Joint.{calls as joint_calls}
use Rattle.links.specs.Joint.{arrive as joint_arrive}
use Rattle.links.specs.Joint.{step as joint_step}
use Rattle.links.specs.Joint.{run as joint_run}
use Rattle.links.specs.Share.{one_sided_event, is_away, share, exchanges_on, to_rest_on}
use Rattle.links.proofs.Faithful.{unheard_changes_nothing, arrival_is_a_message}
use Rattle.links.proofs.OnSides.{begins_on, whole_on, exchanges_shared, old_or_whole_on, lowered_on, raised_on, replaced_on, counted_on, completed_on, ends_on, asks_on, never_bad_on, requests_on}
use Rattle.links.proofs.Shares.{away_changes_nothing, near_is_01s}
use Rattle.links.proofs.ToRest.{no_dead_end_on}
use Rattle.link.specs.Cases.{cases, case_l, given, said}
use Rattle.link.specs.Editions.{edition_cases}
use Rattle.link.specs.Demand.{Meets, AtRest, Begins, whole, Holds, apart, OldOrWhole, Lowers, Replaces, Counts, Completes, Raises, EndsBy, NeverBad, RequestTaken}
use Rattle.link.specs.Exchanges.{HasAll, exchange, times, LossFree, NoDeadEnd, NextAsks}
use Rattle.link.specs.Freedoms.{runs}
use Rattle.link.specs.Seeing.{differing}
use Rattle.link.specs.Joined.{System, Event, calls}
use Rattle.link.specs.Link.{step, run}
use Rattle.link.specs.Needed.{needed, received, in_all_of, on_way}
use Rattle.link.specs.Permits.{Permits}
use Rattle.link.proofs.Cases.{cases_hold, editions_hold}
use Rattle.link.proofs.Freedoms.{runs_hold}
use Rattle.unharmed.proofs.Permitted.{permits}
use Rattle.unharmed.proofs.Premises.{loaded_meets, loaded_has_all, rests_after}
use Rattle.unharmed.specs.Reserved.{system_with, Alike, LeadsTo}
use Rattle.unharmed.proofs.Laws.{begins_with, old_or_whole, never_bad_there, request_taken}
use Rattle.unharmed.proofs.Reserved.{set_alike, leads_alike, old_or_whole_alike}
use Rattle.progress.proofs.Asking.{asks_for_what_is_needed}
use Rattle.progress.proofs.DeadEnd.{no_dead_end}
use Rattle.progress.proofs.LossFree.{loss_free}
use Rattle.progress.proofs.Laws.{in_all, lowered_by_one, raised_by, replaced_at_zero, pages_counted, completed, ends_only_by}

-- DEMAND 1. The laptop: a refusal changes no lent byte, whatever the call and whatever the state,
pub laptop_refusal_leaves : (c : Call) (l : Laptop) (m : Memory) (out : List ℕ) → ((effect_of c l m out).step.refusal ≡ 0 → ⊥) →
    ((effect_of c l m out).after ≡ m) × ((effect_of c l m out).buffer ≡ out)
laptop_refusal_leaves = refusal_leaves

-- and does to the state what 01 says of its number.
pub laptop_refusal_state : (c : Call) (l : Laptop) (m : Memory) (out : List ℕ) → RefusedAs c l (effect_of c l m out).step
laptop_refusal_state = refusal_state

-- The port, of which each side is such a laptop (02, R-4): the same, of what its side is lent; nothing of the other side changes.
pub port_refusal_leaves : (c : PortCall) (p : Port) (m : Memory) (out : List ℕ) → ((port_effect_of c p m out).step.refusal ≡ 0 → ⊥) →
    ((port_effect_of c p m out).after ≡ m) × ((port_effect_of c p m out).buffer ≡ out)
port_refusal_leaves = refusal_leaves_of_port

pub port_refusal_state : (c : PortCall) (p : Port) (m : Memory) (out : List ℕ) → PortRefusedAs c p (port_effect_of c p m out).step
port_refusal_state = refusal_state_of_port

-- The dock: a refusal sends nothing, leaves the state alone and changes no lent byte.
pub dock_refusal_leaves : (d : Dock) (x : Decision) (out : List ℕ) → ((step_of d x (length out)).refusal ≡ 0 → ⊥) →
    (step_of d x (length out) ≡ refused_by (step_of d x (length out)).refusal d) × (buffer_of x out ≡ out)
dock_refusal_leaves = refusal_leaves_of_dock

-- Each number is given exactly when 01's line says, whatever the call, the state and the buffer: to the laptop,
pub laptop_given_exactly : (c : Call) (l : Laptop) (m : Memory) (out : List ℕ) (number : ℕ) →
    ((effect_of c l m out).step.refusal ≡ number) ↔ Given number c l m out
laptop_given_exactly = given_exactly

-- to the port, 7 exactly when either side waits,
pub port_given_exactly : (c : PortCall) (p : Port) (m : Memory) (out : List ℕ) (number : ℕ) →
    ((port_effect_of c p m out).step.refusal ≡ number) ↔ PortGiven number c p m out
port_given_exactly = given_exactly_of_port

pub port_seven_exactly : (c : PortCall) (p : Port) (m : Memory) (out : List ℕ) → is_owners c ≡ true → (ShortRun m → ⊥) →
    ((port_effect_of c p m out).step.refusal ≡ 7) ↔ (p.wait ≡ None → ⊥)
port_seven_exactly = seven_exactly

-- to the dock,
pub dock_given_exactly : (c : DockCall) (d : Dock) (out : List ℕ) (number : ℕ) → (number ≡ 0 → ⊥) →
    ((dock_effect_of c d out).refusal ≡ number) ↔ DockGiven c d out number
dock_given_exactly = given_exactly_of_dock

-- and a page is bad exactly when it is no repeat and one of 01's four.
pub bad_page_exactly : (list values : List ℕ) → (verdict list values ≡ Bad) ↔ ((RepeatPage list values → ⊥) × BadPage list values)
bad_page_exactly = bad_exactly

-- Writing the catalogue: a refusal writes nothing.
pub catalogue_refusal_leaves : (held : HeldCatalogue) (words : ℕ) (out : List ℕ) (result : Bytes) (after : List ℕ) →
    CatalogueWritten held words out result after → (result.refusal ≡ 0 → ⊥) → (result.length ≡ 0) × (after ≡ out)
catalogue_refusal_leaves = refused_leaves

-- DEMAND 2. Reading what was written at an edition gives it again, with that edition (02, R-5),
pub read_what_was_written : (at : Edition) (m : Message) → Representable m → well_shaped m ≡ true → read_outcome (message_bytes at m) ≡ accepted at m
read_what_was_written = read_bytes

-- writing what was read at its own edition gives the same bytes with bit 5 cleared (02, R-2) and the version bits in that edition's form (02, R-5),
pub write_what_was_read : (b : List ℕ) → Below 256 b → (at : Edition) (m : Message) → read_outcome b ≡ accepted at m → (out : List ℕ) → length out ≡ length b →
    Written at m out 0 (with_version at (with_reserved_clear b))
write_what_was_read = write_read

-- a dock's n / 12 + 1 pages, read off in order, are its list,
pub pages_are_the_list : (d : Dock) → Sound d → Below (2 ^ 16) (listed d) → read_pages (pages (listed d) (length (listed d) / 12 + 1)) ≡ listed d
pages_are_the_list = dock_pages

-- page p taken after the first 12 p SVIDs gives the first 12 (p + 1),
pub page_taken : (list : List ℕ) (p : ℕ) → Below (2 ^ 16) list → sound_list list ≡ true → length list ≤ 72 → is_last list p ≡ false →
    (verdict (take (p * 12) list) (halves (page list p)) ≡ More) × (take (p * 12) list ++ halves (page list p) ≡ take (p * 12 + 12) list)
page_taken = take_more

-- and the last page the whole list;
pub last_page_taken : (list : List ℕ) (p : ℕ) → Below (2 ^ 16) list → sound_list list ≡ true → length list ≤ 72 → is_last list p ≡ true →
    p * 12 ≤ length list → 0 < length list →
    (verdict (take (p * 12) list) (halves (page list p)) ≡ Ends (length (remaining list p))) ×
    (take (p * 12) list ++ read_off (halves (page list p)) ≡ list)
last_page_taken = take_last

-- 01's cases 1 to 12 and Case L give what 01 says,
pub every_case : (given cases ≡ said cases) × (given case_l ≡ said case_l)
every_case = cases_hold

-- and so do runs over the link, for each sentence of 01's section on it that permits or forbids something: none gives another list than is written beside it.
pub every_run : differing runs ≡ []
every_run = runs_hold

-- The link permits what that section grants, in every state: losses, late answers, BUSY, early and late confirmations, for every list and every SVID.
pub link_permits : (modes_of : ℕ → List ℕ) (s : System) → Permits modes_of s
link_permits = permits

-- RESERVED MEANS IGNORED (02, R-2). A message with bit 5 set gets exactly what it would get with bit 5 clear: when it is read,
pub read_with_bit_5_set : (bytes : List ℕ) → read_outcome (with_reserved_set bytes) ≡ read_outcome (with_reserved_clear bytes)
read_with_bit_5_set = set_as_clear

pub bit_5_is_what_differs : (bytes : List ℕ) → 4 ≤ length bytes → (reserved (header_in (with_reserved_clear bytes)) ≡ 0) × (reserved (header_in (with_reserved_set bytes)) ≡ 1)
bit_5_is_what_differs = clear_and_set

pub read_whatever_bit_5 : (bytes : List ℕ) → read_outcome (with_reserved_clear bytes) ≡ read_outcome bytes
read_whatever_bit_5 = reserved_ignored

-- at the laptop, in number, message to send, what policy is told, state, all that is lent, and buffer, and so after any history,
pub laptop_whatever_bit_5 : (c : Call) (l : Laptop) (m : Memory) (out : List ℕ) → effect_of (reserved_clear c) l m out ≡ effect_of c l m out
laptop_whatever_bit_5 = effect_same

pub laptop_history_whatever_bit_5 : (history : List (Call × List ℕ)) (k : Kept) → kept_after (all_reserved_clear history) k ≡ kept_after history k
laptop_history_whatever_bit_5 = kept_same

-- at the port, on both sides,
pub port_whatever_bit_5 : (c : PortCall) (p : Port) (m : Memory) (out : List ℕ) → port_effect_of (port_reserved_clear c) p m out ≡ port_effect_of c p m out
port_whatever_bit_5 = port_effect_same

pub port_history_whatever_bit_5 : (history : List (PortCall × List ℕ)) (k : PortKept) →
    port_kept_after (port_all_reserved_clear history) k ≡ port_kept_after history k
port_history_whatever_bit_5 = port_kept_same

-- and at the dock.
pub dock_whatever_bit_5 : (c : DockCall) (d : Dock) (out : List ℕ) →
    (dock_effect_of (dock_reserved_clear c) d out ≡ dock_effect_of c d out) ×
    (buffer_of (decision (dock_reserved_clear c) d) out ≡ buffer_of (decision c d) out)
dock_whatever_bit_5 = dock_effect_same

pub dock_history_whatever_bit_5 : (history : List (DockCall × List ℕ)) (d : Dock) → dock_after (dock_all_reserved_clear history) d ≡ dock_after history d
dock_history_whatever_bit_5 = dock_same

-- 4 is never given again: no public function answers it, whatever it is lent.
pub four_is_never_given : (c : AnyCall) → number_given c ≡ 4 → ⊥
four_is_never_given = never_four

-- THE CATALOGUE READ BACK (02, R-1). What the writer wrote for a catalogue within 01's limits reads as that catalogue,
pub read_what_the_writer_wrote : (c : Catalogue) → Within c → judgement_of (catalogue_bytes c) ≡ judgement 0 (length (catalogue_bytes c)) c
read_what_the_writer_wrote = read_write

-- every catalogue that a well-formed laptop holds is within them, so that each that is ever held is; what is written of it reads as it,
pub held_is_within : (l : Laptop) (m : Memory) → WellFormed l m → length m.held_identity ≡ 6 → Wide m → (c : Catalogue) →
    held_catalogue l.held m.held_identity m.held_svids m.held_modes m.held_run ≡ holding c → Within c
held_is_within = held_within

pub held_reads_back : (l : Laptop) (m : Memory) → WellFormed l m → length m.held_identity ≡ 6 → Wide m → (c : Catalogue) →
    held_catalogue l.held m.held_identity m.held_svids m.held_modes m.held_run ≡ holding c → (out : List ℕ) (result : Bytes) (after : List ℕ) →
    CatalogueWritten (held_catalogue l.held m.held_identity m.held_svids m.held_modes m.held_run) (length m.held_run) out result after →
    result.refusal ≡ 0 → judgement_of (take result.length after) ≡ judgement 0 result.length c
held_reads_back = held_reads

-- and accepted bytes, written again, are the same bytes, of a catalogue within them.
pub write_what_was_accepted : (bytes : List ℕ) → Below 256 bytes → (judgement_of bytes).refusal ≡ 0 →
    (catalogue_bytes (judgement_of bytes).catalogue ≡ bytes) × Within (judgement_of bytes).catalogue
write_what_was_accepted bytes b none = (catalogue_write_read bytes b none, accepted_within bytes b none)

-- Each of 15 to 18 is given exactly when 02 says, at the record that it says; 17 for its reasons alone;
pub file_given_exactly : (bytes : List ℕ) (number at : ℕ) (c : Catalogue) → (judgement_of bytes ≡ judgement number at c) ↔ FileGiven bytes number at c
file_given_exactly = given_exactly_of_file

pub out_of_order_exactly : (at : ℕ) (c : Catalogue) (r : Record) → (may_follow (walk_of at c) (svids_of c.entries) r ≡ false) ↔ Wrong c r
out_of_order_exactly = wrong_exactly

-- every beginning of a sound file is 16.
pub beginnings_are_cut : (bytes : List ℕ) → (judgement_of bytes).refusal ≡ 0 → (k : ℕ) → k < length bytes → (judgement_of (take k bytes)).refusal ≡ 16
beginnings_are_cut = beginning_cut

-- A refusal changes no lent word; what is accepted stands in what was lent, as the laptop's definitions read it;
pub reading_refusal_leaves : (bytes : List ℕ) (before : Arrays) (result : Rebuilt) (after : Arrays) → CatalogueRead bytes before result after →
    (result.refusal ≡ 0 → ⊥) → after ≡ before
reading_refusal_leaves = reading_refused_leaves

pub reading_rebuilds : (bytes : List ℕ) → Below 256 bytes → (before : Arrays) (result : Rebuilt) (after : Arrays) → CatalogueRead bytes before result after →
    result.refusal ≡ 0 →
    catalogue_in (record { extent = result.extent; count = result.count }) after.identity after.svids after.numbers after.run ≡ (judgement_of bytes).catalogue
reading_rebuilds = read_holds

-- and 12 says that the file is sound and the SVID is not in it.
pub twelve_exactly : (bytes : List ℕ) (svid : ℕ) →
    ((stretch_in (judgement_of bytes) svid).refusal ≡ 12) ↔ (((judgement_of bytes).refusal ≡ 0) × (is_in svid (svids_of (judgement_of bytes).catalogue.entries) ≡ false))
twelve_exactly = not_listed_exactly

-- A DAMAGED CATALOGUE MENDED (02, R-6). It is refused 19 exactly where no whole identity stands at the front, then 11 exactly where the second buffer is shorter
-- than what comes out; neither writes anything.
pub nineteen_exactly : (bytes : List ℕ) (room : ℕ) → (mend_refusal (judgement_of bytes) room ≡ 19) ↔ (AtFront bytes → ⊥)
nineteen_exactly = refused_19_exactly

pub eleven_exactly : (bytes : List ℕ) (room : ℕ) → (mend_refusal (judgement_of bytes) room ≡ 11) ↔ (AtFront bytes × (room < length (kept_bytes (judgement_of bytes))))
eleven_exactly = refused_11_exactly

pub mending_refusal_leaves : (bytes out : List ℕ) (number : ℕ) → (number ≡ 0 → ⊥) → mend_refusal (judgement_of bytes) (length out) ≡ number →
    mending_of bytes out ≡ (MendedRefused number, out)
mending_refusal_leaves = mending_refused

-- A sound file comes out the same, and only a sound file is called sound.
pub sound_comes_out_the_same : (bytes : List ℕ) → Below 256 bytes → (judgement_of bytes).refusal ≡ 0 → (out : List ℕ) → length bytes ≤ length out →
    mending_of bytes out ≡ (MendedSound (report_of (judgement_of bytes)), written_into out bytes)
sound_comes_out_the_same = sound_mended

pub only_a_sound_file_is_called_sound : (bytes out : List ℕ) (kept : MendingKept) → (mending_of bytes out).0 ≡ MendedSound kept → (judgement_of bytes).refusal ≡ 0
only_a_sound_file_is_called_sound = only_sound

module _ (bytes : List ℕ) (b : Below 256 bytes) (begun : AtFront bytes) where
  -- what comes out of a file with its identity
  abbrev mended : List ℕ
  mended = kept_bytes (judgement_of bytes)

  -- is always accepted, and reads as what was kept;
  pub mended_is_accepted : judgement_of mended ≡ judgement 0 (length mended) (kept_of (judgement_of bytes).catalogue)
  mended_is_accepted = mended_accepted bytes b ((identity_exactly bytes).1 begun)

  -- mended again it is the same, called sound, with the same numbers;
  pub mended_again_is_the_same : (out : List ℕ) → length mended ≤ length out → mending_of mended out ≡ (MendedSound (report_of (judgement_of bytes)), written_into out mended)
  mended_again_is_the_same = mended_again bytes b ((identity_exactly bytes).1 begun)

  -- the report's numbers are those of the file that comes out;
  pub report_is_of_what_comes_out : report_of (judgement_of bytes) ≡ record {
    svids = length (judgement_of mended).catalogue.entries;
    modes = all_modes (judgement_of mended).catalogue.entries;
    length = length mended;
  }
  report_is_of_what_comes_out = report_true bytes b ((identity_exactly bytes).1 begun)

  -- and it is the front of the file, not past the fault, with the end behind it.
  pub mended_is_the_front : (take (length mended - 1) bytes ++ end_kind ∷ [] ≡ mended) × (length mended - 1 ≤ (judgement_of bytes).at)
  mended_is_the_front = (kept_front bytes b ((identity_exactly bytes).1 begun), kept_before bytes b ((identity_exactly bytes).1 begun))

-- A file that was cut, wherever, is mended to a beginning of what it was: the same identity, and its first SVIDs in order with their modes, the last perhaps
-- with fewer.
pub a_cut_file_is_mended_to_a_beginning : (bytes : List ℕ) (k : ℕ) → AtFront (take k bytes) →
    BeginningOf (judgement_of bytes).catalogue (kept_of (judgement_of (take k bytes)).catalogue)
a_cut_file_is_mended_to_a_beginning bytes k begun = cut_begins bytes k ((identity_exactly (take k bytes)).1 begun)

-- Nothing behind the fault is read on: files that are the same up to their faults, whatever follows, come out the same; and a program need read no more than
-- the first 2,426 bytes.
pub nothing_behind_the_fault : (bytes other : List ℕ) → (judgement_of bytes).at ≡ (judgement_of other).at →
    take (judgement_of bytes).at bytes ≡ take (judgement_of bytes).at other → kept_bytes (judgement_of bytes) ≡ kept_bytes (judgement_of other)
nothing_behind_the_fault = nothing_behind

pub mended_by_its_front : (bytes out : List ℕ) → mending_of (take 2426 bytes) out ≡ mending_of bytes out
mended_by_its_front = front_mended

-- THE CABLE HAS A CATALOGUE TOO (02, R-4). Isolation, for one call and any state: an event of the other side (its messages and calls, and each timer or protocol
-- error that comes while it waits) leaves a side's laptop and memory as they were;
pub others_change_nothing_here : (side : Side) (c : PortCall) (out : List ℕ) (k : PortKept) → is_others_call side c k.port.wait ≡ true →
    of_side side (kept_by_of c out k) ≡ of_side side k
others_change_nothing_here = others_change_nothing

-- a call for the side that is refused 7 because the other waits changes nothing at all;
pub seven_changes_nothing : (side : Side) (c : PortCall) (out : List ℕ) (k : PortKept) → is_others_call side c k.port.wait ≡ false →
    is_blocked side c k ≡ true → ChangesNothing c out k
seven_changes_nothing = blocked_changes_nothing

-- any other event of the side is 01's on the laptop that it sees, in state, memory and answer.
pub own_events_are_01s : (side : Side) (c : PortCall) (out : List ℕ) (k : PortKept) → is_left_out side c k ≡ false → AsLaptop side c out k
own_events_are_01s = own_as_laptop

-- For histories: with the first two left out, from any state in which the side has the same and the other does not wait, the side has the same in the end, its
-- candidate, its held catalogue to the word, counts and entered modes, and got the same answers: refusals, messages sent, what policy is told.
pub isolation : (side : Side) (history : List (PortCall × List ℕ)) (k j : PortKept) → is_others side j.port.wait ≡ false → of_side side j ≡ of_side side k →
    SameShare side history k (leaving side history k) j
isolation = isolated

-- As 02 has it: while no call for the side is refused 7, nothing need be left out but the other side's events.
pub isolation_as_02_has_it : (side : Side) (history : List (PortCall × List ℕ)) (k j : PortKept) → is_others side j.port.wait ≡ false →
    of_side side j ≡ of_side side k → NoneRefusedSeven side history k → SameShare side history k (without_others side history k) j
isolation_as_02_has_it = isolated_as_02

-- What is left is the history of a laptop of 01, which demand 1 and demand 2 speak of, with its answers.
pub a_side_is_a_laptop : (side : Side) (history : List (PortCall × List ℕ)) (k : PortKept) → ShareIs side history k
a_side_is_a_laptop = share_is_a_laptops

-- An answer from the side that is not awaited is 6: it drops that side's open list if it is an SVIDs ACK, and else leaves the state alone.
pub six_from_the_side_not_awaited : (side : Side) (p : Port) (m : Memory) (bytes out : List ℕ) (at : Edition) (x : Message) → is_others side p.wait ≡ true →
    (ShortRun m → ⊥) → read_outcome bytes ≡ accepted at x → (x.head.kind ≡ req → ⊥) →
    (port_effect_of (port_message side bytes) p m out).step ≡ stepped_on side p (laptop_refused_by 6 (left_by_unawaited x.head (seen side p)))
six_from_the_side_not_awaited = six_from_the_other_side

-- 13 is by a side's own entered modes only.
pub thirteen_by_its_own_modes : (side : Side) (p : Port) (m : Memory) (out : List ℕ) → (ShortRun m → ⊥) → p.wait ≡ None →
    ((port_effect_of (port_next side) p m out).step.refusal ≡ 13) ↔ AnyEntered m
thirteen_by_its_own_modes = thirteen_by_own

-- Histories of both sides, for 02's sentences on them, give what is written beside them.
pub every_history_of_both_sides : port_given ≡ port_said
every_history_of_both_sides = port_cases_hold

-- Every call keeps each side well-formed.
pub each_side_stays_well_formed : (c : PortCall) (out : List ℕ) (k : PortKept) → WellFormedOn k → WellFormedOn (kept_by_of c out k)
each_side_stays_well_formed = port_keeps

-- FIRST AND LATER EDITIONS (02, R-5). The choice, over all nine pairs: one of the two editions, and above neither.
pub choice_is_the_lower : (a b : Edition) → LowerOf a b (lower a b)
choice_is_the_lower = lower_of

-- The dock: after any calls its edition is the lower of the newest good request's and ours, or as it began where there was none; no other call changes it.
pub dock_edition_after_any_calls : (history : List (DockCall × List ℕ)) (d : Dock) → (dock_after history d).edition ≡ dock_edition_by (newest_in history d) d.edition
dock_edition_after_any_calls = edition_newest

pub dock_edition_after_every_call : (c : DockCall) (d : Dock) (out : List ℕ) → (dock_effect_of c d out).dock.edition ≡ dock_edition_after c d out
dock_edition_after_every_call = edition_after_lem

-- Whatever it sends, ACK, NAK or BUSY, has that edition, in its bytes;
pub dock_sends_at_its_edition : (c : DockCall) (d : Dock) (out : List ℕ) → 0 < (dock_effect_of c d out).length →
    (m : Message) × DockSentAt c d out (dock_effect_of c d out).dock.edition m
dock_sends_at_its_edition = dock_sent_at

-- so policy's answer goes out at the lower of the edition of the request that it answers and ours,
pub answers_at_the_requests_edition : (history : List (DockCall × List ℕ)) (policy : Policy) (r : Request) (objects out : List ℕ) (m : Message) →
    HasToSend (dock_after history fresh_dock) policy r objects m →
    (dock_effect_of (policy_answer policy r objects) (dock_after history fresh_dock) out).refusal ≡ 0 →
    (e : Edition) × (q : Message) × (newest_in history fresh_dock ≡ request e q) × (request_of q.head ≡ r) ×
    DockSentAt (policy_answer policy r objects) (dock_after history fresh_dock) out (lower e ours) m
answers_at_the_requests_edition = answered_at

-- and so does the NAK to commands 0 and 7..31.
pub naks_at_the_requests_edition : (d : Dock) (bytes out : List ℕ) (e : Edition) (m : Message) → read_outcome bytes ≡ accepted e m → m.head.kind ≡ req →
    (m.head.command ≡ 0) ⊎ (attention_command < m.head.command) → 4 ≤ length out →
    DockSentAt (dock_message bytes) d out (lower e ours) (reply (request_of m.head) nak [])
naks_at_the_requests_edition = nak_at

-- The laptop, each side: what every call says of the side's edition is all that sets it. Identity that goes out: ours; the Identity ACK that is taken: the lower
-- of its edition and ours; every other event, of this side or of the other: nothing.
pub side_edition_after_every_call : (side : Side) (c : PortCall) (out : List ℕ) (k : PortKept) →
    (seen side (kept_by_of c out k).port).edition ≡ edition_by (said_on side c out k) (seen side k.port).edition
side_edition_after_every_call = edition_on

-- Whatever is sent on a side has, in its bytes, our edition if it is Identity, and else that of the side.
pub side_sends_at_its_edition : (side : Side) (c : PortCall) (out : List ℕ) (k : PortKept) → (effect_in c out k).step.side ≡ side →
    0 < (effect_in c out k).step.length → (r : Request) × SentAt (request_edition r (seen side k.port).edition) r (effect_seen side (effect_in c out k))
side_sends_at_its_edition = sent_on

-- So over any history of both sides: between an Identity ACK that a side takes and its next Identity, what goes out on that side is at the lower of that ACK's
-- edition and ours, and between an Identity and its ACK at ours; Identity always at ours.
module _ (side : Side) (before between : List (PortCall × List ℕ)) (c : PortCall × List ℕ) (start : PortKept) where
  abbrev then : PortKept
  then = port_kept_after before start

  abbrev since : PortKept
  since = kept_by_of c.0 c.1 then

  abbrev at_last : PortKept
  at_last = port_kept_after (before ++ c ∷ between) start

  pub sent_between_ack_and_identity : (at : Edition) → said_on side c.0 c.1 then ≡ acknowledged at → NoIdentityOut (said_over_on side between since) →
      (e : PortCall) (out : List ℕ) → (effect_in e out at_last).step.side ≡ side → 0 < (effect_in e out at_last).step.length →
      (r : Request) × SentAt (request_edition r (lower at ours)) r (effect_seen side (effect_in e out at_last))
  sent_between_ack_and_identity = sent_since_acknowledged side before between c start

  pub ours_between_identity_and_ack : said_on side c.0 c.1 then ≡ identity_out → NoneAcknowledged (said_over_on side between since) →
      (seen side at_last.port).edition ≡ ours
  ours_between_identity_and_ack = since_identity side before between c start

-- 02's corners, run on the definitions: the sixteen forms of the version bits, and the headers that each end sends.
pub every_edition_case : given edition_cases ≡ said edition_cases
every_edition_case = editions_hold

-- DEMAND 3, for a dock of any highest edition (`highest` of `System`). It begins when, of a laptop and a dock at rest, a call sends Discover Identity.
pub begins : (modes_of : ℕ → List ℕ) (s : System) → AtRest s → (out : List ℕ) (c : Call) →
    (step modes_of (calls c out) s).laptop.wait ≡ Some identity_request → Begins (step modes_of (calls c out) s)
begins = begins_with

-- Every call keeps a laptop well-formed, so a laptop that was fresh once, beside a dock that is ready, is at rest whenever it awaits nothing, whatever it
-- holds by then.
pub well_formed_after_every_call : (c : Call) (l : Laptop) (m : Memory) (out : List ℕ) → WellFormed l m →
    WellFormed (effect_of c l m out).step.laptop (effect_of c l m out).after
well_formed_after_every_call = keeps

pub at_rest_after_any_calls : (history : List (Call × List ℕ)) (m : Memory) (highest : Edition) (d : Dock) → Lent m → m.entered ≡ replicate 72 0 → d.standing ≡ Ready →
    (kept_after history (record { laptop = fresh_laptop; memory = m })).laptop.wait ≡ None →
    AtRest (apart (kept_after history (record { laptop = fresh_laptop; memory = m })) highest d)
at_rest_after_any_calls = rests_after

-- A dock that was loaded has data that meets 01, and all that is asked where each SVID has 1 to 6 modes.
pub meets_when_loaded : (modes_of : ℕ → List ℕ) (at : Edition) (identity svids : List ℕ) → good_data identity svids ≡ true → Below (2 ^ 16) svids → Below (2 ^ 32) identity →
    ((svid : ℕ) → Below (2 ^ 32) (modes_of svid)) → Meets modes_of (loaded at identity svids)
meets_when_loaded = loaded_meets

pub all_there_when_loaded : (modes_of : ℕ → List ℕ) (at : Edition) (identity svids : List ℕ) → good_data identity svids ≡ true →
    ((i : ℕ) → i < length svids → 1 ≤ length (modes_of (get_or svids i 0))) → ((i : ℕ) → i < length svids → length (modes_of (get_or svids i 0)) ≤ 6) →
    HasAll modes_of (loaded at identity svids)
all_there_when_loaded = loaded_has_all

-- Bit 5 of what is on its way may be set, in every state: the dock's answer, and the request.
pub bit_5_may_be_set : (s : System) → Alike s (system_with with_reserved_set s)
bit_5_may_be_set = set_alike

-- THE REPLACEMENT HAPPENS. From rest, with no candidate and no mode entered, with a dock that has all that is asked and buffers of 28 bytes, where nothing is
-- lost: so many exchanges as the gathering needs answers end with the dock's whole catalogue; up to the last arrival the old one is held, to the word; for n
-- at least 1 the pages are n / 12 + 1.
pub whole_when_nothing_is_lost : (modes_of : ℕ → List ℕ) (s : System) → Meets modes_of s.dock → HasAll modes_of s.dock → AtRest s →
    s.laptop.candidate ≡ Absent → any_entered s.memory.entered ≡ false → (out : List ℕ) → 28 ≤ length out → LossFree modes_of s out
whole_when_nothing_is_lost = loss_free

-- A gathering of n SVIDs needs 1 + (n / 12 + 1) + n answers in all, and 2 for an empty list.
pub answers_needed : (modes_of : ℕ → List ℕ) (start : System) → Meets modes_of start.dock → needed modes_of start.dock [] ≡ in_all_of (length (listed start.dock))
answers_needed = in_all

module _ (modes_of : ℕ → List ℕ) (start : System) (meets : Meets modes_of start.dock) (begun : Begins start) (events : List Event) where
  -- where a run has led, and what has come in its gathering
  abbrev there : System
  there = run modes_of events start

  abbrev came : List Message
  came = received modes_of events start []

  -- From the moment that Identity has gone out, after any run of events, the laptop holds its old catalogue to the word, or the dock's whole one in order.
  pub holds_old_or_whole : OldOrWhole modes_of start there
  holds_old_or_whole = old_or_whole modes_of start meets begun events

  -- So it is with a dock that sets bit 5 in what it sends (02, R-2): whether bit 5 of what is on its way is set or clear at any time, both ends and the lost
  -- confirmations are those of the run itself.
  pub same_whatever_bit_5 : (s : System) → LeadsTo modes_of events start s → Alike there s
  same_whatever_bit_5 s = leads_alike modes_of events start s

  pub holds_old_or_whole_whatever_bit_5 : (s : System) → LeadsTo modes_of events start s → OldOrWhole modes_of start s
  holds_old_or_whole_whatever_bit_5 s = old_or_whole_alike modes_of start meets begun events s

  -- An awaited answer to Identity, SVIDs or Modes that is not BUSY, no page that came before and not the two hundredth page without an end lowers the number
  -- of answers still needed by exactly 1; nothing else lowers it.
  pub lowered_by_a_new_answer : (e : Event) → Lowers modes_of start.dock e there came
  lowered_by_a_new_answer = lowered_by_one modes_of start meets begun events

  -- Only Identity, once all have come, and the ends of 01 raise it again.
  pub raised_by_identity_or_an_end : (e : Event) → Raises modes_of start.dock e there came
  raised_by_identity_or_an_end = raised_by modes_of start meets begun events

  -- The dock's replaces what is held exactly when the number comes to 0, with the last answer needed, and at no other event does what is held change.
  pub replaced_by_the_last_answer : (e : Event) → Replaces modes_of start.dock e there came
  replaced_by_the_last_answer = replaced_at_zero modes_of start meets begun events

  -- In a gathering that has completed its list of n SVIDs, n at least 1, the pages are n / 12 + 1 and the confirmations lost on pages before the last: from the
  -- last page on, and when the last answer needed has come.
  pub pages_add_up : Counts modes_of start.dock there came
  pages_add_up = pages_counted modes_of start meets begun events

  pub pages_add_up_in_the_end : (e : Event) → Completes modes_of start.dock e there came
  pages_add_up_in_the_end = completed modes_of start meets begun events

  -- A gathering ends unfinished only by drop, start over, a late page with nothing awaited, or 14.
  pub ends_unfinished_only_by : (e : Event) → EndsBy modes_of start.dock e there came
  ends_unfinished_only_by = ends_only_by modes_of start meets begun events

  -- Whatever has been lost: where nothing is awaited and no mode is entered, next asks for an answer that is needed.
  pub next_asks_for_what_is_needed : (out : List ℕ) → 28 ≤ length out → there.laptop.wait ≡ None → any_entered there.memory.entered ≡ false →
      NextAsks modes_of start.dock there came out
  next_asks_for_what_is_needed = asks_for_what_is_needed modes_of start meets begun events

  -- No dead end: with no mode entered and a dock that has all that is asked, a wait that still stands can be ended, and a further run leads to the dock's
  -- whole catalogue.
  pub never_a_dead_end : HasAll modes_of start.dock → (out : List ℕ) → 28 ≤ length out → any_entered there.memory.entered ≡ false →
      NoDeadEnd modes_of start.dock there out
  never_a_dead_end all out room = no_dead_end modes_of start meets all out room begun events

  -- What arrives at the laptop is taken, or refused 6 or 14: never 1 to 5, and never 8.
  pub never_refused_otherwise : (e : Event) → NeverBad e there
  never_refused_otherwise = never_bad_there modes_of start meets begun events

  -- What reaches the dock is never refused.
  pub requests_taken : RequestTaken there
  requests_taken = request_taken modes_of start meets begun events

-- DEMAND 3 FOR EACH SIDE (02, R-4). Both ends of both links joined: the port, the partner's dock and the cable, each with data and modes of its own. What a side
-- sees of it is a laptop, link and dock of 01; an event that is its own is 01's event there, and any other changes nothing of it.
pub own_event_is_01s : (modes_of : Side → ℕ → List ℕ) (side : Side) (e : JointEvent) (j : Joint) → is_away side e j ≡ false →
    system_seen side (joint_step modes_of e j) ≡ step (modes_of side) (one_sided_event e) (system_seen side j)
own_event_is_01s = near_is_01s

pub other_event_changes_nothing : (modes_of : Side → ℕ → List ℕ) (side : Side) (e : JointEvent) (j : Joint) → is_away side e j ≡ true →
    system_seen side (joint_step modes_of e j) ≡ system_seen side j
other_event_changes_nothing = away_changes_nothing

-- The joint does what the port does: what it leaves out changes nothing of the port, and what arrives is the port's message on that side.
pub left_out_changes_nothing : (c : PortCall) (out : List ℕ) (j : Joint) → is_message c ≡ false → is_unheard c j ≡ true → kept_by_of c out (kept_in_of j) ≡ kept_in_of j
left_out_changes_nothing = unheard_changes_nothing

pub arrival_is_the_ports : (modes_of : Side → ℕ → List ℕ) (side : Side) (j : Joint) (bytes : List ℕ) → on_way (far_end side j).fate ≡ Some bytes →
    (joint_step modes_of (joint_arrive side) j).port ≡ (effect_in (port_message side bytes) [] (kept_in_of j)).step.port
arrival_is_the_ports = arrival_is_a_message

-- It begins when, of a side and its dock at rest, a call for the side sends Discover Identity.
pub begins_on_a_side : (modes_of : Side → ℕ → List ℕ) (side : Side) (j : Joint) → AtRest (system_seen side j) → (out : List ℕ) (c : PortCall) →
    is_away side (joint_calls c out) j ≡ false → (seen side (joint_step modes_of (joint_calls c out) j).port).wait ≡ Some identity_request →
    Begins (system_seen side (joint_step modes_of (joint_calls c out) j))
begins_on_a_side = begins_on

-- Whatever the other side does meanwhile: from rest, as many exchanges of the side as its gathering needs answers, nothing lost, end with its dock's whole
-- catalogue and n / 12 + 1 pages; and there is such a run where the other does not wait.
pub whole_on_a_side : (modes_of : Side → ℕ → List ℕ) (side : Side) (j : Joint) → Meets (modes_of side) (far_end side j).dock → HasAll (modes_of side) (far_end side j).dock →
    AtRest (system_seen side j) → (seen side j.port).candidate ≡ Absent → any_entered (far_end side j).memory.entered ≡ false → (out : List ℕ) → 28 ≤ length out →
    (events : List JointEvent) → share modes_of side events j ≡ times (in_all_of (length (listed (far_end side j).dock))) (exchange out) →
    Holds (whole (modes_of side) (far_end side j).dock) (system_seen side (joint_run modes_of events j)) ×
    (0 < length (listed (far_end side j).dock) → (system_seen side (joint_run modes_of events j)).laptop.pages ≡ length (listed (far_end side j).dock) / 12 + 1)
whole_on_a_side = whole_on

pub such_a_run_on_a_side : (modes_of : Side → ℕ → List ℕ) (side : Side) (j : Joint) → Meets (modes_of side) (far_end side j).dock → HasAll (modes_of side) (far_end side j).dock →
    AtRest (system_seen side j) → (seen side j.port).candidate ≡ Absent → any_entered (far_end side j).memory.entered ≡ false → (out : List ℕ) → 28 ≤ length out →
    is_others side j.port.wait ≡ false →
    share modes_of side (exchanges_on side (in_all_of (length (listed (far_end side j).dock))) out) j ≡ times (in_all_of (length (listed (far_end side j).dock))) (exchange out)
such_a_run_on_a_side = exchanges_shared

module _ (modes_of : Side → ℕ → List ℕ) (side : Side) (start : Joint) (meets : Meets (modes_of side) (far_end side start).dock) (begun : Begins (system_seen side start))
    (events : List JointEvent) where
  -- where a run over both links has led the side, and what has come in its gathering: by its share, without the other side's events and the calls refused 7
  -- because the other waits
  abbrev there_on : System
  there_on = system_seen side (joint_run modes_of events start)

  abbrev came_on : List Message
  came_on = received (modes_of side) (share modes_of side events start) (system_seen side start) []

  pub each_side_holds_old_or_whole : OldOrWhole (modes_of side) (system_seen side start) there_on
  each_side_holds_old_or_whole = old_or_whole_on modes_of side start meets begun events

  pub each_side_lowered_by_a_new_answer : (e : Event) → Lowers (modes_of side) (far_end side start).dock e there_on came_on
  each_side_lowered_by_a_new_answer = lowered_on modes_of side start meets begun events

  pub each_side_raised_by_identity_or_an_end : (e : Event) → Raises (modes_of side) (far_end side start).dock e there_on came_on
  each_side_raised_by_identity_or_an_end = raised_on modes_of side start meets begun events

  pub each_side_replaced_by_the_last_answer : (e : Event) → Replaces (modes_of side) (far_end side start).dock e there_on came_on
  each_side_replaced_by_the_last_answer = replaced_on modes_of side start meets begun events

  pub each_side_pages_add_up : Counts (modes_of side) (far_end side start).dock there_on came_on
  each_side_pages_add_up = counted_on modes_of side start meets begun events

  pub each_side_pages_add_up_in_the_end : (e : Event) → Completes (modes_of side) (far_end side start).dock e there_on came_on
  each_side_pages_add_up_in_the_end = completed_on modes_of side start meets begun events

  pub each_side_ends_unfinished_only_by : (e : Event) → EndsBy (modes_of side) (far_end side start).dock e there_on came_on
  each_side_ends_unfinished_only_by = ends_on modes_of side start meets begun events

  pub each_side_asks_for_what_is_needed : (out : List ℕ) → 28 ≤ length out → there_on.laptop.wait ≡ None → any_entered there_on.memory.entered ≡ false →
      NextAsks (modes_of side) (far_end side start).dock there_on came_on out
  each_side_asks_for_what_is_needed = asks_on modes_of side start meets begun events

  -- no dead end: a wait of either side can be ended, and a further run leads to the side's dock's whole catalogue
  pub no_side_in_a_dead_end : HasAll (modes_of side) (far_end side start).dock → (out : List ℕ) → 28 ≤ length out →
      any_entered (far_end side (joint_run modes_of events start)).memory.entered ≡ false →
      Holds (whole (modes_of side) (far_end side start).dock)
      (system_seen side (joint_run modes_of (to_rest_on side (joint_run modes_of events start).port.wait ++ exchanges_on side (in_all_of (length (listed (far_end side start).dock))) out)
      (joint_run modes_of events start)))
  no_side_in_a_dead_end all = no_dead_end_on modes_of side start meets all begun events

  pub each_side_never_refused_otherwise : (e : Event) → NeverBad e there_on
  each_side_never_refused_otherwise = never_bad_on modes_of side start meets begun events

  pub each_side_requests_taken : RequestTaken there_on
  each_side_requests_taken = requests_on modes_of side start meets begun events

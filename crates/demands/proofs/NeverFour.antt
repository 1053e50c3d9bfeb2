-- 4 is never given: 02 has withdrawn it (R-2).
use mathlib.Core.Logic.{◌⊎◌, inl, inr}
use mathlib.Core.Path.{◌≡◌, ap, sym, ◌∙◌}
use mathlib.Core.Bool.{Bool, true, false, cond}
use mathlib.Core.List.{List}
use Prim.Native.Nat.{ℕ, ◌≤◌}
use native.Mathlib.Omega.{arith}
use lib.Dec.{leb, ltb, eqb}
use lib.ListN.{length}
use Rattle.messages.specs.Layout.{ack, busy, Message}
use Rattle.messages.specs.Reading.{Outcome, accepted, refused, read_outcome, shown, read_number}
use Rattle.messages.specs.Writing.{write_refusal}
use Rattle.messages.specs.Editions.{edition_named}
use Rattle.messages.specs.Refusals.{number_in}
use Rattle.messages.specs.declared.edition.Edition.{Edition}
use Rattle.messages.specs.declared.refusal.Refusal.TheVariants.{WrongShape}
use Rattle.messages.proofs.Numbers.{four_none}
use Rattle.messages.proofs.Reserved.{read_never_4, write_never_4}
use Rattle.pages.specs.Lists.{most_svids}
use Rattle.taking.specs.declared.Verdict.{Verdict}
use Rattle.taking.specs.declared.Verdict.TheVariants.{Bad, Repeat, More, Ends}
use Rattle.std.specs.Option.{ok_or}
use Rattle.std.specs.Prelude.{Option, Some, None}
use Rattle.dock.specs.Data.{with_edition}
use Rattle.dock.specs.Dock.{reply, sending}
use Rattle.dock.specs.Dock.{sends as dock_sends}
use Rattle.dock.specs.Dock.{step_of as dock_step_of}
use Rattle.dock.specs.declared.Dock.{Dock}
use Rattle.dock.specs.Step.{Step as DockAsStep}
use Rattle.dock_laws.proofs.Given.{never_four as dock_never_four}
use Rattle.laptop_laws.proofs.Given.{never_four as laptop_never_four}
use Rattle.port_laws.proofs.Given.{never_four as port_never_four}
use Rattle.laptop_laws.proofs.CatalogueGiven.{catalogue_never_four}
use Rattle.laptop_laws.proofs.MessageGiven.{identity_number, mode_number}
use Rattle.laptop.specs.Calls.{sends, step_of, short_runs, is_awaiting}
use Rattle.laptop.specs.State.{awaiting, counted}
use Rattle.laptop.specs.declared.Laptop.{Laptop}
use Rattle.laptop.specs.Step.{Step}
use Rattle.owner.specs.Owner.{owner_refusal, request_message}
use Rattle.gathering.specs.Gathering.{Gathering, most_pages, unless_last, take_as, take_page, none_gathered, hear_svids}
use Rattle.answers.specs.Answers.{Storing, store_modes, hear_modes}
use Rattle.records.specs.Records.{found_number}
use Rattle.records.specs.Records.{Found}
use Rattle.records.specs.Records.{Whole, Unknown, Cut, Nothing}
use Rattle.records.specs.Refused.{refusal_for}
use Rattle.judging.specs.Judging.{judgement_of}
use Rattle.catalogue_laws.proofs.Given.{only_these}
use Rattle.rebuilding.specs.Rebuilding.{read_as}
use Rattle.rebuilding.proofs.Laws.{only_these as reading_only_these}
use Rattle.stretches.specs.Stretches.{stretch_in}
use Rattle.stretches.proofs.Laws.{only_these as stretch_only_these}
use Rattle.mending.specs.Mending.{no_identity, short_buffer, mended_number, mending_of}
use Rattle.mending.proofs.Laws.{number_given_lem as mending_number_given}
use Rattle.demands.specs.Numbers.{AnyCall, reads, writes, writes_numbered, names, of_dock, of_laptop, of_port, writes_catalogue, tells_fault, tells_missing, judges, reads_catalogue, finds_stretch, mends, sends_answer, refuses_owner, asks_for, hears_identity, hears_svids, hears_modes, hears_mode, number_given}

read_not_4 : (o : Outcome) → (o ≡ refused 4 → ⊥) → read_number (shown o).outcome ≡ 4 → ⊥
unfolding shown
read_not_4 (accepted at m) none e = omega arith
read_not_4 (refused number) none e = none (ap refused e)

edition_not_4 : (named : Option Edition) → number_in (ok_or named WrongShape) ≡ 4 → ⊥
edition_not_4 None e = omega arith
edition_not_4 (Some at) e = omega arith

found_not_4 : (found : Found) → found_number found ≡ 4 → ⊥
found_not_4 (Whole r n) e = omega arith
found_not_4 Unknown e = omega arith
found_not_4 Cut e = omega arith
found_not_4 Nothing e = omega arith

file_not_4 : (number : ℕ) → (number ≡ 0) ⊎ ((15 ≤ number) × (number ≤ 18)) → number ≡ 4 → ⊥
file_not_4 number (inl z) e = omega arith
file_not_4 number (inr z) e = omega arith

-- a number beside those of a file, which is not 4
beside_not_4 : (number other : ℕ) → (number ≡ 0) ⊎ (number ≡ other) ⊎ ((15 ≤ number) × (number ≤ 18)) → (other ≡ 4 → ⊥) → number ≡ 4 → ⊥
beside_not_4 number other (inl z) not e = omega arith
beside_not_4 number other (inr (inl z)) not e = omega arith
beside_not_4 number other (inr (inr z)) not e = omega arith

-- the parts between the crates
either_not_4 : {A : Type 0} (number : A → ℕ) (t : Bool) (a b : A) → (number a ≡ 4 → ⊥) → (number b ≡ 4 → ⊥) → number (cond t a b) ≡ 4 → ⊥
either_not_4 number true a b na nb = na
either_not_4 number false a b na nb = nb

answer_not_4 : (m : Message) (d next : Dock) (room : ℕ) → (dock_step_of d (dock_sends m next) room).refusal ≡ 4 → ⊥
unfolding dock_step_of
answer_not_4 m d next room =
    either_not_4 (λ (s : DockAsStep). s.refusal) (eqb (write_refusal m room) 0) _ _ (λ e. omega arith) (write_never_4 m room)

request_not_4 : (m : Message) (l next : Laptop) (room : ℕ) → (step_of l (sends m next) room).refusal ≡ 4 → ⊥
unfolding step_of
request_not_4 m l next room = either_not_4 (λ (s : Step). s.refusal) (eqb (write_refusal m room) 0) _ _ (λ e. omega arith) (write_never_4 m room)

owner_not_4 : (l : Laptop) (run held_run : ℕ) → owner_refusal l run held_run ≡ 4 → ⊥
unfolding owner_refusal
owner_not_4 l run held_run =
    either_not_4 (λ (n : ℕ). n) (short_runs run held_run) 11 _ (λ e. omega arith)
    (either_not_4 (λ (n : ℕ). n) (is_awaiting l.wait) 7 0 (λ e. omega arith) (λ e. omega arith))

module _ (l : Laptop) where
  last_not_4 : (svids : List ℕ) (more : Gathering) → (more.step.refusal ≡ 4 → ⊥) → (unless_last l svids more).step.refusal ≡ 4 → ⊥
  unfolding unless_last
  last_not_4 svids more not = either_not_4 (λ (g : Gathering). g.step.refusal) (leb most_pages l.pages) _ more (λ e. omega arith) not

  taken_not_4 : (svids values : List ℕ) (n : ℕ) (v : Verdict) → (take_as l svids values n v).step.refusal ≡ 4 → ⊥
  unfolding take_as
  taken_not_4 svids values n Bad = λ e. omega arith
  taken_not_4 svids values n Repeat = last_not_4 svids _ (λ e. omega arith)
  taken_not_4 svids values n More = last_not_4 svids _ (λ e. omega arith)
  taken_not_4 svids values n (Ends k) = λ e. omega arith

  page_not_4 : (svids values : List ℕ) → (take_page l svids values).step.refusal ≡ 4 → ⊥
  unfolding take_page
  page_not_4 svids values = taken_not_4 svids values _ _

  svids_not_4 : (kind : ℕ) (values svids : List ℕ) → ((take_page (counted l) svids values).step.refusal ≡ 4 → ⊥) → (hear_svids l kind values svids).step.refusal ≡ 4 → ⊥
  unfolding hear_svids
  svids_not_4 kind values svids page =
      either_not_4 (λ (g : Gathering). g.step.refusal) (eqb kind ack) _ _ page
      (either_not_4 (λ (g : Gathering). g.step.refusal) (eqb kind busy) _ _ (λ e. omega arith)
      (either_not_4 (λ (g : Gathering). g.step.refusal) (none_gathered l) _ _ (λ e. omega arith) (λ e. omega arith)))

  modes_not_4 : (kind : ℕ) (words modes run : List ℕ) → (hear_modes l kind words modes run).step.refusal ≡ 4 → ⊥
  unfolding hear_modes store_modes
  modes_not_4 kind words modes run =
      either_not_4 (λ (f : Storing). f.step.refusal) (eqb kind busy) _ _ (λ e. omega arith)
      (either_not_4 (λ (f : Storing). f.step.refusal) (eqb kind ack) _ _
      (either_not_4 (λ (f : Storing). f.step.refusal) (ltb l.stored most_svids) _ _ (λ e. omega arith) (λ e. omega arith)) (λ e. omega arith))

-- mending gives 19, 11 or the fault's number
mends_not_4 : (bytes : List ℕ) (n : ℕ) → (n ≡ no_identity) ⊎ ((n ≡ short_buffer) ⊎ (n ≡ (judgement_of bytes).refusal)) → n ≡ 4 → ⊥
mends_not_4 bytes n (inl e) four = omega (arith, e, four)
mends_not_4 bytes n (inr (inl e)) four = omega (arith, e, four)
mends_not_4 bytes n (inr (inr e)) four = file_not_4 (judgement_of bytes).refusal (only_these bytes) (sym e ∙ four)

pub never_four : (c : AnyCall) → number_given c ≡ 4 → ⊥
unfolding number_given
never_four (reads bytes) = read_not_4 (read_outcome bytes) (read_never_4 bytes)
never_four (writes m out) = write_never_4 m (length out)
never_four (writes_numbered None m out) = λ e. omega arith
never_four (writes_numbered (Some at) m out) = write_never_4 m (length out)
never_four (names number) = edition_not_4 (edition_named number)
never_four (of_dock c d out) = dock_never_four c d out
never_four (of_laptop c l m out) = laptop_never_four c l m out
never_four (of_port c p m out) = port_never_four c p m out
never_four (writes_catalogue held words out) = catalogue_never_four held words (length out)
never_four (tells_fault found) = found_not_4 found
never_four (tells_missing missing) = four_none (refusal_for missing)
never_four (judges bytes) = file_not_4 (judgement_of bytes).refusal (only_these bytes)
never_four (reads_catalogue bytes words) = beside_not_4 (read_as words (judgement_of bytes)).refusal 11 (reading_only_these bytes words) (λ z. omega arith)
never_four (mends bytes out) = mends_not_4 bytes (mended_number (mending_of bytes out).0) (mending_number_given bytes out)
never_four (finds_stretch bytes svid) = beside_not_4 (stretch_in (judgement_of bytes) svid).refusal 12 (stretch_only_these bytes svid) (λ z. omega arith)
never_four (sends_answer at r kind objects is_page d out) = answer_not_4 (reply r kind objects) d (sending is_page (with_edition at d)) (length out)
never_four (refuses_owner l run held_run) = owner_not_4 l run held_run
never_four (asks_for r l out) = request_not_4 (request_message r) l (awaiting r l) (length out)
never_four (hears_identity l at kind n objects svids identity) = λ e. omega (arith, e, identity_number l at kind n objects svids identity)
never_four (hears_svids l kind values svids) = svids_not_4 l kind values svids (page_not_4 (counted l) svids values)
never_four (hears_modes l kind words modes run) = modes_not_4 l kind words modes run
never_four (hears_mode l kind r held_svids entered) = λ e. omega (arith, e, mode_number l kind r held_svids entered)

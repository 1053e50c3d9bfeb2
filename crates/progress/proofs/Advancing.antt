-- An exchange in which nothing is lost brings the gathering on by one answer.
use mathlib.Core.Path.{◌≡◌, refl, ap, sym, ◌∙◌, subst}
use mathlib.Core.Bool.{Bool, true, false, cond}
use mathlib.Core.List.{List, [], ◌∷◌}
use Prim.Native.Nat.{ℕ, ◌+◌, ◌/◌, ◌<◌, ◌≤◌}
use lib.ListN.{length}
use Rattle.messages.specs.Layout.{Message, message_bytes}
use Rattle.messages.specs.Reading.{accepted, read_outcome}
use Rattle.messages.specs.Writing.{well_shaped}
use Rattle.messages.specs.declared.request.Request.{Request}
use Rattle.messages.specs.declared.edition.Edition.{Edition}
use Rattle.dock.specs.Data.{listed}
use Rattle.dock.specs.Dock.{sends, decide_policy_answer}
use Rattle.dock.specs.declared.Dock.{Dock}
use Rattle.dock.specs.declared.Policy.TheVariants.{Give}
use Rattle.dock.specs.declared.Standing.TheVariants.{Ready, Asking, Sending}
use Rattle.hearing.specs.Hearing.{Result, heard}
use Rattle.laptop.specs.Calls.{is_awaiting}
use Rattle.laptop.specs.Calls.{sends as laptop_sends}
use Rattle.owner.specs.Owner.{any_entered, request_message, asks_next}
use Rattle.laptop.specs.State.{Memory}
use Rattle.laptop.specs.declared.Laptop.{Laptop}
use Rattle.std.specs.Prelude.{None}
use Rattle.laptop_laws.specs.Effects.{next}
use Rattle.laptop_laws.specs.Holding.{Holding, holding}
use Rattle.link.specs.Demand.{Meets, whole, held_in, held_words, Holds}
use Rattle.link.specs.Exchanges.{exchange, Throughout}
use Rattle.link.specs.Joined.{Way, clear, gone, System, calls, reach, answer, arrive, sent}
use Rattle.link.specs.Link.{brought, opens, step, run}
use Rattle.link.specs.Needed.{needed, received}
use Rattle.unharmed.proofs.LastAnswer.{is_last_head, is_last_outcome, is_last_answer}
use Rattle.unharmed.proofs.AtDock.{page_then}
use Rattle.unharmed.proofs.Course.{moves_on}
use Rattle.unharmed.proofs.Invariant.{dock_at, Reached}
use Rattle.unharmed.proofs.Runs.{runs, does}
use Rattle.progress.proofs.Clean.{rested, Stage, Clean, rested_inv, asked_out, handed, hands, confirms, held_reaching, held_handed, held_arrived}
use Rattle.progress.proofs.Events.{tells_after}
use Rattle.progress.proofs.Exchange.{standing, answered_at, way_of, next_sends, arrive_is}
use Rattle.progress.proofs.Tells.{Tells}

module _ (modes_of : ℕ → List ℕ) (start : System) (meets : Meets modes_of start.dock) (old base : Holding) (h : Edition) (out : List ℕ) (room : 28 ≤ length out) where
  abbrev d : Dock
  d = start.dock

  abbrev pub HoldsBase : System → Type 0
  HoldsBase s = held_words s ≡ base

  -- the exchange up to the arrival
  abbrev pub Along : System → Type 0
  Along s = Throughout modes_of HoldsBase (calls next out ∷ reach out ∷ answer Give out ∷ []) s

  pub data Advance (s : System) (got : List Message) : Type 0 where
    -- one answer less is needed
    onward : (e : Edition) (l : Laptop) (m : Memory) (way : Way) (page : ℕ) (after : List Message) →
        run modes_of (exchange out) s ≡ rested modes_of d meets old base h out room e l m way page → Clean modes_of d meets old base h out room e l m way page after →
        needed modes_of d after + 1 ≡ needed modes_of d got → 0 < needed modes_of d after →
        HoldsBase (step modes_of arrive (step modes_of (answer Give out) (step modes_of (reach out) (step modes_of (calls next out) s)))) → Along s → Advance s got
    -- none is
    finished : needed modes_of d got ≡ 1 → Holds (whole modes_of d) (run modes_of (exchange out) s) →
        (0 < length (listed d) → (run modes_of (exchange out) s).laptop.pages ≡ length (listed d) / 12 + 1) → Along s → Advance s got

  -- an exchange with its request r and its answer x
  module _ (e : Edition) (l : Laptop) (m : Memory) (way : Way) (page : ℕ) (got : List Message) (clean : Clean modes_of d meets old base h out room e l m way page got)
      (r : Request) (asking : Laptop) (asks : asks_next l m.svids l.candidate ≡ laptop_sends (request_message r) asking)
      (awaits : is_awaiting asking.wait ≡ true) (keeps : holding asking m ≡ holding l m) (good : well_shaped (request_message r) ≡ true) (least : 1 ≤ r.command)
      (most : r.command ≤ 5) (x : Message) (b : Bool)
      (given : decide_policy_answer (dock_at modes_of d (answered_at modes_of d h out room asking.edition) (page_then r page) (Asking r)) (Asking r) Give r (brought modes_of Give r) ≡
      sends x (dock_at modes_of d (answered_at modes_of d h out room asking.edition) (page_then r page) (Sending b)))
      (shaped : well_shaped x ≡ true) (result : Result) (heard_is : heard asking m (read_outcome (message_bytes (answered_at modes_of d h out room asking.edition) x)) ≡ result) where
    -- the edition of the answer
    abbrev now : Edition
    now = answered_at modes_of d h out room asking.edition

    abbrev s : System
    s = rested modes_of d meets old base h out room e l m way page

    abbrev out_now : System
    out_now = asked_out modes_of d meets old base h out room e asking.edition asking m gone page Ready 0 refl r good least most x b given shaped result heard_is

    asked : step modes_of (calls next out) s ≡ out_now
    asked =
        next_sends modes_of d h out room e l m way gone page Ready 0 (rested_inv modes_of d meets old base h out room e l m way page clean.reached_so).formed.lent
        clean.idle clean.unentered r asking asks awaits good

    along : Along s
    along =
        let reaching : HoldsBase (step modes_of (reach out) (step modes_of (calls next out) s)) =
        ap (λ (y : System). held_words (step modes_of (reach out) y)) asked ∙
        held_reaching modes_of d meets old base h out room e asking.edition asking m gone page Ready 0 refl r good least most x b given shaped result heard_is ∙ keeps ∙ clean.holds_base in
        let giving : HoldsBase (step modes_of (answer Give out) (step modes_of (reach out) (step modes_of (calls next out) s))) =
        ap (λ (y : System). held_words (step modes_of (answer Give out) (step modes_of (reach out) y))) asked ∙
        held_handed modes_of d meets old base h out room e asking.edition asking m gone page Ready 0 refl r good least most x b given shaped result heard_is ∙ keeps ∙ clean.holds_base in
        (clean.holds_base, (ap held_words asked ∙ keeps ∙ clean.holds_base, (reaching, giving)))

    abbrev page_there : ℕ
    page_there = moves_on (listed d) b (page_then r page)

    abbrev way_there : Way
    way_there = way_of modes_of d h out room now asking m clear x

    none_lost : (o : Bool) → ◌≡◌ {A = ℕ} (cond o 0 0) 0
    none_lost true = refl
    none_lost false = refl

    comes_to : run modes_of (exchange out) s ≡ rested modes_of d meets old base h out room now result.step.laptop result.after way_there page_there
    unfolding run
    comes_to =
        ap (λ (y : System). step modes_of sent (step modes_of arrive (step modes_of (answer Give out) (step modes_of (reach out) y)))) asked ∙
        confirms modes_of d meets old base h out room e asking.edition asking m gone page Ready 0 refl r good least most x b given shaped result heard_is ∙
        ap (λ (z : ℕ). standing modes_of d h out room now result.step.laptop result.after way_there gone page_there Ready z) (none_lost (opens asking result.step.laptop))

    abbrev got_then : List Message
    got_then = received modes_of (exchange out) s got

    tells_then : Tells modes_of d meets result.step.laptop got_then
    tells_then =
        subst (λ (y : System). Tells modes_of d meets y.laptop got_then) comes_to
        (tells_after modes_of start meets old (exchange out) s clean.reached_so got clean.tells_so)

    -- one answer less is needed
    pub goes_on : result.step.laptop.wait ≡ None → result.after.entered ≡ m.entered → holding result.step.laptop result.after ≡ holding l m →
        Stage modes_of d meets old base h out room result.step.laptop page_there →
        (Tells modes_of d meets result.step.laptop got_then → (needed modes_of d got_then + 1 ≡ needed modes_of d got) × (0 < needed modes_of d got_then)) →
        Advance s got
    goes_on idle entered held stage number =
        onward now result.step.laptop result.after way_there page_there got_then comes_to
        (record {
          reached_so = subst (Reached modes_of d old) comes_to (runs modes_of d meets old (exchange out) s clean.reached_so);
          tells_so = tells_then;
          idle = idle;
          unentered = ap any_entered entered ∙ clean.unentered;
          stage = stage;
          holds_base = held ∙ clean.holds_base;
        })
        (number tells_then).0 (number tells_then).1
        (ap (λ (y : System). held_words (step modes_of arrive (step modes_of (answer Give out) (step modes_of (reach out) y)))) asked ∙
        held_arrived modes_of d meets old base h out room e asking.edition asking m gone page Ready 0 refl r good least most x b given shaped result heard_is ∙ held ∙ clean.holds_base)
        along

    -- it was the last
    abbrev handed_now : System
    handed_now = handed modes_of d meets old base h out room e asking.edition asking m gone page Ready 0 refl r good least most x b given shaped result heard_is

    reached_handed : Reached modes_of d old handed_now
    unfolding run
    reached_handed =
        subst (Reached modes_of d old)
        (ap (λ (y : System). step modes_of (answer Give out) (step modes_of (reach out) y)) asked ∙
        hands modes_of d meets old base h out room e asking.edition asking m gone page Ready 0 refl r good least most x b given shaped result heard_is)
        (runs modes_of d meets old (calls next out ∷ reach out ∷ answer Give out ∷ []) s clean.reached_so)

    pub ends_with : is_last_head asking x.head ≡ true → read_outcome (message_bytes now x) ≡ accepted now x → needed modes_of d got ≡ 1 →
        (0 < length (listed d) → result.step.laptop.pages ≡ length (listed d) / 12 + 1) → Advance s got
    unfolding is_last_outcome
    ends_with last read one pages =
        let is_last_lem : is_last_answer arrive handed_now ≡ true = ap (is_last_outcome asking) read ∙ last in
        let new : Holds (whole modes_of d) (step modes_of arrive handed_now) = (does modes_of start d old refl meets arrive handed_now reached_handed).replaces.0 is_last_lem in
        let there : held_words (step modes_of arrive handed_now) ≡ holding result.step.laptop result.after =
        ap held_words (arrive_is modes_of d h out room now asking m clear (page_then r page) b 0 x result heard_is) in
        finished one (ap (λ (y : System). held_in (held_words y)) comes_to ∙ ap held_in (sym there) ∙ new)
        (λ some. ap (λ (y : System). y.laptop.pages) comes_to ∙ pages some) along

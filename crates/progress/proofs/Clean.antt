-- Between two exchanges in which nothing is lost.
use mathlib.Core.Path.{◌≡◌, refl, ap, sym, ◌∙◌, subst}
use mathlib.Core.Bool.{Bool, true, false, cond, false≢true}
use mathlib.Core.List.{List}
use Prim.Native.Nat.{ℕ, ◌*◌, ◌≤◌}
use lib.ListN.{length}
use Rattle.messages.specs.Layout.{Message, message_bytes}
use Rattle.messages.specs.Reading.{read_outcome}
use Rattle.messages.specs.Writing.{well_shaped}
use Rattle.messages.specs.declared.request.Request.{Request}
use Rattle.messages.specs.declared.edition.Edition.{Edition}
use Rattle.dock.specs.Data.{listed}
use Rattle.dock.specs.Dock.{sends, decide_policy_answer}
use Rattle.dock.specs.declared.Dock.{Dock}
use Rattle.dock.specs.declared.Policy.TheVariants.{Give}
use Rattle.dock.specs.declared.Standing.{Standing}
use Rattle.dock.specs.declared.Standing.TheVariants.{Ready, Asking, Sending}
use Rattle.hearing.specs.Hearing.{Result, heard}
use Rattle.owner.specs.Owner.{any_entered, request_message}
use Rattle.laptop.specs.State.{Memory}
use Rattle.laptop.specs.declared.Candidate.TheVariants.{Open, Done}
use Rattle.laptop.specs.declared.Laptop.{Laptop}
use Rattle.std.specs.Prelude.{None}
use Rattle.laptop_laws.specs.Holding.{Holding, holding}
use Rattle.link.specs.Demand.{Meets, held_words}
use Rattle.link.specs.Joined.{Way, clear, request, Fate, gone, coming, confirmed, came, System, reach, answer, arrive, sent}
use Rattle.link.specs.Link.{lost_with, brought, is_unsure, opens, step}
use Rattle.unharmed.proofs.AtDock.{Inv, page_then}
use Rattle.unharmed.proofs.Course.{Carried, nothing, under_way, sure, arrived, moves_on}
use Rattle.unharmed.proofs.Invariant.{dock_at, fate_of, Reached}
use Rattle.link.specs.Permits.{is_confirmed}
use Rattle.progress.proofs.Exchange.{standing, answered_at, reach_is, give_is, way_of, arrive_is, sent_is}
use Rattle.progress.proofs.Tells.{Tells}

-- what tells the fates apart
abbrev is_gone : Fate → Bool
is_gone gone = true
is_gone (coming bytes) = false
is_gone (confirmed bytes) = false
is_gone (came b) = false

module _ (modes_of : ℕ → List ℕ) (d : Dock) (meets : Meets modes_of d) (old base : Holding) (h : Edition) (out : List ℕ) (room : 28 ≤ length out) where
  -- nothing is on its way, the dock is ready at a page, and no confirmation was lost
  abbrev pub rested : Edition → Laptop → Memory → Way → ℕ → System
  rested e l m way page = standing modes_of d h out room e l m way gone page Ready 0

  -- the list is open and the dock in step with it, or modes are missing
  pub data Stage (l : Laptop) (page : ℕ) : Type 0 where
    listing : l.candidate ≡ Open → l.gathered.count ≡ page * 12 → Stage l page
    storing : l.candidate ≡ Done → Stage l page

  pub record Clean (e : Edition) (l : Laptop) (m : Memory) (way : Way) (page : ℕ) (got : List Message) : Type 0 where
    pub reached_so : Reached modes_of d old (rested e l m way page)
    pub tells_so : Tells modes_of d meets l got
    pub idle : l.wait ≡ None
    pub unentered : any_entered m.entered ≡ false
    pub stage : Stage l page
    pub holds_base : holding l m ≡ base

  nothing_carried : (e : Edition) (v : Carried) → gone ≡ fate_of modes_of d e v → nothing ≡ v
  nothing_carried e nothing is = refl
  nothing_carried e (under_way a) is = absurd (false≢true (sym (ap is_gone is)))
  nothing_carried e (sure a) is = absurd (false≢true (sym (ap is_gone is)))
  nothing_carried e (arrived b) is = absurd (false≢true (sym (ap is_gone is)))

  -- the invariant there
  pub rested_inv : (e : Edition) (l : Laptop) (m : Memory) (way : Way) (page : ℕ) → Reached modes_of d old (rested e l m way page) →
      Inv modes_of d old l m way page Ready nothing 0
  rested_inv e l m way page r =
      subst (λ (q : ℕ). Inv modes_of d old l m way q Ready nothing 0) (sym (ap (λ (s : System). s.dock.page) r.is))
      (subst (λ (t : Standing). Inv modes_of d old l m way r.page_at t nothing 0) (sym (ap (λ (s : System). s.dock.standing) r.is))
      (subst (λ (v : Carried). Inv modes_of d old l m way r.page_at r.standing_at v 0) (sym (nothing_carried r.edition_at r.carried (ap (λ (s : System). s.fate) r.is)))
      r.invariant))

  -- from the moment that a request is out: it reaches the dock, policy gives x, x arrives, and "sent" is heard
  module _ (e at : Edition) (l : Laptop) (m : Memory) (fate : Fate) (q : ℕ) (t : Standing) (z : ℕ) (free : is_confirmed fate ≡ false) (r : Request)
      (good : well_shaped (request_message r) ≡ true) (least : 1 ≤ r.command) (most : r.command ≤ 5) (x : Message) (b : Bool)
      (given : decide_policy_answer (dock_at modes_of d (answered_at modes_of d h out room at) (page_then r q) (Asking r)) (Asking r) Give r (brought modes_of Give r) ≡
      sends x (dock_at modes_of d (answered_at modes_of d h out room at) (page_then r q) (Sending b)))
      (shaped : well_shaped x ≡ true) (result : Result) (heard_is : heard l m (read_outcome (message_bytes (answered_at modes_of d h out room at) x)) ≡ result) where
    abbrev now : Edition
    now = answered_at modes_of d h out room at

    abbrev pub asked_out : System
    asked_out = standing modes_of d h out room e l m (request (message_bytes at (request_message r))) fate q t z

    abbrev lost_now : ℕ
    lost_now = lost_with fate z

    abbrev pub handed : System
    handed = standing modes_of d h out room now l m clear (coming (message_bytes now x)) (page_then r q) (Sending b) lost_now

    abbrev pub lost_then : ℕ
    lost_then = cond (opens l result.step.laptop) 0 lost_now

    abbrev way_then : Way
    way_then = way_of modes_of d h out room now l m clear x

    abbrev arrived_so : System
    arrived_so =
        standing modes_of d h out room now result.step.laptop result.after way_then
        (came (is_unsure l result.step.laptop (listed d) (page_then r q))) (page_then r q) (Sending b) lost_then

    reaches : step modes_of (reach out) asked_out ≡ standing modes_of d h out room now l m clear gone (page_then r q) (Asking r) lost_now
    reaches = reach_is modes_of d h out room at r good least most e l m fate q t z free

    pub hands : step modes_of (answer Give out) (step modes_of (reach out) asked_out) ≡ handed
    hands = ap (step modes_of (answer Give out)) reaches ∙ give_is modes_of d h out room now l m clear gone (page_then r q) r lost_now x b given shaped

    pub arrives : step modes_of arrive (step modes_of (answer Give out) (step modes_of (reach out) asked_out)) ≡ arrived_so
    arrives = ap (step modes_of arrive) hands ∙ arrive_is modes_of d h out room now l m clear (page_then r q) b lost_now x result heard_is

    pub confirms : step modes_of sent (step modes_of arrive (step modes_of (answer Give out) (step modes_of (reach out) asked_out))) ≡
        standing modes_of d h out room now result.step.laptop result.after way_then gone (moves_on (listed d) b (page_then r q)) Ready lost_then
    confirms =
        ap (step modes_of sent) arrives ∙
        sent_is modes_of d h out room now old result.step.laptop result.after way_then (page_then r q) b
        (is_unsure l result.step.laptop (listed d) (page_then r q)) lost_then

    -- what is held meanwhile
    pub held_reaching : held_words (step modes_of (reach out) asked_out) ≡ holding l m
    held_reaching = ap held_words reaches

    pub held_handed : held_words (step modes_of (answer Give out) (step modes_of (reach out) asked_out)) ≡ holding l m
    held_handed = ap held_words hands

    pub held_arrived : held_words (step modes_of arrive (step modes_of (answer Give out) (step modes_of (reach out) asked_out))) ≡
        holding result.step.laptop result.after
    held_arrived = ap held_words arrives

-- Where a call leads: the dock as it was, or one that 01's rules name, beside the good request that the call brings.
use mathlib.Core.Path.{◌≡◌, refl, subst, sym}
use mathlib.Core.Bool.{Bool, true, false, cond, ◌&&◌}
use mathlib.Core.List.{List, []}
use Prim.Native.Nat.{ℕ}
use lib.Dec.{leb, eqb}
use lib.ListN.{length}
use Rattle.messages.specs.Layout.{nak, Message, message_length}
use Rattle.messages.specs.Reading.{Outcome, accepted, refused, read_outcome}
use Rattle.messages.specs.Requests.{identity_command, svids_command, modes_command, request_of, same_request}
use Rattle.messages.specs.Table.{one_to_five}
use Rattle.messages.specs.Writing.{write_refusal}
use Rattle.messages.specs.declared.edition.Edition.{Edition}
use Rattle.messages.specs.declared.request.Request.{Request}
use Rattle.dock.specs.Data.{listed, good_identity, good_data, loaded}
use Rattle.dock.specs.Dock.{Decision, refuses, accepts, sends, refused_by, accepted_by, step_of, decide_load, reply, asking, sending, decide_request, spoken_to, decide_message, is_empty, give_page, give_identity, give_modes, give_other, bare, decide_policy, decide_policy_answer, moved, decide_sent, decide_failed}
use Rattle.dock.specs.declared.Dock.{Dock}
use Rattle.dock.specs.declared.Policy.{Policy}
use Rattle.dock.specs.declared.Policy.TheVariants.{Give, Nak, Busy}
use Rattle.dock.specs.declared.Standing.{Standing}
use Rattle.dock.specs.declared.Standing.TheVariants.{Ready, Asking, Sending}
use Rattle.dock_laws.specs.Editions.{Newest, none, request, is_request, request_read, request_in}
use Rattle.dock_laws.specs.Effects.{Call, load, message, policy_answer, sent, failed, effect_of}

-- the new state of a decision
abbrev Leads : (Dock → Type 0) → Decision → Type 0
Leads P (refuses number) = Unit
Leads P (accepts next) = P next
Leads P (sends m next) = P next

either : (P : Dock → Type 0) (t : Bool) (a b : Decision) → Leads P a → Leads P b → Leads P (cond t a b)
either P true a b la lb = la
either P false a b la lb = lb

module _ (P : Dock → Type 0) (d : Dock) where
  step_leads : P d → (x : Decision) → Leads P x → (room : ℕ) → P (step_of d x room).dock
  unfolding step_of
  step_leads was (refuses number) led room = was
  step_leads was (accepts next) led room = led
  step_leads was (sends m next) led room = go (eqb (write_refusal m room) 0)
    where
      go : (t : Bool) → P (cond t (accepted_by (message_length m) next) (refused_by (write_refusal m room) d)).dock
      go true = led
      go false = was

  load_leads : ((identity svids : List ℕ) → P (loaded d.edition identity svids)) →
      (s : Standing) (identity svids : List ℕ) → Leads P (decide_load d s identity svids)
  unfolding decide_load
  load_leads new Ready identity svids = either P (good_data identity svids) _ _ (new identity svids) tt
  load_leads new (Asking r) identity svids = tt
  load_leads new (Sending is_page) identity svids = tt

  confirmed_leads : ((is_page : Bool) → P (moved is_page d)) → (s : Standing) → Leads P (decide_sent d s) × Leads P (decide_failed d s)
  unfolding decide_sent decide_failed
  confirmed_leads on Ready = (tt, tt)
  confirmed_leads on (Asking r) = (tt, tt)
  confirmed_leads on (Sending is_page) = (on is_page, on false)

  module _ (handed : (is_page : Bool) → P (sending is_page d)) (r : Request) where
    other_leads : Leads P (give_other d r)
    unfolding give_other give_identity give_page
    other_leads =
        either P (eqb r.command identity_command) _ _ (either P (good_identity d.extent) _ _ (handed false) tt)
        (either P (eqb r.command svids_command) _ _ (either P (is_empty (listed d)) _ _ (handed false) (handed true)) (handed false))

    bare_leads : (objects : List ℕ) (x : Decision) → Leads P x → Leads P (bare objects x)
    unfolding bare
    bare_leads objects x led = either P (is_empty objects) _ _ led tt

    policy_leads : (policy : Policy) (objects : List ℕ) → Leads P (decide_policy d policy r objects)
    unfolding decide_policy give_modes
    policy_leads Give objects =
        either P (eqb r.command modes_command) _ _ (either P (leb 1 (length objects) && leb (length objects) 6) _ _ (handed false) tt)
        (bare_leads objects (give_other d r) other_leads)
    policy_leads Nak objects = bare_leads objects _ (handed false)
    policy_leads Busy objects = bare_leads objects _ (handed false)

    answer_leads : (s : Standing) (policy : Policy) (objects : List ℕ) → Leads P (decide_policy_answer d s policy r objects)
    unfolding decide_policy_answer
    answer_leads Ready policy objects = tt
    answer_leads (Sending is_page) policy objects = tt
    answer_leads (Asking a) policy objects = either P (same_request a r) _ _ (policy_leads policy objects) tt

-- what holds of each of these docks with the request holds of the dock after every call
module _ (Q : Newest → Dock → Type 0) (d : Dock) (was : Q none d) (new : (identity svids : List ℕ) → Q none (loaded d.edition identity svids))
    (handed : (is_page : Bool) → Q none (sending is_page d)) (on : (is_page : Bool) → Q none (moved is_page d))
    (asked : (e : Edition) (m : Message) → Q (request e m) (asking (request_of m.head) (spoken_to e d)))
    (declined : (e : Edition) (m : Message) → Q (request e m) (sending false (spoken_to e d))) where
  -- by the decision for a message and its step: a refusal brings no request
  abbrev Brought : Newest → Decision → ℕ → Type 0
  Brought n x room = Q (cond (eqb (step_of d x room).refusal 0) n none) (step_of d x room).dock

  request_leads : (e : Edition) (m : Message) (room : ℕ) → Brought (request e m) (decide_request (spoken_to e d) (request_of m.head)) room
  unfolding decide_request step_of
  request_leads e m room = go (one_to_five m.head.command)
    where
      answer : Message
      answer = reply (request_of m.head) nak []

      next : Dock
      next = sending false (spoken_to e d)

      handing : (t : Bool) → eqb (write_refusal answer room) 0 ≡ t →
          Q (cond (eqb (cond t (accepted_by (message_length answer) next) (refused_by (write_refusal answer room) d)).refusal 0) (request e m) none)
          (cond t (accepted_by (message_length answer) next) (refused_by (write_refusal answer room) d)).dock
      handing true is = declined e m
      handing false is = subst (λ (t : Bool). Q (cond t (request e m) none) d) (sym is) was

      go : (t : Bool) → Brought (request e m) (cond t (accepts (asking (request_of m.head) (spoken_to e d))) (sends answer next)) room
      go true = asked e m
      go false = handing (eqb (write_refusal answer room) 0) refl

  message_leads : (o : Outcome) (room : ℕ) → Brought (request_read o) (decide_message d o) room
  unfolding decide_message step_of
  message_leads (refused number) room = go (eqb number 0)
    where
      go : (t : Bool) → Q (cond t none none) d
      go true = was
      go false = was
  message_leads (accepted e m) room = go (is_request m)
    where
      go : (t : Bool) → Brought (cond t (request e m) none) (cond t (decide_request (spoken_to e d) (request_of m.head)) (refuses 6)) room
      go true = request_leads e m room
      go false = was

  pub leads : (c : Call) (out : List ℕ) → Q (request_in c d out) (effect_of c d out).dock
  leads (load identity svids) out =
      step_leads (Q none) d was (decide_load d d.standing identity svids) (load_leads (Q none) d new d.standing identity svids) 0
  leads (message bytes) out = message_leads (read_outcome bytes) (length out)
  leads (policy_answer policy r objects) out =
      step_leads (Q none) d was (decide_policy_answer d d.standing policy r objects)
      (answer_leads (Q none) d handed r d.standing policy objects) (length out)
  leads sent out = step_leads (Q none) d was (decide_sent d d.standing) (confirmed_leads (Q none) d on d.standing).0 0
  leads failed out = step_leads (Q none) d was (decide_failed d d.standing) (confirmed_leads (Q none) d on d.standing).1 0

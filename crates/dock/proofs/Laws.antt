-- What the dock keeps, by the promises of its calls.
use mathlib.Core.Path.{◌≡◌, refl, ap, sym, ◌∙◌}
use mathlib.Core.Bool.{Bool, true, false, cond}
use mathlib.Core.List.{List}
use Prim.Native.Nat.{ℕ, ◌+◌, ◌/◌, ◌^◌, ◌≤◌}
use native.Mathlib.Omega.{arith}
use lib.Dec.{leb, eqb}
use lib.ListN.{length}
use borrow.Author.Tests.{le-leb}
use Rattle.laws.specs.Bounded.{Below}
use Rattle.messages.specs.Layout.{ack, Message, message_bytes, message_length}
use Rattle.messages.specs.Table.{pd_sid, row_of, counts_of, fits, shape}
use Rattle.messages.specs.Reading.{accepted, read_outcome}
use Rattle.messages.specs.Writing.{well_shaped, write_refusal, written}
use Rattle.messages.proofs.Laws.{read_shape}
use Rattle.messages.proofs.RoundTrip.{read_bytes}
use Rattle.pages.specs.Pages.{page, pages, read_pages}
use Rattle.pages.proofs.Scanning.{sound_no_zero}
use Rattle.pages.proofs.Laws.{page_size, page_below, read_all}
use Rattle.dock.specs.Data.{listed}
use Rattle.dock.specs.Dock.{Decision, refuses, accepts, sends, refused_by, accepted_by, step_of, buffer_of, Stepped, reply, decide_load, decide_message, decide_policy_answer, decide_sent, decide_failed}
use Rattle.messages.specs.Requests.{svids_command}
use Rattle.dock.specs.Sound.{Sound}
use Rattle.dock.specs.declared.Dock.{Dock}
use Rattle.dock.specs.declared.Policy.{Policy}
use Rattle.messages.specs.declared.edition.Edition.{Edition}
use Rattle.messages.specs.declared.request.Request.{Request}
use Rattle.dock.specs.Step.{Step, stepped}
use Rattle.dock.specs.declared.Accepted.{Accepted}
use Rattle.std.specs.Prelude.{Result, Ok, Err}
use Rattle.messages.specs.declared.refusal.Refusal.{Refusal}
use Rattle.messages.proofs.Numbers.{numbered, number_once}
use Rattle.dock.proofs.Kept.{load_sound, message_sound, answer_sound, confirmed_sound, kept}

-- a dock that meets 01's limits meets them after each call
module _ (d : Dock) (sound : Sound d) where
  pub load_keeps : (identity svids : List ℕ) → Sound (step_of d (decide_load d d.standing identity svids) 0).dock
  load_keeps identity svids = kept d sound (decide_load d d.standing identity svids) (load_sound d d.standing identity svids) 0

  pub message_keeps : (bytes : List ℕ) (room : ℕ) → Sound (step_of d (decide_message d (read_outcome bytes)) room).dock
  message_keeps bytes room = kept d sound (decide_message d (read_outcome bytes)) (message_sound d sound (read_outcome bytes) (read_shape bytes)) room

  pub answer_keeps : (policy : Policy) (r : Request) (objects : List ℕ) (room : ℕ) →
      Sound (step_of d (decide_policy_answer d d.standing policy r objects) room).dock
  answer_keeps policy r objects room =
      kept d sound (decide_policy_answer d d.standing policy r objects) (answer_sound d sound r d.standing policy objects) room

  pub sent_keeps : Sound (step_of d (decide_sent d d.standing) 0).dock
  sent_keeps = kept d sound (decide_sent d d.standing) (confirmed_sound d sound d.standing).0 0

  pub failed_keeps : Sound (step_of d (decide_failed d d.standing) 0).dock
  failed_keeps = kept d sound (decide_failed d d.standing) (confirmed_sound d sound d.standing).1 0

-- a refusal sends nothing, leaves the state as it was and changes no lent byte
left_alone : (at : Edition) (m : Message) (out : List ℕ) → eqb (write_refusal m (length out)) 0 ≡ false → written at m out ≡ out
unfolding written
left_alone at m out e = rw e

abbrev send_step : Dock → Dock → Message → ℕ → Bool → Step
send_step d next m room t = cond t (accepted_by (message_length m) next) (refused_by (write_refusal m room) d)

pub refusal_leaves : (d : Dock) (decision : Decision) (out : List ℕ) → ((step_of d decision (length out)).refusal ≡ 0 → ⊥) →
    (step_of d decision (length out) ≡ refused_by (step_of d decision (length out)).refusal d) × (buffer_of decision out ≡ out)
unfolding step_of buffer_of
refusal_leaves d (refuses number) out h = (refl, refl)
refusal_leaves d (accepts next) out h = absurd (h refl)
refusal_leaves d (sends m next) out h = go (eqb (write_refusal m (length out)) 0) refl h
  where
    go : (t : Bool) → eqb (write_refusal m (length out)) 0 ≡ t → ((send_step d next m (length out) t).refusal ≡ 0 → ⊥) →
        (send_step d next m (length out) t ≡ refused_by (send_step d next m (length out) t).refusal d) × (written next.edition m out ≡ out)
    go true e n = absurd (n refl)
    go false e n = (refl, left_alone next.edition m out e)

-- a result that a promise allows is the only one
pub step_only : (d : Dock) (decision : Decision) (out : List ℕ) (s s' : Step) (after after' : List ℕ) →
    Stepped d decision out s after → Stepped d decision out s' after' → (s ≡ s') × (after ≡ after')
step_only d decision out s s' after after' p p' = (p.step_is ∙ sym p'.step_is, p.buffer_is ∙ sym p'.buffer_is)

-- and so is what the code gives back
pub stepped_once : (d : Dock) (r r' : Result Accepted Refusal) → stepped d r ≡ stepped d r' → r ≡ r'
stepped_once d (Ok a) (Ok b) e =
    let size : a.length ≡ b.length = ap (λ (s : Step). s.length) e in
    let next : a.dock ≡ b.dock = ap (λ (s : Step). s.dock) e in
    λ i. Ok (record { length = size i; dock = next i })
stepped_once d (Ok a) (Err q) e = absurd (numbered q (sym (ap (λ (s : Step). s.refusal) e)))
stepped_once d (Err p) (Ok b) e = absurd (numbered p (ap (λ (s : Step). s.refusal) e))
stepped_once d (Err p) (Err q) e = ap Err (number_once p q (ap (λ (s : Step). s.refusal) e))

-- every page is a message that reading accepts, at the edition at which it is sent
abbrev pub page_message : List ℕ → Message
page_message objects = reply (record { svid = pd_sid; command = svids_command; position = 0 }) ack objects

pub page_shape : (objects : List ℕ) → 1 ≤ length objects → length objects ≤ 6 → well_shaped (page_message objects) ≡ true
unfolding well_shaped shape fits row_of counts_of
page_shape objects l m =
    let least : leb 2 (length objects + 1) ≡ true = le-leb 2 (length objects + 1) (omega arith) in
    let most : leb (length objects + 1) 7 ≡ true = le-leb (length objects + 1) 7 (omega arith) in
    rw (least, most)

pub page_accepted : (at : Edition) (list : List ℕ) (p : ℕ) → Below (2 ^ 16) list →
    read_outcome (message_bytes at (page_message (page list p))) ≡ accepted at (page_message (page list p))
page_accepted at list p b =
    read_bytes at (page_message (page list p)) (record { svid_fits = omega arith; objects_fit = page_below list p b })
    (page_shape (page list p) (page_size list p).0 (page_size list p).1)

-- the pages of a sound dock, read off in order, are its list
pub dock_pages : (d : Dock) → Sound d → Below (2 ^ 16) (listed d) → read_pages (pages (listed d) (length (listed d) / 12 + 1)) ≡ listed d
dock_pages d sound b = read_all (listed d) b (sound_no_zero (listed d) sound.list_sound)

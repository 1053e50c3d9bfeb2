-- Bit 5 of what is on its way changes nothing at either end (02, R-2).
use mathlib.Core.Path.{◌≡◌, refl, ap, sym, ◌∙◌, subst}
use mathlib.Core.Bool.{Bool, true, false, cond}
use mathlib.Core.List.{List, [], ◌∷◌}
use Prim.Native.Nat.{ℕ}
use lib.Dec.{ltb}
use lib.ListN.{length, take}
use Rattle.messages.specs.Layout.{with_reserved_clear, with_reserved_set}
use Rattle.messages.specs.Reading.{Outcome}
use Rattle.messages.proofs.Reserved.{reserved_ignored, clear_again, clear_set}
use Rattle.messages.specs.declared.edition.Edition.{Edition}
use Rattle.dock.specs.Data.{listed}
use Rattle.dock.specs.Dock.{Decision, step_of, buffer_of, decide_message}
use Rattle.dock.specs.declared.Dock.{Dock}
use Rattle.dock.specs.declared.Policy.{Policy}
use Rattle.dock.specs.declared.Standing.{Standing}
use Rattle.dock.specs.declared.Standing.TheVariants.{Ready, Asking, Sending}
use Rattle.laptop.specs.Calls.{is_awaiting}
use Rattle.laptop.specs.State.{Memory}
use Rattle.laptop.specs.declared.Laptop.{Laptop}
use Rattle.laptop_laws.specs.Effects.{Call, message, Effect}
use Rattle.laptop_laws.proofs.Reserved.{effect_same}
use Rattle.link.specs.Demand.{Meets, Begins, OldOrWhole}
use Rattle.link.specs.Ends.{laptop_does, heard_at, dock_hears, dock_answers}
use Rattle.link.specs.Joined.{Way, clear, request, Fate, gone, coming, confirmed, came, System, Event, calls, lose_request, reach, answer, lose_answer, arrive, sent, failed}
use Rattle.link.specs.Link.{way_after, is_message, after_call, called, lost_with, handed_over, reached_by, reaches, is_fair, brought, answered_by, answers, is_unsure, opens, fate_on_arrival, lost_on_arrival, arrived_with, with_fate, arrives, hears_sent, fate_on_failure, hears_failed, loses_answer, step, run}
use Rattle.unharmed.specs.Reserved.{way_with, fate_with, system_with, Alike, LeadsTo, there, behind}
use Rattle.unharmed.proofs.Laws.{old_or_whole}

abbrev way_clear : Way → Way
way_clear w = way_with with_reserved_clear w

abbrev fate_clear : Fate → Fate
fate_clear f = fate_with with_reserved_clear f

abbrev system_clear : System → System
system_clear s = system_with with_reserved_clear s

-- two systems with equal parts
alike : (h : Edition) (l : Laptop) (m : Memory) (d : Dock) {w w' : Way} {f f' : Fate} {n n' : ℕ} → w ≡ w' → f ≡ f' → n ≡ n' →
    ◌≡◌ {A = System} (record { laptop = l; memory = m; way = w; fate = f; dock = d; highest = h; lost = n }) (record { laptop = l; memory = m; way = w'; fate = f'; dock = d; highest = h; lost = n' })
alike h l m d ew ef en = λ i. record { laptop = l; memory = m; way = ew i; fate = ef i; dock = d; highest = h; lost = en i }

-- bytes that are cleared to the same, on their way
module _ (change : List ℕ → List ℕ) (same : (b : List ℕ) → with_reserved_clear (change b) ≡ with_reserved_clear b) where
  way_with_lem : (w : Way) → way_clear w ≡ way_clear (way_with change w)
  way_with_lem clear = refl
  way_with_lem (request bytes) = ap request (sym (same bytes))

  fate_with_lem : (f : Fate) → fate_clear f ≡ fate_clear (fate_with change f)
  fate_with_lem gone = refl
  fate_with_lem (coming bytes) = ap coming (sym (same bytes))
  fate_with_lem (confirmed bytes) = ap confirmed (sym (same bytes))
  fate_with_lem (came b) = refl

  system_with_lem : (s : System) → Alike s (system_with change s)
  system_with_lem s = alike s.highest s.laptop s.memory s.dock (way_with_lem s.way) (fate_with_lem s.fate) refl

-- bit 5 may be set
pub set_alike : (s : System) → Alike s (system_with with_reserved_set s)
set_alike = system_with_lem with_reserved_set clear_set

-- and what is cleared has nothing more to clear
way_again : (w : Way) → way_clear w ≡ way_clear (way_clear w)
way_again = way_with_lem with_reserved_clear clear_again

fate_again : (f : Fate) → fate_clear f ≡ fate_clear (fate_clear f)
fate_again = fate_with_lem with_reserved_clear clear_again

stays : (s : System) → Alike s (system_clear s)
stays = system_with_lem with_reserved_clear clear_again

lost_same : (f : Fate) (n : ℕ) → lost_with f n ≡ lost_with (fate_clear f) n
lost_same gone n = refl
lost_same (coming bytes) n = refl
lost_same (confirmed bytes) n = refl
lost_same (came b) n = refl

-- at the laptop: a call, and what arrives
after_same : (d : Effect) (s : System) (f : Fate) (n : ℕ) → Alike (after_call d (with_fate f n s)) (after_call d (with_fate f n (system_clear s)))
unfolding way_after
after_same d s f n = alike s.highest d.step.laptop d.after s.dock (go (is_awaiting d.step.laptop.wait) (ltb 0 d.step.length)) refl refl
  where
    go : (a b : Bool) →
        way_clear (cond a (cond b (request (take d.step.length d.buffer)) s.way) clear) ≡
        way_clear (cond a (cond b (request (take d.step.length d.buffer)) (way_clear s.way)) clear)
    go true true = refl
    go true false = way_again s.way
    go false b = refl

called_same : (c : Call) (out : List ℕ) (s : System) → Alike (called c out s) (called c out (system_clear s))
unfolding called
called_same c out s = go (is_message c)
  where
    d : Effect
    d = laptop_does c s.laptop s.memory out

    fates : Alike (after_call d (with_fate s.fate s.lost (system_clear s))) (after_call d (system_clear s))
    fates = alike s.highest d.step.laptop d.after s.dock refl (fate_again s.fate) refl

    go : (t : Bool) → Alike (cond t s (after_call d s)) (cond t (system_clear s) (after_call d (system_clear s)))
    go true = stays s
    go false = after_same d s s.fate s.lost ∙ fates

-- what arrives with an effect: the answer's fate if it is not confirmed, and the system
abbrev fate_then : System → Effect → Fate
fate_then s d = fate_on_arrival s.dock.standing (is_unsure s.laptop d.step.laptop (listed s.dock) s.dock.page)

abbrev landed : System → Effect → System
landed s d =
    after_call d
    (with_fate (fate_then s d)
    (cond (opens s.laptop d.step.laptop) 0 (lost_on_arrival s.dock.standing (is_unsure s.laptop d.step.laptop (listed s.dock) s.dock.page) s.lost)) s)

abbrev landed_confirmed : System → Effect → System
landed_confirmed s d = after_call d (with_fate gone (cond (opens s.laptop d.step.laptop) 0 s.lost) s)

arrived_same : (bytes : List ℕ) (s : System) → arrived_with bytes s ≡ arrived_with (with_reserved_clear bytes) (system_clear s)
arrived_same bytes s = sym (effect_same (message bytes) s.laptop s.memory [])

arrives_same : (f : Fate) (s : System) → Alike (arrives f s) (arrives (fate_clear f) (system_clear s))
arrives_same gone s = stays s
arrives_same (came b) s = stays s
arrives_same (coming bytes) s =
    after_same (arrived_with bytes s) s (fate_then s (arrived_with bytes s)) _ ∙ ap (λ (d : Effect). system_clear (landed (system_clear s) d)) (arrived_same bytes s)
arrives_same (confirmed bytes) s =
    after_same (arrived_with bytes s) s gone _ ∙ ap (λ (d : Effect). system_clear (landed_confirmed (system_clear s) d)) (arrived_same bytes s)

-- at the dock: a request that reaches it, policy's answer, "sent" and "failed"
reached_same : (out : List ℕ) (decision : Decision) (s : System) → Alike (reached_by out decision s) (reached_by out decision (system_clear s))
reached_same out decision s =
    alike s.highest s.laptop s.memory (step_of s.dock decision (length out)).dock refl refl (lost_same s.fate s.lost)

heard_same : (out bytes : List ℕ) (s : System) →
    Alike (reached_by out (dock_hears s.highest s.dock bytes) s)
    (reached_by out (dock_hears s.highest s.dock (with_reserved_clear bytes)) (system_clear s))
heard_same out bytes s =
    reached_same out _ s ∙
    ap (λ (o : Outcome). system_clear (reached_by out (decide_message s.dock (heard_at s.highest o)) (system_clear s))) (sym (reserved_ignored bytes))

reaches_same : (out : List ℕ) (w : Way) (f : Fate) (s : System) → Alike (reaches out w f s) (reaches out (way_clear w) (fate_clear f) (system_clear s))
reaches_same out clear f s = stays s
reaches_same out (request bytes) gone s = heard_same out bytes s
reaches_same out (request bytes) (coming a) s = heard_same out bytes s
reaches_same out (request bytes) (confirmed a) s = stays s
reaches_same out (request bytes) (came b) s = heard_same out bytes s

answered_same : (out : List ℕ) (offer : Decision) (s : System) → Alike (answered_by out offer s) (answered_by out offer (system_clear s))
unfolding handed_over
answered_same out offer s =
    alike s.highest s.laptop s.memory (step_of s.dock offer (length out)).dock (way_again s.way) (go (ltb 0 (step_of s.dock offer (length out)).length)) refl
  where
    go : (t : Bool) →
        fate_clear (cond t (coming (take (step_of s.dock offer (length out)).length (buffer_of offer out))) s.fate) ≡
        fate_clear (cond t (coming (take (step_of s.dock offer (length out)).length (buffer_of offer out))) (fate_clear s.fate))
    go true = refl
    go false = fate_again s.fate

answers_same : (modes_of : ℕ → List ℕ) (policy : Policy) (out : List ℕ) (standing : Standing) (s : System) →
    Alike (answers modes_of policy out standing s) (answers modes_of policy out standing (system_clear s))
answers_same modes_of policy out Ready s = stays s
answers_same modes_of policy out (Sending is_page) s = stays s
answers_same modes_of policy out (Asking r) s = go (is_fair policy r (listed s.dock))
  where
    offer : Decision
    offer = dock_answers s.dock policy r (brought modes_of policy r)

    go : (t : Bool) → Alike (cond t (answered_by out offer s) s) (cond t (answered_by out offer (system_clear s)) (system_clear s))
    go true = answered_same out offer s
    go false = stays s

sent_same : (standing : Standing) (f : Fate) (s : System) → Alike (hears_sent standing f s) (hears_sent standing (fate_clear f) (system_clear s))
sent_same Ready f s = stays s
sent_same (Asking r) f s = stays s
sent_same (Sending is_page) gone s = stays s
sent_same (Sending is_page) (confirmed bytes) s = stays s
sent_same (Sending is_page) (coming bytes) s = alike s.highest s.laptop s.memory _ (way_again s.way) (fate_again (confirmed bytes)) refl
sent_same (Sending is_page) (came b) s = alike s.highest s.laptop s.memory _ (way_again s.way) refl refl

failure_same : (f : Fate) → fate_clear (fate_on_failure f) ≡ fate_clear (fate_on_failure (fate_clear f))
failure_same gone = refl
failure_same (coming bytes) = fate_again (coming bytes)
failure_same (confirmed bytes) = fate_again (confirmed bytes)
failure_same (came b) = refl

failed_same : (standing : Standing) (s : System) → Alike (hears_failed standing s) (hears_failed standing (system_clear s))
failed_same Ready s = stays s
failed_same (Asking r) s = stays s
failed_same (Sending is_page) s =
    alike s.highest s.laptop s.memory _ (way_again s.way) (failure_same s.fate) (lost_same s.fate s.lost)

lose_answer_same : (f : Fate) (s : System) → Alike (loses_answer f s) (loses_answer (fate_clear f) (system_clear s))
lose_answer_same gone s = stays s
lose_answer_same (coming bytes) s = alike s.highest s.laptop s.memory s.dock (way_again s.way) refl refl
lose_answer_same (confirmed bytes) s = stays s
lose_answer_same (came b) s = stays s

-- every event
step_clear : (modes_of : ℕ → List ℕ) (e : Event) (s : System) → Alike (step modes_of e s) (step modes_of e (system_clear s))
unfolding step
step_clear modes_of (calls c out) s = called_same c out s
step_clear modes_of lose_request s = alike s.highest s.laptop s.memory s.dock refl (fate_again s.fate) refl
step_clear modes_of (reach out) s = reaches_same out s.way s.fate s
step_clear modes_of (answer policy out) s = answers_same modes_of policy out s.dock.standing s
step_clear modes_of lose_answer s = lose_answer_same s.fate s
step_clear modes_of arrive s = arrives_same s.fate s
step_clear modes_of sent s = sent_same s.dock.standing s.fate s
step_clear modes_of failed s = failed_same s.dock.standing s

-- systems that are alike stay so
step_alike : (modes_of : ℕ → List ℕ) (e : Event) (s t : System) → Alike s t → Alike (step modes_of e s) (step modes_of e t)
step_alike modes_of e s t same =
    step_clear modes_of e s ∙ ap (λ (x : System). system_clear (step modes_of e x)) same ∙ sym (step_clear modes_of e t)

run_alike : (modes_of : ℕ → List ℕ) (events : List Event) (s t : System) → Alike s t → Alike (run modes_of events s) (run modes_of events t)
unfolding run
run_alike modes_of [] s t same = same
run_alike modes_of (e ∷ events) s t same = run_alike modes_of events (step modes_of e s) (step modes_of e t) (step_alike modes_of e s t same)

-- wherever events lead while bit 5 is set and cleared, both ends and the number of lost confirmations are those of the run itself
pub leads_alike : (modes_of : ℕ → List ℕ) (events : List Event) (s u : System) → LeadsTo modes_of events s u → Alike (run modes_of events s) u
unfolding run
leads_alike modes_of [] s u (there same) = same
leads_alike modes_of (e ∷ events) s u (behind t same further) =
    run_alike modes_of events (step modes_of e s) (step modes_of e t) (step_alike modes_of e s t same) ∙ leads_alike modes_of events (step modes_of e t) u further

-- so the laptop holds its old catalogue or the dock's whole one there too
pub old_or_whole_alike : (modes_of : ℕ → List ℕ) (start : System) → Meets modes_of start.dock → Begins start → (events : List Event) (u : System) →
    LeadsTo modes_of events start u → OldOrWhole modes_of start u
old_or_whole_alike modes_of start meets begun events u leads =
    subst (OldOrWhole modes_of start) (leads_alike modes_of events start u leads) (old_or_whole modes_of start meets begun events)

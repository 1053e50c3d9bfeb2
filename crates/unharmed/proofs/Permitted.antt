-- The link permits what document 01 grants, in every state.
use mathlib.Core.Logic.{◌⊎◌, inl, inr}
use mathlib.Core.Path.{◌≡◌, refl, ap, sym, ◌∙◌}
use mathlib.Core.Bool.{Bool, true, false, cond, false≢true}
use mathlib.Core.List.{List, []}
use Prim.Native.Nat.{ℕ, ◌+◌, ◌<◌}
use native.Mathlib.Omega.{arith}
use lib.ListN.{length, take}
use borrow.Author.Tests.{eq-eqb, lt-ltb}
use Rattle.messages.specs.Requests.{svids_command}
use Rattle.messages.specs.declared.request.Request.{Request}
use Rattle.dock.specs.Data.{listed}
use Rattle.dock.specs.Dock.{Decision, step_of, buffer_of}
use Rattle.dock.specs.declared.Policy.{Policy}
use Rattle.dock.specs.declared.Policy.TheVariants.{Give, Nak, Busy}
use Rattle.dock.specs.declared.Standing.{Standing}
use Rattle.dock.specs.declared.Standing.TheVariants.{Asking, Sending}
use Rattle.laptop_laws.specs.Effects.{Call, message}
use Rattle.link.specs.Ends.{laptop_does, dock_hears, dock_answers}
use Rattle.link.specs.Joined.{Way, request, Fate, gone, coming, confirmed, came, System, calls, reach, answer, sent, failed}
use Rattle.link.specs.Link.{is_message, after_call, called, lost_with, handed_over, reached_by, reaches, is_fair, brought, answered_by, answers, arrives, hears_sent, fate_on_failure, hears_failed, loses_answer, step}
use Rattle.link.specs.Permits.{is_confirmed, Follows, Does, Permits}

module _ (modes_of : ℕ → List ℕ) (s : System) where
  -- what is handed over is on its way
  hands_over : (decision : Decision) (out : List ℕ) (fate : Fate) → 0 < (step_of s.dock decision (length out)).length →
      handed_over s.dock decision out fate ≡ coming (take (step_of s.dock decision (length out)).length (buffer_of decision out))
  unfolding handed_over
  hands_over decision out fate h = rw (lt-ltb 0 (step_of s.dock decision (length out)).length h)

  call_is : (c : Call) (out : List ℕ) → is_message c ≡ false → step modes_of (calls c out) s ≡ after_call (laptop_does c s.laptop s.memory out) s
  unfolding step called
  call_is c out e = ap (λ (b : Bool). cond b s (after_call (laptop_does c s.laptop s.memory out) s)) e

  reach_follows : (bytes out : List ℕ) (way : Way) (fate : Fate) → way ≡ request bytes → is_confirmed fate ≡ false →
      reaches out way fate s ≡ reached_by out (dock_hears s.highest s.dock bytes) s
  reach_follows bytes out way fate e f = ap (λ (w : Way). reaches out w fate s) e ∙ go fate f
    where
      go : (x : Fate) → is_confirmed x ≡ false → reaches out (request bytes) x s ≡ reached_by out (dock_hears s.highest s.dock bytes) s
      go gone n = refl
      go (coming a) n = refl
      go (confirmed a) n = absurd (false≢true (sym n))
      go (came b) n = refl

  answer_follows : (policy : Policy) (r : Request) (out : List ℕ) → s.dock.standing ≡ Asking r → is_fair policy r (listed s.dock) ≡ true →
      step modes_of (answer policy out) s ≡ answered_by out (dock_answers s.dock policy r (brought modes_of policy r)) s
  unfolding step
  answer_follows policy r out e fair =
      ap (λ (t : Standing). answers modes_of policy out t s) e ∙
      ap (λ (b : Bool). cond b (answered_by out (dock_answers s.dock policy r (brought modes_of policy r)) s) s) fair

  follows : (policy : Policy) (r : Request) (objects out : List ℕ) → brought modes_of policy r ≡ objects → s.dock.standing ≡ Asking r →
      is_fair policy r (listed s.dock) ≡ true → Follows modes_of s (dock_answers s.dock policy r objects) out (step modes_of (answer policy out) s)
  follows policy r objects out brings e fair =
      let is = answer_follows policy r out e fair ∙ ap (λ (x : List ℕ). answered_by out (dock_answers s.dock policy r x) s) brings in
      (ap (λ (x : System). x.dock) is, λ h. ap (λ (x : System). x.fate) is ∙ hands_over (dock_answers s.dock policy r objects) out s.fate h)

  reaches_so : (bytes out : List ℕ) → s.way ≡ request bytes → is_confirmed s.fate ≡ false →
      step modes_of (reach out) s ≡ reached_by out (dock_hears s.highest s.dock bytes) s
  unfolding step
  reaches_so bytes out e f = reach_follows bytes out s.way s.fate e f

  nak_fair : (r : Request) → r.command ≡ svids_command → listed s.dock ≡ [] → is_fair Nak r (listed s.dock) ≡ true
  unfolding is_fair
  nak_fair r e f = rw (eq-eqb r.command svids_command e, f)

  lost_once : (counted : Bool) (n : ℕ) → lost_with (came counted) n ≡ n + cond counted 1 0
  lost_once true n = refl
  lost_once false n = omega arith

  arrives_so : (bytes : List ℕ) (fate : Fate) → (fate ≡ coming bytes) ⊎ (fate ≡ confirmed bytes) → Does modes_of s (message bytes) [] (arrives fate s)
  arrives_so bytes fate (inl e) = (ap (λ (f : Fate). (arrives f s).laptop) e, ap (λ (f : Fate). (arrives f s).memory) e)
  arrives_so bytes fate (inr e) = (ap (λ (f : Fate). (arrives f s).laptop) e, ap (λ (f : Fate). (arrives f s).memory) e)

  failed_as : (is_page : Bool) (fate : Fate) → s.dock.standing ≡ Sending is_page → s.fate ≡ fate → step modes_of failed s ≡ hears_failed (Sending is_page) s
  unfolding step
  failed_as is_page fate e f = ap (λ (t : Standing). hears_failed t s) e

  sent_as : (is_page : Bool) (fate : Fate) → s.dock.standing ≡ Sending is_page → s.fate ≡ fate → step modes_of sent s ≡ hears_sent (Sending is_page) fate s
  unfolding step
  sent_as is_page fate e f = ap (λ (t : Standing). hears_sent t s.fate s) e ∙ ap (λ (x : Fate). hears_sent (Sending is_page) x s) f

  pub permits : Permits modes_of s
  unfolding step is_fair brought
  permits =
      record {
        request_lost = refl;
        answer_lost = λ bytes e. ap (λ (f : Fate). (loses_answer f s).fate) e;
        call_made = λ c out e. (ap (λ (x : System). x.laptop) (call_is c out e), ap (λ (x : System). x.memory) (call_is c out e));
        request_reaches = λ bytes out e f.
            (ap (λ (x : System). x.dock) (reaches_so bytes out e f), λ h. ap (λ (x : System). x.fate) (reaches_so bytes out e f) ∙ hands_over (dock_hears s.highest s.dock bytes) out gone h);
        policy_gives = λ r out e. follows Give r _ out refl e refl;
        policy_says_busy = λ r out e. follows Busy r [] out refl e refl;
        policy_says_nak = λ r out e c n. follows Nak r [] out refl e (nak_fair r c n);
        answer_arrives = λ bytes e. arrives_so bytes s.fate e;
        failed_early = λ is_page bytes e f. (
          ap (λ (x : System). x.dock) (failed_as is_page (coming bytes) e f),
          ap (λ (x : System). x.fate) (failed_as is_page (coming bytes) e f) ∙ ap fate_on_failure f,
        );
        failed_late = λ is_page counted e f. (
          ap (λ (x : System). x.dock) (failed_as is_page (came counted) e f),
          ap (λ (x : System). x.lost) (failed_as is_page (came counted) e f) ∙ ap (λ (x : Fate). lost_with x s.lost) f ∙ lost_once counted s.lost,
        );
        failed_of_a_lost_one = λ is_page e f. ap (λ (x : System). x.dock) (failed_as is_page gone e f);
        nothing_heard = λ counted bytes out e f.
            ap (λ (x : System). x.lost) (reaches_so bytes out e (ap is_confirmed f)) ∙ ap (λ (x : Fate). lost_with x s.lost) f ∙ lost_once counted s.lost;
        sent_early = λ is_page bytes e f. (
          ap (λ (x : System). x.dock) (sent_as is_page (coming bytes) e f),
          ap (λ (x : System). x.fate) (sent_as is_page (coming bytes) e f),
        );
        sent_late = λ is_page counted e f. (
          ap (λ (x : System). x.dock) (sent_as is_page (came counted) e f),
          ap (λ (x : System). x.fate) (sent_as is_page (came counted) e f),
        );
      }

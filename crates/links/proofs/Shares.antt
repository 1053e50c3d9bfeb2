-- What a side sees of a run over both links is a run of 01's one link.
use mathlib.Core.Path.{◌≡◌, refl, ap, sym, ◌∙◌}
use mathlib.Core.Bool.{Bool, true, false, cond, not, ◌||◌, false≢true}
use mathlib.Core.List.{List, [], ◌∷◌}
use Prim.Native.Nat.{ℕ}
use Rattle.messages.specs.Reading.{read_outcome}
use Rattle.laptop.specs.State.{Memory}
use Rattle.laptop.specs.declared.Laptop.{Laptop}
use Rattle.std.specs.Prelude.{None}
use Rattle.laptop_laws.specs.Effects.{Effect as LaptopEffect}
use Rattle.port.specs.Calls.{is_waiting, waiting_side}
use Rattle.port.specs.Sides.{Wait, same_side, is_others, seen, put_back}
use Rattle.port.specs.declared.Port.{Port}
use Rattle.port.specs.declared.Side.{Side}
use Rattle.port.specs.declared.Side.TheVariants.{Partner, Cable}
use Rattle.port_laws.specs.Effects.{Call, message, next, start_over, drop, enter, exit, timer, protocol_error, one_sided, concerns, memory_of, effect_in}
use Rattle.port_laws.specs.Leaving.{is_others_call, is_blocked, is_left_out}
use Rattle.port_laws.proofs.OneCall.{put_on, kept_in, own_side, concerns_other, own_seen, not_same, parts}
use Rattle.port_laws.proofs.Seeing.{message_idle}
use Rattle.port_laws.proofs.Sides.{other_unchanged, seen_put, seen_put_idle, idle_seen, Waits, own_waits, other_waits, none_waits, waits}
use Rattle.link.specs.Joined.{Fate, gone, coming, confirmed, came, System}
use Rattle.link.specs.Joined.{Event as LinkEvent}
use Rattle.link.specs.Joined.{calls as link_calls}
use Rattle.link.specs.Joined.{lose_request as link_lose_request}
use Rattle.link.specs.Joined.{reach as link_reach}
use Rattle.link.specs.Joined.{answer as link_answer}
use Rattle.link.specs.Joined.{lose_answer as link_lose_answer}
use Rattle.link.specs.Joined.{arrive as link_arrive}
use Rattle.link.specs.Joined.{sent as link_sent}
use Rattle.link.specs.Joined.{failed as link_failed}
use Rattle.link.specs.Ends.{laptop_does}
use Rattle.link.specs.Link.{after_call, arrives}
use Rattle.link.specs.Link.{called as link_called}
use Rattle.link.specs.Link.{step as link_step}
use Rattle.link.specs.Link.{run as link_run}
use Rattle.unharmed.proofs.Runs.{reaches_aside, answers_aside, loses_aside, sent_aside, failed_aside}
use Rattle.links.specs.Joint.{FarEnd, Joint, far_end, system_with, system_seen, joined, kept_in_of, Event, calls, lose_request, reach, answer, lose_answer, arrive, sent, failed, is_message, is_idle, is_unheard, called_on, called, on_link, step, run}
use Rattle.links.specs.Share.{one_sided_event, is_away, share}

abbrev is_call : LinkEvent → Bool
is_call (link_calls c out) = true
is_call link_lose_request = false
is_call (link_reach out) = false
is_call (link_answer policy out) = false
is_call link_lose_answer = false
is_call link_arrive = false
is_call link_sent = false
is_call link_failed = false

-- what a side sees of a joint that has changed on one side
system_own : (s : Side) (p : Port) (far : FarEnd) (j : Joint) → system_seen s (joined s p far j) ≡ system_with s p far
system_own Partner p far j = refl
system_own Cable p far j = refl

system_other : (s t : Side) (l : Laptop) (p : Port) (far : FarEnd) (j : Joint) → same_side s t ≡ false → p ≡ put_back s l j.port →
    system_seen t (joined s p far j) ≡ system_seen t j
system_other Partner Partner l p far j e f = absurd (false≢true (sym e))
system_other Partner Cable l p far j e f = ap (λ (x : Laptop). record { laptop = x; memory = j.cable.memory; way = j.cable.way; fate = j.cable.fate; dock = j.cable.dock; highest = j.cable.highest; lost = j.cable.lost }) (ap (seen Cable) f ∙ other_unchanged Partner Cable l j.port e)
system_other Cable Partner l p far j e f = ap (λ (x : Laptop). record { laptop = x; memory = j.partner.memory; way = j.partner.way; fate = j.partner.fate; dock = j.partner.dock; highest = j.partner.highest; lost = j.partner.lost }) (ap (seen Partner) f ∙ other_unchanged Cable Partner l j.port e)
system_other Cable Cable l p far j e f = absurd (false≢true (sym e))

-- on a link, where a side awaits nothing it awaits nothing afterwards
module _ (modes_of : ℕ → List ℕ) where
  -- what arrives leaves a laptop that awaits nothing awaiting nothing
  arrives_idle : (fate : Fate) (s : System) → s.laptop.wait ≡ None → (arrives fate s).laptop.wait ≡ None
  arrives_idle gone s idle = idle
  arrives_idle (coming bytes) s idle = message_idle s.laptop s.memory idle (read_outcome bytes)
  arrives_idle (confirmed bytes) s idle = message_idle s.laptop s.memory idle (read_outcome bytes)
  arrives_idle (came b) s idle = idle

  idle_on_link : (e : LinkEvent) (s : System) → is_call e ≡ false → s.laptop.wait ≡ None → (link_step modes_of e s).laptop.wait ≡ None
  unfolding link_step
  idle_on_link (link_calls c out) s f idle = absurd (false≢true (sym f))
  idle_on_link link_lose_request s f idle = idle
  idle_on_link (link_reach out) s f idle = ap (λ (l : Laptop). l.wait) (reaches_aside s out s.way s.fate).0 ∙ idle
  idle_on_link (link_answer policy out) s f idle = ap (λ (l : Laptop). l.wait) (answers_aside s modes_of policy out s.dock.standing).0 ∙ idle
  idle_on_link link_lose_answer s f idle = ap (λ (l : Laptop). l.wait) (loses_aside s s.fate).0 ∙ idle
  idle_on_link link_arrive s f idle = arrives_idle s.fate s idle
  idle_on_link link_sent s f idle = ap (λ (l : Laptop). l.wait) (sent_aside s s.dock.standing s.fate).0 ∙ idle
  idle_on_link link_failed s f idle = ap (λ (l : Laptop). l.wait) (failed_aside s s.dock.standing).0 ∙ idle

  -- an event on a side's link is 01's to that side
  link_own : (side : Side) (e : LinkEvent) (j : Joint) → is_call e ≡ false → system_seen side (on_link modes_of side e j) ≡ link_step modes_of e (system_seen side j)
  link_own side e j f = system_own side _ _ j ∙ ap (λ (x : Laptop). record { laptop = x; memory = after.memory; way = after.way; fate = after.fate; dock = after.dock; highest = after.highest; lost = after.lost }) (go (is_others side j.port.wait) refl)
    where
      after : System
      after = link_step modes_of e (system_seen side j)

      go : (t : Bool) → is_others side j.port.wait ≡ t → seen side (put_back side after.laptop j.port) ≡ after.laptop
      go true o = seen_put_idle side after.laptop j.port o (idle_on_link e (system_seen side j) f (idle_seen side j.port o))
      go false o = seen_put side after.laptop j.port o

  link_other : (s side : Side) (e : LinkEvent) (j : Joint) → same_side s side ≡ false → system_seen side (on_link modes_of s e j) ≡ system_seen side j
  link_other s side e j f = system_other s side _ _ _ j f refl

waiter : (side : Side) (w : Wait) → is_others side w ≡ false → not (is_waiting w) ≡ false → waiting_side w ≡ side
waiter side w e f = go (waits side w)
  where
    go : Waits side w → waiting_side w ≡ side
    go (own_waits g h) = g
    go (other_waits g h) = absurd (false≢true (sym e ∙ h))
    go (none_waits g) = absurd (false≢true (sym f ∙ ap (λ (x : Wait). not (is_waiting x)) g))

-- whom a call concerns that is the side's own and does not come with nothing awaited
own_concerns : (side : Side) (c : Call) (w : Wait) → is_others_call side c w ≡ false → is_idle c w ≡ false → concerns c w ≡ side
own_concerns side (message s bytes) w e f = own_side s side e
own_concerns side (next s) w e f = own_side s side e
own_concerns side (start_over s) w e f = own_side s side e
own_concerns side (drop s) w e f = own_side s side e
own_concerns side (enter s svid position) w e f = own_side s side e
own_concerns side (exit s svid position) w e f = own_side s side e
own_concerns side (timer first last) w e f = waiter side w e f
own_concerns side protocol_error w e f = waiter side w e f

pub memory_in : (side : Side) (j : Joint) → memory_of side (kept_in_of j) ≡ (far_end side j).memory
memory_in Partner j = refl
memory_in Cable j = refl

or_true : (t : Bool) → t || true ≡ true
or_true true = refl
or_true false = refl

-- a call of the port
module _ (side : Side) (c : Call) (out : List ℕ) (j : Joint) where
  abbrev w : Wait
  w = j.port.wait

  call_others : is_others_call side c w ≡ true → system_seen side (called c out j) ≡ system_seen side j
  unfolding called
  call_others e = go (is_unheard c j)
    where
      go : (t : Bool) → system_seen side (cond t j (called_on (concerns c w) (effect_in c out (kept_in_of j)) j)) ≡ system_seen side j
      go true = refl
      go false =
          let put = put_on c j.port (memory_of (concerns c w) (kept_in_of j)) out in
          system_other (concerns c w) side put.0 _ _ j (concerns_other side c w e) put.1

  -- the side's own that is left out is not heard
  call_unheard : is_others_call side c w ≡ false → is_blocked side c (kept_in_of j) || is_idle c w ≡ true → is_unheard c j ≡ true
  call_unheard e f = go (is_idle c w) refl
    where
      go : (t : Bool) → is_idle c w ≡ t → is_message c || (is_idle c w || is_blocked (concerns c w) c (kept_in_of j)) ≡ true
      go true g = ap (λ (t : Bool). is_message c || (t || is_blocked (concerns c w) c (kept_in_of j))) g ∙ or_true (is_message c)
      go false g =
          ap (λ (t : Bool). is_message c || (t || is_blocked (concerns c w) c (kept_in_of j))) g ∙
          ap (λ (s : Side). is_message c || is_blocked s c (kept_in_of j)) (own_concerns side c w e g) ∙
          ap (λ (t : Bool). is_message c || t) (blocked (is_blocked side c (kept_in_of j)) (is_idle c w) f g) ∙ or_true (is_message c)
        where
          blocked : (b i : Bool) → b || i ≡ true → i ≡ false → b ≡ true
          blocked true i x y = refl
          blocked false true x y = absurd (false≢true (sym y))
          blocked false false x y = absurd (false≢true x)

  -- it is away: nothing of the side changes
  call_away : is_away side (calls c out) j ≡ true → system_seen side (called c out j) ≡ system_seen side j
  unfolding called
  call_away e = go (is_others_call side c w) refl
    where
      go : (t : Bool) → is_others_call side c w ≡ t → system_seen side (called c out j) ≡ system_seen side j
      go true f = call_others f
      go false f =
          ap (λ (t : Bool). system_seen side (cond t j (called_on (concerns c w) (effect_in c out (kept_in_of j)) j)))
          (call_unheard f (sym (ap (λ (t : Bool). (t || is_blocked side c (kept_in_of j)) || is_idle c w) f) ∙ e))

  -- it is not: it is 01's call to the side
  call_heard : is_message c ≡ false → is_left_out side c (kept_in_of j) ≡ false → is_idle c w ≡ false →
      system_seen side (called c out j) ≡ after_call (laptop_does (one_sided c) (seen side j.port) (far_end side j).memory out) (system_seen side j)
  unfolding called
  call_heard plain kept awake =
      let at = own_concerns side c w (kept_in side c (kept_in_of j) kept).0 awake in
      ap (λ (t : Bool). system_seen side (cond t j (called_on (concerns c w) (effect_in c out (kept_in_of j)) j)))
      (ap (λ (t : Bool). t || (is_idle c w || is_blocked (concerns c w) c (kept_in_of j))) plain ∙
      ap (λ (t : Bool). t || is_blocked (concerns c w) c (kept_in_of j)) awake ∙
      ap (λ (s : Side). is_blocked s c (kept_in_of j)) at ∙ (kept_in side c (kept_in_of j) kept).1) ∙
      ap (λ (s : Side). system_seen side (called_on s (effect_in c out (kept_in_of j)) j)) at ∙
      system_own side _ _ j ∙
      ap (λ (x : LaptopEffect). after_call x (system_seen side j)) (own_seen side c out (kept_in_of j) kept at) ∙
      ap (λ (m : Memory). after_call (laptop_does (one_sided c) (seen side j.port) m out) (system_seen side j)) (memory_in side j)

call_own : (side : Side) (c : Call) (out : List ℕ) (j : Joint) → is_away side (calls c out) j ≡ false →
    system_seen side (called c out j) ≡ link_called (one_sided c) out (system_seen side j)
unfolding called link_called
call_own side (message s bytes) out j e = refl
call_own side (next s) out j e = let f = parts _ (is_idle (next s) j.port.wait) e in call_heard side (next s) out j refl f.0 f.1
call_own side (start_over s) out j e = let f = parts _ (is_idle (start_over s) j.port.wait) e in call_heard side (start_over s) out j refl f.0 f.1
call_own side (drop s) out j e = let f = parts _ (is_idle (drop s) j.port.wait) e in call_heard side (drop s) out j refl f.0 f.1
call_own side (enter s svid position) out j e = let f = parts _ (is_idle (enter s svid position) j.port.wait) e in call_heard side (enter s svid position) out j refl f.0 f.1
call_own side (exit s svid position) out j e = let f = parts _ (is_idle (exit s svid position) j.port.wait) e in call_heard side (exit s svid position) out j refl f.0 f.1
call_own side (timer first last) out j e = let f = parts _ (is_idle (timer first last) j.port.wait) e in call_heard side (timer first last) out j refl f.0 f.1
call_own side protocol_error out j e = let f = parts _ (is_idle protocol_error j.port.wait) e in call_heard side protocol_error out j refl f.0 f.1

-- ONE EVENT. It is away and nothing of the side changes, or it is 01's to the side
module _ (modes_of : Side → ℕ → List ℕ) (side : Side) where
  pub away_changes_nothing : (e : Event) (j : Joint) → is_away side e j ≡ true → system_seen side (step modes_of e j) ≡ system_seen side j
  unfolding step
  away_changes_nothing (calls c out) j e = call_away side c out j e
  away_changes_nothing (lose_request s) j e = link_other (modes_of s) s side _ j (not_same (same_side s side) e)
  away_changes_nothing (reach s out) j e = link_other (modes_of s) s side _ j (not_same (same_side s side) e)
  away_changes_nothing (answer s policy out) j e = link_other (modes_of s) s side _ j (not_same (same_side s side) e)
  away_changes_nothing (lose_answer s) j e = link_other (modes_of s) s side _ j (not_same (same_side s side) e)
  away_changes_nothing (arrive s) j e = link_other (modes_of s) s side _ j (not_same (same_side s side) e)
  away_changes_nothing (sent s) j e = link_other (modes_of s) s side _ j (not_same (same_side s side) e)
  away_changes_nothing (failed s) j e = link_other (modes_of s) s side _ j (not_same (same_side s side) e)

  on_own : (s : Side) (e : LinkEvent) (j : Joint) → is_call e ≡ false → not (same_side s side) ≡ false →
      system_seen side (on_link (modes_of s) s e j) ≡ link_step (modes_of side) e (system_seen side j)
  on_own s e j f g = ap (λ (x : Side). system_seen side (on_link (modes_of x) x e j)) (own_side s side g) ∙ link_own (modes_of side) side e j f

  pub near_is_01s : (e : Event) (j : Joint) → is_away side e j ≡ false →
      system_seen side (step modes_of e j) ≡ link_step (modes_of side) (one_sided_event e) (system_seen side j)
  unfolding step link_step
  near_is_01s (calls c out) j e = call_own side c out j e
  near_is_01s (lose_request s) j e = on_own s link_lose_request j refl e
  near_is_01s (reach s out) j e = on_own s (link_reach out) j refl e
  near_is_01s (answer s policy out) j e = on_own s (link_answer policy out) j refl e
  near_is_01s (lose_answer s) j e = on_own s link_lose_answer j refl e
  near_is_01s (arrive s) j e = on_own s link_arrive j refl e
  near_is_01s (sent s) j e = on_own s link_sent j refl e
  near_is_01s (failed s) j e = on_own s link_failed j refl e

  -- A RUN. What the side sees of it is the run of its share over 01's one link
  pub share_runs : (events : List Event) (j : Joint) →
      system_seen side (run modes_of events j) ≡ link_run (modes_of side) (share modes_of side events j) (system_seen side j)
  unfolding share run link_run
  share_runs [] j = refl
  share_runs (e ∷ events) j = go (share_runs events (step modes_of e j)) (is_away side e j) refl
    where
      after : Joint
      after = step modes_of e j

      go : system_seen side (run modes_of events after) ≡ link_run (modes_of side) (share modes_of side events after) (system_seen side after) → (t : Bool) →
          is_away side e j ≡ t →
          system_seen side (run modes_of events after) ≡
          link_run (modes_of side) (cond t (share modes_of side events after) (one_sided_event e ∷ share modes_of side events after)) (system_seen side j)
      go deeper true f = deeper ∙ ap (link_run (modes_of side) (share modes_of side events after)) (away_changes_nothing e j f)
      go deeper false f = deeper ∙ ap (link_run (modes_of side) (share modes_of side events after)) (near_is_01s e j f)

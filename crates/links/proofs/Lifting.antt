-- A run of 01's one link can be had on a side's, where the other side does not wait.
use mathlib.Core.Path.{◌≡◌, refl, ap, sym, ◌∙◌}
use mathlib.Core.Bool.{Bool, true, false, cond, not, ◌&&◌, ◌||◌, false≢true}
use mathlib.Core.List.{List, [], ◌∷◌}
use Prim.Native.Nat.{ℕ, zero, suc}
use lib.ListN.{length}
use Rattle.laptop.specs.Calls.{short_runs}
use Rattle.laptop.specs.declared.Laptop.{Laptop}
use Rattle.laptop_laws.specs.Effects.{message as laptop_message}
use Rattle.laptop_laws.specs.Effects.{next as laptop_next}
use Rattle.laptop_laws.specs.Effects.{start_over as laptop_start_over}
use Rattle.laptop_laws.specs.Effects.{drop as laptop_drop}
use Rattle.laptop_laws.specs.Effects.{enter as laptop_enter}
use Rattle.laptop_laws.specs.Effects.{exit as laptop_exit}
use Rattle.laptop_laws.specs.Effects.{timer as laptop_timer}
use Rattle.laptop_laws.specs.Effects.{protocol_error as laptop_protocol_error}
use Rattle.port.specs.Sides.{same_side, is_others, put_back}
use Rattle.port.specs.declared.Port.{Port}
use Rattle.port.specs.declared.Side.{Side}
use Rattle.port.specs.declared.Side.TheVariants.{Partner, Cable}
use Rattle.port_laws.specs.Effects.{Call, message, next, start_over, drop, enter, exit, concerns, is_owners, memory_of, effect_in}
use Rattle.port_laws.specs.Leaving.{is_others_call, is_blocked, is_left_out}
use Rattle.port_laws.proofs.OneCall.{put_on}
use Rattle.port_laws.proofs.Sides.{not_others}
use Rattle.link.specs.Exchanges.{exchange, times}
use Rattle.link.specs.Joined.{Event as LinkEvent}
use Rattle.link.specs.Joined.{calls as link_calls}
use Rattle.link.specs.Joined.{lose_request as link_lose_request}
use Rattle.link.specs.Joined.{reach as link_reach}
use Rattle.link.specs.Joined.{answer as link_answer}
use Rattle.link.specs.Joined.{lose_answer as link_lose_answer}
use Rattle.link.specs.Joined.{arrive as link_arrive}
use Rattle.link.specs.Joined.{sent as link_sent}
use Rattle.link.specs.Joined.{failed as link_failed}
use Rattle.links.specs.Joint.{FarEnd, Joint, joined, kept_in_of, is_idle, is_unheard, called_on, called, step}
use Rattle.links.specs.Share.{one_sided_event, is_away, share, event_on, events_on}

-- events of which none is a timer or a protocol error
abbrev is_timer : LinkEvent → Bool
is_timer (link_calls (laptop_message bytes) out) = false
is_timer (link_calls laptop_next out) = false
is_timer (link_calls laptop_start_over out) = false
is_timer (link_calls laptop_drop out) = false
is_timer (link_calls (laptop_enter svid position) out) = false
is_timer (link_calls (laptop_exit svid position) out) = false
is_timer (link_calls (laptop_timer first last) out) = true
is_timer (link_calls laptop_protocol_error out) = true
is_timer link_lose_request = false
is_timer (link_reach out) = false
is_timer (link_answer policy out) = false
is_timer link_lose_answer = false
is_timer link_arrive = false
is_timer link_sent = false
is_timer link_failed = false

abbrev pub NoTimers : List LinkEvent → Type 0
NoTimers [] = Unit
NoTimers (e ∷ events) = (is_timer e ≡ false) × NoTimers events

pub self : (s : Side) → not (same_side s s) ≡ false
self Partner = refl
self Cable = refl

pub port_joined : (side : Side) (p : Port) (far : FarEnd) (j : Joint) → (joined side p far j).port ≡ p
port_joined Partner p far j = refl
port_joined Cable p far j = refl

module _ (side : Side) where
  call_near : (c : Call) (j : Joint) → is_others_call side c j.port.wait ≡ false → is_idle c j.port.wait ≡ false → is_others side j.port.wait ≡ false →
      is_left_out side c (kept_in_of j) || is_idle c j.port.wait ≡ false
  call_near c j own awake free =
      ap (λ (t : Bool). (t || is_blocked side c (kept_in_of j)) || is_idle c j.port.wait) own ∙
      ap (λ (t : Bool). (is_owners c && (t && not (short_runs (length (memory_of side (kept_in_of j)).run) (length (memory_of side (kept_in_of j)).held_run)))) || is_idle c j.port.wait) free ∙
      ap (λ (t : Bool). (is_owners c && false) || t) awake ∙ none (is_owners c)
    where
      none : (t : Bool) → (t && false) || false ≡ false
      none true = refl
      none false = refl

  pub call_free : (c : Call) (out : List ℕ) (j : Joint) → concerns c j.port.wait ≡ side → is_others side j.port.wait ≡ false →
      is_others side (called c out j).port.wait ≡ false
  unfolding called
  call_free c out j at free = go (is_unheard c j)
    where
      go : (t : Bool) → is_others side (cond t j (called_on (concerns c j.port.wait) (effect_in c out (kept_in_of j)) j)).port.wait ≡ false
      go true = free
      go false =
          let put = put_on c j.port (memory_of (concerns c j.port.wait) (kept_in_of j)) out in
          ap (λ (x : Port). is_others side x.wait)
          (port_joined (concerns c j.port.wait) _ _ j ∙ put.1 ∙ ap (λ (s : Side). put_back s put.0 j.port) at) ∙
          not_others side put.0 j.port free

  link_free : (l : Laptop) (far : FarEnd) (j : Joint) → is_others side j.port.wait ≡ false →
      is_others side (joined side (put_back side l j.port) far j).port.wait ≡ false
  link_free l far j free = ap (λ (x : Port). is_others side x.wait) (port_joined side _ far j) ∙ not_others side l j.port free

module _ (modes_of : Side → ℕ → List ℕ) (side : Side) where
  -- such an event is the side's
  near : (e : LinkEvent) (j : Joint) → is_timer e ≡ false → is_others side j.port.wait ≡ false → is_away side (event_on side e) j ≡ false
  near (link_calls (laptop_message bytes) out) j f free = call_near side (message side bytes) j (self side) refl free
  near (link_calls laptop_next out) j f free = call_near side (next side) j (self side) refl free
  near (link_calls laptop_start_over out) j f free = call_near side (start_over side) j (self side) refl free
  near (link_calls laptop_drop out) j f free = call_near side (drop side) j (self side) refl free
  near (link_calls (laptop_enter svid position) out) j f free = call_near side (enter side svid position) j (self side) refl free
  near (link_calls (laptop_exit svid position) out) j f free = call_near side (exit side svid position) j (self side) refl free
  near (link_calls (laptop_timer first last) out) j f free = absurd (false≢true (sym f))
  near (link_calls laptop_protocol_error out) j f free = absurd (false≢true (sym f))
  near link_lose_request j f free = self side
  near (link_reach out) j f free = self side
  near (link_answer policy out) j f free = self side
  near link_lose_answer j f free = self side
  near link_arrive j f free = self side
  near link_sent j f free = self side
  near link_failed j f free = self side

  -- after which the other side does not wait
  still_free : (e : LinkEvent) (j : Joint) → is_timer e ≡ false → is_others side j.port.wait ≡ false → is_others side (step modes_of (event_on side e) j).port.wait ≡ false
  unfolding step
  still_free (link_calls (laptop_message bytes) out) j f free = call_free side (message side bytes) out j refl free
  still_free (link_calls laptop_next out) j f free = call_free side (next side) out j refl free
  still_free (link_calls laptop_start_over out) j f free = call_free side (start_over side) out j refl free
  still_free (link_calls laptop_drop out) j f free = call_free side (drop side) out j refl free
  still_free (link_calls (laptop_enter svid position) out) j f free = call_free side (enter side svid position) out j refl free
  still_free (link_calls (laptop_exit svid position) out) j f free = call_free side (exit side svid position) out j refl free
  still_free (link_calls (laptop_timer first last) out) j f free = absurd (false≢true (sym f))
  still_free (link_calls laptop_protocol_error out) j f free = absurd (false≢true (sym f))
  still_free link_lose_request j f free = link_free side _ _ j free
  still_free (link_reach out) j f free = link_free side _ _ j free
  still_free (link_answer policy out) j f free = link_free side _ _ j free
  still_free link_lose_answer j f free = link_free side _ _ j free
  still_free link_arrive j f free = link_free side _ _ j free
  still_free link_sent j f free = link_free side _ _ j free
  still_free link_failed j f free = link_free side _ _ j free

  back_again : (e : LinkEvent) → one_sided_event (event_on side e) ≡ e
  back_again (link_calls (laptop_message bytes) out) = refl
  back_again (link_calls laptop_next out) = refl
  back_again (link_calls laptop_start_over out) = refl
  back_again (link_calls laptop_drop out) = refl
  back_again (link_calls (laptop_enter svid position) out) = refl
  back_again (link_calls (laptop_exit svid position) out) = refl
  back_again (link_calls (laptop_timer first last) out) = refl
  back_again (link_calls laptop_protocol_error out) = refl
  back_again link_lose_request = refl
  back_again (link_reach out) = refl
  back_again (link_answer policy out) = refl
  back_again link_lose_answer = refl
  back_again link_arrive = refl
  back_again link_sent = refl
  back_again link_failed = refl

  -- so that its share is the run itself
  pub lifted : (events : List LinkEvent) (j : Joint) → NoTimers events → is_others side j.port.wait ≡ false →
      share modes_of side (events_on side events) j ≡ events
  unfolding share
  lifted [] j f free = refl
  lifted (e ∷ events) j f free =
      ap (λ (t : Bool). cond t (share modes_of side (events_on side events) (step modes_of (event_on side e) j))
      (one_sided_event (event_on side e) ∷ share modes_of side (events_on side events) (step modes_of (event_on side e) j)))
      (near e j f.0 free) ∙
      ap (λ (x : LinkEvent). x ∷ share modes_of side (events_on side events) (step modes_of (event_on side e) j)) (back_again e) ∙
      ap (λ (x : List LinkEvent). e ∷ x) (lifted events (step modes_of (event_on side e) j) f.1 (still_free e j f.0 free))

-- exchanges have no timers
pub exchanges_none : (n : ℕ) (out : List ℕ) → NoTimers (times n (exchange out))
exchanges_none zero out = tt
exchanges_none (suc n) out = (refl, (refl, (refl, (refl, (refl, exchanges_none n out)))))

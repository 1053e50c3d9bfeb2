-- The joint does what the port does: a call that it leaves out changes nothing there, and what arrives is the port's message.
use Rattle.std.specs.Prelude.{Option, Some, None}
use mathlib.Core.Path.{◌≡◌, refl, ap, sym, ◌∙◌}
use mathlib.Core.Bool.{Bool, true, false, not, ◌||◌, false≢true}
use mathlib.Core.List.{List, []}
use Prim.Native.Nat.{ℕ}
use Rattle.messages.specs.Reading.{read_outcome}
use Rattle.laptop.specs.State.{Memory}
use Rattle.laptop.specs.declared.Laptop.{Laptop}
use Rattle.hearing.specs.Hearing.{heard}
use Rattle.port.specs.Calls.{is_waiting, waiting_side}
use Rattle.port.specs.Sides.{Wait, is_others, seen, put_back}
use Rattle.port.specs.declared.Side.{Side}
use Rattle.port.specs.declared.Side.TheVariants.{Partner}
use Rattle.std.specs.Prelude.{Some, None}
use Rattle.port_laws.specs.Effects.{Call, message, next, start_over, drop, enter, exit, timer, protocol_error, concerns, Kept, memory_of, kept_on, effect_of, effect_in, kept_by_of}
use Rattle.port_laws.specs.Leaving.{is_others_call, is_blocked}
use Rattle.port_laws.proofs.OneCall.{idle_kept, blocked_changes_nothing}
use Rattle.port_laws.proofs.Seeing.{refused_nine, timer_nine, error_nine}
use Rattle.link.specs.Joined.{Fate, gone, coming, confirmed, came}
use Rattle.link.specs.Link.{arrives}
use Rattle.link.specs.Link.{step as link_step}
use Rattle.link.specs.Needed.{on_way}
use Rattle.links.specs.Joint.{Joint, far_end, system_seen, kept_in_of, arrive, is_message, is_idle, is_unheard, step}
use Rattle.links.proofs.Lifting.{self, port_joined}
use Rattle.links.proofs.Shares.{memory_in}

waits_own : (w : Wait) → is_others (waiting_side w) w ≡ false
waits_own None = refl
waits_own (Some (s, r)) = self s

-- a call is no other side's to the side that it concerns
own_call : (c : Call) (w : Wait) → is_others_call (concerns c w) c w ≡ false
own_call (message s bytes) w = self s
own_call (next s) w = self s
own_call (start_over s) w = self s
own_call (drop s) w = self s
own_call (enter s svid position) w = self s
own_call (exit s svid position) w = self s
own_call (timer first last) w = waits_own w
own_call protocol_error w = waits_own w

-- a timer or the protocol error with nothing awaited
module _ (out : List ℕ) (k : Kept) where
  nothing_waits : (w : Wait) → not (is_waiting w) ≡ true → w ≡ None
  nothing_waits None e = refl
  nothing_waits (Some (s, r)) e = absurd (false≢true e)

  idle_same : (c : Call) → (k.port.wait ≡ None → effect_of c k.port k.partner out ≡ refused_nine k.port k.partner out) →
      (k.port.wait ≡ None → concerns c k.port.wait ≡ Partner) → k.port.wait ≡ None → kept_by_of c out k ≡ k
  idle_same c nine at idle =
      ap (λ (s : Side). kept_on s (effect_of c k.port (memory_of s k) out) k) (at idle) ∙ idle_kept Partner out k idle _ (nine idle)

  idle_changes_nothing : (c : Call) → is_idle c k.port.wait ≡ true → kept_by_of c out k ≡ k
  idle_changes_nothing (message s bytes) e = absurd (false≢true e)
  idle_changes_nothing (next s) e = absurd (false≢true e)
  idle_changes_nothing (start_over s) e = absurd (false≢true e)
  idle_changes_nothing (drop s) e = absurd (false≢true e)
  idle_changes_nothing (enter s svid position) e = absurd (false≢true e)
  idle_changes_nothing (exit s svid position) e = absurd (false≢true e)
  idle_changes_nothing (timer first last) e =
      idle_same (timer first last) (λ f. timer_nine k.port f k.partner out first last) (λ f. ap waiting_side f) (nothing_waits k.port.wait e)
  idle_changes_nothing protocol_error e =
      idle_same protocol_error (λ f. error_nine k.port f k.partner out) (λ f. ap waiting_side f) (nothing_waits k.port.wait e)

pub unheard_changes_nothing : (c : Call) (out : List ℕ) (j : Joint) → is_message c ≡ false → is_unheard c j ≡ true → kept_by_of c out (kept_in_of j) ≡ kept_in_of j
unheard_changes_nothing c out j plain e = go (is_idle c j.port.wait) refl (is_blocked (concerns c j.port.wait) c (kept_in_of j)) refl
    (sym (ap (λ (t : Bool). t || (is_idle c j.port.wait || is_blocked (concerns c j.port.wait) c (kept_in_of j))) plain) ∙ e)
  where
    go : (i : Bool) → is_idle c j.port.wait ≡ i → (b : Bool) → is_blocked (concerns c j.port.wait) c (kept_in_of j) ≡ b →
        is_idle c j.port.wait || is_blocked (concerns c j.port.wait) c (kept_in_of j) ≡ true → kept_by_of c out (kept_in_of j) ≡ kept_in_of j
    go true f b g h = idle_changes_nothing out (kept_in_of j) c f
    go false f true g h = (blocked_changes_nothing (concerns c j.port.wait) c out (kept_in_of j) (own_call c j.port.wait) g).0
    go false f false g h =
        absurd (false≢true (sym (ap (λ (t : Bool). t || is_blocked (concerns c j.port.wait) c (kept_in_of j)) f ∙ g) ∙ h))

-- bytes on their way
unfoldable bytes_on : Option (List ℕ) → List ℕ
bytes_on None = []
bytes_on (Some bytes) = bytes

unfoldable is_there : Option (List ℕ) → Bool
is_there None = false
is_there (Some bytes) = true

-- what arrives from a side's link is the port's message on that side
pub arrival_is_a_message : (modes_of : Side → ℕ → List ℕ) (side : Side) (j : Joint) (bytes : List ℕ) → on_way (far_end side j).fate ≡ Some bytes →
    (step modes_of (arrive side) j).port ≡ (effect_in (message side bytes) [] (kept_in_of j)).step.port
unfolding step link_step bytes_on is_there
arrival_is_a_message modes_of side j bytes e =
    port_joined side _ _ j ∙ ap (λ (x : Laptop). put_back side x j.port) (heard_so (far_end side j).fate e) ∙
    ap (λ (m : Memory). put_back side (heard (seen side j.port) m (read_outcome bytes)).step.laptop j.port) (sym (memory_in side j))
  where
    heard_so : (fate : Fate) → on_way fate ≡ Some bytes →
        (arrives fate (system_seen side j)).laptop ≡ (heard (seen side j.port) (far_end side j).memory (read_outcome bytes)).step.laptop
    heard_so gone f = absurd (false≢true (ap is_there f))
    heard_so (coming b) f = ap (λ (x : List ℕ). (heard (seen side j.port) (far_end side j).memory (read_outcome x)).step.laptop) (ap bytes_on f)
    heard_so (confirmed b) f = ap (λ (x : List ℕ). (heard (seen side j.port) (far_end side j).memory (read_outcome x)).step.laptop) (ap bytes_on f)
    heard_so (came b) f = absurd (false≢true (ap is_there f))

-- No dead end on either side: whatever has happened on both, a wait can be ended, and the side's dock's whole catalogue gathered.
use mathlib.Core.Path.{◌≡◌, refl, ap, sym, ◌∙◌, subst}
use mathlib.Core.Bool.{Bool, true, false, cond, not, ◌||◌, false≢true}
use mathlib.Core.List.{List, [], ◌∷◌, ◌++◌}
use Prim.Native.Nat.{ℕ, ◌≤◌}
use lib.ListN.{length}
use Rattle.messages.specs.declared.request.Request.{Request}
use Rattle.dock.specs.Data.{listed}
use Rattle.laptop.specs.Calls.{step_of, is_awaiting}
use Rattle.laptop.specs.declared.Laptop.{Laptop}
use Rattle.std.specs.Prelude.{Option, Some, None}
use Rattle.owner.specs.Owner.{any_entered}
use Rattle.timers.specs.Timers.{decide_error}
use Rattle.laptop_laws.specs.Effects.{decided}
use Rattle.laptop_laws.specs.Effects.{protocol_error as laptop_protocol_error}
use Rattle.laptop_laws.specs.Effects.{drop as laptop_drop}
use Rattle.port.specs.Calls.{is_waiting, waiting_side}
use Rattle.port.specs.Sides.{Wait, is_others, wait_put, seen}
use Rattle.port.specs.declared.Port.{Port}
use Rattle.port.specs.declared.Side.{Side}
use Rattle.port.specs.declared.Side.TheVariants.{Partner, Cable}
use Rattle.port_laws.specs.Effects.{protocol_error, drop, concerns, effect_in}
use Rattle.port_laws.proofs.Sides.{wait_after, idle_seen, nothing_seen, Waits, own_waits, other_waits, none_waits, waits}
use Rattle.link.specs.Demand.{Meets, Begins, whole, held_words, Holds}
use Rattle.link.specs.Exchanges.{HasAll, exchange, times, to_rest}
use Rattle.link.specs.Needed.{in_all_of}
use Rattle.link.specs.Joined.{Way, clear, request, System}
use Rattle.link.specs.Joined.{Event as LinkEvent}
use Rattle.link.specs.Joined.{calls as link_calls}
use Rattle.link.specs.Joined.{arrive as link_arrive}
use Rattle.link.specs.Link.{way_after, after_call}
use Rattle.link.specs.Link.{called as link_called}
use Rattle.link.specs.Link.{step as link_step}
use Rattle.link.specs.Link.{run as link_run}
use Rattle.unharmed.proofs.Invariant.{WayFits, Reached}
use Rattle.unharmed.proofs.Laws.{there}
use Rattle.progress.proofs.DeadEnd.{error_ends, no_dead_end}
use Rattle.links.specs.Joint.{Joint, far_end, system_seen, kept_in_of, Event, calls, arrive, is_idle, called_on, called, step, run}
use Rattle.links.specs.Share.{share, exchanges_on, to_rest_on}
use Rattle.links.proofs.Lifting.{port_joined, lifted, exchanges_none}
use Rattle.links.proofs.Shares.{share_runs}

-- with nothing awaited no request is on its way, so that a protocol error changes nothing
way_clear : (w : Option Request) (way : Way) → WayFits w way → w ≡ None → way ≡ clear
way_clear w clear f e = refl
way_clear w (request bytes) f e = absurd (no (sym e ∙ f.awaited))
  where
    no : {r : Request} → None ≡ Some r → ⊥
    no x = false≢true (ap is_awaiting x)

error_idle : (modes_of : ℕ → List ℕ) (s : System) → s.laptop.wait ≡ None → s.way ≡ clear → link_step modes_of (link_calls laptop_protocol_error []) s ≡ s
unfolding link_step link_called decide_error step_of way_after
error_idle modes_of s idle free =
    ap (λ (w : Option Request). after_call (decided s.laptop s.memory [] (decide_error s.laptop w)) s) idle ∙
    ap (λ (w : Option Request). with_way (cond (is_awaiting w) s.way clear)) idle ∙ ap with_way (sym free)
  where
    with_way : Way → System
    with_way way = record { laptop = s.laptop; memory = s.memory; way = way; fate = s.fate; dock = s.dock; highest = s.highest; lost = s.lost }

-- a protocol error leaves neither side waiting
error_frees : (modes_of : Side → ℕ → List ℕ) (j : Joint) (named : Side) (r : Request) → j.port.wait ≡ Some (named, r) →
    (step modes_of (calls protocol_error []) j).port.wait ≡ None
unfolding step called
error_frees modes_of j named r e =
    ap (λ (t : Bool). (cond t j (called_on (concerns protocol_error w) (effect_in protocol_error [] (kept_in_of j)) j)).port.wait) (ap (λ (x : Wait). not (is_waiting x) || false) e) ∙
    ap (λ (x : Port). x.wait) (port_joined (waiting_side w) _ _ j) ∙ wait_after (waiting_side w) after j.port ∙
    ap (λ (x : Option Request). wait_put (waiting_side w) x w) (error_ends (seen (waiting_side w) j.port) _ 0 refl) ∙
    ap (λ (x : Wait). wait_put (waiting_side x) None x) e ∙ own named
  where
    w : Wait
    w = j.port.wait

    after : Laptop
    after = (step_of (seen (waiting_side w) j.port) (decide_error (seen (waiting_side w) j.port) (seen (waiting_side w) j.port).wait) 0).laptop

    own : (s : Side) → wait_put s None (Some (s, r)) ≡ None
    own Partner = refl
    own Cable = refl

-- the side's share of coming to rest and gathering, by who waits
module _ (modes_of : Side → ℕ → List ℕ) (side : Side) (n : ℕ) (out : List ℕ) where
  abbrev arrive_and_gather : List LinkEvent
  arrive_and_gather = link_arrive ∷ link_calls laptop_drop [] ∷ times n (exchange out)

  gather_share : (j : Joint) → is_others side j.port.wait ≡ false →
      share modes_of side (arrive side ∷ calls (drop side) [] ∷ exchanges_on side n out) j ≡ arrive_and_gather
  gather_share j free = lifted modes_of side arrive_and_gather j (refl, (refl, exchanges_none n out)) free

  -- the other waits, or nobody: the side's share begins with the arrival
  others_end : (j : Joint) (named : Side) (r : Request) → j.port.wait ≡ Some (named, r) → is_others side j.port.wait ≡ true →
      share modes_of side (calls protocol_error [] ∷ arrive side ∷ calls (drop side) [] ∷ exchanges_on side n out) j ≡ arrive_and_gather
  unfolding share
  others_end j named r e others =
      ap (λ (t : Bool). cond ((t || false) || is_idle protocol_error j.port.wait) (share modes_of side rest after) (link_calls laptop_protocol_error [] ∷ share modes_of side rest after)) others ∙
      gather_share after (ap (is_others side) (error_frees modes_of j named r e))
    where
      after : Joint
      after = step modes_of (calls protocol_error []) j

      rest : List Event
      rest = arrive side ∷ calls (drop side) [] ∷ exchanges_on side n out

  -- the side waits: it begins with the protocol error
  own_ends : (j : Joint) (named : Side) (r : Request) → j.port.wait ≡ Some (named, r) → is_others side j.port.wait ≡ false →
      share modes_of side (calls protocol_error [] ∷ arrive side ∷ calls (drop side) [] ∷ exchanges_on side n out) j ≡ link_calls laptop_protocol_error [] ∷ arrive_and_gather
  unfolding share
  own_ends j named r e free =
      ap (λ (t : Bool). cond ((t || false) || is_idle protocol_error j.port.wait) (share modes_of side rest after) (link_calls laptop_protocol_error [] ∷ share modes_of side rest after)) free ∙
      ap (λ (x : Wait). cond (not (is_waiting x)) (share modes_of side rest after) (link_calls laptop_protocol_error [] ∷ share modes_of side rest after)) e ∙
      ap (λ (x : List LinkEvent). link_calls laptop_protocol_error [] ∷ x) (gather_share after (ap (is_others side) (error_frees modes_of j named r e)))
    where
      after : Joint
      after = step modes_of (calls protocol_error []) j

      rest : List Event
      rest = arrive side ∷ calls (drop side) [] ∷ exchanges_on side n out

module _ (modes_of : Side → ℕ → List ℕ) (side : Side) (start : Joint) (meets : Meets (modes_of side) (far_end side start).dock)
    (all : HasAll (modes_of side) (far_end side start).dock) (begun : Begins (system_seen side start)) (events : List Event) (out : List ℕ) (room : 28 ≤ length out)
    (unentered : any_entered (far_end side (run modes_of events start)).memory.entered ≡ false) where
  abbrev j : Joint
  j = run modes_of events start

  abbrev n : ℕ
  n = in_all_of (length (listed (far_end side start).dock))

  abbrev HoldsWhole : System → Type 0
  HoldsWhole = Holds (whole (modes_of side) (far_end side start).dock)

  is : system_seen side j ≡ link_run (modes_of side) (share modes_of side events start) (system_seen side start)
  is = share_runs modes_of side events start

  -- 01's, from what the side sees
  from_here : HoldsWhole (link_run (modes_of side) (link_calls laptop_protocol_error [] ∷ arrive_and_gather modes_of side n out) (system_seen side j))
  from_here =
      subst (λ (s : System). any_entered s.memory.entered ≡ false → HoldsWhole (link_run (modes_of side) (to_rest ++ times n (exchange out)) s)) (sym is)
      (λ u. (no_dead_end (modes_of side) (system_seen side start) meets all out room begun (share modes_of side events start) u).1) unentered

  reached : Reached (modes_of side) (far_end side start).dock (held_words (system_seen side start)) (system_seen side j)
  reached = subst (Reached (modes_of side) (far_end side start).dock (held_words (system_seen side start))) (sym is)
      (there (modes_of side) (system_seen side start) meets begun (share modes_of side events start))

  without_error : (system_seen side j).laptop.wait ≡ None → HoldsWhole (link_run (modes_of side) (arrive_and_gather modes_of side n out) (system_seen side j))
  unfolding link_run
  without_error idle =
      subst (λ (s : System). HoldsWhole (link_run (modes_of side) (arrive_and_gather modes_of side n out) s))
      (error_idle (modes_of side) (system_seen side j) idle (way_clear _ _ reached.invariant.way_fits idle)) from_here

  led : (more : List Event) (shared : List LinkEvent) → share modes_of side more j ≡ shared → HoldsWhole (link_run (modes_of side) shared (system_seen side j)) →
      HoldsWhole (system_seen side (run modes_of more j))
  led more shared e h = subst HoldsWhole (sym (share_runs modes_of side more j ∙ ap (λ (x : List LinkEvent). link_run (modes_of side) x (system_seen side j)) e)) h

  -- with no mode entered on the side, and a dock that has all that is asked
  pub no_dead_end_on : HoldsWhole (system_seen side (run modes_of (to_rest_on side j.port.wait ++ exchanges_on side n out) j))
  no_dead_end_on = go j.port.wait refl
    where
      go : (w : Wait) → j.port.wait ≡ w → HoldsWhole (system_seen side (run modes_of (to_rest_on side w ++ exchanges_on side n out) j))
      go None e = led _ _ (gather_share modes_of side n out j (ap (is_others side) e)) (without_error (nothing_seen side j.port e))
      go (Some (named, r)) e = by_waits (waits side j.port.wait)
        where
          by_waits : Waits side j.port.wait → HoldsWhole (system_seen side (run modes_of (to_rest_on side (Some (named, r)) ++ exchanges_on side n out) j))
          by_waits (own_waits f g) = led _ _ (own_ends modes_of side n out j named r e g) from_here
          by_waits (other_waits f g) = led _ _ (others_end modes_of side n out j named r e g) (without_error (idle_seen side j.port g))
          by_waits (none_waits f) = absurd (false≢true (ap is_waiting (sym f ∙ e)))

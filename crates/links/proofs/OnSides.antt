-- Demand 3 for each side, from that of 01's one link by the side's share.
use mathlib.Core.Path.{◌≡◌, ap, sym, ◌∙◌, subst}
use mathlib.Core.Bool.{false}
use mathlib.Core.List.{List, []}
use Prim.Native.Nat.{ℕ, ◌+◌, ◌/◌, ◌<◌, ◌≤◌}
use lib.ListN.{length}
use Rattle.messages.specs.Layout.{Message}
use Rattle.pages.specs.Pages.{per_page}
use Rattle.dock.specs.Data.{listed}
use Rattle.dock.specs.declared.Dock.{Dock}
use Rattle.laptop.specs.State.{identity_request}
use Rattle.laptop.specs.declared.Candidate.TheVariants.{Absent}
use Rattle.std.specs.Prelude.{Some, None}
use Rattle.owner.specs.Owner.{any_entered}
use Rattle.port.specs.Sides.{is_others, seen}
use Rattle.port.specs.declared.Side.{Side}
use Rattle.port_laws.specs.Effects.{Call, one_sided}
use Rattle.link.specs.Demand.{Meets, AtRest, Begins, whole, Holds, OldOrWhole, Lowers, Replaces, Counts, Completes, Raises, EndsBy, NeverBad, RequestTaken}
use Rattle.link.specs.Exchanges.{HasAll, exchange, times, LossFree, NextAsks}
use Rattle.link.specs.Needed.{received, in_all_of}
use Rattle.link.specs.Joined.{System}
use Rattle.link.specs.Joined.{Event as LinkEvent}
use Rattle.link.specs.Link.{run as link_run}
use Rattle.unharmed.proofs.Laws.{begins_with, old_or_whole, never_bad_there, request_taken}
use Rattle.progress.proofs.Asking.{asks_for_what_is_needed}
use Rattle.progress.proofs.LossFree.{loss_free}
use Rattle.progress.proofs.Laws.{lowered_by_one, raised_by, replaced_at_zero, pages_counted, completed, ends_only_by}
use Rattle.links.specs.Joint.{Joint, far_end, system_seen, Event, calls, step, run}
use Rattle.links.specs.Share.{is_away, share, exchanges_on}
use Rattle.links.proofs.Lifting.{lifted, exchanges_none}
use Rattle.links.proofs.Shares.{near_is_01s, share_runs}

module _ (modes_of : Side → ℕ → List ℕ) (side : Side) where
  -- it begins when a call for the side, at rest there, sends Discover Identity
  pub begins_on : (j : Joint) → AtRest (system_seen side j) → (out : List ℕ) (c : Call) → is_away side (calls c out) j ≡ false →
      (seen side (step modes_of (calls c out) j).port).wait ≡ Some identity_request → Begins (system_seen side (step modes_of (calls c out) j))
  begins_on j rest out c near asks =
      let is = near_is_01s modes_of side (calls c out) j near in
      subst Begins (sym is)
      (begins_with (modes_of side) (system_seen side j) rest out (one_sided c) (sym (ap (λ (s : System). s.laptop.wait) is) ∙ asks))

  -- whatever the other side does meanwhile: as many exchanges of the side as its gathering needs answers end with its dock's whole catalogue
  module _ (j : Joint) (meets : Meets (modes_of side) (far_end side j).dock) (all : HasAll (modes_of side) (far_end side j).dock) (rest : AtRest (system_seen side j))
      (absent : (seen side j.port).candidate ≡ Absent) (unentered : any_entered (far_end side j).memory.entered ≡ false) (out : List ℕ) (room : 28 ≤ length out) where
    abbrev n : ℕ
    n = length (listed (far_end side j).dock)

    abbrev one : LossFree (modes_of side) (system_seen side j) out
    one = loss_free (modes_of side) (system_seen side j) meets all rest absent unentered out room

    pub whole_on : (events : List Event) → share modes_of side events j ≡ times (in_all_of n) (exchange out) →
        Holds (whole (modes_of side) (far_end side j).dock) (system_seen side (run modes_of events j)) ×
        (0 < n → (system_seen side (run modes_of events j)).laptop.pages ≡ n / per_page + 1)
    whole_on events is =
        let there = share_runs modes_of side events j ∙ ap (λ (x : List LinkEvent). link_run (modes_of side) x (system_seen side j)) is in
        subst (λ (s : System). Holds (whole (modes_of side) (far_end side j).dock) s × (0 < n → s.laptop.pages ≡ n / per_page + 1)) (sym there) (one.1, one.2)

    -- and there is such a run where the other does not wait
    pub exchanges_shared : is_others side j.port.wait ≡ false → share modes_of side (exchanges_on side (in_all_of n) out) j ≡ times (in_all_of n) (exchange out)
    exchanges_shared free = lifted modes_of side (times (in_all_of n) (exchange out)) j (exchanges_none (in_all_of n) out) free

-- from the moment that a side's Identity has gone out
module _ (modes_of : Side → ℕ → List ℕ) (side : Side) (start : Joint) (meets : Meets (modes_of side) (far_end side start).dock) (begun : Begins (system_seen side start))
    (events : List Event) where
  abbrev pub there : System
  there = system_seen side (run modes_of events start)

  abbrev pub came : List Message
  came = received (modes_of side) (share modes_of side events start) (system_seen side start) []

  abbrev d : Dock
  d = (far_end side start).dock

  -- what holds where the share has led holds where the run has
  so : (P : System → Type 0) → P (link_run (modes_of side) (share modes_of side events start) (system_seen side start)) → P there
  so P x = subst P (sym (share_runs modes_of side events start)) x

  pub old_or_whole_on : OldOrWhole (modes_of side) (system_seen side start) there
  old_or_whole_on = so (OldOrWhole (modes_of side) (system_seen side start)) (old_or_whole (modes_of side) (system_seen side start) meets begun (share modes_of side events start))

  pub lowered_on : (e : LinkEvent) → Lowers (modes_of side) d e there came
  lowered_on e = so (λ s. Lowers (modes_of side) d e s came) (lowered_by_one (modes_of side) (system_seen side start) meets begun (share modes_of side events start) e)

  pub raised_on : (e : LinkEvent) → Raises (modes_of side) d e there came
  raised_on e = so (λ s. Raises (modes_of side) d e s came) (raised_by (modes_of side) (system_seen side start) meets begun (share modes_of side events start) e)

  pub replaced_on : (e : LinkEvent) → Replaces (modes_of side) d e there came
  replaced_on e = so (λ s. Replaces (modes_of side) d e s came) (replaced_at_zero (modes_of side) (system_seen side start) meets begun (share modes_of side events start) e)

  pub counted_on : Counts (modes_of side) d there came
  counted_on = so (λ s. Counts (modes_of side) d s came) (pages_counted (modes_of side) (system_seen side start) meets begun (share modes_of side events start))

  pub completed_on : (e : LinkEvent) → Completes (modes_of side) d e there came
  completed_on e = so (λ s. Completes (modes_of side) d e s came) (completed (modes_of side) (system_seen side start) meets begun (share modes_of side events start) e)

  pub ends_on : (e : LinkEvent) → EndsBy (modes_of side) d e there came
  ends_on e = so (λ s. EndsBy (modes_of side) d e s came) (ends_only_by (modes_of side) (system_seen side start) meets begun (share modes_of side events start) e)

  pub never_bad_on : (e : LinkEvent) → NeverBad e there
  never_bad_on e = so (NeverBad e) (never_bad_there (modes_of side) (system_seen side start) meets begun (share modes_of side events start) e)

  pub requests_on : RequestTaken there
  requests_on = so RequestTaken (request_taken (modes_of side) (system_seen side start) meets begun (share modes_of side events start))

  pub asks_on : (out : List ℕ) → 28 ≤ length out → there.laptop.wait ≡ None → any_entered there.memory.entered ≡ false →
      NextAsks (modes_of side) d there came out
  asks_on out room =
      so (λ s. s.laptop.wait ≡ None → any_entered s.memory.entered ≡ false → NextAsks (modes_of side) d s came out)
      (asks_for_what_is_needed (modes_of side) (system_seen side start) meets begun (share modes_of side events start) out room)

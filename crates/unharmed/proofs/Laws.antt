-- Demand 3, of the definitions that the promises of both ends cite.
use mathlib.Core.Logic.{inl, inr}
use mathlib.Core.Path.{◌≡◌, refl, ap, ap₂, sym, ◌∙◌, subst}
use mathlib.Core.Bool.{true}
use mathlib.Core.List.{List, []}
use Prim.Native.Nat.{ℕ}
use native.Mathlib.Omega.{arith}
use lib.ListN.{length}
use Rattle.messages.specs.Editions.{ours}
use Rattle.messages.specs.Layout.{message_bytes}
use Rattle.messages.specs.Table.{row_of, counts_of, fits, shape}
use Rattle.messages.specs.Writing.{well_shaped}
use Rattle.messages.specs.declared.request.Request.{Request}
use Rattle.messages.specs.declared.edition.Edition.{Edition}
use Rattle.dock.specs.Data.{with_standing}
use Rattle.dock.specs.Dock.{step_of}
use Rattle.dock.specs.declared.Standing.{Standing}
use Rattle.dock.specs.declared.Standing.TheVariants.{Ready}
use Rattle.laptop.specs.Calls.{Decision, sends, is_awaiting}
use Rattle.laptop.specs.Calls.{step_of as laptop_step_of}
use Rattle.owner.specs.Owner.{request_message}
use Rattle.laptop.specs.State.{ended, dropped, awaiting, identity_request, identity_asked}
use Rattle.laptop.specs.declared.Candidate.{Candidate}
use Rattle.laptop.specs.declared.Candidate.TheVariants.{Absent}
use Rattle.laptop.specs.declared.Laptop.{Laptop}
use Rattle.std.specs.Prelude.{Option, Some, None}
use Rattle.laptop_laws.specs.Effects.{Call, message, next, start_over, drop, enter, exit, timer, protocol_error, decided}
use Rattle.laptop_laws.specs.WellFormed.{WaitFits, WellFormed}
use Rattle.laptop_laws.proofs.Laws.{keeps}
use Rattle.link.specs.Demand.{Meets, AtRest, Begins, held_words, OldOrWhole, NeverBad, RequestTaken}
use Rattle.link.specs.Joined.{Way, request, System, Event, calls}
use Rattle.link.specs.Link.{way_after, after_call, called, step, run}
use Rattle.unharmed.proofs.AtDock.{Inv, reached, request_decided}
use Rattle.unharmed.proofs.AtLaptop.{Decides, stays, asks_identity, asks_other, drops, ends, identity_absent, next_is, start_over_is, drop_is, enter_is, exit_is, timer_is, error_is}
use Rattle.unharmed.proofs.Bytes.{SendsOut, sends_out}
use Rattle.unharmed.proofs.Course.{nothing}
use Rattle.unharmed.proofs.Invariant.{WayFits, dock_at, CandidateIs, Reached}
use Rattle.unharmed.proofs.Runs.{runs, does}

pub identity_shaped : well_shaped (request_message identity_request) ≡ true
unfolding well_shaped shape fits row_of counts_of
identity_shaped = refl

abbrev awaited_by : Option Request → Request
awaited_by None = identity_request
awaited_by (Some r) = r

-- a call with which a laptop at rest comes to await Identity has sent it
module _ (modes_of : ℕ → List ℕ) (s : System) (rest : AtRest s) (out : List ℕ) where
  abbrev Asks : Call → Decision → Type 0
  Asks c x =
      (laptop_step_of s.laptop x (length out)).laptop.wait ≡ Some identity_request →
      way_after (decided s.laptop s.memory out x) s.way ≡ request (message_bytes ours (request_message identity_request))

  idle : (l : Laptop) → l.wait ≡ None → l.wait ≡ Some identity_request → ⊥
  idle l e f = let n : ◌≡◌ {A = Option Request} None (Some identity_request) = sym e ∙ f in let o : ◌≡◌ {A = ℕ} 0 1 = cc in omega arith

  asks_sent : (r : Request) (after : Laptop) → after.wait ≡ Some r → (r.command ≡ 1 → after.edition ≡ ours) → (c : Call) →
      Asks c (sends (request_message r) after)
  asks_sent r after w at c e = go (sends_out s.laptop after s.memory (request_message r) out s.way (ap is_awaiting w))
    where
      go : SendsOut s.laptop after s.memory (request_message r) out s.way (ap is_awaiting w) →
          way_after (decided s.laptop s.memory out (sends (request_message r) after)) s.way ≡ request (message_bytes ours (request_message identity_request))
      go (inl f) =
          let same : Some r ≡ Some identity_request = sym w ∙ ap (λ (l : Laptop). l.wait) (sym f.0) ∙ e in
          let first : r.command ≡ 1 = ap (λ (x : Option Request). (awaited_by x).command) same in
          f.1 ∙ ap₂ (λ (n : Edition) (x : Option Request). request (message_bytes n (request_message (awaited_by x)))) (at first) same
      go (inr f) = absurd (idle s.laptop rest.nothing_awaited (ap (λ (l : Laptop). l.wait) (sym f.0) ∙ e))

  decided_sent : (c : Call) (x : Decision) → Decides s.laptop c x → Asks c x
  unfolding laptop_step_of
  decided_sent c x (stays number n f) = subst (Asks c) (sym f) (λ e. absurd (idle s.laptop rest.nothing_awaited e))
  decided_sent c x (asks_identity a f) = subst (Asks c) (sym f) (asks_sent identity_request (identity_asked s.laptop) refl (λ h. refl) c)
  decided_sent c x (asks_other r least few f) = subst (Asks c) (sym f) (asks_sent r (awaiting r s.laptop) refl (λ h. absurd (omega (arith, least, h))) c)
  decided_sent c x (drops told a f) = subst (Asks c) (sym f) (λ e. absurd (idle (dropped s.laptop) refl e))
  decided_sent c x (ends told f) = subst (Asks c) (sym f) (λ e. absurd (idle (ended s.laptop) refl e))

  begins_by : (c : Call) (x : Decision) → Decides s.laptop c x → step modes_of (calls c out) s ≡ after_call (decided s.laptop s.memory out x) s →
      WellFormed (laptop_step_of s.laptop x (length out)).laptop s.memory → (step modes_of (calls c out) s).laptop.wait ≡ Some identity_request →
      Begins (step modes_of (calls c out) s)
  begins_by c x f e w a =
      subst Begins (sym e)
      (record {
        formed = w;
        identity_awaited = ap (λ (y : System). y.laptop.wait) (sym e) ∙ a;
        identity_out = decided_sent c x f (ap (λ (y : System). y.laptop.wait) (sym e) ∙ a);
        nothing_else = rest.nothing_comes;
        at_rest = rest.dock_ready;
      })

  pub begins_with : (c : Call) → (step modes_of (calls c out) s).laptop.wait ≡ Some identity_request → Begins (step modes_of (calls c out) s)
  unfolding step called
  begins_with (message bytes) a = absurd (idle s.laptop rest.nothing_awaited a)
  begins_with next a = begins_by next _ (next_is s.laptop s.memory rest.formed) refl (keeps next s.laptop s.memory out rest.formed) a
  begins_with start_over a =
      begins_by start_over _ (start_over_is s.laptop s.memory rest.formed) refl (keeps start_over s.laptop s.memory out rest.formed) a
  begins_with drop a = begins_by drop _ (drop_is s.laptop s.memory rest.formed) refl (keeps drop s.laptop s.memory out rest.formed) a
  begins_with (enter svid position) a =
      begins_by (enter svid position) _ (enter_is s.laptop s.memory rest.formed svid position) refl
      (keeps (enter svid position) s.laptop s.memory out rest.formed) a
  begins_with (exit svid position) a =
      begins_by (exit svid position) _ (exit_is s.laptop s.memory rest.formed svid position) refl
      (keeps (exit svid position) s.laptop s.memory out rest.formed) a
  begins_with (timer first last) a =
      begins_by (timer first last) _ (timer_is s.laptop s.memory rest.formed first last) refl
      (keeps (timer first last) s.laptop s.memory out rest.formed) a
  begins_with protocol_error a =
      begins_by protocol_error _ (error_is s.laptop s.memory rest.formed) refl (keeps protocol_error s.laptop s.memory out rest.formed) a

module _ (modes_of : ℕ → List ℕ) (start : System) (meets : Meets modes_of start.dock) (begins : Begins start) where
  pub no_candidate : start.laptop.candidate ≡ Absent
  no_candidate =
      identity_absent start.laptop next identity_request start.memory
      (subst (λ (w : Option Request). WaitFits w start.laptop.candidate start.laptop.pages start.laptop.stored start.memory.svids)
      begins.identity_awaited begins.formed.wait_fits) refl

  pub begun : Reached modes_of start.dock (held_words start) start
  begun =
      reached modes_of start.dock (held_words start) start start.dock.edition start.dock.page Ready nothing begins.nothing_else
      (ap (λ (t : Standing). with_standing t start.dock) begins.at_rest)
      (record {
        formed = begins.formed;
        candidate_is =
            subst
            (λ (c : Candidate). CandidateIs modes_of start.dock c start.laptop.gathered start.laptop.stored start.laptop.pages start.memory Ready start.dock.page nothing start.lost)
            (sym no_candidate) tt;
        held_is = inl refl;
        way_fits =
            subst (WayFits start.laptop.wait) (sym begins.identity_out)
            (record {
              asked = identity_request;
              awaited = begins.identity_awaited;
              asked_at = ours;
              bytes_are = refl;
              shaped = identity_shaped;
              few = omega arith;
            });
        fate_fits = tt;
        asks_fit = tt;
      })

  module _ (events : List Event) where
    abbrev after : System
    after = run modes_of events start

    pub there : Reached modes_of start.dock (held_words start) after
    there = runs modes_of start.dock meets (held_words start) events start begun

    -- 1. what is held is the old catalogue, or the dock's whole one in order
    pub old_or_whole : OldOrWhole modes_of start after
    old_or_whole = there.invariant.held_is

    -- 2. what arrives at the laptop is refused 6 or 14 if at all, and what reaches the dock never
    pub never_bad_there : (e : Event) → NeverBad e after
    never_bad_there e = (does modes_of start start.dock (held_words start) refl meets e after there).never_bad

    taken_at : (s : System) → Reached modes_of start.dock (held_words start) s → RequestTaken s
    unfolding step_of
    taken_at s r bytes room e =
        let d : s.dock ≡ dock_at modes_of start.dock r.edition_at r.page_at r.standing_at = ap (λ (x : System). x.dock) r.is in
        let i : Inv modes_of start.dock (held_words start) s.laptop s.memory (request bytes) r.page_at r.standing_at r.carried s.lost =
        subst (λ (w : Way). Inv modes_of start.dock (held_words start) s.laptop s.memory w r.page_at r.standing_at r.carried s.lost) e r.invariant in
        let x = request_decided modes_of start.dock (held_words start) s.highest r.edition_at s.laptop s.memory bytes r.page_at r.standing_at r.carried s.lost i [] in
        rw (d, x)

    pub request_taken : RequestTaken after
    request_taken = taken_at after there

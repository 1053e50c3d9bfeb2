-- Whatever has been lost, next asks for an answer that is needed.
use mathlib.Core.Logic.{◌⊎◌, inl, inr}
use mathlib.Core.Path.{◌≡◌, refl, ap, sym, ◌∙◌, subst}
use mathlib.Core.Bool.{true, false, false≢true}
use mathlib.Core.List.{List, []}
use Prim.Native.Nat.{ℕ, ◌+◌, ◌/◌, ◌<◌, ◌≤◌}
use native.Mathlib.Omega.{arith}
use lib.ListN.{length, get_or}
use lib.Seq.{get_or-take}
use borrow.Author.Tests.{le-ltb}
use Rattle.messages.specs.Layout.{Message}
use Rattle.messages.specs.Requests.{svids_command, modes_command}
use Rattle.messages.specs.Table.{pd_sid}
use Rattle.messages.specs.Writing.{well_shaped}
use Rattle.messages.specs.declared.request.Request.{Request}
use Rattle.dock.specs.Data.{listed}
use Rattle.dock.specs.declared.Dock.{Dock}
use Rattle.laptop.specs.Calls.{sends, is_awaiting}
use Rattle.owner.specs.Owner.{any_entered, discover, request_message, asks_next}
use Rattle.laptop.specs.State.{identity_request, identity_asked, awaiting}
use Rattle.laptop.specs.declared.Candidate.{Candidate}
use Rattle.laptop.specs.declared.Candidate.TheVariants.{Absent, Open, Done}
use Rattle.laptop.specs.declared.Laptop.{Laptop}
use Rattle.std.specs.Prelude.{Some, None}
use Rattle.laptop_laws.specs.Effects.{next}
use Rattle.laptop_laws.specs.WellFormed.{Listed, CandidateFits}
use Rattle.link.specs.Demand.{Meets, Begins, held_words}
use Rattle.link.specs.Exchanges.{AsksModes, NextAsks}
use Rattle.link.specs.Joined.{System, Event, calls}
use Rattle.link.specs.Link.{step, run}
use Rattle.link.specs.Needed.{identity_answer, has_come, list_answers, missing, needed, received}
use Rattle.unharmed.proofs.Invariant.{CandidateIs, Complete, Reached}
use Rattle.unharmed.proofs.Laws.{identity_shaped, there}
use Rattle.progress.proofs.Exchange.{standing, next_sends}
use Rattle.progress.proofs.InOrder.{Come, still_needed}
use Rattle.progress.proofs.Laws.{tells}
use Rattle.progress.proofs.LossFree.{asks_identity}
use Rattle.progress.proofs.Receiving.{list_open, list_done}
use Rattle.progress.proofs.Shapes.{svids_request_shaped, modes_request_shaped, some_svid}
use Rattle.progress.proofs.Stages.{asks_svids, asks_modes}
use Rattle.progress.proofs.Tells.{Tells, none_came, all_came, pages_come, modes_come, open_left, open_needed, none_left, modes_left_list}

module _ (modes_of : ℕ → List ℕ) (start : System) (meets : Meets modes_of start.dock) (out : List ℕ) (room : 28 ≤ length out) (s : System)
    (r : Reached modes_of start.dock (held_words start) s) (idle : s.laptop.wait ≡ None) (unentered : any_entered s.memory.entered ≡ false)
    (got : List Message) where
  abbrev d : Dock
  d = start.dock

  abbrev after : System
  after = step modes_of (calls next out) s

  -- a request that next sends is awaited
  awaited : (q : Request) (asking : Laptop) → asks_next s.laptop s.memory.svids s.laptop.candidate ≡ sends (request_message q) asking →
      asking.wait ≡ Some q → well_shaped (request_message q) ≡ true → after.laptop.wait ≡ Some q
  awaited q asking e w good =
      let at : s ≡ standing modes_of d s.highest out room r.edition_at s.laptop s.memory s.way s.fate r.page_at r.standing_at s.lost =
      ap (λ (x : Dock). record { laptop = s.laptop; memory = s.memory; way = s.way; fate = s.fate; dock = x; highest = s.highest; lost = s.lost }) (ap (λ (x : System). x.dock) r.is) in
      ap (λ (x : System). (step modes_of (calls next out) x).laptop.wait) at ∙
      ap (λ (x : System). x.laptop.wait)
      (next_sends modes_of d s.highest out room r.edition_at s.laptop s.memory s.way s.fate r.page_at r.standing_at s.lost r.invariant.formed.lent idle unentered q asking e
      (ap is_awaiting w) good) ∙ w

  identity_next : s.laptop.candidate ≡ Absent → after.laptop.wait ≡ Some identity_request
  identity_next a = awaited identity_request (identity_asked s.laptop) (asks_identity s.laptop s.memory.svids a) refl identity_shaped

  svids_next : s.laptop.candidate ≡ Open → after.laptop.wait ≡ Some (discover pd_sid svids_command)
  svids_next a =
      awaited (discover pd_sid svids_command) (awaiting (discover pd_sid svids_command) s.laptop) (asks_svids s.laptop s.memory.svids a) refl svids_request_shaped

  modes_next : s.laptop.candidate ≡ Done → s.laptop.stored < length (listed d) → Come modes_of d meets (length (listed d) / 12 + 1) s.laptop.stored got →
      AsksModes modes_of d got after
  modes_next a h come =
      let fits : Listed s.laptop.gathered s.laptop.stored s.memory.svids s.memory.modes × (s.laptop.stored < s.laptop.gathered.count) =
      subst (λ (c : Candidate). CandidateFits c s.laptop.gathered s.laptop.pages s.laptop.stored s.memory.svids s.memory.modes) a
      r.invariant.formed.candidate_fits in
      let complete : Complete modes_of d s.laptop.gathered s.laptop.stored s.laptop.pages s.memory r.carried s.lost =
      subst (λ (c : Candidate). CandidateIs modes_of d c s.laptop.gathered s.laptop.stored s.laptop.pages s.memory r.standing_at r.page_at r.carried s.lost) a
      r.invariant.candidate_is in
      let named : get_or s.memory.svids s.laptop.stored 0 ≡ get_or (listed d) s.laptop.stored 0 =
      sym (get_or-take s.laptop.gathered.count s.memory.svids s.laptop.stored 0 fits.1) ∙
      ap (λ (x : List ℕ). get_or x s.laptop.stored 0) complete.same_list in
      let good : well_shaped (request_message (discover (get_or s.memory.svids s.laptop.stored 0) modes_command)) ≡ true =
      subst (λ (n : ℕ). well_shaped (request_message (discover n modes_command)) ≡ true) (sym named)
      (modes_request_shaped (get_or (listed d) s.laptop.stored 0) (some_svid modes_of d meets s.laptop.stored h) (meets.svids_fit s.laptop.stored)) in
      record {
        place = s.laptop.stored;
        is_listed = h;
        asked =
            awaited (discover (get_or s.memory.svids s.laptop.stored 0) modes_command) (awaiting (discover (get_or s.memory.svids s.laptop.stored 0) modes_command) s.laptop)
            (asks_modes s.laptop s.memory.svids a) refl good ∙
            ap (λ (n : ℕ). Some (discover n modes_command)) named;
        not_come = come.modes_came s.laptop.stored h ∙ le-ltb s.laptop.stored s.laptop.stored (omega arith);
      }

  asks_so : Tells modes_of d meets s.laptop got → NextAsks modes_of d s got out
  asks_so (none_came e a) = (
    λ x. identity_next a,
    λ x y. absurd (false≢true (ap (has_come (identity_answer d)) (sym e) ∙ x)),
    λ x y. absurd (false≢true (sym x ∙ list_open (listed d) got (subst (λ (g : List Message). 0 < missing (list_answers (listed d)) g) (sym e) (none_left modes_of d meets)))),
  )
  asks_so (all_came n z a w k) = (
    λ x. identity_next a,
    λ x y. absurd (false≢true (sym (list_done (listed d) got z) ∙ y)),
    λ x y. absurd (omega arith),
  )
  asks_so (pages_come p a count most pages come) = (
    λ x. absurd (begun x),
    λ x y. svids_next a,
    λ x y. absurd (false≢true (sym x ∙ list_open (listed d) got (open_left modes_of d meets p got most come))),
  )
    where
      begun : (got ≡ []) ⊎ (needed modes_of d got ≡ 0) → ⊥
      begun (inl e) = false≢true (ap (has_come (identity_answer d)) (sym e) ∙ come.identity_came)
      begun (inr e) = omega (arith, open_needed modes_of d meets p got most come)
  asks_so (modes_come a some h k come) = (
    λ x. absurd (begun x),
    λ x y. absurd (false≢true (sym (list_done (listed d) got (modes_left_list modes_of d meets s.laptop.stored got some come)) ∙ y)),
    λ x y. modes_next a h come,
  )
    where
      begun : (got ≡ []) ⊎ (needed modes_of d got ≡ 0) → ⊥
      begun (inl e) = false≢true (ap (has_come (identity_answer d)) (sym e) ∙ come.identity_came)
      begun (inr e) = omega (arith, still_needed modes_of d meets (length (listed d) / 12 + 1) s.laptop.stored got come some)

pub asks_for_what_is_needed : (modes_of : ℕ → List ℕ) (start : System) → Meets modes_of start.dock → Begins start → (events : List Event) (out : List ℕ) → 28 ≤ length out →
    (run modes_of events start).laptop.wait ≡ None → any_entered (run modes_of events start).memory.entered ≡ false →
    NextAsks modes_of start.dock (run modes_of events start) (received modes_of events start []) out
asks_for_what_is_needed modes_of start meets begins events out room idle unentered =
    asks_so modes_of start meets out room (run modes_of events start) (there modes_of start meets begins events) idle unentered (received modes_of events start [])
    (tells modes_of start meets begins events)

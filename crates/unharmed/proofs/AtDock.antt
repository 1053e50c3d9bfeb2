-- A request reaches the dock, or policy answers it: the invariant is kept.
use mathlib.Core.Logic.{inl, inr}
use mathlib.Core.Path.{◌≡◌, refl, ap, ap₂, sym, ◌∙◌, subst}
use mathlib.Core.Bool.{Bool, true, false, cond, not, ◌&&◌}
use mathlib.Core.List.{List}
use Prim.Native.Nat.{ℕ, ◌+◌, ◌/◌, ◌≤◌}
use native.Mathlib.Omega.{arith}
use lib.Dec.{eqb}
use lib.ListN.{length, get_or, take}
use borrow.Author.Tests.{ne_eqb, le-leb}
use Rattle.messages.specs.Editions.{ours, lower}
use Rattle.messages.specs.Reading.{Outcome, accepted, read_outcome}
use Rattle.messages.specs.Table.{one_to_five}
use Rattle.messages.specs.declared.edition.Edition.{Edition}
use Rattle.messages.specs.declared.request.Request.{Request}
use Rattle.pages.specs.Pages.{is_last}
use Rattle.dock.specs.Data.{listed, with_page, with_standing, with_edition}
use Rattle.dock.specs.Dock.{Decision, refuses, accepts, sends, step_of, asking, decide_request, spoken_to, decide_message, decide_policy_answer, moved}
use Rattle.dock.specs.declared.Dock.{Dock}
use Rattle.dock.specs.declared.Policy.{Policy}
use Rattle.dock.specs.declared.Standing.{Standing}
use Rattle.dock.specs.declared.Standing.TheVariants.{Ready, Asking, Sending}
use Rattle.owner.specs.Owner.{request_message}
use Rattle.laptop.specs.State.{Memory}
use Rattle.laptop.specs.declared.Candidate.{Candidate}
use Rattle.laptop.specs.declared.Candidate.TheVariants.{Absent, Open, Done}
use Rattle.laptop.specs.declared.Laptop.{Laptop}
use Rattle.laptop.specs.declared.Size.{Size}
use Rattle.std.specs.Prelude.{Option, Some}
use Rattle.laptop_laws.specs.Holding.{Holding}
use Rattle.laptop_laws.specs.WellFormed.{WaitFits}
use Rattle.link.specs.Ends.{heard_at, dock_hears}
use Rattle.link.specs.Joined.{Way, clear, request, Fate, gone, System}
use Rattle.link.specs.Link.{handed_over, lost_with, reached_by, reaches, is_fair, brought, answered_by, answers, loses_request}
use Rattle.unharmed.proofs.Bytes.{reads, HandsOver, hands_over}
use Rattle.unharmed.proofs.Course.{FairAnswer, is_page, Carried, nothing, under_way, sure, arrived, lost_then, Quiet, NoSurePage, settled_lost, quiet_settled, moves_on, Course, replaced, answered}
use Rattle.unharmed.proofs.Invariant.{Out, WayFits, Known, known_identity, known_svids, known_modes, known_mode, AsksFit, dock_at, message_of, fate_of, Gives, FateFits, Complete, CandidateIs, Invariant, system_of, Reached}
use Rattle.unharmed.proofs.Offering.{Offers, offers, declines, asked_by, fair_offered}

-- a request of Identity to Exit that reaches the dock is never refused: it asks policy
one_to_five_lem : (n : ℕ) → 1 ≤ n → n ≤ 5 → one_to_five n ≡ true
one_to_five_lem n a b = rw (le-leb 1 n a, le-leb n 5 b)

unfoldable pub page_then : Request → ℕ → ℕ
page_then r q = cond (eqb r.command 1) 0 q

module _ (r : Request) (least : 1 ≤ r.command) (most : r.command ≤ 5) where
  pub request_turns : (d : Dock) (e : Edition) → decide_message d (accepted e (request_message r)) ≡ accepts (asking r (spoken_to e d))
  unfolding decide_message decide_request
  request_turns d e =
      let other : eqb r.command 6 ≡ false = ne_eqb r.command 6 (λ e. omega arith) in
      rw (other, one_to_five_lem r.command least most)

module _ (modes_of : ℕ → List ℕ) (d : Dock) where
  pub asking_at : (e : Edition) (e' : Edition) (r : Request) (q : ℕ) (t : Standing) →
      asking r (with_edition e' (dock_at modes_of d e q t)) ≡ dock_at modes_of d e' (page_then r q) (Asking r)
  unfolding asking page_then
  asking_at e e' r q t = go (eqb r.command 1)
    where
      now : Dock
      now = with_edition e' (dock_at modes_of d e q t)

      go : (b : Bool) → with_standing (Asking r) (cond b (with_page 0 now) now) ≡ dock_at modes_of d e' (cond b 0 q) (Asking r)
      go true = refl
      go false = refl

  pub moved_at : (e : Edition) (b : Bool) (q : ℕ) (t : Standing) →
      moved b (dock_at modes_of d e q t) ≡ dock_at modes_of d e (moves_on (listed d) b q) Ready
  unfolding moved moves_on
  moved_at e b q t = go (b && not (is_last (listed d) q))
    where
      go : (x : Bool) →
          with_standing Ready (cond x (with_page (q + 1) (dock_at modes_of d e q t)) (dock_at modes_of d e q t)) ≡
          dock_at modes_of d e (cond x (q + 1) q) Ready
      go true = refl
      go false = refl

  -- what a candidate needs of a change at the dock and on the link: nothing more can be heard of the last answer,
  module _ (size : Size) (stored pages : ℕ) (m : Memory) where
    complete_on : {v : Carried} {z : ℕ} → Complete modes_of d size stored pages m v z → (v' : Carried) (t : Standing) → Quiet t v' →
        Complete modes_of d size stored pages m v' (lost_then v z)
    complete_on {v = v} {z = z} c v' t y =
        record {
          same_identity = c.same_identity;
          same_list = c.same_list;
          same_modes = c.same_modes;
          sum = c.sum ∙ ap (λ (n : ℕ). length (listed d) / 12 + 1 + n) (sym (settled_lost v z c.settled));
          settled = quiet_settled t v' y;
        }

    pub candidate_replaced : (c : Candidate) (t : Standing) (q : ℕ) (v : Carried) (z : ℕ) → CandidateIs modes_of d c size stored pages m t q v z →
        (t' : Standing) (q' : ℕ) (v' : Carried) → Quiet t' v' → NoSurePage v → (c ≡ Open → q' ≡ q) →
        CandidateIs modes_of d c size stored pages m t' q' v' (lost_then v z)
    candidate_replaced Absent t q v z c t' q' v' y n e = tt
    candidate_replaced Open t q v z c t' q' v' y n e = (
      c.0,
      subst (λ (p : ℕ). Course (listed d) (take size.count m.svids) pages t' p v' (lost_then v z)) (sym (e refl))
          (replaced (listed d) c.1 t' v' y n),
    )
    candidate_replaced Done t q v z c t' q' v' y n e = complete_on c v' t' y

    -- or its fate moves on while the page is not undecided
    pub complete_same : {v : Carried} {z : ℕ} → Complete modes_of d size stored pages m v z → (v' : Carried) (t : Standing) → Quiet t v' →
        Complete modes_of d size stored pages m v' z
    complete_same c v' t y =
        record {
          same_identity = c.same_identity;
          same_list = c.same_list;
          same_modes = c.same_modes;
          sum = c.sum;
          settled = quiet_settled t v' y;
        }

  -- the dock asks, so that no page is confirmed that still has to arrive
  asking_sure : (r : Request) (q : ℕ) (v : Carried) → FateFits modes_of d (Asking r) q v → NoSurePage v
  asking_sure r q nothing f = tt
  asking_sure r q (under_way a) f = tt
  asking_sure r q (sure a) f = let e : Asking r ≡ Ready = f.2 in let o : ◌≡◌ {A = ℕ} 0 1 = cc in absurd (omega arith)
  asking_sure r q (arrived b) f = tt

  pub sending_sure : (b : Bool) (q : ℕ) (v : Carried) → FateFits modes_of d (Sending b) q v → NoSurePage v
  sending_sure b q nothing f = tt
  sending_sure b q (under_way a) f = tt
  sending_sure b q (sure a) f = let e : Sending b ≡ Ready = f.2 in let o : ◌≡◌ {A = ℕ} 0 1 = cc in absurd (omega arith)
  sending_sure b q (arrived x) f = tt

  pub lost_is : (e : Edition) (v : Carried) (z : ℕ) → lost_with (fate_of modes_of d e v) z ≡ lost_then v z
  lost_is e nothing z = refl
  lost_is e (under_way a) z = refl
  lost_is e (sure a) z = refl
  lost_is e (arrived true) z = refl
  lost_is e (arrived false) z = refl

  module _ (old : Holding) where
    abbrev pub Inv : Laptop → Memory → Way → ℕ → Standing → Carried → ℕ → Type 0
    Inv l m way q t v z = Invariant modes_of d old l m way q t v z

    -- a state is reached if it stands as the invariant has it
    pub reached : (s : System) (at : Edition) (q : ℕ) (t : Standing) (v : Carried) → s.fate ≡ fate_of modes_of d at v →
        s.dock ≡ dock_at modes_of d at q t → Inv s.laptop s.memory s.way q t v s.lost → Reached modes_of d old s
    reached s at q t v f e i =
        record {
          edition_at = at;
          page_at = q;
          standing_at = t;
          carried = v;
          is =
              ap₂ (λ (x : Fate) (y : Dock). record { laptop = s.laptop; memory = s.memory; way = s.way; fate = x; dock = y; highest = s.highest; lost = s.lost }) f e;
          invariant = i;
        }

    module _ (h e : Edition) (l : Laptop) (m : Memory) (way : Way) (q : ℕ) (t : Standing) (v : Carried) (z : ℕ) (i : Inv l m way q t v z) where
      pub same_reached : Reached modes_of d old (system_of modes_of d old h e l m way q t v z)
      same_reached = reached _ e q t v refl refl i

      -- the request is lost
      pub lose_request_lem : Reached modes_of d old (loses_request (system_of modes_of d old h e l m way q t v z))
      lose_request_lem =
          reached _ e q t v refl refl
          (record {
            formed = i.formed;
            candidate_is = i.candidate_is;
            held_is = i.held_is;
            way_fits = tt;
            fate_fits = i.fate_fits;
            asks_fit = i.asks_fit;
          })

    -- the dock and the link change, the laptop does not
    pub moves : (l : Laptop) (m : Memory) (way way' : Way) (q q' : ℕ) (t t' : Standing) (v v' : Carried) (z z' : ℕ) → Inv l m way q t v z →
        CandidateIs modes_of d l.candidate l.gathered l.stored l.pages m t' q' v' z' → WayFits l.wait way' →
        FateFits modes_of d t' q' v' → AsksFit t' q' → Inv l m way' q' t' v' z'
    moves l m way way' q q' t t' v v' z z' i c w f a =
        record { formed = i.formed; candidate_is = c; held_is = i.held_is; way_fits = w; fate_fits = f; asks_fit = a }

    -- the request reaches the dock
    module _ (h e : Edition) (l : Laptop) (m : Memory) (bytes : List ℕ) (q : ℕ) (t : Standing) (v : Carried) (z : ℕ)
        (i : Inv l m (request bytes) q t v z) (out : List ℕ) where
      abbrev o : Out l.wait bytes
      o = i.way_fits

      awaits : WaitFits (Some o.asked) l.candidate l.pages l.stored m.svids
      awaits = subst (λ (w : Option Request). WaitFits w l.candidate l.pages l.stored m.svids) o.awaited i.formed.wait_fits

      known : (r : Request) → r.command ≤ 5 → WaitFits (Some r) l.candidate l.pages l.stored m.svids →
          Known r (page_then r q) × (1 ≤ r.command) × (l.candidate ≡ Open → page_then r q ≡ q)
      unfolding page_then
      known r few (inl f) = (
        known_identity f.0 (ap (λ (x : Request). cond (eqb x.command 1) 0 q) f.0),
        omega (arith, ap (λ (x : Request). x.command) f.0),
        λ e. absurd (let y : Absent ≡ Open = sym f.1 ∙ e in let o : ◌≡◌ {A = ℕ} 0 1 = cc in omega arith),
      )
      known r few (inr (inl f)) = (
        known_svids f.0,
        omega (arith, ap (λ (x : Request). x.command) f.0),
        λ e. ap (λ (x : Request). cond (eqb x.command 1) 0 q) f.0,
      )
      known r few (inr (inr (inl f))) = (
        known_modes (get_or m.svids l.stored 0) f.0,
        omega (arith, ap (λ (x : Request). x.command) f.0),
        λ e. ap (λ (x : Request). cond (eqb x.command 1) 0 q) f.0,
      )
      known r few (inr (inr (inr f))) = (
        known_mode f.0 few,
        omega (arith, f.0),
        λ e. absurd (let y : Absent ≡ Open = sym f.1 ∙ e in let o : ◌≡◌ {A = ℕ} 0 1 = cc in omega arith),
      )

      asked_is : Known o.asked (page_then o.asked q) × (1 ≤ o.asked.command) × (l.candidate ≡ Open → page_then o.asked q ≡ q)
      asked_is = known o.asked o.few awaits

      pub request_read : read_outcome bytes ≡ accepted o.asked_at (request_message o.asked)
      request_read = ap read_outcome o.bytes_are ∙ reads o.asked_at (request_message o.asked) o.shaped (λ k. omega arith)

      abbrev now : Dock
      now = dock_at modes_of d e q t

      -- it is answered at the lower of its edition and the dock's highest
      abbrev answered_at : Edition
      answered_at = lower (lower o.asked_at h) ours

      pub request_decided : dock_hears h now bytes ≡ accepts (asking o.asked (with_edition answered_at now))
      request_decided =
          ap (λ (x : Outcome). decide_message now (heard_at h x)) request_read ∙
          request_turns o.asked asked_is.1 o.few now (lower o.asked_at h)

      accepted_dock : (x : Decision) (n : Dock) → x ≡ accepts n → (step_of now x (length out)).dock ≡ n
      unfolding step_of
      accepted_dock x n is = rw is

      accepted_fate : (x : Decision) (n : Dock) → x ≡ accepts n → handed_over now x out gone ≡ gone
      unfolding step_of handed_over
      accepted_fate x n is = rw is

      reach_request : NoSurePage v →
          Reached modes_of d old (reached_by out (dock_hears h now bytes) (system_of modes_of d old h e l m (request bytes) q t v z))
      reach_request n =
          reached _ answered_at (page_then o.asked q) (Asking o.asked) nothing (accepted_fate _ _ request_decided)
          (accepted_dock _ _ request_decided ∙ asking_at e answered_at o.asked q t)
          (subst (λ (x : ℕ). Inv l m clear (page_then o.asked q) (Asking o.asked) nothing x) (sym (lost_is e v z))
          (moves l m (request bytes) clear q (page_then o.asked q) t (Asking o.asked) v nothing z (lost_then v z) i
          (candidate_replaced l.gathered l.stored l.pages m l.candidate t q v z i.candidate_is (Asking o.asked)
          (page_then o.asked q) nothing tt n asked_is.2) tt tt asked_is.0))

    pub reach_ok : (h e : Edition) (l : Laptop) (m : Memory) (way : Way) (q : ℕ) (t : Standing) (v : Carried) (z : ℕ) → Inv l m way q t v z →
        (out : List ℕ) →
        Reached modes_of d old (reaches out way (fate_of modes_of d e v) (system_of modes_of d old h e l m way q t v z))
    reach_ok h e l m clear q t v z i out = same_reached h e l m clear q t v z i
    reach_ok h e l m (request bytes) q t nothing z i out = reach_request h e l m bytes q t nothing z i out tt
    reach_ok h e l m (request bytes) q t (under_way a) z i out = reach_request h e l m bytes q t (under_way a) z i out tt
    reach_ok h e l m (request bytes) q t (sure a) z i out = same_reached h e l m (request bytes) q t (sure a) z i
    reach_ok h e l m (request bytes) q t (arrived b) z i out = reach_request h e l m bytes q t (arrived b) z i out tt

module _ (modes_of : ℕ → List ℕ) (d : Dock) (old : Holding) where
  candidate_answered : (c : Candidate) (size : Size) (stored pages : ℕ) (m : Memory) (r : Request) (q : ℕ) (v : Carried) (z : ℕ) (a : FairAnswer) →
      CandidateIs modes_of d c size stored pages m (Asking r) q v z → NoSurePage v → (t : Standing) →
      CandidateIs modes_of d c size stored pages m t q (under_way a) z
  candidate_answered Absent size stored pages m r q v z a c n t = tt
  candidate_answered Open size stored pages m r q v z a c n t = (c.0, answered (listed d) c.1 t a n)
  candidate_answered Done size stored pages m r q v z a c n t = complete_same modes_of d size stored pages m c (under_way a) t tt

  refused_dock : (x : Dock) (y : Decision) (number room : ℕ) → y ≡ refuses number → (step_of x y room).dock ≡ x
  unfolding step_of
  refused_dock x y number room e = rw e

  refused_fate : (x : Dock) (y : Decision) (number : ℕ) (out : List ℕ) (fate : Fate) → y ≡ refuses number → handed_over x y out fate ≡ fate
  unfolding step_of handed_over
  refused_fate x y number out fate e = rw e

  module _ (h e : Edition) (l : Laptop) (m : Memory) (way : Way) (q : ℕ) (r : Request) (v : Carried) (z : ℕ)
      (i : Inv modes_of d old l m way q (Asking r) v z) (out : List ℕ) where
    abbrev before : System
    before = system_of modes_of d old h e l m way q (Asking r) v z

    abbrev asked : Dock
    asked = dock_at modes_of d e q (Asking r)

    abbrev Answered : Decision → Type 0
    Answered x = Reached modes_of d old (answered_by out x before)

    handed : (a : FairAnswer) → Gives modes_of d a q → Answered (sends (message_of modes_of d a) (dock_at modes_of d e q (Sending (is_page a))))
    handed a g = go (hands_over asked after (message_of modes_of d a) out (fate_of modes_of d e v))
      where
        after : Dock
        after = dock_at modes_of d e q (Sending (is_page a))

        go : HandsOver asked after (message_of modes_of d a) out (fate_of modes_of d e v) → Answered (sends (message_of modes_of d a) after)
        go (inl h) =
            reached modes_of d old _ e q (Sending (is_page a)) (under_way a) h.0 h.1
            (moves modes_of d old l m way way q q (Asking r) (Sending (is_page a)) v (under_way a) z z i
            (candidate_answered l.candidate l.gathered l.stored l.pages m r q v z a i.candidate_is
            (asking_sure modes_of d r q v i.fate_fits) (Sending (is_page a))) i.way_fits (g, h.2, inl refl) tt)
        go (inr h) = reached modes_of d old _ e q (Asking r) v h.0 h.1 i

    offered : (x : Decision) → Offers modes_of d e q x → Answered x
    offered x (offers a g is) = subst Answered (sym is) (handed a g)
    offered x (declines number is) =
        reached modes_of d old _ e q (Asking r) v (refused_fate asked x number out (fate_of modes_of d e v) is)
        (refused_dock asked x number (length out) is) i

    policy_answered : (policy : Policy) (b : Bool) → is_fair policy r (listed d) ≡ b →
        Reached modes_of d old (cond b (answered_by out (decide_policy_answer asked (Asking r) policy r (brought modes_of policy r)) before) before)
    unfolding asked_by
    policy_answered policy true f = offered _ (fair_offered modes_of d e q policy r i.asks_fit f)
    policy_answered policy false f = same_reached modes_of d old h e l m way q (Asking r) v z i

  pub answer_ok : (h e : Edition) (l : Laptop) (m : Memory) (way : Way) (q : ℕ) (t : Standing) (v : Carried) (z : ℕ) →
      Inv modes_of d old l m way q t v z → (policy : Policy) (out : List ℕ) →
      Reached modes_of d old (answers modes_of policy out t (system_of modes_of d old h e l m way q t v z))
  answer_ok h e l m way q Ready v z i policy out = same_reached modes_of d old h e l m way q Ready v z i
  answer_ok h e l m way q (Asking r) v z i policy out = policy_answered h e l m way q r v z i out policy (is_fair policy r (listed d)) refl
  answer_ok h e l m way q (Sending b) v z i policy out = same_reached modes_of d old h e l m way q (Sending b) v z i

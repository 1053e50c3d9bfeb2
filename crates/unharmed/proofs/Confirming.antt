-- The answer is lost, or the dock hears "sent" or "failed" of it.
use mathlib.Core.Logic.{◌⊎◌, inl, inr}
use mathlib.Core.Path.{◌≡◌, refl, ap, sym, ◌∙◌, subst}
use mathlib.Core.Bool.{Bool, true, false}
use mathlib.Core.List.{List}
use Prim.Native.Nat.{ℕ}
use native.Mathlib.Omega.{arith}
use Rattle.messages.specs.declared.edition.Edition.{Edition}
use Rattle.dock.specs.Data.{listed}
use Rattle.dock.specs.Dock.{step_of, decide_sent, decide_failed}
use Rattle.dock.specs.declared.Dock.{Dock}
use Rattle.dock.specs.declared.Standing.{Standing}
use Rattle.dock.specs.declared.Standing.TheVariants.{Ready, Asking, Sending}
use Rattle.laptop.specs.State.{Memory}
use Rattle.laptop.specs.declared.Candidate.{Candidate}
use Rattle.laptop.specs.declared.Candidate.TheVariants.{Absent, Open, Done}
use Rattle.laptop.specs.declared.Laptop.{Laptop}
use Rattle.laptop.specs.declared.Size.{Size}
use Rattle.laptop_laws.specs.Holding.{Holding}
use Rattle.link.specs.Joined.{Way}
use Rattle.link.specs.Link.{hears_sent, fate_on_failure, hears_failed, loses_answer}
use Rattle.unharmed.proofs.Course.{FairAnswer, identity_ack, page_ack, modes_ack, mode_ack, list_nak, busy_to, is_page, Carried, nothing, under_way, sure, arrived, lost_then, Quiet, NoSurePage, moves_on, moves_other, passes, confirmed_after, confirmed_before}
use Rattle.unharmed.proofs.Invariant.{dock_at, fate_of, Gives, Gave, FateFits, CandidateIs, system_of, Reached}
use Rattle.unharmed.proofs.AtDock.{moved_at, candidate_replaced, complete_same, sending_sure, lost_is, Inv, reached, same_reached, moves}

module _ (modes_of : ℕ → List ℕ) (d : Dock) (old : Holding) where
  -- the answer is lost
  candidate_lost : (c : Candidate) (size : Size) (stored pages : ℕ) (m : Memory) (t : Standing) (q z : ℕ) (a : FairAnswer) →
      CandidateIs modes_of d c size stored pages m t q (under_way a) z → CandidateIs modes_of d c size stored pages m t q nothing z
  candidate_lost Absent size stored pages m t q z a c = tt
  candidate_lost Open size stored pages m t q z a c =
      (c.0, passes (listed d) c.1 t nothing tt tt (λ e. let o : ◌≡◌ {A = ℕ} 0 1 = cc in omega arith))
  candidate_lost Done size stored pages m t q z a c = complete_same modes_of d size stored pages m c nothing t tt

  pub lose_ok : (h e : Edition) (l : Laptop) (m : Memory) (way : Way) (q : ℕ) (t : Standing) (v : Carried) (z : ℕ) → Inv modes_of d old l m way q t v z →
      Reached modes_of d old (loses_answer (fate_of modes_of d e v) (system_of modes_of d old h e l m way q t v z))
  lose_ok h e l m way q t nothing z i = same_reached modes_of d old h e l m way q t nothing z i
  lose_ok h e l m way q t (under_way a) z i =
      reached modes_of d old _ e q t nothing refl refl
      (moves modes_of d old l m way way q q t t (under_way a) nothing z z i
      (candidate_lost l.candidate l.gathered l.stored l.pages m t q z a i.candidate_is) i.way_fits tt i.asks_fit)
  lose_ok h e l m way q t (sure a) z i = same_reached modes_of d old h e l m way q t (sure a) z i
  lose_ok h e l m way q t (arrived b) z i = same_reached modes_of d old h e l m way q t (arrived b) z i

  -- the dock hears "sent"
  gave : (a : FairAnswer) (q : ℕ) → Gives modes_of d a q → Gave modes_of d a (moves_on (listed d) (is_page a) q)
  gave identity_ack q g = moves_other (listed d) q ∙ g
  gave (page_ack p) q g = g.1
  gave (modes_ack svid) q g = tt
  gave (mode_ack r) q g = g
  gave list_nak q g = g
  gave (busy_to r) q g = tt

  pub page_given : (a : FairAnswer) (q p : ℕ) → Gives modes_of d a q → a ≡ page_ack p → p ≡ q
  page_given a q p g e = (subst (λ (x : FairAnswer). Gives modes_of d x q) e g).0

  candidate_sent : (c : Candidate) (size : Size) (stored pages : ℕ) (m : Memory) (b : Bool) (q z : ℕ) (x : Bool) →
      CandidateIs modes_of d c size stored pages m (Sending b) q (arrived x) z →
      CandidateIs modes_of d c size stored pages m Ready (moves_on (listed d) b q) nothing z
  candidate_sent Absent size stored pages m b q z x c = tt
  candidate_sent Open size stored pages m b q z x c = (c.0, confirmed_after (listed d) c.1)
  candidate_sent Done size stored pages m b q z x c = complete_same modes_of d size stored pages m c nothing Ready tt

  candidate_sure : (c : Candidate) (size : Size) (stored pages : ℕ) (m : Memory) (t : Standing) (q z : ℕ) (a : FairAnswer) → Gives modes_of d a q →
      CandidateIs modes_of d c size stored pages m t q (under_way a) z →
      CandidateIs modes_of d c size stored pages m Ready (moves_on (listed d) (is_page a) q) (sure a) z
  candidate_sure Absent size stored pages m t q z a g c = tt
  candidate_sure Open size stored pages m t q z a g c = (c.0, confirmed_before (listed d) a (λ p e. page_given a q p g e) c.1)
  candidate_sure Done size stored pages m t q z a g c =
      record {
        same_identity = c.same_identity;
        same_list = c.same_list;
        same_modes = c.same_modes;
        sum = c.sum;
        settled = tt;
      }

  pub sent_dock : (e : Edition) (q : ℕ) (b : Bool) →
      (step_of (dock_at modes_of d e q (Sending b)) (decide_sent (dock_at modes_of d e q (Sending b)) (Sending b)) 0).dock ≡
      dock_at modes_of d e (moves_on (listed d) b q) Ready
  unfolding step_of decide_sent
  sent_dock e q b = moved_at modes_of d e b q (Sending b)

  failed_dock : (e : Edition) (q : ℕ) (b : Bool) →
      (step_of (dock_at modes_of d e q (Sending b)) (decide_failed (dock_at modes_of d e q (Sending b)) (Sending b)) 0).dock ≡
      dock_at modes_of d e q Ready
  unfolding step_of decide_failed
  failed_dock e q b = moved_at modes_of d e false q (Sending b) ∙ ap (λ (n : ℕ). dock_at modes_of d e n Ready) (moves_other (listed d) q)

  same_sending : (b c : Bool) → (Sending b ≡ Sending c) ⊎ (Sending b ≡ Ready) → b ≡ c
  same_sending true true e = refl
  same_sending false false e = refl
  same_sending true false (inl e) = cc
  same_sending false true (inl e) = cc
  same_sending true false (inr e) = cc
  same_sending false true (inr e) = cc

  pub sent_ok : (h e : Edition) (l : Laptop) (m : Memory) (way : Way) (q : ℕ) (t : Standing) (v : Carried) (z : ℕ) → Inv modes_of d old l m way q t v z →
      Reached modes_of d old (hears_sent t (fate_of modes_of d e v) (system_of modes_of d old h e l m way q t v z))
  sent_ok h e l m way q Ready v z i = same_reached modes_of d old h e l m way q Ready v z i
  sent_ok h e l m way q (Asking r) v z i = same_reached modes_of d old h e l m way q (Asking r) v z i
  sent_ok h e l m way q (Sending b) nothing z i = same_reached modes_of d old h e l m way q (Sending b) nothing z i
  sent_ok h e l m way q (Sending b) (sure a) z i = same_reached modes_of d old h e l m way q (Sending b) (sure a) z i
  sent_ok h e l m way q (Sending b) (under_way a) z i =
      let same : b ≡ is_page a = same_sending b (is_page a) i.fate_fits.2 in
      reached modes_of d old _ e (moves_on (listed d) (is_page a) q) Ready (sure a) refl
      (sent_dock e q b ∙ ap (λ (x : Bool). dock_at modes_of d e (moves_on (listed d) x q) Ready) same)
      (moves modes_of d old l m way way q (moves_on (listed d) (is_page a) q) (Sending b) Ready (under_way a) (sure a) z z i
      (candidate_sure l.candidate l.gathered l.stored l.pages m (Sending b) q z a i.fate_fits.0 i.candidate_is) i.way_fits
      (gave a q i.fate_fits.0, i.fate_fits.1, refl) tt)
  sent_ok h e l m way q (Sending b) (arrived x) z i =
      reached modes_of d old _ e (moves_on (listed d) b q) Ready nothing refl (sent_dock e q b)
      (moves modes_of d old l m way way q (moves_on (listed d) b q) (Sending b) Ready (arrived x) nothing z z i
      (candidate_sent l.candidate l.gathered l.stored l.pages m b q z x i.candidate_is) i.way_fits tt tt)

  -- or "failed"
  abbrev failed_as : Carried → Carried
  failed_as nothing = nothing
  failed_as (under_way a) = under_way a
  failed_as (sure a) = sure a
  failed_as (arrived b) = nothing

  failed_fate : (e : Edition) (v : Carried) → fate_on_failure (fate_of modes_of d e v) ≡ fate_of modes_of d e (failed_as v)
  failed_fate e nothing = refl
  failed_fate e (under_way a) = refl
  failed_fate e (sure a) = refl
  failed_fate e (arrived b) = refl

  failed_quiet : (v : Carried) → NoSurePage v → Quiet Ready (failed_as v)
  failed_quiet nothing n = tt
  failed_quiet (under_way a) n = tt
  failed_quiet (sure a) n = n
  failed_quiet (arrived b) n = tt

  failed_fits : (b : Bool) (q : ℕ) (v : Carried) → FateFits modes_of d (Sending b) q v → FateFits modes_of d Ready q (failed_as v)
  failed_fits b q nothing f = tt
  failed_fits b q (under_way a) f = (f.0, f.1, inr refl)
  failed_fits b q (sure a) f = (f.0, f.1, refl)
  failed_fits b q (arrived x) f = tt

  pub failed_ok : (h e : Edition) (l : Laptop) (m : Memory) (way : Way) (q : ℕ) (t : Standing) (v : Carried) (z : ℕ) → Inv modes_of d old l m way q t v z →
      Reached modes_of d old (hears_failed t (system_of modes_of d old h e l m way q t v z))
  failed_ok h e l m way q Ready v z i = same_reached modes_of d old h e l m way q Ready v z i
  failed_ok h e l m way q (Asking r) v z i = same_reached modes_of d old h e l m way q (Asking r) v z i
  failed_ok h e l m way q (Sending b) v z i =
      let n = sending_sure modes_of d b q v i.fate_fits in
      reached modes_of d old _ e q Ready (failed_as v) (failed_fate e v) (failed_dock e q b)
      (subst (λ (x : ℕ). Inv modes_of d old l m way q Ready (failed_as v) x) (sym (lost_is modes_of d e v z))
      (moves modes_of d old l m way way q q (Sending b) Ready v (failed_as v) z (lost_then v z) i
      (candidate_replaced modes_of d l.gathered l.stored l.pages m l.candidate (Sending b) q v z i.candidate_is Ready q (failed_as v)
      (failed_quiet v n) n (λ o. refl)) i.way_fits (failed_fits b q v i.fate_fits) tt))

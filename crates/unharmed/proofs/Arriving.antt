-- An answer that arrives keeps the invariant.
use mathlib.Core.Logic.{◌⊎◌, inl, inr}
use mathlib.Core.Path.{◌≡◌, refl, ap, sym, ◌∙◌, subst}
use mathlib.Core.Bool.{Bool, true, false, cond}
use mathlib.Core.List.{List, []}
use Prim.Native.Nat.{ℕ, ◌^◌}
use native.Mathlib.Omega.{arith}
use Rattle.laws.specs.Bounded.{Below}
use Rattle.messages.specs.Layout.{message_bytes}
use Rattle.messages.specs.Reading.{accepted, read_outcome}
use Rattle.pages.proofs.Laws.{page_below}
use Rattle.messages.specs.declared.edition.Edition.{Edition}
use Rattle.dock.specs.Data.{listed}
use Rattle.dock.specs.declared.Dock.{Dock}
use Rattle.dock.specs.declared.Standing.{Standing}
use Rattle.dock.specs.declared.Standing.TheVariants.{Ready, Asking, Sending}
use Rattle.laptop.specs.Calls.{is_awaiting}
use Rattle.hearing.specs.Hearing.{Result, heard}
use Rattle.laptop.specs.State.{Memory}
use Rattle.laptop.specs.declared.Laptop.{Laptop}
use Rattle.std.specs.Prelude.{Option, Some, None}
use Rattle.messages.specs.declared.request.Request.{Request}
use Rattle.laptop_laws.specs.Effects.{message, effect_of}
use Rattle.laptop_laws.specs.Holding.{Holding}
use Rattle.laptop_laws.proofs.Laws.{keeps}
use Rattle.link.specs.Demand.{Meets, held_in}
use Rattle.unharmed.proofs.LastAnswer.{is_last_head}
use Rattle.link.specs.Joined.{Way, clear}
use Rattle.link.specs.Link.{way_after, is_unsure, opens, fate_on_arrival, lost_on_arrival, arrives}
use Rattle.unharmed.proofs.Arrival.{Arrival, on_time, confirmed_first}
use Rattle.unharmed.proofs.AtDock.{Inv, reached}
use Rattle.unharmed.proofs.Confirming.{page_given}
use Rattle.unharmed.proofs.Bytes.{reads}
use Rattle.unharmed.proofs.Course.{FairAnswer, identity_ack, page_ack, modes_ack, mode_ack, list_nak, busy_to, Carried, nothing, under_way, sure, arrived, arrived_as, lost_as}
use Rattle.unharmed.proofs.Invariant.{WayFits, message_of, fate_of, Gives, Gave, Shaped, FateFits, HeldIs, system_of, Reached}
use Rattle.unharmed.proofs.Landed.{lands}
use Rattle.unharmed.proofs.Landing.{Lands}

module _ (modes_of : ℕ → List ℕ) (d : Dock) (meets : Meets modes_of d) where
  objects_fit : (a : FairAnswer) → Below (2 ^ 32) (message_of modes_of d a).objects
  objects_fit identity_ack = meets.identity_fits
  objects_fit (page_ack p) = page_below (listed d) p meets.svids_fit
  objects_fit (modes_ack svid) = meets.modes_fit svid
  objects_fit (mode_ack r) = λ k. omega arith
  objects_fit list_nak = λ k. omega arith
  objects_fit (busy_to r) = λ k. omega arith

  -- what the dock hands over is read at the laptop as it was meant
  pub answer_read : (e : Edition) (a : FairAnswer) → Shaped modes_of d a → read_outcome (message_bytes e (message_of modes_of d a)) ≡ accepted e (message_of modes_of d a)
  answer_read e a shaped = reads e (message_of modes_of d a) shaped (objects_fit a)

  pub gives_gave : (a : FairAnswer) (q : ℕ) → Gives modes_of d a q → Gave modes_of d a q
  gives_gave identity_ack q g = g
  gives_gave (page_ack p) q g = g.1
  gives_gave (modes_ack svid) q g = tt
  gives_gave (mode_ack r) q g = g
  gives_gave list_nak q g = g
  gives_gave (busy_to r) q g = tt

  module _ (old : Holding) (e : Edition) (l : Laptop) (m : Memory) (way : Way) (q : ℕ) (t : Standing) (z : ℕ) (a : FairAnswer) (v : Carried)
      (i : Inv modes_of d old l m way q t v z) (shaped : Shaped modes_of d a) (gave : Gave modes_of d a q) (arrival : Arrival (listed d) t q z a v) where
    abbrev bytes : List ℕ
    bytes = message_bytes e (message_of modes_of d a)

    abbrev result : Result
    result = heard l m (read_outcome bytes)

    abbrev LandsAt : Result → Type 0
    LandsAt r = Lands modes_of d meets l m q t z a v i.formed shaped gave i.candidate_is arrival r

    pub landed : LandsAt result
    landed =
        subst LandsAt (ap (heard l m) (sym (answer_read e a shaped)))
        (lands modes_of d meets l m q t z v i.formed i.candidate_is e a shaped gave arrival)

    held_after : HeldIs modes_of d old result.step.laptop result.after
    held_after = go (is_last_head l (message_of modes_of d a).head) refl i.held_is
      where
        go : (b : Bool) → is_last_head l (message_of modes_of d a).head ≡ b → HeldIs modes_of d old l m → HeldIs modes_of d old result.step.laptop result.after
        go true e h = inr (landed.new_lands e)
        go false e (inl h) = inl (landed.old_lands e ∙ h)
        go false e (inr h) = inr (ap held_in (landed.old_lands e) ∙ h)

    way_after_lem : WayFits result.step.laptop.wait (way_after (effect_of (message bytes) l m []) way)
    unfolding way_after
    way_after_lem = go landed.wait_lands
      where
        same : (w : Option Request) → WayFits w way → WayFits w (cond (is_awaiting w) way clear)
        same None f = tt
        same (Some r) f = f

        go : (result.step.laptop.wait ≡ None) ⊎ (result.step.laptop ≡ l) →
            WayFits result.step.laptop.wait (way_after (effect_of (message bytes) l m []) way)
        go (inl e) = rw e tt
        go (inr e) = rw (landed.silent, e) (same l.wait i.way_fits)

    abbrev unsure : Bool
    unsure = is_unsure l result.step.laptop (listed d) q

    arrived_inv : FateFits modes_of d t q (arrival.fate_then unsure) →
        Inv modes_of d old result.step.laptop result.after (way_after (effect_of (message bytes) l m []) way) q t (arrival.fate_then unsure)
        (cond (opens l result.step.laptop) 0 (arrival.lost_then unsure))
    arrived_inv f =
        record {
          formed = keeps (message bytes) l m [] i.formed;
          candidate_is = landed.candidate_lands;
          held_is = held_after;
          way_fits = way_after_lem;
          fate_fits = f;
          asks_fit = i.asks_fit;
        }

  fate_arrived : (e : Edition) (t : Standing) (b : Bool) → fate_on_arrival t b ≡ fate_of modes_of d e (arrived_as (listed d) t b)
  fate_arrived e Ready b = refl
  fate_arrived e (Asking r) b = refl
  fate_arrived e (Sending x) b = refl

  lost_arrived : (t : Standing) (b : Bool) (z : ℕ) → lost_on_arrival t b z ≡ lost_as (listed d) t b z
  lost_arrived Ready true z = refl
  lost_arrived Ready false z = refl
  lost_arrived (Asking r) true z = refl
  lost_arrived (Asking r) false z = refl
  lost_arrived (Sending x) b z = refl

  arrived_fits : (t : Standing) (q : ℕ) (b : Bool) → FateFits modes_of d t q (arrived_as (listed d) t b)
  arrived_fits Ready q b = tt
  arrived_fits (Asking r) q b = tt
  arrived_fits (Sending x) q b = tt

  module _ (old : Holding) (e : Edition) (l : Laptop) (m : Memory) (way : Way) (q : ℕ) (t : Standing) (z : ℕ) (a : FairAnswer) where
    -- before the dock has heard "sent", or after
    unfoldable pub timely : Inv modes_of d old l m way q t (under_way a) z → Arrival (listed d) t q z a (under_way a)
    timely i = on_time (listed d) t q z a (λ p e. page_given modes_of d old a q p i.fate_fits.0 e) i.fate_fits.2

    pub timely_landed : (i : Inv modes_of d old l m way q t (under_way a) z) →
        LandsAt old e l m way q t z a (under_way a) i i.fate_fits.1 (gives_gave a q i.fate_fits.0) (timely i) (heard l m (read_outcome (message_bytes e (message_of modes_of d a))))
    timely_landed i = landed old e l m way q t z a (under_way a) i i.fate_fits.1 (gives_gave a q i.fate_fits.0) (timely i)

    pub sure_landed : (i : Inv modes_of d old l m way q t (sure a) z) →
        LandsAt old e l m way q t z a (sure a) i i.fate_fits.1 i.fate_fits.0 (confirmed_first (listed d) t q z a) (heard l m (read_outcome (message_bytes e (message_of modes_of d a))))
    sure_landed i = landed old e l m way q t z a (sure a) i i.fate_fits.1 i.fate_fits.0 (confirmed_first (listed d) t q z a)

    timely_ok : (h : Edition) → Inv modes_of d old l m way q t (under_way a) z →
        Reached modes_of d old (arrives (fate_of modes_of d e (under_way a)) (system_of modes_of d old h e l m way q t (under_way a) z))
    unfolding timely on_time
    timely_ok h i =
        let b : Bool = is_unsure l (heard l m (read_outcome (message_bytes e (message_of modes_of d a)))).step.laptop (listed d) q in
        let o : Bool = opens l (heard l m (read_outcome (message_bytes e (message_of modes_of d a)))).step.laptop in
        reached modes_of d old _ e q t (arrived_as (listed d) t b) (fate_arrived e t b) refl
        (subst
        (λ (n : ℕ). Inv modes_of d old (heard l m (read_outcome (message_bytes e (message_of modes_of d a)))).step.laptop (heard l m (read_outcome (message_bytes e (message_of modes_of d a)))).after (way_after (effect_of (message (message_bytes e (message_of modes_of d a))) l m []) way) q t (arrived_as (listed d) t b) (cond o 0 n))
        (sym (lost_arrived t b z))
        (arrived_inv old e l m way q t z a (under_way a) i i.fate_fits.1 (gives_gave a q i.fate_fits.0) (timely i) (arrived_fits t q b)))

    sure_ok : (h : Edition) → Inv modes_of d old l m way q t (sure a) z →
        Reached modes_of d old (arrives (fate_of modes_of d e (sure a)) (system_of modes_of d old h e l m way q t (sure a) z))
    unfolding confirmed_first
    sure_ok h i =
        reached modes_of d old _ e q t nothing refl refl
        (arrived_inv old e l m way q t z a (sure a) i i.fate_fits.1 i.fate_fits.0 (confirmed_first (listed d) t q z a) tt)

  pub arrive_ok : (old : Holding) (h e : Edition) (l : Laptop) (m : Memory) (way : Way) (q : ℕ) (t : Standing) (v : Carried) (z : ℕ) → Inv modes_of d old l m way q t v z →
      Reached modes_of d old (arrives (fate_of modes_of d e v) (system_of modes_of d old h e l m way q t v z))
  arrive_ok old h e l m way q t nothing z i = reached modes_of d old _ e q t nothing refl refl i
  arrive_ok old h e l m way q t (under_way a) z i = timely_ok old e l m way q t z a h i
  arrive_ok old h e l m way q t (sure a) z i = sure_ok old e l m way q t z a h i
  arrive_ok old h e l m way q t (arrived b) z i = reached modes_of d old _ e q t (arrived b) refl refl i

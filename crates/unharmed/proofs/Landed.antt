-- Each answer of the fair dock, as it arrives.
use mathlib.Core.Path.{◌≡◌, refl, sym, subst}
use mathlib.Core.Bool.{Bool, true, false}
use mathlib.Core.List.{List}
use Prim.Native.Nat.{ℕ}
use lib.Dec.{eqb}
use lib.ListN.{take}
use Rattle.messages.specs.Reading.{accepted}
use Rattle.messages.specs.Requests.{request_of}
use Rattle.messages.specs.declared.edition.Edition.{Edition}
use Rattle.dock.specs.Data.{listed}
use Rattle.dock.specs.declared.Dock.{Dock}
use Rattle.dock.specs.declared.Standing.{Standing}
use Rattle.hearing.specs.Hearing.{fits, is_late_page, hear_answer, heard}
use Rattle.laptop.specs.State.{Memory}
use Rattle.laptop.specs.declared.Laptop.{Laptop}
use Rattle.std.specs.Prelude.{Some}
use Rattle.laptop_laws.specs.WellFormed.{WellFormed}
use Rattle.laptop_laws.proofs.Fitting.{fits_is}
use Rattle.link.specs.Demand.{Meets}
use Rattle.unharmed.proofs.Arrival.{Arrival}
use Rattle.unharmed.proofs.Course.{FairAnswer, identity_ack, page_ack, modes_ack, mode_ack, list_nak, busy_to, Carried}
use Rattle.unharmed.proofs.Hears.{hear_fit, hear_late, hear_ignored, identity_heard}
use Rattle.unharmed.proofs.Invariant.{message_of, Gave, Shaped, CandidateIs}
use Rattle.unharmed.proofs.Landing.{ignored_lands, late_lands, LandsOf}
use Rattle.unharmed.proofs.ModesLanding.{modes_landed}
use Rattle.unharmed.proofs.OtherLanding.{identity_lands, nak_landed, mode_landed, busy_landed}
use Rattle.unharmed.proofs.PageLanding.{svids_landed}

module _ (modes_of : ℕ → List ℕ) (d : Dock) (meets : Meets modes_of d) (l : Laptop) (m : Memory) (q : ℕ) (t : Standing) (z : ℕ) (v : Carried)
    (formed : WellFormed l m) (candidate : CandidateIs modes_of d l.candidate l.gathered l.stored l.pages m t q v z) where
  -- all of them
  answer_landed : (at : Edition) (a : FairAnswer) (shaped : Shaped modes_of d a) (gave : Gave modes_of d a q) (arrival : Arrival (listed d) t q z a v) →
      l.wait ≡ Some (request_of (message_of modes_of d a).head) → LandsOf modes_of d meets l m q t z v formed candidate a shaped gave arrival (hear_answer l m at (message_of modes_of d a))
  answer_landed at identity_ack shaped gave arrival waits =
      subst (LandsOf modes_of d meets l m q t z v formed candidate identity_ack shaped gave arrival) (sym (identity_heard l m at (take d.extent d.identity))) (identity_lands modes_of d meets l m q t z v formed candidate shaped gave arrival waits at)
  answer_landed at (page_ack p) shaped gave arrival waits = svids_landed modes_of d meets l m q t z v formed candidate p shaped gave arrival waits at
  answer_landed at (modes_ack svid) shaped gave arrival waits = modes_landed modes_of d meets l m q t z v formed candidate svid shaped gave arrival waits at
  answer_landed at (mode_ack r) shaped gave arrival waits = mode_landed modes_of d meets l m q t z v formed candidate r shaped gave arrival waits at
  answer_landed at list_nak shaped gave arrival waits = nak_landed modes_of d meets l m q t z v formed candidate shaped gave arrival waits at
  answer_landed at (busy_to r) shaped gave arrival waits = busy_landed modes_of d meets l m q t z v formed candidate r shaped gave arrival waits at

  pub no_request : (a : FairAnswer) → eqb (message_of modes_of d a).head.kind 0 ≡ false
  no_request identity_ack = refl
  no_request (page_ack p) = refl
  no_request (modes_ack svid) = refl
  no_request (mode_ack r) = refl
  no_request list_nak = refl
  no_request (busy_to r) = refl

  pub lands : (at : Edition) (a : FairAnswer) (shaped : Shaped modes_of d a) (gave : Gave modes_of d a q) (arrival : Arrival (listed d) t q z a v) →
      LandsOf modes_of d meets l m q t z v formed candidate a shaped gave arrival (heard l m (accepted at (message_of modes_of d a)))
  lands at a shaped gave arrival = go (fits l.wait (message_of modes_of d a).head) (is_late_page l (message_of modes_of d a).head) refl refl
    where
      go : (b c : Bool) → fits l.wait (message_of modes_of d a).head ≡ b → is_late_page l (message_of modes_of d a).head ≡ c →
          LandsOf modes_of d meets l m q t z v formed candidate a shaped gave arrival (heard l m (accepted at (message_of modes_of d a)))
      go true c e n =
          subst (LandsOf modes_of d meets l m q t z v formed candidate a shaped gave arrival) (sym (hear_fit l m formed.lent at (message_of modes_of d a) (no_request a) e))
          (answer_landed at a shaped gave arrival (fits_is l.wait (message_of modes_of d a).head e))
      go false true e n =
          subst (LandsOf modes_of d meets l m q t z v formed candidate a shaped gave arrival) (sym (hear_late l m formed.lent at (message_of modes_of d a) (no_request a) e n))
          (late_lands modes_of d meets l m q t z a v formed shaped gave candidate arrival e n)
      go false false e n =
          subst (LandsOf modes_of d meets l m q t z v formed candidate a shaped gave arrival) (sym (hear_ignored l m formed.lent at (message_of modes_of d a) (no_request a) e n))
          (ignored_lands modes_of d meets l m q t z a v formed shaped gave candidate arrival e n)

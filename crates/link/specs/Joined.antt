-- The laptop end, the link and the dock end as one state (01, "The link and the fair dock of demand 3").
use Rattle.std.specs.Prelude.{ℕ, Bool, List}
use Rattle.messages.specs.declared.edition.Edition.{Edition}
use Rattle.dock.specs.declared.Dock.{Dock}
use Rattle.dock.specs.declared.Policy.{Policy}
use Rattle.laptop.specs.State.{Memory}
use Rattle.laptop.specs.declared.Laptop.{Laptop}
use Rattle.laptop_laws.specs.Effects.{Call}

-- a request on its way to the dock, as bytes: there is at most one, since calls are refused while an answer is awaited, and a request not yet
-- at the dock when its wait ends is lost
pub data Way : Type 0 where
  clear : Way
  request : List ℕ → Way

-- the answer to the last request that reached the dock: there is at most one, since none arrives after a later request has reached the dock
pub data Fate : Type 0 where
  -- there is none, it is lost, or it has arrived and nothing more is heard of it
  gone : Fate
  -- its bytes are on their way
  coming : List ℕ → Fate
  -- the dock has heard "sent", and its bytes still have to arrive
  confirmed : List ℕ → Fate
  -- it has arrived and the dock has heard nothing yet; was it a page before the last, and counted
  came : Bool → Fate

-- the laptop with what it is lent, the link, the dock and its highest edition, and how many confirmations were lost in this gathering on pages before the last
pub record System : Type 0 where
  pub laptop : Laptop
  pub memory : Memory
  pub way : Way
  pub fate : Fate
  pub dock : Dock
  pub highest : Edition
  pub lost : ℕ

-- what may happen. The lists are the output buffers that the calls are lent
pub data Event : Type 0 where
  -- an owner's call, a timer or the protocol error at the laptop
  calls : Call → List ℕ → Event
  -- the request is lost, or reaches the dock
  lose_request : Event
  reach : List ℕ → Event
  -- policy answers the dock
  answer : Policy → List ℕ → Event
  -- the answer is lost, or arrives at the laptop
  lose_answer : Event
  arrive : Event
  -- what the dock hears of it
  sent : Event
  failed : Event

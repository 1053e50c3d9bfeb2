-- What the dock's calls promise, over the numbers that are lent. A refusal changes none of them.
use Rattle.std.specs.Prelude.{◌≡◌, ℕ, List, length}
use Rattle.dock.specs.Dock.{Decision, decide_load, step_of, buffer_of}
use Rattle.dock.specs.declared.Dock.{Dock}
use Rattle.dock.specs.Step.{Step}
use Rattle.controller.specs.Dock.{dock_from, dock_numbers}
use Rattle.laws.specs.Lent.{Lent, lent, left, accepted}

-- a step is handed over: its refusal number; on acceptance the state's numbers, and how many bytes are to be sent
pub record DockStep (step : Step) (number : ℕ) (state : Lent (List ℕ)) (bytes : Lent ℕ) : Type 0 where
  pub number_is : number ≡ step.refusal
  pub state_is : left state ≡ accepted number (dock_numbers step.dock) (lent state)
  pub bytes_is : left bytes ≡ accepted number step.length (lent bytes)

-- the dock that the numbers stand for
abbrev pub dock_lent : Lent (List ℕ) → List ℕ → List ℕ → Dock
dock_lent state identity svids = dock_from (lent state) identity svids

-- a call that sends nothing
pub record DockSendsNothing (decide : Dock → Decision) (number : ℕ) (state : Lent (List ℕ)) (identity svids : List ℕ) (bytes : Lent ℕ) : Type 0 where
  pub step_is : DockStep (step_of (dock_lent state identity svids) (decide (dock_lent state identity svids)) 0) number state bytes

-- a call that may send: the whole output buffer too
pub record DockSends (decide : Dock → Decision) (number : ℕ) (state : Lent (List ℕ)) (identity svids : List ℕ) (out : Lent (List ℕ)) (bytes : Lent ℕ) : Type 0 where
  pub step_is : DockStep (step_of (dock_lent state identity svids) (decide (dock_lent state identity svids)) (length (lent out))) number state bytes
  pub buffer_is : left out ≡ buffer_of (decide (dock_lent state identity svids)) (lent out)

-- loading: on acceptance the identity and the SVIDs too
abbrev pub load_step : Dock → List ℕ → List ℕ → Step
load_step d identity svids = step_of d (decide_load d d.standing identity svids) 0

pub record DockLoads (new_identity new_svids : List ℕ) (number : ℕ) (state identity svids : Lent (List ℕ)) (bytes : Lent ℕ) : Type 0 where
  pub step_is : DockStep (load_step (dock_lent state (lent identity) (lent svids)) new_identity new_svids) number state bytes
  pub identity_is : left identity ≡ accepted number (load_step (dock_lent state (lent identity) (lent svids)) new_identity new_svids).dock.identity (lent identity)
  pub svids_is : left svids ≡ accepted number (load_step (dock_lent state (lent identity) (lent svids)) new_identity new_svids).dock.svids (lent svids)

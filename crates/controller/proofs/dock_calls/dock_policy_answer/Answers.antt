-- `dock_policy_answer` meets its promise.
use Rattle.controller.proofs.DockHanding.{policy_as, sends_in}
use Rattle.controller.proofs.dock_calls.dock_policy_answer.Goals as goal

pub returns : goal.returns
returns c = sends_in (c.hand_over.ensures c.dock_from.result) c.dock_from.ensures (policy_as _ _ c.policy_from.ensures c.policy_answer-given.ensures)

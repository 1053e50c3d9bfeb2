-- `own_from` meets its promise.
use Rattle.controller.specs.Port.{own_from}
use Rattle.controller.proofs.port_state.own_from.Goals as goal

pub returns : goal.returns
unfolding own_from
returns c = rw (c.candidate_from.ensures, c.size_from.ensures, c.low_byte.ensures, c.low_byte-2.ensures, c.held_from.ensures, c.size_from-2.ensures, c.edition_from.ensures)

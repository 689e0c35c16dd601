-- `stack_hosts::parts::host_params` meets its contract: at each return the tests that led there choose the case. Assumes nothing.
use Rattle.stack_hosts.proofs.Lendings.{broken_cells_lem, broken_place, lent_cells, lent_place}
use Rattle.stack_hosts.proofs.parts.host_params.Goals as goal

pub returns-then-is_broken_state : goal.returns-then-is_broken_state
returns-then-is_broken_state c =
    (search broken_place, search broken_cells_lem)

pub returns : goal.returns
returns c =
    (search lent_place, search lent_cells)

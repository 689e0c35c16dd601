-- `stack_calls::pushing::push_cells` meets its contract: at each return the tests that led there choose the case. Assumes nothing.
use Rattle.choice.proofs.Choices.{choices}
use Rattle.stack_calls.proofs.pushing.push_cells.Goals as goal

pub returns-then-slots-eq0 : goal.returns-then-slots-eq0
returns-then-slots-eq0 c =
    search choices

pub returns : goal.returns
returns c =
    search choices

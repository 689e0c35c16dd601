-- `stack_calls::replacing::replace_cells` meets its contract: at each return the tests that led there choose the case. Assumes nothing.
use Rattle.choice.proofs.Choices.{choices}
use Rattle.stack_calls.proofs.replacing.replace_cells.Goals as goal

pub returns-then-slots-eq0 : goal.returns-then-slots-eq0
returns-then-slots-eq0 c =
    search choices

pub returns : goal.returns
returns c =
    search choices

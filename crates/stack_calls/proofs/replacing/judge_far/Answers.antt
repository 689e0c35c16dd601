-- `stack_calls::replacing::judge_far` meets its contract: at each return the test that led there chooses the case. Assumes nothing.
use Rattle.choice.proofs.Choices.{choices}
use Rattle.stack_calls.proofs.replacing.judge_far.Goals as goal

pub returns-then-is_beyond : goal.returns-then-is_beyond
returns-then-is_beyond c =
    search choices

pub returns : goal.returns
returns c =
    search choices

-- `stack::resetting::judge_reset` meets its contract: at each return the test that led there chooses the case. Assumes nothing.
use Rattle.choice.proofs.Choices.{choices}
use Rattle.rules.specs.Syncs.{reset_tests, reset_room}
use Rattle.stack.proofs.resetting.judge_reset.Goals as goal

pub returns-then-is_broken_state : goal.returns-then-is_broken_state
unfolding reset_tests reset_room
returns-then-is_broken_state c =
    search choices

pub returns : goal.returns
unfolding reset_tests reset_room
returns c =
    search choices

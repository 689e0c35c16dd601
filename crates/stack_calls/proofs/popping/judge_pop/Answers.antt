-- `stack_calls::popping::judge_pop` meets its contract: at each return the tests that led there choose the case. Assumes nothing.
use Rattle.choice.proofs.Choices.{choices}
use Rattle.rules.specs.Returns.{pop_tests, pop_room}
use Rattle.stack_calls.proofs.popping.judge_pop.Goals as goal

pub returns-then-is_broken_next : goal.returns-then-is_broken_next
unfolding pop_tests pop_room
returns-then-is_broken_next c =
    search choices

pub returns-then-count-eq0 : goal.returns-then-count-eq0
unfolding pop_tests pop_room
returns-then-count-eq0 c =
    search choices

pub returns : goal.returns
unfolding pop_tests pop_room
returns c =
    rw c.top_start-start.ensures (search choices)

-- `stack::restoring::judge_restore` meets its contract: at each return the tests that led there choose the case. Assumes nothing.
use Rattle.choice.proofs.Choices.{choices}
use Rattle.rules.specs.Syncs.{restore_tests, top_room}
use Rattle.stack.proofs.restoring.judge_restore.Goals as goal

pub returns-then-is_broken_top : goal.returns-then-is_broken_top
unfolding restore_tests top_room
returns-then-is_broken_top c =
    search choices

pub returns-then-count-eq0 : goal.returns-then-count-eq0
unfolding restore_tests top_room
returns-then-count-eq0 c =
    search choices

pub returns-then-not-is_some : goal.returns-then-not-is_some
unfolding restore_tests top_room
returns-then-not-is_some c =
    search choices

pub returns : goal.returns
unfolding restore_tests top_room
returns c =
    rw c.top_start-start.ensures (search choices)

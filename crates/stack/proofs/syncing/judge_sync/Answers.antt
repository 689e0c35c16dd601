-- `stack::syncing::judge_sync` meets its contract: at each return the tests that led there choose the case. Assumes nothing.
use Rattle.choice.proofs.Choices.{choices}
use Rattle.rules.specs.Syncs.{sync_tests, top_room}
use Rattle.stack.proofs.syncing.judge_sync.Goals as goal

pub returns-then-is_broken_top : goal.returns-then-is_broken_top
unfolding sync_tests top_room
returns-then-is_broken_top c =
    search choices

pub returns-then-count-eq0 : goal.returns-then-count-eq0
unfolding sync_tests top_room
returns-then-count-eq0 c =
    search choices

pub returns : goal.returns
unfolding sync_tests top_room
returns c =
    rw c.top_start-start.ensures (search choices)

-- `stack::look::top_start` meets its contract: the two cases of the definition. Assumes nothing.
use Rattle.choice.proofs.Choices.{choices}
use Rattle.rules.specs.World.{newest_start}
use Rattle.stack.proofs.look.top_start.Goals as goal

pub returns-then-count-eq0 : goal.returns-then-count-eq0
unfolding newest_start
returns-then-count-eq0 c =
    search choices

pub returns : goal.returns
unfolding newest_start
returns c =
    rw c.read_row-top.ensures (search choices)

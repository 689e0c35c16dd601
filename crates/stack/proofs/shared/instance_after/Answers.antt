-- `stack::shared::instance_after` meets its contract: at each return the tests that led there choose the case. Assumes nothing.
use Rattle.choice.proofs.Choices.{choices}
use Rattle.rules.specs.Returns.{instance_after}
use Rattle.stack.proofs.shared.instance_after.Goals as goal

pub returns-then-frames-eq1 : goal.returns-then-frames-eq1
unfolding instance_after
returns-then-frames-eq1 c =
    search choices

pub returns : goal.returns
unfolding instance_after
returns c =
    rw (c.or.ensures, c.debt_of.ensures) (search choices)

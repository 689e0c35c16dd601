-- `frames::debt::owed` meets its contract: each arm is given which constructor the instance named is. Assumes nothing.
use Rattle.choice.proofs.Choices.{choices}
use Rattle.frames.specs.Debts.{owing_of}
use Rattle.frames.proofs.debt.owed.Goals as goal

pub returns-in-None : goal.returns-in-None
unfolding owing_of
returns-in-None c = rw c.in-None.is

pub returns-then-old-instance : goal.returns-then-old-instance
unfolding owing_of
returns-then-old-instance c = rw c.in-Some.is (search choices)

pub returns-else-old-instance : goal.returns-else-old-instance
unfolding owing_of
returns-else-old-instance c = rw c.in-Some.is (search choices)

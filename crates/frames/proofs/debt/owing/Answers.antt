-- `frames::debt::owing` meets its contract where no instance is current: nothing is owed. Assumes nothing.
use Rattle.frames.specs.Debts.{owing_of}
use Rattle.frames.proofs.debt.owing.Goals as goal

pub returns-in-None : goal.returns-in-None
unfolding owing_of
returns-in-None c = rw c.in-None.is

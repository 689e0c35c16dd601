-- `stack::shared::returned_to` meets its contract: at each return the tests that led there choose the case. Assumes nothing.
use mathlib.Core.Path.{sym}
use Rattle.choice.proofs.Choices.{choices}
use Rattle.rules.specs.Returns.{returned_to}
use Rattle.stack.proofs.shared.returned_to.Goals as goal

pub returns-then-count-eq1 : goal.returns-then-count-eq1
unfolding returned_to
returns-then-count-eq1 c =
    search choices

pub returns : goal.returns
unfolding returned_to
returns c =
    rw (
      c.zeroed.ensures,
      c.unwrap_or.ensures,
      c.or-woken.ensures,
      c.debt_of.ensures,
      sym c.from_top.ensures,
      sym c.read_row-next.ensures,
    ) (search choices)

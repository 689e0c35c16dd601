-- `cells::grow::grow_if_needed` meets its contract: at each return the tests that led there choose the case. Assumes nothing.
use native.Mathlib.Nat.{max-eq_left, max-eq_right, le_of_lt}
use Rattle.choice.proofs.Choices.{choices}
use Rattle.cells.specs.Growth.{growing}
use Rattle.cells.proofs.grow.grow_if_needed.Goals as goal

pub returns-then-height-needed : goal.returns-then-height-needed
unfolding growing
returns-then-height-needed c = search choices

pub returns-then-lent-needed : goal.returns-then-lent-needed
unfolding growing
returns-then-lent-needed c = search choices

pub returns-then-len-needed : goal.returns-then-len-needed
unfolding growing
returns-then-len-needed c = search (choices, max-eq_right, le_of_lt)

pub returns : goal.returns
unfolding growing
returns c = search (choices, max-eq_left)

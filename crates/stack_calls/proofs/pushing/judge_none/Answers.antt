-- `stack_calls::pushing::judge_none` meets its contract: by whether there is a head. Assumes nothing.
use borrow.Author.Tests.{ne_eqb}
use Rattle.choice.specs.Choose.{choose}
use Rattle.stack_calls.proofs.pushing.judge_none.Goals as goal

pub returns-then-head-ne0 : goal.returns-then-head-ne0
unfolding choose
returns-then-head-ne0 c =
    rw (ne_eqb _ 0 c.if-head-ne0.true)

pub returns : goal.returns
unfolding choose
returns c =
    rw c.if-head-ne0.false c.judge_growth.ensures

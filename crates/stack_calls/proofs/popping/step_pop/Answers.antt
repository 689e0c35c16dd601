-- `stack_calls::popping::step_pop` meets its contract: what its call ensures, with no host frame. Assumes nothing.
use mathlib.Core.Path.{sym}
use Rattle.rules.specs.Returns.{popped}
use Rattle.stack_calls.proofs.popping.step_pop.Goals as goal

pub returns : goal.returns
unfolding popped
returns c =
    rw (sym c.no_host.ensures) c.step_return.ensures

-- `stack::look::is_broken_top` meets its contract: the state is broken, or else the newest frame decides. Assumes nothing.
use mathlib.Core.Path.{sym, ◌∙◌}
use Rattle.rules.specs.Broken.{broken_top}
use Rattle.stack.proofs.look.is_broken_top.Goals as goal

pub returns-then-is_broken_state : goal.returns-then-is_broken_state
unfolding broken_top
returns-then-is_broken_state c =
    rw (sym c.is_broken_state.ensures ∙ c.if-is_broken_state.true)

pub returns : goal.returns
unfolding broken_top
returns c =
    rw (sym c.is_broken_state.ensures ∙ c.if-is_broken_state.false) c.is_broken_at.ensures

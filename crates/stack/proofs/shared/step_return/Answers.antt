-- `stack::shared::step_return` meets its contract: what its calls ensure, part by part. Assumes nothing.
use mathlib.Core.Path.{sym, refl}
use Rattle.rules.proofs.OneAnswer.{after_same}
use Rattle.stack.proofs.shared.step_return.Goals as goal

pub returns : goal.returns
returns c =
    after_same _ _ _ _ _ _ _ _
    (rw (sym c.from_top.ensures, sym c.read_row-top.ensures) c.returned_to.ensures)
    (rw (
      sym c.from_top.ensures,
      sym c.read_row-top.ensures,
      sym c.instance_after.ensures,
    ) c.moved_state.ensures)
    refl
    refl

-- `stack_calls::replacing::step_replace` meets its contract: what its calls ensure, part by part. Assumes nothing.
use mathlib.Core.Path.{sym}
use Rattle.rules.specs.Calls.{replaced}
use Rattle.rules.proofs.OneAnswer.{after_same}
use Rattle.stack_calls.proofs.replacing.step_replace.Goals as goal

pub returns : goal.returns
unfolding replaced
returns c =
    after_same _ _ _ _ _ _ _ _
    c.at_offset.ensures
    (rw (sym c.or.ensures) c.moved_state.ensures)
    (rw (
      sym c.from_top-at.ensures,
      sym c.read_row.ensures,
      sym c.debt_of-debt.ensures,
      sym c.carried.ensures,
      sym c.new_row.ensures,
    ) c.write_row.ensures)
    c.replace_cells.ensures

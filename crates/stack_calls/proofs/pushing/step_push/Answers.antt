-- `stack_calls::pushing::step_push` meets its contract: what its calls ensure, part by part. Assumes nothing.
use mathlib.Core.Path.{sym}
use Rattle.rules.specs.Calls.{pushed}
use Rattle.rules.proofs.OneAnswer.{after_same}
use Rattle.stack_calls.proofs.pushing.step_push.Goals as goal

pub returns : goal.returns
unfolding pushed
returns c =
    after_same _ _ _ _ _ _ _ _
    c.at_offset.ensures
    (rw (sym c.or.ensures) c.moved_state.ensures)
    (rw (
      sym c.owing.ensures,
      sym c.new_row.ensures,
      sym c.store_ip.ensures,
    ) c.write_row.ensures)
    c.push_cells.ensures

-- `stack::setting::step_set` meets its contract: what its calls ensure, part by part. Assumes nothing.
use mathlib.Core.Path.{refl}
use Rattle.rules.specs.Syncs.{cell_set}
use Rattle.rules.proofs.OneAnswer.{after_same}
use Rattle.stack.proofs.setting.step_set.Goals as goal

pub returns : goal.returns
unfolding cell_set
returns c =
    after_same _ _ _ _ _ _ _ _
    c.at_offset.ensures
    c.moved_state.ensures
    refl
    c.set_cell.ensures

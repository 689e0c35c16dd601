-- `stack::resetting::step_reset` meets its contract: what its calls ensure, part by part. Assumes nothing.
use mathlib.Core.Path.{refl}
use Rattle.rules.specs.Syncs.{emptied}
use Rattle.rules.proofs.OneAnswer.{after_same}
use Rattle.stack.proofs.resetting.step_reset.Goals as goal

pub returns : goal.returns
unfolding emptied
returns c =
    after_same _ _ _ _ _ _ _ _ c.at_offset.ensures c.fresh_state.ensures refl refl

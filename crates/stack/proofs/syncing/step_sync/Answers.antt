-- `stack::syncing::step_sync` meets its contract: what its calls ensure, part by part. Assumes nothing.
use mathlib.Core.Path.{refl}
use Rattle.rules.specs.Syncs.{synced}
use Rattle.rules.proofs.OneAnswer.{after_same}
use Rattle.stack.proofs.syncing.step_sync.Goals as goal

pub returns : goal.returns
unfolding synced
returns c =
    after_same _ _ _ _ _ _ _ _
    c.at_offset.ensures
    c.moved_state.ensures
    c.store_ip.ensures
    refl

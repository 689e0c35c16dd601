-- `stack::restoring::step_restore` meets its contract: what its calls ensure, part by part. Assumes nothing.
use mathlib.Core.Path.{refl}
use Rattle.rules.specs.Syncs.{restored}
use Rattle.rules.proofs.OneAnswer.{after_same}
use Rattle.stack.proofs.restoring.step_restore.Goals as goal

pub returns : goal.returns
unfolding restored
returns c =
    after_same _ _ _ _ _ _ _ _
    (rw (c.no_host.ensures, c.unwrap_or.ensures, c.read_row-top.ensures, c.from_top.ensures))
    refl
    refl
    refl

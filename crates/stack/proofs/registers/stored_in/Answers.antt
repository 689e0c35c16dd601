-- `stack::registers::stored_in` meets its contract: what its calls ensure, part by part. Assumes nothing.
use mathlib.Core.Path.{refl}
use Rattle.rules.specs.Syncs.{registers_stored}
use Rattle.rules.proofs.OneAnswer.{after_same}
use Rattle.stack.proofs.registers.stored_in.Goals as goal

pub returns : goal.returns
unfolding registers_stored
returns c =
    after_same _ _ _ _ _ _ _ _ c.at_offset.ensures refl refl refl

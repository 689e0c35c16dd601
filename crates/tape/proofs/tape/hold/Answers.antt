-- `tape::tape::hold` meets its contract. Assumes nothing.
use Rattle.choice.proofs.Choices.{choices}
use Rattle.tape.specs.Tapes.{tape_holds}
use Rattle.tape.proofs.tape.hold.Goals as goal

pub returns-then-is_some : goal.returns-then-is_some
unfolding tape_holds
returns-then-is_some c =
    search choices

pub returns : goal.returns
unfolding tape_holds
returns c =
    search choices

-- `tape::cut::Cut::first_count` meets its contract. Assumes nothing.
use Rattle.choice.proofs.Choices.{choices}
use Rattle.tape.proofs.cut.Cut.first_count.Goals as goal

pub returns-then-self-eq0 : goal.returns-then-self-eq0
returns-then-self-eq0 c =
    search choices

pub returns-else-self-eq0 : goal.returns-else-self-eq0
returns-else-self-eq0 c =
    search choices

-- `record::found_lawful` meets its contract. Assumes nothing.
use Rattle.choice.proofs.Choices.{choices}
use Rattle.record.specs.Reading.{found_lawful}
use Rattle.record.proofs.found_lawful.Goals as goal

pub returns-then-not-is_lawful : goal.returns-then-not-is_lawful
unfolding found_lawful
returns-then-not-is_lawful c =
    search choices

pub returns : goal.returns
unfolding found_lawful
returns c =
    search choices

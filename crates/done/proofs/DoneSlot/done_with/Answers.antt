-- `done::DoneSlot::done_with` meets its contract: each return is given whether the slot is filled. Assumes nothing.
use Rattle.choice.proofs.Choices.{choices}
use Rattle.done.specs.Done.{fill_tests, filled}
use Rattle.done.proofs.DoneSlot.done_with.Goals as goal

pub returns-then-is_some : goal.returns-then-is_some
unfolding fill_tests filled
returns-then-is_some c = search choices

pub returns : goal.returns
unfolding fill_tests filled
returns c = search choices

-- `frames::row::write_row` meets its contract: at each return the tests that led there choose the case. Assumes nothing.
use Rattle.std.proofs.Common.{add-zero}
use Rattle.choice.proofs.Choices.{choices, chosen_first, chosen_second}
use Rattle.frames.specs.Rows.{put_row}
use Rattle.frames.proofs.Places.{few_held, few_failed}
use Rattle.frames.proofs.row.write_row.Goals as goal

pub returns-then-words-depth : goal.returns-then-words-depth
unfolding put_row
returns-then-words-depth c = search (chosen_first, few_held)

pub returns-then-depth-i : goal.returns-then-depth-i
unfolding put_row
returns-then-depth-i c = search (choices, chosen_second, few_failed)

pub returns : goal.returns
unfolding put_row
returns c = search (choices, chosen_second, few_failed, add-zero)

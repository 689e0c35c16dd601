-- `stack::opening::open` meets its contract: at each return the tests that led there choose the case. Assumes nothing.
use Rattle.choice.proofs.Choices.{choices}
use Rattle.rules.specs.Open.{open_tests, stack_opened}
use Rattle.stack.proofs.opening.open.Goals as goal

pub returns-then-bytes-gt-MAX_BYTES : goal.returns-then-bytes-gt-MAX_BYTES
unfolding open_tests stack_opened
returns-then-bytes-gt-MAX_BYTES c =
    search choices

pub returns-then-depth-gt-MAX_DEPTH : goal.returns-then-depth-gt-MAX_DEPTH
unfolding open_tests stack_opened
returns-then-depth-gt-MAX_DEPTH c =
    search choices

pub returns-then-lent_cells-gt-MAX_CELLS : goal.returns-then-lent_cells-gt-MAX_CELLS
unfolding open_tests stack_opened
returns-then-lent_cells-gt-MAX_CELLS c =
    search choices

pub returns-then-too_few_words : goal.returns-then-too_few_words
unfolding open_tests stack_opened
returns-then-too_few_words c =
    search choices

pub returns : goal.returns
unfolding open_tests stack_opened
returns c =
    rw (c.at_offset.ensures, c.fresh_state.ensures) (search choices)

-- `stack::setting::judge_set` meets its contract: at each return the tests that led there choose the case. Assumes nothing.
use borrow.Author.Rules.{rules}
use mathlib.Core.Path.{sym}
use Rattle.choice.proofs.Choices.{choices}
use Rattle.rules.specs.Syncs.{set_tests, set_room}
use Rattle.rules.proofs.Bounds.{start_bound}
use Rattle.stack.proofs.setting.judge_set.Goals as goal

pub returns-then-is_broken_top : goal.returns-then-is_broken_top
unfolding set_tests set_room
returns-then-is_broken_top c =
    search choices

pub overflow_add-at : goal.overflow_add-at
unfolding set_tests set_room
overflow_add-at c =
    let small = start_bound _ _ c.is_broken_top.ensures c.if-is_broken_top.false in
    let start = c.top_start.ensures in
    search rules

pub returns-then-count-eq0 : goal.returns-then-count-eq0
unfolding set_tests set_room
returns-then-count-eq0 c =
    search choices

pub returns-then-len-at : goal.returns-then-len-at
unfolding set_tests set_room
returns-then-len-at c =
    rw (sym c.top_start.ensures) (search choices)

pub returns : goal.returns
unfolding set_tests set_room
returns c =
    rw (sym c.top_start.ensures) (search choices)

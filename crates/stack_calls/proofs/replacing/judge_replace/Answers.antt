-- `stack_calls::replacing::judge_replace` meets its contract: at each return the tests that led there choose the case. Assumes nothing.
use borrow.Author.Rules.{rules}
use mathlib.Core.Path.{sym}
use Rattle.choice.proofs.Choices.{choices}
use Rattle.rules.specs.Calls.{replace_tests, replace_room}
use Rattle.rules.proofs.Bounds.{start_bound}
use Rattle.stack_calls.proofs.replacing.judge_replace.Goals as goal

pub returns-then-is_broken_top : goal.returns-then-is_broken_top
unfolding replace_tests replace_room
returns-then-is_broken_top c =
    search choices

pub overflow_add-end : goal.overflow_add-end
unfolding replace_tests replace_room
overflow_add-end c =
    let small = start_bound _ _ c.is_broken_top.ensures c.if-is_broken_top.false in
    let start = c.top_start-start.ensures in
    search rules

pub overflow_add-far : goal.overflow_add-far
unfolding replace_tests replace_room
overflow_add-far c =
    let small = start_bound _ _ c.is_broken_top.ensures c.if-is_broken_top.false in
    let start = c.top_start-start.ensures in
    search rules

pub overflow_add-far-2 : goal.overflow_add-far-2
unfolding replace_tests replace_room
overflow_add-far-2 c =
    let small = start_bound _ _ c.is_broken_top.ensures c.if-is_broken_top.false in
    let start = c.top_start-start.ensures in
    search rules

pub returns-then-count-eq0 : goal.returns-then-count-eq0
unfolding replace_tests replace_room
returns-then-count-eq0 c =
    search choices

pub returns-then-are_bad_counts : goal.returns-then-are_bad_counts
unfolding replace_tests replace_room
returns-then-are_bad_counts c =
    search choices

pub returns : goal.returns
unfolding replace_tests replace_room
returns c =
    rw (sym c.top_start-start.ensures) (search choices depth 12)

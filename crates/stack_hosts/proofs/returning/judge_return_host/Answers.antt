-- `stack_hosts::returning::judge_return_host` meets its contract: at each return the tests that led there choose the case. Assumes nothing.
use Rattle.std.proofs.Common.{sym, rules}
use Rattle.choice.proofs.Choices.{choices}
use Rattle.rules.specs.Hosts.{return_host_tests, return_host_room}
use Rattle.rules.proofs.Bounds.{next_start_bound}
use Rattle.stack_hosts.proofs.returning.judge_return_host.Goals as goal

pub returns-then-is_broken_next : goal.returns-then-is_broken_next
unfolding return_host_tests return_host_room
returns-then-is_broken_next c =
    search choices

pub overflow_add-end : goal.overflow_add-end
unfolding return_host_tests return_host_room
overflow_add-end c =
    let small = next_start_bound _ _ c.is_broken_next.ensures c.if-is_broken_next.false in
    let start = c.top_start-start.ensures in
    let size = c.host_size-size.ensures in
    search rules

pub overflow_add-far : goal.overflow_add-far
unfolding return_host_tests return_host_room
overflow_add-far c =
    let small = next_start_bound _ _ c.is_broken_next.ensures c.if-is_broken_next.false in
    let start = c.top_start-start.ensures in
    let size = c.host_size-size.ensures in
    search rules

pub overflow_add-far-2 : goal.overflow_add-far-2
unfolding return_host_tests return_host_room
overflow_add-far-2 c =
    let small = next_start_bound _ _ c.is_broken_next.ensures c.if-is_broken_next.false in
    let start = c.top_start-start.ensures in
    let size = c.host_size-size.ensures in
    search rules

pub returns-then-count-eq0 : goal.returns-then-count-eq0
unfolding return_host_tests return_host_room
returns-then-count-eq0 c =
    search choices

pub returns-then-is_beyond : goal.returns-then-is_beyond
unfolding return_host_tests return_host_room
returns-then-is_beyond c =
    rw (sym c.top_start-start.ensures, sym c.is_sized-some.ensures) (search choices)

pub returns : goal.returns
unfolding return_host_tests return_host_room
returns c =
    rw (
      sym c.top_start-start.ensures,
      sym c.is_sized-some.ensures,
      sym c.host_size-size.ensures,
    ) (search choices depth 9)

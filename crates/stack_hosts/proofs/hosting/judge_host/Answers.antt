-- `stack_hosts::hosting::judge_host` meets its contract: at each return the tests that led there choose the case. Assumes nothing.
use Rattle.std.proofs.Common.{sym, rules}
use Rattle.choice.proofs.Choices.{choices}
use Rattle.rules.specs.Hosts.{host_tests, host_room}
use Rattle.rules.proofs.Bounds.{start_bound}
use Rattle.stack_hosts.proofs.hosting.judge_host.Goals as goal

pub returns-then-is_broken_top : goal.returns-then-is_broken_top
unfolding host_tests host_room
returns-then-is_broken_top c =
    search choices

pub overflow_add-start : goal.overflow_add-start
unfolding host_tests host_room
overflow_add-start c =
    let small = start_bound _ _ c.is_broken_top.ensures c.if-is_broken_top.false in
    let start = c.top_start.ensures in
    let size = c.host_size-size.ensures in
    search rules

pub overflow_add-end : goal.overflow_add-end
unfolding host_tests host_room
overflow_add-end c =
    let small = start_bound _ _ c.is_broken_top.ensures c.if-is_broken_top.false in
    let start = c.top_start.ensures in
    let size = c.host_size-size.ensures in
    search rules

pub returns-then-is_stray_ip : goal.returns-then-is_stray_ip
unfolding host_tests host_room
returns-then-is_stray_ip c =
    search choices

pub returns : goal.returns
unfolding host_tests host_room
returns c =
    rw (
      sym c.top_start.ensures,
      sym c.host_size-size.ensures,
    ) (search choices depth 9)

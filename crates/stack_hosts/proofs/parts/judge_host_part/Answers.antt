-- `stack_hosts::parts::judge_host_part` meets its contract: at each return the tests that led there choose the case. Assumes nothing.
use Rattle.choice.proofs.Choices.{choices}
use Rattle.rules.specs.Hosts.{part_tests, part_room}
use Rattle.stack_hosts.proofs.parts.judge_host_part.Goals as goal

pub returns-then-is_broken_state : goal.returns-then-is_broken_state
unfolding part_tests part_room
returns-then-is_broken_state c =
    search choices

pub returns-then-is_bad_host_frame : goal.returns-then-is_bad_host_frame
unfolding part_tests part_room
returns-then-is_bad_host_frame c =
    search choices

pub returns : goal.returns
unfolding part_tests part_room
returns c =
    search choices

-- `stack_hosts::routine::call_host` meets its contract: a refusal, or the routine's result stored. Assumes nothing.
use Rattle.stack_hosts.proofs.Called.{called_refused, called_done}
use Rattle.stack_hosts.proofs.routine.call_host.Goals as goal

pub returns-in-Err : goal.returns-in-Err
returns-in-Err c =
    called_refused _ _ _ c.judge_host_part.ensures _ _ c.in-Err.is c.refused.ensures

pub returns-in-Ok : goal.returns-in-Ok
returns-in-Ok c =
    called_done _ _ _ c.judge_host_part.ensures _ _ c.in-Ok.is c.summed_in.ensures

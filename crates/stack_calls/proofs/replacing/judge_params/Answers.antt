-- `stack_calls::replacing::judge_params` meets its contract: the judgement of the growth, or that of the parameters in the room that it gave. Assumes nothing.
use Rattle.stack_calls.proofs.Tails.{tail_refused, tail_accepted}
use Rattle.stack_calls.proofs.replacing.judge_params.Goals as goal

pub returns-in-Err : goal.returns-in-Err
returns-in-Err c =
    tail_refused c.args.s c.args.some c.args.start c.args.end c.args.far _ c.judge_growth.ensures _ c.in-Err.is

pub returns-in-Ok : goal.returns-in-Ok
returns-in-Ok c =
    tail_accepted c.args.s c.args.some c.args.start c.args.end c.args.far _ c.judge_growth.ensures _
    c.in-Ok.is _ c.judge_far.ensures

-- `stack_calls::replacing::replace_frame` meets its contract: a refusal, or the step in the room that was judged. Assumes nothing.
use Rattle.rules.proofs.Judgements.{refused_answer, accepted_answer}
use Rattle.stack_calls.proofs.replacing.replace_frame.Goals as goal

pub returns-in-Err : goal.returns-in-Err
returns-in-Err c =
    refused_answer _ _ _ c.judge_replace.ensures _ _ c.in-Err.is c.refused.ensures

pub returns-in-Ok : goal.returns-in-Ok
returns-in-Ok c =
    accepted_answer _ _ _ c.judge_replace.ensures _ _ c.in-Ok.is c.step_replace.ensures

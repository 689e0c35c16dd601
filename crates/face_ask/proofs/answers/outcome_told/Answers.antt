-- `face_ask::answers::outcome_told` meets its contract: by the case of the answer. Assumes nothing.
use Rattle.face_ask.proofs.Telling.{refusal_told, reply_told_lem}
use Rattle.face_ask.proofs.answers.outcome_told.Goals as goal

pub returns-in-Err : goal.returns-in-Err
returns-in-Err c =
    refusal_told _ _ _ c.args.out.state _ _ _
    c.in-Err.is c.no_host.ensures c.from.ensures
    c.host_told.ensures

pub returns-in-Ok : goal.returns-in-Ok
returns-in-Ok c =
    reply_told_lem _ _ _ c.args.out.state _ _
    c.in-Ok.is c.from-in-Ok.ensures c.reply_told.ensures

-- `face::parts::part_told` meets its contract: a refusal, or what the frame is lent. Assumes nothing.
use Rattle.face.proofs.Lent.{refused_told, accepted_told}
use Rattle.face.proofs.parts.part_told.Goals as goal

pub returns-in-Err : goal.returns-in-Err
returns-in-Err c =
    refused_told _ _ _ c.judge_host_part.ensures _ _ _ c.in-Err.is
    c.from.ensures c.part.ensures

pub returns-in-Ok : goal.returns-in-Ok
returns-in-Ok c =
    accepted_told _ _ _ c.judge_host_part.ensures _ _ c.in-Ok.is c.frame_lent.ensures

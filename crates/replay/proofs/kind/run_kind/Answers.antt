-- `replay::kind::run_kind` meets its contract: the record breaks its row, or its request is refused, too dear or done. Assumes nothing.
use Rattle.std.proofs.Common.{arith}
use Rattle.replay.proofs.Arms.{arm_bad, arm_refused, arm_stops, arm_goes}
use Rattle.replay.proofs.ByKind.{broken_says, kept_says}
use Rattle.replay.proofs.kind.run_kind.Goals as goal

pub returns-then-not-keeps_row : goal.returns-then-not-keeps_row
returns-then-not-keeps_row g c =
    arm_bad c.args.f c.args.m _ _ _ c.refused_at.ensures _
    (broken_says c.args.r _ c.requires _ c.row.ensures _ c.keeps_row.ensures c.if-not-keeps_row.true)

pub returns-then-saturating_sub-cost : goal.returns-then-saturating_sub-cost
returns-then-saturating_sub-cost g c =
    arm_stops c.args.f c.args.m _ _ _ _ c.state_again-s.ensures _ c.judge.ensures _
    (kept_says c.args.r _ c.requires _ c.row.ensures _ c.keeps_row.ensures c.if-not-keeps_row.false _ c.read-q.ensures)
    _ c.in-Ok.is _ c.cost-cost.ensures _ c.stopped_before.ensures (omega arith)

pub returns-in-Err : goal.returns-in-Err
returns-in-Err g c =
    arm_refused c.args.f c.args.m _ _ _ _ c.state_again-s.ensures _ c.judge.ensures _
    (kept_says c.args.r _ c.requires _ c.row.ensures _ c.keeps_row.ensures c.if-not-keeps_row.false _ c.read-q.ensures)
    _ c.in-Err.is _ c.refused_for.ensures

pub returns-else-saturating_sub-cost : goal.returns-else-saturating_sub-cost
returns-else-saturating_sub-cost g c =
    let left = c.saturating_sub.ensures in
    let enough = c.if-saturating_sub-cost.false in
    arm_goes c.args.f c.args.m _ _ _ _ c.state_again-s.ensures _ c.judge.ensures _
    (kept_says c.args.r _ c.requires _ c.row.ensures _ c.keeps_row.ensures c.if-not-keeps_row.false _ c.read-q.ensures)
    _ c.in-Ok.is _ c.cost-cost.ensures c.step.result _ _ c.step.ensures _ c.went_by.ensures (omega (arith, left, enough))

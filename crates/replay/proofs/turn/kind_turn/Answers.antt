-- `replay::turn::kind_turn` meets its contract: each of the nine kinds by its own, and no other says anything. Assumes nothing.
use Rattle.std.proofs.Common.{rules}
use Rattle.replay.proofs.Arms.{arm_bad}
use Rattle.replay.proofs.ByKind.{no_kind_says}
use Rattle.replay.proofs.turn.kind_turn.Goals as goal

pub returns-in_default : goal.returns-in_default
returns-in_default c =
    arm_bad c.args.f c.args.m _ _ _ c.refused_at.ensures _
    (no_kind_says c.args.r (search rules) (search rules) (search rules) (search rules) (search rules) (search rules) (search rules) (search rules) (search rules))

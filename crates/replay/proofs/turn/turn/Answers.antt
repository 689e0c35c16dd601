-- `replay::turn::turn` meets its contract: the record's numbers, or none. Assumes nothing.
use Rattle.std.proofs.Common.{sym, ap, ◌∙◌, rules}
use Rattle.record.specs.Reading.{shown_read}
use Rattle.replay.specs.Running.{ran_on}
use Rattle.replay.specs.Packing.{running_again}
use Rattle.replay.proofs.Arms.{arm_bad}
use Rattle.replay.proofs.ByKind.{fields_say_lem, fields_say_none}
use Rattle.replay.proofs.turn.turn.Goals as goal

pub returns-in-Ok : goal.returns-in-Ok
returns-in-Ok c =
    let found = sym (ap shown_read c.in-Ok.is) ∙ c.read_fields.ensures in
    c.kind_turn.ensures
    ∙ ap (ran_on (running_again c.args.f c.args.m c.args.words.now c.args.cells.now)) (fields_say_lem c.args.bytes.now c.args.at (search rules) _ found)

pub returns-in-Err : goal.returns-in-Err
returns-in-Err c =
    let none = sym (ap shown_read c.in-Err.is) ∙ c.read_fields.ensures in
    arm_bad c.args.f c.args.m _ _ _ c.refused_at.ensures _ (fields_say_none c.args.bytes.now c.args.at (search rules) none)

-- `face_leaves::records::cattlecleat_write_record` meets its contract: a kind beyond the nine has no row in the table. Assumes nothing.
use Rattle.std.proofs.Common.{ap, ◌∙◌, arith}
use Rattle.record.specs.Reading.{record_written}
use Rattle.face_leaves.proofs.Telling.{written_is_told, none_written}
use Rattle.face_leaves.proofs.records.cattlecleat_write_record.Goals as goal

pub returns-then-kind-gt-SET : goal.returns-then-kind-gt-SET
returns-then-kind-gt-SET c =
    let far = c.if-kind-gt-SET.true in none_written _ _ c.args.q (omega (arith, far))

pub returns : goal.returns
returns c =
    written_is_told _ c.write_record.result _ _ c.written_number.ensures
    (c.write_record.ensures
    ∙ ap (record_written _ _) c.record_spelt.ensures)

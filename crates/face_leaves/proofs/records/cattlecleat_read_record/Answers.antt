-- `face_leaves::records::cattlecleat_read_record` meets its contract. Assumes nothing.
use Rattle.std.proofs.Common.{sym, ap, ◌∙◌}
use Rattle.record.specs.Reading.{shown_read}
use Rattle.face_leaves.specs.Records.{read_told}
use Rattle.face_leaves.proofs.records.cattlecleat_read_record.Goals as goal

pub returns-in-Ok : goal.returns-in-Ok
returns-in-Ok c =
    rw c.from.ensures
    (ap (λ x. read_told (shown_read x)) (sym c.in-Ok.is)
    ∙ ap read_told c.read_record.ensures)

pub returns-in-Err : goal.returns-in-Err
returns-in-Err c =
    rw c.from-in-Err.ensures
    (ap (λ x. read_told (shown_read x)) (sym c.in-Err.is)
    ∙ ap read_told c.read_record.ensures)

-- `record::read_record` meets its contract: the numbers are read, then the rules of the kind are asked. Assumes nothing.
use mathlib.Core.Path.{◌∙◌}
use Rattle.std.proofs.lemmas.Result.{err_from_is_err_and}
use Rattle.record.proofs.Reading.{fields_bad, fields_found}
use Rattle.record.proofs.read_record.Goals as goal

pub returns-in_err-read_fields : goal.returns-in_err-read_fields
returns-in_err-read_fields c =
    let failed = err_from_is_err_and c.from_residual.result c.from_residual.ensures.1 in
    rw failed.1 (fields_bad _ _ c.in_err-read_fields.ensures)

pub returns : goal.returns
returns c =
    c.found_lawful.ensures ∙ fields_found _ _ _ c.in_ok-read_fields.ensures

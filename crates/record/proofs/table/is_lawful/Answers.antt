-- `record::table::is_lawful` meets its contract: a kind beyond the table keeps no row's rules, and the code's row of any other kind is the table's. Assumes nothing.
use mathlib.Core.Path.{◌∙◌}
use Rattle.record.proofs.Coding.{kind_zero, kind_beyond, kept_in_table}
use Rattle.record.proofs.table.is_lawful.Goals as goal

pub returns-then-kind-eq0 : goal.returns-then-kind-eq0
returns-then-kind-eq0 c =
    kind_zero c.args.r c.if-kind-eq0.true

pub returns-then-kind-gt-KINDS : goal.returns-then-kind-gt-KINDS
returns-then-kind-gt-KINDS c =
    kind_beyond c.args.r c.if-kind-gt-KINDS.true

pub returns : goal.returns
returns c =
    let r = c.args.r in
    c.keeps_row.ensures ∙ kept_in_table r c.if-kind-eq0.false

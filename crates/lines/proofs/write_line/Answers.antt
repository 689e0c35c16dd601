-- `lines::write_line` meets its contract: without room nothing is written, and else one number after another. Assumes nothing.
use mathlib.Core.Path.{sym}
use native.Mathlib.Omega.{arith}
use Rattle.lines.specs.Text.{line_text}
use Rattle.lines.specs.Pieces.{ended_number}
use Rattle.lines.proofs.Texts.{text_put_none}
use Rattle.lines.proofs.Laying.{laid_put, laid_number}
use Rattle.lines.proofs.write_line.Goals as goal

pub returns-then-saturating_sub-lt-LONGEST_LINE : goal.returns-then-saturating_sub-lt-LONGEST_LINE
returns-then-saturating_sub-lt-LONGEST_LINE c =
    sym (text_put_none _ _ _ (omega arith))

pub returns : goal.returns
unfolding line_text ended_number
returns c =
    laid_put c.args.out.now _ _ c.args.at _ (omega arith)
    (laid_number _ _ _ _ _ _ _ _ _ c.put_number-second.ensures.out_after
    (laid_number _ _ _ _ _ _ _ _ _ c.put_number-third.ensures.out_after
    (laid_number _ _ _ _ _ _ _ _ _ c.put_number-fourth.ensures.out_after
    (laid_number _ _ _ _ _ _ _ _ _ c.put_number-fifth.ensures.out_after c.put_number.ensures.out_after))))

-- `lines::write_spent` meets its contract: without room nothing is written, and else the word and the number. Assumes nothing.
use mathlib.Core.Path.{sym}
use native.Mathlib.Omega.{arith}
use Rattle.lines.specs.Text.{spent_word, spent_text}
use Rattle.lines.specs.Pieces.{ended_number}
use Rattle.lines.proofs.Texts.{text_put_none}
use Rattle.lines.proofs.Laying.{laid_put, laid_word}
use Rattle.lines.proofs.write_spent.Goals as goal

pub returns-then-saturating_sub-lt-LONGEST_LINE : goal.returns-then-saturating_sub-lt-LONGEST_LINE
returns-then-saturating_sub-lt-LONGEST_LINE c =
    sym (text_put_none _ _ _ (omega arith))

pub returns : goal.returns
unfolding spent_text ended_number
returns c =
    laid_put c.args.out.now _ _ c.args.at _ (omega arith)
    (laid_word c.args.out.now _ _ spent_word _ c.args.at _ _ c.put-first.ensures.value c.put-first.ensures.out_after c.put_number.ensures.out_after)

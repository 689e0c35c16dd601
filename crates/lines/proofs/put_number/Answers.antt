-- `lines::put_number` meets its contract: the kit's digits are the number's text, at most 20, and the byte behind them ends it. Assumes nothing.
use mathlib.Core.Path.{◌∙◌}
use native.Mathlib.Omega.{arith}
use borrow.Author.Rules.{rules}
use Rattle.lines.proofs.Decimal.{fewest_most, decimal_made}
use Rattle.lines.proofs.Laying.{laid_digits}
use Rattle.lines.proofs.put_number.Goals as goal

pub put-behind-requires : goal.put-behind-requires
put-behind-requires c =
    let most = fewest_most c.args.n _ (omega arith) c.decimal-count.ensures.len in
    omega arith

pub bounds-out-behind : goal.bounds-out-behind
bounds-out-behind c =
    let most = fewest_most c.args.n _ (omega arith) c.decimal-count.ensures.len in
    search rules

pub overflow_add-result : goal.overflow_add-result
overflow_add-result c =
    let most = fewest_most c.args.n _ (omega arith) c.decimal-count.ensures.len in
    omega arith

pub returns : goal.returns
returns c =
    let fewest = c.decimal-count.ensures.len in
    let most = fewest_most c.args.n _ (omega arith) fewest in
    let made = c.decimal-count.ensures.digits ∙ decimal_made c.args.n _ (omega arith) fewest in
    record { out_after = laid_digits c.args.out.now _ _ c.args.at _ c.args.n c.args.end made c.put-behind.ensures.value c.put-behind.ensures.out_after; upper_bound = omega arith }

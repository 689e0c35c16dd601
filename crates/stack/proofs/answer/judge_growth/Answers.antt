-- `stack::answer::judge_growth` meets its contract: the verdict on the growth, as a judgement. Assumes nothing.
use Rattle.stack.proofs.Growths.{growth_unwanted, growth_refused, growth_fits}
use Rattle.stack.proofs.answer.judge_growth.Goals as goal

pub returns-else-wanted : goal.returns-else-wanted
returns-else-wanted c =
    search growth_unwanted

pub returns-in_err-len : goal.returns-in_err-len
returns-in_err-len c =
    growth_refused c.args.s c.args.wanted c.args.start c.args.end c.args.count c.grow_if_needed.result c.grow_if_needed.ensures c.if-wanted.true
    c.in_err-len.field-0.0 c.in_err-len.was c.from_residual.result c.from_residual.ensures.1

pub returns-in_ok-len : goal.returns-in_ok-len
returns-in_ok-len c =
    growth_fits c.args.s c.args.wanted c.args.start c.args.end c.args.count c.grow_if_needed.result c.grow_if_needed.ensures c.if-wanted.true
    c.in_ok-len.len c.in_ok-len.was

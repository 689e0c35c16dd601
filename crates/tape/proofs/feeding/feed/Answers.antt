-- `tape::feeding::feed` meets its contract. Assumes nothing.
use mathlib.Core.Path.{ap, ◌∙◌}
use Rattle.std.specs.Prelude.{Ok}
use Rattle.tape.specs.Tapes.{taping_of}
use Rattle.tape.proofs.Feeds.{asked_rests, asked_refused, asked_goes, feed_rests, feed_number, feed_refused, feed_goes}
use Rattle.tape.proofs.feeding.feed.Goals as goal

pub returns-in_err-rests : goal.returns-in_err-rests
returns-in_err-rests c =
    let asked = asked_refused _ _ _ c.rests.ensures _ c.in_err-rests.was in
    feed_number _ _ c.from_residual.ensures.0 ∙ feed_refused (taping_of c.args.t.now c.args.words.now c.args.cells.now) _ asked.0 asked.1.0 asked.1.1

pub returns-then-branch : goal.returns-then-branch
returns-then-branch c =
    feed_rests _ _ (asked_rests _ _ _ c.rests.ensures (c.in_ok-rests.was ∙ ap Ok c.if-branch.true))

pub returns : goal.returns
returns c =
    let asked = asked_goes _ _ _ c.rests.ensures (c.in_ok-rests.was ∙ ap Ok c.if-branch.false) in
    feed_goes (taping_of c.args.t.now c.args.words.now c.args.cells.now) c.args.block.now asked.0 asked.1.0 _ asked.1.1 c.go_on.ensures

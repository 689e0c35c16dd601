-- `tape::feeding::run_whole` meets its contract: nothing is run by no bytes. Assumes nothing.
use Rattle.std.proofs.Common.{sym, ap, ◌∙◌}
use Rattle.replay.specs.Running.{replayed}
use Rattle.tape.proofs.Going.{empty_unrun}
use Rattle.tape.proofs.feeding.run_whole.Goals as goal

pub returns-then-is_empty : goal.returns-then-is_empty
returns-then-is_empty c =
    c.replay.ensures ∙ ap (λ v. replayed v c.args.own.now) (empty_unrun _ c.args.first.now (sym c.is_empty.ensures ∙ c.if-is_empty.true))

pub returns-then-is_empty-2 : goal.returns-then-is_empty-2
returns-then-is_empty-2 c =
    c.replay-once.ensures ∙ empty_unrun _ c.args.own.now (sym c.is_empty-2.ensures ∙ c.if-is_empty-2.true)

pub returns : goal.returns
returns c =
    c.replay-2.ensures ∙ ap (λ v. replayed v c.args.own.now) c.replay-once.ensures

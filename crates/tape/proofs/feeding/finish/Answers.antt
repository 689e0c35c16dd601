-- `tape::feeding::finish` meets its contract. Assumes nothing.
use mathlib.Core.Path.{sym, ◌∙◌}
use Rattle.tape.proofs.Going.{part_ran}
use Rattle.tape.proofs.Feeds.{told_stopped, told_ended, told_goes}
use Rattle.tape.proofs.feeding.finish.Goals as goal

pub returns-then-is_some : goal.returns-then-is_some
returns-then-is_some c =
    told_stopped _ (sym c.is_some.ensures ∙ c.if-is_some.true)

pub returns-then-t : goal.returns-then-t
returns-then-t c =
    told_ended _ (sym c.is_some.ensures ∙ c.if-is_some.false) c.if-t.true

pub returns : goal.returns
returns c =
    told_goes _ (sym c.is_some.ensures ∙ c.if-is_some.false) _ c.if-t.false
    (part_ran _ _ c.args.t.now.kept _ _ c.replay.ensures c.held_count.ensures)

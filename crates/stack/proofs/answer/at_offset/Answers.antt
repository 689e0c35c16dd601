-- `stack::answer::at_offset` meets its contract: what its two calls ensure. Assumes nothing.
use mathlib.Core.Path.{sym}
use Rattle.stack.proofs.answer.at_offset.Goals as goal

pub returns : goal.returns
returns c =
    rw (sym c.no_host.ensures) c.at_host.ensures

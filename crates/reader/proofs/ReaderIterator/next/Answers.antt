-- `next` of a reader meets its contract: what it hands out is the first of what is ahead. Assumes nothing.
use mathlib.Core.Path.{sym, ap, ◌∙◌}
use mathlib.Core.List.{List, ◌∷◌}
use native.Mathlib.Omega.{arith}
use lib.ListN.{length}
use Rattle.request.specs.Requests.{Decoded}
use Rattle.reader.specs.Held.{entries_ahead}
use Rattle.reader.proofs.Readers.{nothing_ahead, first_ahead}
use Rattle.reader.proofs.ReaderIterator.next.Goals as goal

pub returns-in_err-entry : goal.returns-in_err-entry
returns-in_err-entry c = (
  rw (c.from_residual.ensures, c.take_request.ensures.1) (nothing_ahead c.args.self.now c.in_err-entry.ensures.0),
  rw c.from_residual.ensures (record { on = λ _. tt; keeps = tt; rests = λ _. tt }),
  c.take_request.ensures.1,
)

pub returns : goal.returns
returns c =
    let first = first_ahead c.args.self.now c.in_ok-entry.entry c.in_ok-entry.field-0-1 c.in_ok-entry.ensures.0 ∙ ap (λ r. c.in_ok-entry.entry ∷ entries_ahead r) (sym c.take_request.ensures.1) in
    let fewer = ap (λ (ds : List Decoded). length ds) first in
    (first, record { on = λ _. (tt, tt, omega (arith, fewer)); keeps = tt; rests = λ _. tt }, c.take_request.ensures.1)

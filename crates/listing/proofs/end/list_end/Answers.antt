-- `listing::end::list_end` meets its contract: without room nothing is written, else the stop and then the sum. Assumes nothing.
use native.Mathlib.Omega.{arith}
use Rattle.listing.proofs.Steps.{end_none, end_listed_lem}
use Rattle.listing.proofs.end.list_end.Goals as goal

pub returns-then-out : goal.returns-then-out
returns-then-out c =
    end_none _ _ (omega arith)

pub returns : goal.returns
returns c =
    end_listed_lem _ (omega arith) c.args.run.number c.args.run.stop c.args.run.spent _ _ _ c.list_stop-at.ensures
    c.write_spent.ensures

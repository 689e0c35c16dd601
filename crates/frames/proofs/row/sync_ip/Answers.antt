-- `frames::row::sync_ip` meets its contract: one store where the row is there, else none. Assumes nothing.
use Rattle.frames.proofs.Places.{first_place, few_held, few_failed}
use Rattle.frames.proofs.Rows.{ip_few, ip_far, ip_there}
use Rattle.frames.proofs.row.sync_ip.Goals as goal

pub returns-then-words-depth : goal.returns-then-words-depth
returns-then-words-depth c = search (ip_few, few_held)

pub returns-then-depth-i : goal.returns-then-depth-i
returns-then-depth-i c = search ip_far

pub returns : goal.returns
returns c = search (ip_there, first_place, few_failed)

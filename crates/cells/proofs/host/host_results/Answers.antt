-- `cells::host::host_results` meets its contract: at each return the tests that led there say which part it is. Assumes nothing.
use Rattle.cells.proofs.Hosts.{place_refused, place_far, place_lent, part_refused_lem, part_far, part_lent_lem}
use Rattle.cells.proofs.host.host_results.Goals as goal

pub returns-then-is_bad_host_frame : goal.returns-then-is_bad_host_frame
returns-then-is_bad_host_frame c = (search place_refused, search part_refused_lem)

pub returns-then-cells-start : goal.returns-then-cells-start
returns-then-cells-start c = (search place_far, search part_far)

pub returns : goal.returns
returns c = (search place_lent, search part_lent_lem)

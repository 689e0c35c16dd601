-- `cells::host::store_results` meets its contract: at each return the tests that led there say what is stored. Assumes nothing.
use borrow.Author.Rules.{rules}
use Rattle.cells.proofs.Hosts.{results_refused, results_far, results_back}
use Rattle.cells.proofs.host.store_results.Goals as goal

pub returns-then-is_bad_host_frame : goal.returns-then-is_bad_host_frame
returns-then-is_bad_host_frame c = search results_refused

pub returns-then-cells-start : goal.returns-then-cells-start
returns-then-cells-start c = search results_far

pub returns : goal.returns
returns c = search (results_back, rules)

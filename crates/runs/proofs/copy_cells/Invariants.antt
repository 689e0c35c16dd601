-- The loop of `runs::copy_cells`: what is left to copy comes to what there was to copy, and the length is kept.
use Rattle.std.proofs.Common.{◌≡◌, ◌+◌, ◌-◌, length}
use Rattle.runs.specs.Runs.{copied}
use Rattle.runs.proofs.copy_cells.Given as goal

abbrev pub invariant-loop-k : goal.invariant-loop-k
invariant-loop-k l = record {
  size : length l.cells ≡ length l.fn.cells;
  left : copied l.cells (l.from + l.k) (l.to + l.k) (l.n - l.k) ≡ copied l.fn.cells l.from l.to l.n;
}

-- The loop of `runs::clear`: what is left to clear comes to what there was to clear, and the length is kept.
use Rattle.std.proofs.Common.{◌-◌, ◌≡◌, length, replicate}
use Rattle.std.proofs.lemmas.List.Edits.{sets}
use Rattle.runs.proofs.clear.Given as goal

abbrev pub invariant-loop-i : goal.invariant-loop-i
invariant-loop-i l = record {
  size : length l.cells ≡ length l.fn.cells;
  left : sets l.cells l.i (replicate (l.to - l.i) 0) ≡ sets l.fn.cells l.from (replicate (l.to - l.from) 0);
}

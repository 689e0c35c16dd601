-- `Patient::read`: the buffer keeps its length, and a read that failed consumed nothing.
use Rattle.std.proofs.Common.{◌≡◌, length}
use Rattle.std.specs.Io.KnownBytes.{Keeps}
use Rattle.cattlecleat.proofs.wait.PatientRead.read.Given as goal

abbrev pub invariant-loop : goal.invariant-loop
invariant-loop g l = (length l.buf ≡ length l.initial.buf)
    × Keeps (g.S.Read.remaining l.initial.self.stream) (g.S.Read.remaining l.self.stream)

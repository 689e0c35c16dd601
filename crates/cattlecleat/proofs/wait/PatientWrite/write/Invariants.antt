-- `Patient::write`: a write that failed wrote nothing.
use Rattle.std.specs.Io.KnownBytes.{Keeps}
use Rattle.cattlecleat.proofs.wait.PatientWrite.write.Given as goal

abbrev pub invariant-loop : goal.invariant-loop
invariant-loop g l = Keeps (g.S.Write.contents l.initial.self.stream) (g.S.Write.contents l.self.stream)

-- `face_leaves::records::flag_spelt` meets its contract: a flag of 0 says none, any other that it is given. Assumes nothing.
use Rattle.std.proofs.Common.{arith, ne_eqb}
use Rattle.face_leaves.proofs.records.flag_spelt.Goals as goal

pub returns-then-flag-eq0 : goal.returns-then-flag-eq0
returns-then-flag-eq0 c =
    record { value = rw c.if-flag-eq0.true; upper_bound = omega arith }

pub returns : goal.returns
returns c =
    record { value = rw (ne_eqb _ _ c.if-flag-eq0.false); upper_bound = omega arith }

-- `record::fields_in` meets its contract: at each return the test that led there says which case of `fields_in` holds. Assumes nothing.
use mathlib.Core.Path.{sym}
use Prim.Native.Nat.{◌<◌}
use native.Mathlib.Omega.{arith}
use Rattle.choice.proofs.Choices.{choices}
use Rattle.record.specs.Reading.{fields_in}
use Rattle.record.proofs.fields_in.Goals as goal

pub returns-then-spare-gt0 : goal.returns-then-spare-gt0
unfolding fields_in
returns-then-spare-gt0 c =
    rw (sym c.spare.ensures) (search choices)

pub returns : goal.returns
unfolding fields_in
returns c =
    let none : c.spare.result < 1 = omega arith in
    rw (sym c.spare.ensures, sym c.decode-r.ensures) (search choices)

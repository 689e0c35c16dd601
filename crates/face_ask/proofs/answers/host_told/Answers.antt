-- `face_ask::answers::host_told` meets its contract. Assumes nothing.
use mathlib.Core.Path.{sym}
use Rattle.face_ask.proofs.answers.host_told.Goals as goal

pub returns : goal.returns
returns c =
    rw (sym c.zeroed.ensures) c.values_told.ensures

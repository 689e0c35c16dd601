-- `face_ask::parts::cattlecleat_host_part` meets its contract: that of the state that the numbers say. Assumes nothing.
use mathlib.Core.Path.{refl, ◌∙◌}
use Rattle.face.proofs.Lent.{part_told_at}
use Rattle.face_ask.proofs.parts.cattlecleat_host_part.Goals as goal

pub returns : goal.returns
returns c =
    c.part_told.ensures ∙ part_told_at _ _ c.from.ensures _ _ _ _ refl

-- An aligned address as numbers.
--     aligned_told a    its number, and the address
use Rattle.regs.specs.Align.{ShownAligned}
use Rattle.face_leaves.specs.declared.leaves.CAligned.{CAligned}

abbrev pub aligned_told : ShownAligned → CAligned
aligned_told a = record { number = a.number; address = a.address }

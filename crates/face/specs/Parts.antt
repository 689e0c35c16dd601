-- A host's part of the cells, by offset and length. Parameters and results begin at one place.
--     part_with number offset params results
--     frame_lent frame     what an accepted frame is lent: an empty part is at 0
--     part_told w frame    what is answered: 9, 11 with zeros, or that
-- Two statements. PartWithin: both parts lie within the cells that are lent. PartIsLent: an accepted part
-- has as many cells as the host is lent, and begins where its part does.
use Rattle.std.specs.Prelude.{◌≡◌, ℕ, ◌+◌, ◌≤◌, ◌<◌, eqb, length}
use Rattle.choice.specs.Choose.{choose}
use Rattle.choice.specs.Tests.{settle}
use Rattle.cells.specs.declared.host.HostFrame.{HostFrame}
use Rattle.cells.specs.Host.{host_size}
use Rattle.rules.specs.World.{World}
use Rattle.rules.specs.Hosts.{part_tests, part_cells, part_place}
use Rattle.face.specs.declared.parts.CPart.{CPart}

abbrev pub part_with : (number offset params results : ℕ) → CPart
part_with number offset params results = record { number = number; offset = offset; params = params; results = results }

abbrev pub part_refused : (number : ℕ) → CPart
part_refused number = part_with number 0 0 0

abbrev pub size_of : HostFrame → ℕ
size_of frame = host_size frame.params frame.results

unfoldable pub frame_lent : HostFrame → CPart
frame_lent frame = choose (eqb (size_of frame) 0) (part_with 0 0 0 0) (part_with 0 frame.start frame.params (size_of frame))

unfoldable pub part_told : World → HostFrame → CPart
part_told w frame = settle (part_tests w frame) part_refused (frame_lent frame)

abbrev pub PartWithin : Type 0
PartWithin =
    (w : World) (frame : HostFrame)
    → ((part_told w frame).params ≤ (part_told w frame).results)
    × ((part_told w frame).offset + (part_told w frame).results ≤ length w.cells)

abbrev pub PartIsLent : Type 0
PartIsLent =
    (w : World) (frame : HostFrame) → (part_told w frame).number ≡ 0
    → ((part_told w frame).params ≡ length (part_cells w frame frame.params))
    × (((part_told w frame).results ≡ length (part_cells w frame (size_of frame)))
    × (0 < (part_told w frame).results → (part_told w frame).offset ≡ part_place w frame))

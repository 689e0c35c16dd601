-- What hosts are lent by the functions lies inside the host's frame that it was asked with: so a host who uses them with the frame that the request just
-- before handed out keeps to its part.
--     PartsInside               whatever is written through the part that `host_results` hands out
--     RoutineInside             and whatever the routine of `call_host` writes, called with a frame that a function handed out
--     PartsTold                 a part told over the C face lies within the cells; accepted, it is the part that the host is lent
use Rattle.std.specs.Prelude.{◌≡◌, List, ℕ, ◌+◌, ◌≤◌, ◌<◌, length}
use Rattle.regs.specs.declared.registers.Registers.{Registers}
use Rattle.cells.specs.Host.{host_size, cell_place}
use Rattle.cells.specs.declared.host.HostFrame.{HostFrame}
use Rattle.rules.specs.declared.Asked.{Asked}
use Rattle.rules.specs.World.{World}
use Rattle.rules.specs.Answers.{After}
use Rattle.rules.specs.Hosts.{part_cells, part_place}
use Rattle.rules.specs.Returning.{Inside}
use Rattle.stack_hosts.proofs.host_results.Reads as host-results
use Rattle.face.specs.declared.parts.CPart.{CPart}
use Rattle.face_place.specs.Args.{host_frame_held}
use Rattle.face_place.specs.Placed.{world_held}
use Rattle.face_place.proofs.cattlecleat_host_part_in_place.Reads as c-host-part-in-place
use Rattle.face_ask.proofs.cattlecleat_host_part.Reads as c-host-part
use Rattle.demands.specs.Heard.{world_said, Heard, routine_writes}

-- a is what it was called with: the state, the words, the cells and the host's frame; r is the part. The part begins at the frame's start, and whatever
-- fits into it lies inside the frame
abbrev pub PartsInside : Type 0
PartsInside =
    (κ : _) (a : _) (r : _) (e : _) → host-results.Post κ a r e
    → (values : List ℕ)
    → 0 < length values
    → length values ≤ length r.now
    → (r.ref_ptr ≡ cell_place a.1.1.0.ref_ptr a.1.1.1.0.start) × Inside a.1.1.1.0.start values a.1.1.1.0

-- t is what a function showed that was called in world u to ask for a; the routine is called in any world w, with the host's frame that t names
abbrev pub RoutineInside : Type 0
RoutineInside =
    (u : World) (a : Asked) (t : After) → Heard u a t
    → (w : World)
    → Inside t.shown.values.host.start (routine_writes w t.shown.values.host) t.shown.values.host

-- of the world w that the numbers say, and the host's frame f
abbrev pub LentAsTold : World → HostFrame → CPart → Type 0
LentAsTold w f r =
    (r.params ≡ length (part_cells w f f.params))
    × (r.results ≡ length (part_cells w f (host_size f.params f.results)))
    × (0 < r.results → r.offset ≡ part_place w f)

abbrev pub ToldWithin : World → HostFrame → CPart → Type 0
ToldWithin w f r = (r.params ≤ r.results) × (r.offset + r.results ≤ length w.cells) × (r.number ≡ 0 → LentAsTold w f r)

abbrev pub PartsTold : Type 0
PartsTold =
    ((κ : _) (a : _) (r : CPart) (e : _) → c-host-part.Post κ a r e
    → ToldWithin (world_said a.0 a.1.0.now a.1.1.0.now) a.1.1.1.0 r)
    × ((κ : _) (a : _) (r : CPart) (e : _) → c-host-part-in-place.Post κ a r e → (regs : Registers)
    → ToldWithin (world_held a.0.now regs a.1.0.now a.1.1.0.now) (host_frame_held a.1.1.1.0.now) r)

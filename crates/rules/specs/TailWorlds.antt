-- T-13 by an example, and where it ends: what is seen, beside what is expected. Each is a case that the checker computes.
--     tail_world, tail_events     the example: all that is assumed, and events of every sort
--     tail_lines                 what is seen of it, from the first event to the return
--     tails_without_instance, tails_over_debt, tails_without_caller      the limits
use Rattle.std.specs.Prelude.{List, [], ◌∷◌, ℕ, take, None, Some}
use Rattle.rules.specs.declared.Request.{Request}
use Rattle.rules.specs.declared.Request.TheVariants.{Pop, Sync, Restore, Set}
use Rattle.rules.specs.declared.Asked.TheVariants.{Traced, SyncRegs}
use Rattle.rules.specs.World.{World, top_frame, top_start}
use Rattle.rules.specs.Rules.{answered}
use Rattle.rules.specs.Events.{Event, asks, registers_put, ran_through}
use Rattle.rules.specs.Cases.{Case, ◌⊳◌, after_all, edge_world, first_push, push_p, push_q, push_over, replace_by, number_seen, number_at}
use Rattle.rules.specs.Cases.{current_flag, current_number}
use Rattle.rules.specs.ReachedWorlds.{eight_registers}
use Rattle.rules.specs.Tails.{accepted_replaces, ends_of, greatest}

-- ---- an example

-- A frame that starts at 2, over a caller's, with `len` 5, no debt, and instance 1 current.
abbrev pub tail_world : World
tail_world = edge_world (push_p ∷ push_over 2 3 ∷ [])

abbrev pub tail_to : (slots instance : ℕ) → Request
tail_to s n = replace_by 0 0 0 s (Some n)

-- Three tail calls that name 1, 2 and 1; one beyond M and L that names 3, and is refused; and events of every other sort between them.
abbrev pub tail_events : List Event
tail_events =
    asks (Traced (tail_to 4 1))
    ∷ asks (Traced (Sync 9))
    ∷ asks (Traced (tail_to 9 3))
    ∷ asks (Traced (Set 1 9))
    ∷ asks (Traced (tail_to 6 2))
    ∷ asks (Traced Restore)
    ∷ asks (SyncRegs eight_registers)
    ∷ registers_put eight_registers
    ∷ asks (Traced (tail_to 3 1))
    ∷ []

abbrev pub after_tails : (n : ℕ) → World
after_tails n = ran_through tail_world (take n tail_events)

-- the debt of the newest frame, and the current instance, each as a flag and a number
abbrev pub instances_seen : World → List ℕ
instances_seen w = (top_frame w).flag ∷ (top_frame w).debt ∷ current_flag w ∷ current_number w ∷ []

-- depth, top start and `len`, and these
abbrev pub tail_seen : (n : ℕ) → List ℕ
tail_seen n = let w = after_tails n in w.state.count ∷ top_start w ∷ w.state.len ∷ instances_seen w

unfoldable pub tail_lines : List Case
tail_lines =
    tail_seen 0 ⊳ (2 ∷ 2 ∷ 5 ∷ 0 ∷ 0 ∷ 1 ∷ 1 ∷ [])
    -- the first names 1, which is current, and reaches 6
    ∷ tail_seen 1 ⊳ (2 ∷ 2 ∷ 6 ∷ 0 ∷ 0 ∷ 1 ∷ 1 ∷ [])
    -- a refused one counts for nothing
    ∷ (number_at (after_tails 2) (tail_to 9 3) ∷ []) ⊳ (2 ∷ [])
    ∷ tail_seen 4 ⊳ (2 ∷ 2 ∷ 6 ∷ 0 ∷ 0 ∷ 1 ∷ 1 ∷ [])
    -- the second names 2, so that 1 is owed, and reaches 8
    ∷ tail_seen 5 ⊳ (2 ∷ 2 ∷ 8 ∷ 1 ∷ 1 ∷ 1 ∷ 2 ∷ [])
    ∷ tail_seen 8 ⊳ (2 ∷ 2 ∷ 8 ∷ 1 ∷ 1 ∷ 1 ∷ 2 ∷ [])
    -- the third names 1 again, which is owed still, and reaches 5
    ∷ tail_seen 9 ⊳ (2 ∷ 2 ∷ 8 ∷ 1 ∷ 1 ∷ 1 ∷ 1 ∷ [])
    -- so far the three reach, and the largest is `len`
    ∷ ends_of 2 (accepted_replaces tail_world tail_events) ⊳ (6 ∷ 8 ∷ 5 ∷ [])
    ∷ (greatest 5 (6 ∷ 8 ∷ 5 ∷ []) ∷ []) ⊳ (8 ∷ [])
    -- the return, after the second and after the third: its number, the depth and the current instance
    ∷ (let back = answered (after_tails 8) (Traced (Pop 2)) in
    number_seen back ∷ back.world.state.count ∷ current_flag back.world ∷ current_number back.world ∷ [])
    ⊳ (0 ∷ 1 ∷ 1 ∷ 1 ∷ [])
    ∷ (let back = answered (after_tails 9) (Traced (Pop 1)) in
    number_seen back ∷ back.world.state.count ∷ current_flag back.world ∷ current_number back.world ∷ [])
    ⊳ (0 ∷ 1 ∷ 1 ∷ 1 ∷ [])
    ∷ []

-- ---- limits

-- No current instance at the start: the first that is named, 1, becomes current, and nothing is owed for it. From then on it is as if 1 had been current:
-- when 2 is named 1 is owed, and the return makes 1 current, though none was so at the start.
-- Seen: the debt and the current instance at the start, and after each of the two; the current instance after the return.
unfoldable pub tails_without_instance : List Case
tails_without_instance =
    (let w = edge_world (first_push None ∷ push_over 2 3 ∷ []) in
    instances_seen w ⊳ (0 ∷ 0 ∷ 0 ∷ 0 ∷ [])
    ∷ instances_seen (after_all w (tail_to 4 1 ∷ [])) ⊳ (0 ∷ 0 ∷ 1 ∷ 1 ∷ [])
    ∷ instances_seen (after_all w (tail_to 4 1 ∷ tail_to 4 2 ∷ [])) ⊳ (1 ∷ 1 ∷ 1 ∷ 2 ∷ [])
    ∷ (current_flag (after_all w (tail_to 4 1 ∷ tail_to 4 2 ∷ Pop 2 ∷ [])) ∷ current_number (after_all w (tail_to 4 1 ∷ tail_to 4 2 ∷ Pop 2 ∷ [])) ∷ [])
    ⊳ (1 ∷ 1 ∷ [])
    ∷ [])

-- A frame that has a debt at the start, 1, with 2 current: it keeps that debt, whoever is named, and the return makes 1 current, not 2.
-- Seen: the debt and the current instance at the start, after a replace that names 3, and after one that names 2; the current instance after the return.
unfoldable pub tails_over_debt : List Case
tails_over_debt =
    (let w = edge_world (push_p ∷ push_q ∷ []) in
    instances_seen w ⊳ (1 ∷ 1 ∷ 1 ∷ 2 ∷ [])
    ∷ instances_seen (after_all w (tail_to 4 3 ∷ [])) ⊳ (1 ∷ 1 ∷ 1 ∷ 3 ∷ [])
    ∷ instances_seen (after_all w (tail_to 4 3 ∷ tail_to 4 2 ∷ [])) ⊳ (1 ∷ 1 ∷ 1 ∷ 2 ∷ [])
    ∷ (current_flag (after_all w (tail_to 4 3 ∷ tail_to 4 2 ∷ Pop 2 ∷ [])) ∷ current_number (after_all w (tail_to 4 3 ∷ tail_to 4 2 ∷ Pop 2 ∷ [])) ∷ [])
    ⊳ (1 ∷ 1 ∷ [])
    ∷ [])

-- No caller's frame: 1 is owed, but with the last frame its debt is forgotten, and the instance named last, 2, stays current.
-- Seen: the debt and the current instance after a replace that names 2; the return's number, and the current instance after it.
unfoldable pub tails_without_caller : List Case
tails_without_caller =
    (let w = edge_world (push_p ∷ tail_to 4 2 ∷ []) in
    let back = answered w (Traced (Pop 2)) in
    instances_seen w ⊳ (1 ∷ 1 ∷ 1 ∷ 2 ∷ [])
    ∷ (number_seen back ∷ current_flag back.world ∷ current_number back.world ∷ []) ⊳ (1 ∷ 1 ∷ 2 ∷ [])
    ∷ [])

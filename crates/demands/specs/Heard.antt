-- One request, by any public function, in Rattle or over the C face, and what it showed and left: read off the function's own promise alone,
-- `Reads.Post`, which is what the checker made of its `ensures`.
--     world_said s ws cs      the world that a state's numbers say, with what both buffers hold
--     after_said r ws cs      what an answer's numbers say
--     Heard w a t            a function was called in world w to ask for a, and by its promise showed and left t
--     RoutineHeard w f t     so of `call_host`, which asks for a host's part and has a routine write there
--     routine_writes w f      what that routine writes: nothing where it is refused
use Rattle.std.specs.Prelude.{◌≡◌, List, [], ◌∷◌, ℕ, ◌≤◌, length, take, Ok}
use Rattle.choice.specs.Tests.{settle}
use Rattle.regs.specs.declared.registers.Registers.{Registers}
use Rattle.cells.specs.declared.host.HostFrame.{HostFrame}
use Rattle.cells.specs.Host.{host_size, host_params}
use Rattle.rules.specs.declared.Request.{Request}
use Rattle.rules.specs.declared.Request.TheVariants.{Push, Pop, Replace, Host, ReturnHost, Sync, Restore, Reset, Set}
use Rattle.rules.specs.declared.Values.{Values}
use Rattle.rules.specs.declared.Outcome.{Outcome}
use Rattle.rules.specs.declared.Asked.{Asked}
use Rattle.rules.specs.declared.Asked.TheVariants.{Traced, SyncRegs, HostPart}
use Rattle.rules.specs.World.{World, world_of}
use Rattle.rules.specs.Answers.{no_values, shown_of, After, after_of, shown_outcome}
use Rattle.rules.specs.Hosts.{part_tests}
use Rattle.stack.proofs.sync_regs.Reads as sync-regs
use Rattle.stack.proofs.reset.Reads as reset
use Rattle.stack.proofs.restore_frame.Reads as restore-frame
use Rattle.stack.proofs.set.Reads as set-one
use Rattle.stack.proofs.sync_ip.Reads as sync-ip
use Rattle.stack_calls.proofs.pop_frame.Reads as pop-frame
use Rattle.stack_calls.proofs.push_frame.Reads as push-frame
use Rattle.stack_calls.proofs.replace_frame.Reads as replace-frame
use Rattle.stack_hosts.specs.Routine.{wrapped_sum}
use Rattle.stack_hosts.proofs.prepare_host_frame.Reads as prepare-host-frame
use Rattle.stack_hosts.proofs.host_inout.Reads as host-inout
use Rattle.stack_hosts.proofs.return_prepare_host_frame.Reads as return-prepare-host-frame
use Rattle.stack_hosts.proofs.call_host.Reads as call-host
use Rattle.ask.proofs.ask.Reads as ask-any
use Rattle.face.specs.declared.state.CState.{CState}
use Rattle.face.specs.States.{state_from}
use Rattle.face.specs.Requests.{request_from}
use Rattle.face_ask.specs.declared.answers.CAnswer.{CAnswer}
use Rattle.face.specs.declared.parts.CPart.{CPart}
use Rattle.face_place.specs.declared.answers.COffset.{COffset}
use Rattle.face_place.specs.declared.answers.CFrame.{CFrame}
use Rattle.face_place.specs.declared.answers.CHosted.{CHosted}
use Rattle.face_place.specs.declared.answers.CReturned.{CReturned}
use Rattle.face_place.specs.Held.{registers_held}
use Rattle.face_place.specs.Args.{push_held, replace_held, host_held, return_host_held, host_frame_held}
use Rattle.face_place.specs.Placed.{world_held}
use Rattle.face_place.specs.Said.{number_shown, offset_shown, frame_shown, restored_shown, hosted_shown, returned_shown}
use Rattle.face_place.proofs.cattlecleat_push_frame.Reads as c-push-frame
use Rattle.face_place.proofs.cattlecleat_pop_frame.Reads as c-pop-frame
use Rattle.face_place.proofs.cattlecleat_replace_frame.Reads as c-replace-frame
use Rattle.face_place.proofs.cattlecleat_prepare_host_frame.Reads as c-prepare-host-frame
use Rattle.face_place.proofs.cattlecleat_return_prepare_host_frame.Reads as c-return-prepare-host-frame
use Rattle.face_place.proofs.cattlecleat_sync_ip.Reads as c-sync-ip
use Rattle.face_place.proofs.cattlecleat_restore_frame.Reads as c-restore-frame
use Rattle.face_place.proofs.cattlecleat_set.Reads as c-set
use Rattle.face_place.proofs.cattlecleat_reset.Reads as c-reset
use Rattle.face_place.proofs.cattlecleat_sync_registers_in_place.Reads as c-sync-registers-in-place
use Rattle.face_place.proofs.cattlecleat_host_part_in_place.Reads as c-host-part-in-place
use Rattle.face_ask.proofs.cattlecleat_ask.Reads as c-ask
use Rattle.face_ask.proofs.cattlecleat_sync_registers.Reads as c-sync-registers
use Rattle.face_ask.proofs.cattlecleat_host_part.Reads as c-host-part

-- ---- numbers

abbrev pub world_said : CState → (words cells : List ℕ) → World
world_said s words cells = world_of (state_from s) words cells

abbrev pub values_said : CAnswer → Values
values_said r = record { offset = r.offset; ip = r.ip; instance = r.instance; host = r.host; regs = r.regs }

abbrev pub after_said : CAnswer → (words cells : List ℕ) → After
after_said r words cells = after_of (shown_of r.number (values_said r)) (world_said r.state words cells)

-- a host part hands out no value of an answer, and no state
abbrev pub part_said : CPart → World → After
part_said r w = after_of (shown_of r.number no_values) w

-- ---- one request. a is what a function was called with, r its result, e its parameters at exit. A buffer that it only reads holds at exit what it held

pub data Heard : World → Asked → After → Type 0 where
  by_push_frame : (κ : _) (a : _) (r : Outcome) (e : _) → push-frame.Post κ a r e
      → Heard (world_of a.0 a.1.0.now a.1.1.0.now) (Traced (Push a.1.1.1.0)) (shown_outcome r e.1.0.now e.1.1.0.now)
  by_pop_frame : (κ : _) (a : _) (r : Outcome) (e : _) → pop-frame.Post κ a r e
      → Heard (world_of a.0 a.1.0.now a.1.1.0.now) (Traced (Pop a.1.1.1.0)) (shown_outcome r a.1.0.now a.1.1.0.now)
  by_replace_frame : (κ : _) (a : _) (r : Outcome) (e : _) → replace-frame.Post κ a r e
      → Heard (world_of a.0 a.1.0.now a.1.1.0.now) (Traced (Replace a.1.1.1.0)) (shown_outcome r e.1.0.now e.1.1.0.now)
  by_prepare_host_frame : (κ : _) (a : _) (r : Outcome) (e : _) → prepare-host-frame.Post κ a r e
      → Heard (world_of a.0 a.1.0.now a.1.1.0.now) (Traced (Host a.1.1.1.0)) (shown_outcome r e.1.0.now e.1.1.0.now)
  by_return_prepare_host_frame : (κ : _) (a : _) (r : Outcome) (e : _) → return-prepare-host-frame.Post κ a r e
      → Heard (world_of a.0 a.1.0.now a.1.1.0.now) (Traced (ReturnHost a.1.1.1.0)) (shown_outcome r a.1.0.now e.1.1.0.now)
  by_sync_ip : (κ : _) (a : _) (r : Outcome) (e : _) → sync-ip.Post κ a r e
      → Heard (world_of a.0 a.1.0.now a.1.1.0.now) (Traced (Sync a.1.1.1.0)) (shown_outcome r e.1.0.now a.1.1.0.now)
  by_restore_frame : (κ : _) (a : _) (r : Outcome) (e : _) → restore-frame.Post κ a r e
      → Heard (world_of a.0 a.1.0.now a.1.1.0.now) (Traced Restore) (shown_outcome r a.1.0.now a.1.1.0.now)
  by_reset : (κ : _) (a : _) (r : Outcome) (e : _) → reset.Post κ a r e
      → Heard (world_of a.0 a.1.0.now a.1.1.0.now) (Traced Reset) (shown_outcome r a.1.0.now a.1.1.0.now)
  by_set : (κ : _) (a : _) (r : Outcome) (e : _) → set-one.Post κ a r e
      → Heard (world_of a.0 a.1.0.now a.1.1.0.now) (Traced (Set a.1.1.1.0 a.1.1.1.1.0))
      (shown_outcome r a.1.0.now e.1.1.0.now)
  by_sync_regs : (κ : _) (a : _) (r : Outcome) (e : _) → sync-regs.Post κ a r e
      → Heard (world_of a.0 a.1.0.now a.1.1.0.now) (SyncRegs a.1.1.1.0) (shown_outcome r a.1.0.now a.1.1.0.now)
  by_host_inout : (κ : _) (a : _) (r : Outcome) (e : _) → host-inout.Post κ a r e
      → Heard (world_of a.0 a.1.0.now a.1.1.0.now) (HostPart a.1.1.1.0) (shown_outcome r a.1.0.now a.1.1.0.now)
  by_ask : (κ : _) (a : _) (r : Outcome) (e : _) → ask-any.Post κ a r e
      → Heard (world_of a.0 a.1.0.now a.1.1.0.now) (Traced a.1.1.1.0) (shown_outcome r e.1.0.now e.1.1.0.now)
  -- numbers that say a request; for those that say none see Links
  by_cattlecleat_ask : (κ : _) (a : _) (r : CAnswer) (e : _) → c-ask.Post κ a r e → (q : Request) → request_from a.1.1.1.0 ≡ Ok q
      → Heard (world_said a.0 a.1.0.now a.1.1.0.now) (Traced q) (after_said r e.1.0.now e.1.1.0.now)
  by_cattlecleat_sync_registers : (κ : _) (a : _) (r : CAnswer) (e : _) → c-sync-registers.Post κ a r e
      → Heard (world_said a.0 a.1.0.now a.1.1.0.now) (SyncRegs a.1.1.1.0) (after_said r a.1.0.now a.1.1.0.now)
  by_cattlecleat_host_part : (κ : _) (a : _) (r : CPart) (e : _) → c-host-part.Post κ a r e
      → Heard (world_said a.0 a.1.0.now a.1.1.0.now) (HostPart a.1.1.1.0)
      (part_said r (world_said a.0 a.1.0.now a.1.1.0.now))
  -- with the state in place: its words say it, eight of them or more by its type, with any registers behind them
  by_cattlecleat_push_frame : (κ : _) (a : _) (r : COffset) (e : _) → c-push-frame.Post κ a r e → (regs : Registers) → 8 ≤ length a.0.now
      → Heard (world_held a.0.now regs a.1.0.now a.1.1.0.now) (Traced (Push (push_held a.1.1.1.0.now)))
      (after_of (offset_shown r) (world_held e.0.now regs e.1.0.now e.1.1.0.now))
  by_cattlecleat_pop_frame : (κ : _) (a : _) (r : CFrame) (e : _) → c-pop-frame.Post κ a r e → (regs : Registers) → 8 ≤ length a.0.now
      → Heard (world_held a.0.now regs a.1.0.now a.1.1.0.now) (Traced (Pop a.1.1.1.0))
      (after_of (frame_shown r) (world_held e.0.now regs a.1.0.now a.1.1.0.now))
  by_cattlecleat_replace_frame : (κ : _) (a : _) (r : COffset) (e : _) → c-replace-frame.Post κ a r e → (regs : Registers) → 8 ≤ length a.0.now
      → Heard (world_held a.0.now regs a.1.0.now a.1.1.0.now) (Traced (Replace (replace_held a.1.1.1.0.now)))
      (after_of (offset_shown r) (world_held e.0.now regs e.1.0.now e.1.1.0.now))
  by_cattlecleat_prepare_host_frame : (κ : _) (a : _) (r : CHosted) (e : _) → c-prepare-host-frame.Post κ a r e → (regs : Registers) → 8 ≤ length a.0.now
      → Heard (world_held a.0.now regs a.1.0.now a.1.1.0.now) (Traced (Host (host_held a.1.1.1.0.now)))
      (after_of (hosted_shown r) (world_held e.0.now regs e.1.0.now e.1.1.0.now))
  by_cattlecleat_return_prepare_host_frame : (κ : _) (a : _) (r : CReturned) (e : _) → c-return-prepare-host-frame.Post κ a r e → (regs : Registers)
      → 8 ≤ length a.0.now
      → Heard (world_held a.0.now regs a.1.0.now a.1.1.0.now) (Traced (ReturnHost (return_host_held a.1.1.1.0.now)))
      (after_of (returned_shown r) (world_held e.0.now regs a.1.0.now e.1.1.0.now))
  by_cattlecleat_sync_ip : (κ : _) (a : _) (r : COffset) (e : _) → c-sync-ip.Post κ a r e → (regs : Registers) → 8 ≤ length a.0.now
      → Heard (world_held a.0.now regs a.1.0.now a.1.1.0.now) (Traced (Sync a.1.1.1.0))
      (after_of (offset_shown r) (world_held a.0.now regs e.1.0.now a.1.1.0.now))
  by_cattlecleat_restore_frame : (κ : _) (a : _) (r : CFrame) (e : _) → c-restore-frame.Post κ a r e → (regs : Registers) → 8 ≤ length a.0.now
      → Heard (world_held a.0.now regs a.1.0.now a.1.1.0.now) (Traced Restore)
      (after_of (restored_shown regs r) (world_held a.0.now regs a.1.0.now a.1.1.0.now))
  by_cattlecleat_set : (κ : _) (a : _) (r : COffset) (e : _) → c-set.Post κ a r e → (regs : Registers) → 8 ≤ length a.0.now
      → Heard (world_held a.0.now regs a.1.0.now a.1.1.0.now) (Traced (Set a.1.1.1.0 a.1.1.1.1.0))
      (after_of (offset_shown r) (world_held a.0.now regs a.1.0.now e.1.1.0.now))
  -- and with its registers, in three words more
  by_cattlecleat_reset : (κ : _) (a : _) (r : ℕ) (e : _) → c-reset.Post κ a r e → 11 ≤ length a.0.now
      → Heard (world_held a.0.now (registers_held a.0.now 8) a.1.0.now a.1.1.0.now) (Traced Reset)
      (after_of (number_shown r) (world_held e.0.now (registers_held e.0.now 8) a.1.0.now a.1.1.0.now))
  by_cattlecleat_sync_registers_in_place : (κ : _) (a : _) (r : ℕ) (e : _) → c-sync-registers-in-place.Post κ a r e → 11 ≤ length a.0.now
      → Heard (world_held a.0.now (registers_held a.0.now 8) a.1.0.now a.1.1.0.now) (SyncRegs (registers_held a.1.1.1.0.now 0))
      (after_of (number_shown r) (world_held e.0.now (registers_held e.0.now 8) a.1.0.now a.1.1.0.now))
  by_cattlecleat_host_part_in_place : (κ : _) (a : _) (r : CPart) (e : _) → c-host-part-in-place.Post κ a r e → (regs : Registers)
      → Heard (world_held a.0.now regs a.1.0.now a.1.1.0.now) (HostPart (host_frame_held a.1.1.1.0.now))
      (part_said r (world_held a.0.now regs a.1.0.now a.1.1.0.now))

-- ---- `call_host`, with a host's frame

pub data RoutineHeard : World → HostFrame → After → Type 0 where
  by_call_host : (κ : _) (a : _) (r : Outcome) (e : _) → call-host.Post κ a r e
      → RoutineHeard (world_of a.0 a.1.0.now a.1.1.0.now) a.1.1.1.0 (shown_outcome r a.1.0.now e.1.1.0.now)

unfoldable pub routine_writes : World → HostFrame → List ℕ
routine_writes w f =
    settle (part_tests w f) (λ n. []) (take (host_size f.params f.results) (wrapped_sum (host_params w.cells w.state.len f) ∷ []))

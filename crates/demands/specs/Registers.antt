-- Demand 2, of the registers: what is stored is handed back.
--     RegistersBack     registers that an accepted sync stored are in the state, and an accepted restore hands them back, whatever was asked in
--                       between, as long as it was no reset, no register sync and no store in place
--     RegistersRead     what the reading functions hand out is what the state, or the record of registers, holds
use Rattle.std.specs.Prelude.{◌≡◌, List}
use Rattle.regs.specs.declared.registers.Registers.{Registers}
use Rattle.regs.proofs.registers.Registers.read_ireg.Reads as read-ireg
use Rattle.regs.proofs.registers.Registers.read_freg32.Reads as read-freg32
use Rattle.regs.proofs.registers.Registers.read_freg64.Reads as read-freg64
use Rattle.rules.specs.declared.Request.TheVariants.{Restore}
use Rattle.rules.specs.declared.Asked.TheVariants.{Traced, SyncRegs}
use Rattle.rules.specs.World.{World}
use Rattle.rules.specs.Answers.{After}
use Rattle.rules.specs.Events.{Event, AllKeepRegisters}
use Rattle.rules.specs.Returning.{Accepted}
use Rattle.face.specs.States.{state_from}
use Rattle.face_leaves.proofs.cattlecleat_read_registers.Reads as c-read-registers
use Rattle.demands.specs.Heard.{Heard}
use Rattle.demands.specs.Links.{History}

abbrev pub RegistersBack : Type 0
RegistersBack =
    (w : World) (regs : Registers) (t : After) → Heard w (SyncRegs regs) t → Accepted t
    → (es : List Event) (v : World) → History 0 t.world es v → AllKeepRegisters es
    → (v.state.regs ≡ regs) × ((back : After) → Heard v (Traced Restore) back → Accepted back → back.shown.values.regs ≡ regs)

abbrev pub RegistersRead : Type 0
RegistersRead =
    ((κ : _) (a : _) (r : Registers) (e : _) → c-read-registers.Post κ a r e → r ≡ (state_from a.0).regs)
    × ((κ : _) (a : _) (r : _) (e : _) → read-ireg.Post κ a r e → r ≡ a.0.ireg)
    × ((κ : _) (a : _) (r : _) (e : _) → read-freg32.Post κ a r e → r ≡ a.0.freg32)
    × ((κ : _) (a : _) (r : _) (e : _) → read-freg64.Post κ a r e → r ≡ a.0.freg64)

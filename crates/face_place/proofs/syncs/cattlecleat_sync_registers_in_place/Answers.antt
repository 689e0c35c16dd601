-- `face_place::syncs::cattlecleat_sync_registers_in_place` meets its contract: a refusal, or the registers stored. Assumes nothing.
use Rattle.face_place.proofs.Placing.{registers_refused, registers_stored_lem}
use Rattle.face_place.proofs.syncs.cattlecleat_sync_registers_in_place.Goals as goal

pub returns-in-Err : goal.returns-in-Err
returns-in-Err c =
    registers_refused c.args.state.now c.args.words.now c.args.cells.now c.args.regs.now _ c.whole_held.ensures _
    c.judge_sync_regs.ensures _ c.in-Err.is _ c.from.ensures

pub returns-in-Ok : goal.returns-in-Ok
returns-in-Ok c =
    registers_stored_lem c.args.state.now c.args.words.now c.args.cells.now c.args.regs.now _ c.whole_held.ensures _
    c.judge_sync_regs.ensures _ c.in-Ok.is _ c.put_registers.ensures

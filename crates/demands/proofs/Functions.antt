-- Written by tools/settled: every public function of every library asks nothing of its caller, and its promise allows one outcome.
-- Assumes nothing.
use mathlib.Core.Path.{refl}
use denote.Ref.{at_last}
use denote.Triple.Clauses.{at_exit}
use Rattle.choice.specs.Once.{beside}
use Rattle.regs.proofs.Settled as regs_all
use Rattle.done.proofs.Settled as done_all
use Rattle.frames.proofs.Settled as frames_all
use Rattle.runs.proofs.Settled as runs_all
use Rattle.cells.proofs.Settled as cells_all
use Rattle.record.proofs.Settled as record_all
use Rattle.rules.proofs.Settled as rules_all
use Rattle.request.proofs.Settled as request_all
use Rattle.reader.proofs.Settled as reader_all
use Rattle.stack.proofs.Settled as stack_all
use Rattle.stack_calls.proofs.Settled as stack_calls_all
use Rattle.stack_hosts.proofs.Settled as stack_hosts_all
use Rattle.lines.proofs.Settled as lines_all
use Rattle.ask.proofs.Settled as ask_all
use Rattle.replay.proofs.Settled as replay_all
use Rattle.tape.proofs.Settled as tape_all
use Rattle.listing.proofs.Settled as listing_all
use Rattle.face.proofs.Settled as face_all
use Rattle.face_leaves.proofs.Settled as face_leaves_all
use Rattle.face_place.proofs.Settled as face_place_all
use Rattle.face_ask.proofs.Settled as face_ask_all
use Rattle.face_replay.proofs.Settled as face_replay_all
use Rattle.regs.specs.contracts.align.U64FromNoAddress.from as regs_align_U64FromNoAddress_from
use Rattle.regs.specs.contracts.align_relative_to as regs_align_relative_to
use Rattle.regs.specs.contracts.convert.BoolInRegister.from_register as regs_convert_BoolInRegister_from_register
use Rattle.regs.specs.contracts.convert.BoolInRegister.into_register as regs_convert_BoolInRegister_into_register
use Rattle.regs.specs.contracts.convert.I16InRegister.from_register as regs_convert_I16InRegister_from_register
use Rattle.regs.specs.contracts.convert.I16InRegister.into_register as regs_convert_I16InRegister_into_register
use Rattle.regs.specs.contracts.convert.I32InRegister.from_register as regs_convert_I32InRegister_from_register
use Rattle.regs.specs.contracts.convert.I32InRegister.into_register as regs_convert_I32InRegister_into_register
use Rattle.regs.specs.contracts.convert.I64InRegister.from_register as regs_convert_I64InRegister_from_register
use Rattle.regs.specs.contracts.convert.I64InRegister.into_register as regs_convert_I64InRegister_into_register
use Rattle.regs.specs.contracts.convert.I8InRegister.from_register as regs_convert_I8InRegister_from_register
use Rattle.regs.specs.contracts.convert.I8InRegister.into_register as regs_convert_I8InRegister_into_register
use Rattle.regs.specs.contracts.convert.U16InRegister.from_register as regs_convert_U16InRegister_from_register
use Rattle.regs.specs.contracts.convert.U16InRegister.into_register as regs_convert_U16InRegister_into_register
use Rattle.regs.specs.contracts.convert.U32InRegister.from_register as regs_convert_U32InRegister_from_register
use Rattle.regs.specs.contracts.convert.U32InRegister.into_register as regs_convert_U32InRegister_into_register
use Rattle.regs.specs.contracts.convert.U64InRegister.from_register as regs_convert_U64InRegister_from_register
use Rattle.regs.specs.contracts.convert.U64InRegister.into_register as regs_convert_U64InRegister_into_register
use Rattle.regs.specs.contracts.convert.U8InRegister.from_register as regs_convert_U8InRegister_from_register
use Rattle.regs.specs.contracts.convert.U8InRegister.into_register as regs_convert_U8InRegister_into_register
use Rattle.regs.specs.contracts.registers.Registers.read_freg32 as regs_registers_Registers_read_freg32
use Rattle.regs.specs.contracts.registers.Registers.read_freg64 as regs_registers_Registers_read_freg64
use Rattle.regs.specs.contracts.registers.Registers.read_ireg as regs_registers_Registers_read_ireg
use Rattle.regs.specs.contracts.registers.Registers.stored as regs_registers_Registers_stored
use Rattle.regs.specs.contracts.registers.Registers.with_freg32 as regs_registers_Registers_with_freg32
use Rattle.regs.specs.contracts.registers.Registers.with_freg64 as regs_registers_Registers_with_freg64
use Rattle.regs.specs.contracts.registers.Registers.with_ireg as regs_registers_Registers_with_ireg
use Rattle.regs.specs.contracts.registers.Registers.zeroed as regs_registers_Registers_zeroed
use Rattle.done.specs.contracts.DoneSlot.done_with as done_DoneSlot_done_with
use Rattle.done.specs.contracts.DoneSlot.empty as done_DoneSlot_empty
use Rattle.done.specs.contracts.DoneSlot.take_done_reason as done_DoneSlot_take_done_reason
use Rattle.done.specs.contracts.U64FromAlreadyFilled.from as done_U64FromAlreadyFilled_from
use Rattle.done.specs.contracts.U64FromNothingToTake.from as done_U64FromNothingToTake_from
use Rattle.frames.specs.contracts.carried as frames_carried
use Rattle.frames.specs.contracts.debt_of as frames_debt_of
use Rattle.frames.specs.contracts.is_broken as frames_is_broken
use Rattle.frames.specs.contracts.new_row as frames_new_row
use Rattle.frames.specs.contracts.owing as frames_owing
use Rattle.frames.specs.contracts.read_row as frames_read_row
use Rattle.frames.specs.contracts.sync_ip as frames_sync_ip
use Rattle.frames.specs.contracts.too_few_words as frames_too_few_words
use Rattle.frames.specs.contracts.write_row as frames_write_row
use Rattle.runs.specs.contracts.cells_there as runs_cells_there
use Rattle.runs.specs.contracts.clear_locals as runs_clear_locals
use Rattle.runs.specs.contracts.copy_down as runs_copy_down
use Rattle.runs.specs.contracts.put_values as runs_put_values
use Rattle.cells.specs.contracts.grow_if_needed as cells_grow_if_needed
use Rattle.cells.specs.contracts.host_params as cells_host_params
use Rattle.cells.specs.contracts.host_results as cells_host_results
use Rattle.cells.specs.contracts.host_size as cells_host_size
use Rattle.cells.specs.contracts.is_bad_host_frame as cells_is_bad_host_frame
use Rattle.cells.specs.contracts.prepare_host_frame as cells_prepare_host_frame
use Rattle.cells.specs.contracts.push as cells_push
use Rattle.cells.specs.contracts.replace as cells_replace
use Rattle.cells.specs.contracts.return_prepare_host_frame as cells_return_prepare_host_frame
use Rattle.cells.specs.contracts.set_cell as cells_set_cell
use Rattle.cells.specs.contracts.store_results as cells_store_results
use Rattle.record.specs.contracts.is_lawful as record_is_lawful
use Rattle.record.specs.contracts.keeps_row as record_keeps_row
use Rattle.record.specs.contracts.read_fields as record_read_fields
use Rattle.record.specs.contracts.read_record as record_read_record
use Rattle.record.specs.contracts.write_record as record_write_record
use Rattle.rules.specs.contracts.RefusalFromGrowthError.from as rules_RefusalFromGrowthError_from
use Rattle.rules.specs.contracts.U64FromRefusal.from as rules_U64FromRefusal_from
use Rattle.request.specs.contracts.host_in as request_host_in
use Rattle.request.specs.contracts.next_request as request_next_request
use Rattle.request.specs.contracts.place_after as request_place_after
use Rattle.request.specs.contracts.push_in as request_push_in
use Rattle.request.specs.contracts.record_of as request_record_of
use Rattle.request.specs.contracts.replace_in as request_replace_in
use Rattle.request.specs.contracts.request_of as request_request_of
use Rattle.request.specs.contracts.return_host_in as request_return_host_in
use Rattle.request.specs.contracts.write_request as request_write_request
use Rattle.reader.specs.contracts.ReaderIterator.next as reader_ReaderIterator_next
use Rattle.reader.specs.contracts.advance as reader_advance
use Rattle.reader.specs.contracts.hand_out as reader_hand_out
use Rattle.reader.specs.contracts.next_two as reader_next_two
use Rattle.reader.specs.contracts.reader_at as reader_reader_at
use Rattle.reader.specs.contracts.take_request as reader_take_request
use Rattle.stack.specs.contracts.answer_number as stack_answer_number
use Rattle.stack.specs.contracts.answer_offset as stack_answer_offset
use Rattle.stack.specs.contracts.at_host as stack_at_host
use Rattle.stack.specs.contracts.at_offset as stack_at_offset
use Rattle.stack.specs.contracts.from_top as stack_from_top
use Rattle.stack.specs.contracts.is_beyond as stack_is_beyond
use Rattle.stack.specs.contracts.is_broken_next as stack_is_broken_next
use Rattle.stack.specs.contracts.is_broken_state as stack_is_broken_state
use Rattle.stack.specs.contracts.is_broken_top as stack_is_broken_top
use Rattle.stack.specs.contracts.is_stray_ip as stack_is_stray_ip
use Rattle.stack.specs.contracts.judge_growth as stack_judge_growth
use Rattle.stack.specs.contracts.judge_reset as stack_judge_reset
use Rattle.stack.specs.contracts.judge_restore as stack_judge_restore
use Rattle.stack.specs.contracts.judge_set as stack_judge_set
use Rattle.stack.specs.contracts.judge_sync as stack_judge_sync
use Rattle.stack.specs.contracts.judge_sync_regs as stack_judge_sync_regs
use Rattle.stack.specs.contracts.moved_state as stack_moved_state
use Rattle.stack.specs.contracts.no_host as stack_no_host
use Rattle.stack.specs.contracts.open as stack_open
use Rattle.stack.specs.contracts.refused as stack_refused
use Rattle.stack.specs.contracts.reset as stack_reset
use Rattle.stack.specs.contracts.restore_frame as stack_restore_frame
use Rattle.stack.specs.contracts.set as stack_set
use Rattle.stack.specs.contracts.step_reset as stack_step_reset
use Rattle.stack.specs.contracts.step_restore as stack_step_restore
use Rattle.stack.specs.contracts.step_return as stack_step_return
use Rattle.stack.specs.contracts.step_set as stack_step_set
use Rattle.stack.specs.contracts.step_sync as stack_step_sync
use Rattle.stack.specs.contracts.store_ip as stack_store_ip
use Rattle.stack.specs.contracts.sync_ip as stack_sync_ip
use Rattle.stack.specs.contracts.sync_regs as stack_sync_regs
use Rattle.stack.specs.contracts.top_start as stack_top_start
use Rattle.stack_calls.specs.contracts.are_bad_counts as stack_calls_are_bad_counts
use Rattle.stack_calls.specs.contracts.judge_pop as stack_calls_judge_pop
use Rattle.stack_calls.specs.contracts.judge_push as stack_calls_judge_push
use Rattle.stack_calls.specs.contracts.judge_replace as stack_calls_judge_replace
use Rattle.stack_calls.specs.contracts.pop_frame as stack_calls_pop_frame
use Rattle.stack_calls.specs.contracts.push_frame as stack_calls_push_frame
use Rattle.stack_calls.specs.contracts.replace_frame as stack_calls_replace_frame
use Rattle.stack_calls.specs.contracts.step_pop as stack_calls_step_pop
use Rattle.stack_calls.specs.contracts.step_push as stack_calls_step_push
use Rattle.stack_calls.specs.contracts.step_replace as stack_calls_step_replace
use Rattle.stack_hosts.specs.contracts.call_host as stack_hosts_call_host
use Rattle.stack_hosts.specs.contracts.host_inout as stack_hosts_host_inout
use Rattle.stack_hosts.specs.contracts.host_params as stack_hosts_host_params
use Rattle.stack_hosts.specs.contracts.host_results as stack_hosts_host_results
use Rattle.stack_hosts.specs.contracts.judge_host as stack_hosts_judge_host
use Rattle.stack_hosts.specs.contracts.judge_host_part as stack_hosts_judge_host_part
use Rattle.stack_hosts.specs.contracts.judge_return_host as stack_hosts_judge_return_host
use Rattle.stack_hosts.specs.contracts.prepare_host_frame as stack_hosts_prepare_host_frame
use Rattle.stack_hosts.specs.contracts.return_prepare_host_frame as stack_hosts_return_prepare_host_frame
use Rattle.stack_hosts.specs.contracts.step_host as stack_hosts_step_host
use Rattle.stack_hosts.specs.contracts.step_return_host as stack_hosts_step_return_host
use Rattle.lines.specs.contracts.write_line as lines_write_line
use Rattle.lines.specs.contracts.write_spent as lines_write_spent
use Rattle.lines.specs.contracts.write_stopped as lines_write_stopped
use Rattle.ask.specs.contracts.ask as ask_ask
use Rattle.replay.specs.contracts.cost_of as replay_cost_of
use Rattle.replay.specs.contracts.replay as replay_replay
use Rattle.replay.specs.contracts.run_next as replay_run_next
use Rattle.replay.specs.contracts.run_record as replay_run_record
use Rattle.replay.specs.contracts.start as replay_start
use Rattle.tape.specs.contracts.begin as tape_begin
use Rattle.tape.specs.contracts.cut.Cut.first_count as tape_cut_Cut_first_count
use Rattle.tape.specs.contracts.cut_block as tape_cut_block
use Rattle.tape.specs.contracts.feed as tape_feed
use Rattle.tape.specs.contracts.finish as tape_finish
use Rattle.tape.specs.contracts.held_count as tape_held_count
use Rattle.tape.specs.contracts.hold as tape_hold
use Rattle.tape.specs.contracts.tape.Tape.rests as tape_tape_Tape_rests
use Rattle.listing.specs.contracts.list_block as listing_list_block
use Rattle.listing.specs.contracts.list_end as listing_list_end
use Rattle.listing.specs.contracts.list_feed as listing_list_feed
use Rattle.listing.specs.contracts.list_finish as listing_list_finish
use Rattle.listing.specs.contracts.taped.LinesErrorFromAfterEnd.from as listing_taped_LinesErrorFromAfterEnd_from
use Rattle.face.specs.contracts.part_told as face_part_told
use Rattle.face.specs.contracts.requests.CRequestFromRecord.from as face_requests_CRequestFromRecord_from
use Rattle.face.specs.contracts.requests.HostArgsFromCRequest.from as face_requests_HostArgsFromCRequest_from
use Rattle.face.specs.contracts.requests.PushArgsFromCRequest.from as face_requests_PushArgsFromCRequest_from
use Rattle.face.specs.contracts.requests.ReplaceArgsFromCRequest.from as face_requests_ReplaceArgsFromCRequest_from
use Rattle.face.specs.contracts.requests.RequestTryFromCRequest.try_from as face_requests_RequestTryFromCRequest_try_from
use Rattle.face.specs.contracts.requests.ReturnHostArgsFromCRequest.from as face_requests_ReturnHostArgsFromCRequest_from
use Rattle.face.specs.contracts.state.CStateFromState.from as face_state_CStateFromState_from
use Rattle.face.specs.contracts.state.StateFromCState.from as face_state_StateFromCState_from
use Rattle.face_leaves.specs.contracts.cattlecleat_align as face_leaves_cattlecleat_align
use Rattle.face_leaves.specs.contracts.cattlecleat_done_with as face_leaves_cattlecleat_done_with
use Rattle.face_leaves.specs.contracts.cattlecleat_from_register as face_leaves_cattlecleat_from_register
use Rattle.face_leaves.specs.contracts.cattlecleat_put_freg32 as face_leaves_cattlecleat_put_freg32
use Rattle.face_leaves.specs.contracts.cattlecleat_put_freg64 as face_leaves_cattlecleat_put_freg64
use Rattle.face_leaves.specs.contracts.cattlecleat_put_ireg as face_leaves_cattlecleat_put_ireg
use Rattle.face_leaves.specs.contracts.cattlecleat_put_registers as face_leaves_cattlecleat_put_registers
use Rattle.face_leaves.specs.contracts.cattlecleat_read_record as face_leaves_cattlecleat_read_record
use Rattle.face_leaves.specs.contracts.cattlecleat_read_registers as face_leaves_cattlecleat_read_registers
use Rattle.face_leaves.specs.contracts.cattlecleat_take_done_reason as face_leaves_cattlecleat_take_done_reason
use Rattle.face_leaves.specs.contracts.cattlecleat_to_register as face_leaves_cattlecleat_to_register
use Rattle.face_leaves.specs.contracts.cattlecleat_write_record as face_leaves_cattlecleat_write_record
use Rattle.face_leaves.specs.contracts.cattlecleat_zero_registers as face_leaves_cattlecleat_zero_registers
use Rattle.face_leaves.specs.contracts.slot.CReasonFromDoneReason.from as face_leaves_slot_CReasonFromDoneReason_from
use Rattle.face_leaves.specs.contracts.slot.CReasonFromDoneSlot.from as face_leaves_slot_CReasonFromDoneSlot_from
use Rattle.face_leaves.specs.contracts.slot.DoneReasonFromCReason.from as face_leaves_slot_DoneReasonFromCReason_from
use Rattle.face_leaves.specs.contracts.slot.DoneSlotFromCReason.from as face_leaves_slot_DoneSlotFromCReason_from
use Rattle.face_place.specs.contracts.cattlecleat_host_part_in_place as face_place_cattlecleat_host_part_in_place
use Rattle.face_place.specs.contracts.cattlecleat_pop_frame as face_place_cattlecleat_pop_frame
use Rattle.face_place.specs.contracts.cattlecleat_prepare_host_frame as face_place_cattlecleat_prepare_host_frame
use Rattle.face_place.specs.contracts.cattlecleat_push_frame as face_place_cattlecleat_push_frame
use Rattle.face_place.specs.contracts.cattlecleat_replace_frame as face_place_cattlecleat_replace_frame
use Rattle.face_place.specs.contracts.cattlecleat_reset as face_place_cattlecleat_reset
use Rattle.face_place.specs.contracts.cattlecleat_restore_frame as face_place_cattlecleat_restore_frame
use Rattle.face_place.specs.contracts.cattlecleat_return_prepare_host_frame as face_place_cattlecleat_return_prepare_host_frame
use Rattle.face_place.specs.contracts.cattlecleat_set as face_place_cattlecleat_set
use Rattle.face_place.specs.contracts.cattlecleat_sync_ip as face_place_cattlecleat_sync_ip
use Rattle.face_place.specs.contracts.cattlecleat_sync_registers_in_place as face_place_cattlecleat_sync_registers_in_place
use Rattle.face_ask.specs.contracts.cattlecleat_ask as face_ask_cattlecleat_ask
use Rattle.face_ask.specs.contracts.cattlecleat_host_part as face_ask_cattlecleat_host_part
use Rattle.face_ask.specs.contracts.cattlecleat_open as face_ask_cattlecleat_open
use Rattle.face_ask.specs.contracts.cattlecleat_sync_registers as face_ask_cattlecleat_sync_registers
use Rattle.face_replay.specs.contracts.cattlecleat_feed as face_replay_cattlecleat_feed
use Rattle.face_replay.specs.contracts.cattlecleat_finish as face_replay_cattlecleat_finish
use Rattle.face_replay.specs.contracts.cattlecleat_replay as face_replay_cattlecleat_replay
use Rattle.demands.specs.Settled.{Settled}

pub settled_regs_align_U64FromNoAddress_from :
    Settled regs_align_U64FromNoAddress_from.ended (λ M 𝓤 𝓛. regs_align_U64FromNoAddress_from.clauses 𝓛) (λ κ r. r)
settled_regs_align_U64FromNoAddress_from = record {
  Post = λ κ a r e. _;
  asks_nothing = λ M 𝓤 𝓛 mem run κ a g. refl;
  asks_no_ghost = λ M 𝓤 𝓛 mem run κ a. refl;
  promises = λ M 𝓤 𝓛 mem run κ a g r e. refl;
  once = λ κ a r r' ws ws' p q.
      let e = at_exit regs_align_U64FromNoAddress_from.ended κ a ws in
      let e' = at_exit regs_align_U64FromNoAddress_from.ended κ a ws' in
      let s = regs_all.u64_from_no_address_from_settled κ a r r' e e' p q in
      (s, refl);
}

pub settled_regs_align_relative_to :
    Settled regs_align_relative_to.ended (λ M 𝓤 𝓛. regs_align_relative_to.clauses 𝓛) (λ κ r. r)
settled_regs_align_relative_to = record {
  Post = λ κ a r e. _;
  asks_nothing = λ M 𝓤 𝓛 mem run κ a g. refl;
  asks_no_ghost = λ M 𝓤 𝓛 mem run κ a. refl;
  promises = λ M 𝓤 𝓛 mem run κ a g r e. refl;
  once = λ κ a r r' ws ws' p q.
      let e = at_exit regs_align_relative_to.ended κ a ws in
      let e' = at_exit regs_align_relative_to.ended κ a ws' in
      let s = regs_all.align_relative_to_settled κ a r r' e e' p q in
      (s, refl);
}

pub settled_regs_convert_BoolInRegister_from_register :
    Settled regs_convert_BoolInRegister_from_register.ended (λ M 𝓤 𝓛. regs_convert_BoolInRegister_from_register.clauses 𝓛) (λ κ r. r)
settled_regs_convert_BoolInRegister_from_register = record {
  Post = λ κ a r e. _;
  asks_nothing = λ M 𝓤 𝓛 mem run κ a g. refl;
  asks_no_ghost = λ M 𝓤 𝓛 mem run κ a. refl;
  promises = λ M 𝓤 𝓛 mem run κ a g r e. refl;
  once = λ κ a r r' ws ws' p q.
      let e = at_exit regs_convert_BoolInRegister_from_register.ended κ a ws in
      let e' = at_exit regs_convert_BoolInRegister_from_register.ended κ a ws' in
      let s = regs_all.bool_in_register_from_register_settled κ a r r' e e' p q in
      (s, refl);
}

pub settled_regs_convert_BoolInRegister_into_register :
    Settled regs_convert_BoolInRegister_into_register.ended (λ M 𝓤 𝓛. regs_convert_BoolInRegister_into_register.clauses 𝓛) (λ κ r. r)
settled_regs_convert_BoolInRegister_into_register = record {
  Post = λ κ a r e. _;
  asks_nothing = λ M 𝓤 𝓛 mem run κ a g. refl;
  asks_no_ghost = λ M 𝓤 𝓛 mem run κ a. refl;
  promises = λ M 𝓤 𝓛 mem run κ a g r e. refl;
  once = λ κ a r r' ws ws' p q.
      let e = at_exit regs_convert_BoolInRegister_into_register.ended κ a ws in
      let e' = at_exit regs_convert_BoolInRegister_into_register.ended κ a ws' in
      let s = regs_all.bool_in_register_into_register_settled κ a r r' e e' p q in
      (s, refl);
}

pub settled_regs_convert_I16InRegister_from_register :
    Settled regs_convert_I16InRegister_from_register.ended (λ M 𝓤 𝓛. regs_convert_I16InRegister_from_register.clauses 𝓛) (λ κ r. r)
settled_regs_convert_I16InRegister_from_register = record {
  Post = λ κ a r e. _;
  asks_nothing = λ M 𝓤 𝓛 mem run κ a g. refl;
  asks_no_ghost = λ M 𝓤 𝓛 mem run κ a. refl;
  promises = λ M 𝓤 𝓛 mem run κ a g r e. refl;
  once = λ κ a r r' ws ws' p q.
      let e = at_exit regs_convert_I16InRegister_from_register.ended κ a ws in
      let e' = at_exit regs_convert_I16InRegister_from_register.ended κ a ws' in
      let s = regs_all.i16_in_register_from_register_settled κ a r r' e e' p q in
      (s, refl);
}

pub settled_regs_convert_I16InRegister_into_register :
    Settled regs_convert_I16InRegister_into_register.ended (λ M 𝓤 𝓛. regs_convert_I16InRegister_into_register.clauses 𝓛) (λ κ r. r)
settled_regs_convert_I16InRegister_into_register = record {
  Post = λ κ a r e. _;
  asks_nothing = λ M 𝓤 𝓛 mem run κ a g. refl;
  asks_no_ghost = λ M 𝓤 𝓛 mem run κ a. refl;
  promises = λ M 𝓤 𝓛 mem run κ a g r e. refl;
  once = λ κ a r r' ws ws' p q.
      let e = at_exit regs_convert_I16InRegister_into_register.ended κ a ws in
      let e' = at_exit regs_convert_I16InRegister_into_register.ended κ a ws' in
      let s = regs_all.i16_in_register_into_register_settled κ a r r' e e' p q in
      (s, refl);
}

pub settled_regs_convert_I32InRegister_from_register :
    Settled regs_convert_I32InRegister_from_register.ended (λ M 𝓤 𝓛. regs_convert_I32InRegister_from_register.clauses 𝓛) (λ κ r. r)
settled_regs_convert_I32InRegister_from_register = record {
  Post = λ κ a r e. _;
  asks_nothing = λ M 𝓤 𝓛 mem run κ a g. refl;
  asks_no_ghost = λ M 𝓤 𝓛 mem run κ a. refl;
  promises = λ M 𝓤 𝓛 mem run κ a g r e. refl;
  once = λ κ a r r' ws ws' p q.
      let e = at_exit regs_convert_I32InRegister_from_register.ended κ a ws in
      let e' = at_exit regs_convert_I32InRegister_from_register.ended κ a ws' in
      let s = regs_all.i32_in_register_from_register_settled κ a r r' e e' p q in
      (s, refl);
}

pub settled_regs_convert_I32InRegister_into_register :
    Settled regs_convert_I32InRegister_into_register.ended (λ M 𝓤 𝓛. regs_convert_I32InRegister_into_register.clauses 𝓛) (λ κ r. r)
settled_regs_convert_I32InRegister_into_register = record {
  Post = λ κ a r e. _;
  asks_nothing = λ M 𝓤 𝓛 mem run κ a g. refl;
  asks_no_ghost = λ M 𝓤 𝓛 mem run κ a. refl;
  promises = λ M 𝓤 𝓛 mem run κ a g r e. refl;
  once = λ κ a r r' ws ws' p q.
      let e = at_exit regs_convert_I32InRegister_into_register.ended κ a ws in
      let e' = at_exit regs_convert_I32InRegister_into_register.ended κ a ws' in
      let s = regs_all.i32_in_register_into_register_settled κ a r r' e e' p q in
      (s, refl);
}

pub settled_regs_convert_I64InRegister_from_register :
    Settled regs_convert_I64InRegister_from_register.ended (λ M 𝓤 𝓛. regs_convert_I64InRegister_from_register.clauses 𝓛) (λ κ r. r)
settled_regs_convert_I64InRegister_from_register = record {
  Post = λ κ a r e. _;
  asks_nothing = λ M 𝓤 𝓛 mem run κ a g. refl;
  asks_no_ghost = λ M 𝓤 𝓛 mem run κ a. refl;
  promises = λ M 𝓤 𝓛 mem run κ a g r e. refl;
  once = λ κ a r r' ws ws' p q.
      let e = at_exit regs_convert_I64InRegister_from_register.ended κ a ws in
      let e' = at_exit regs_convert_I64InRegister_from_register.ended κ a ws' in
      let s = regs_all.i64_in_register_from_register_settled κ a r r' e e' p q in
      (s, refl);
}

pub settled_regs_convert_I64InRegister_into_register :
    Settled regs_convert_I64InRegister_into_register.ended (λ M 𝓤 𝓛. regs_convert_I64InRegister_into_register.clauses 𝓛) (λ κ r. r)
settled_regs_convert_I64InRegister_into_register = record {
  Post = λ κ a r e. _;
  asks_nothing = λ M 𝓤 𝓛 mem run κ a g. refl;
  asks_no_ghost = λ M 𝓤 𝓛 mem run κ a. refl;
  promises = λ M 𝓤 𝓛 mem run κ a g r e. refl;
  once = λ κ a r r' ws ws' p q.
      let e = at_exit regs_convert_I64InRegister_into_register.ended κ a ws in
      let e' = at_exit regs_convert_I64InRegister_into_register.ended κ a ws' in
      let s = regs_all.i64_in_register_into_register_settled κ a r r' e e' p q in
      (s, refl);
}

pub settled_regs_convert_I8InRegister_from_register :
    Settled regs_convert_I8InRegister_from_register.ended (λ M 𝓤 𝓛. regs_convert_I8InRegister_from_register.clauses 𝓛) (λ κ r. r)
settled_regs_convert_I8InRegister_from_register = record {
  Post = λ κ a r e. _;
  asks_nothing = λ M 𝓤 𝓛 mem run κ a g. refl;
  asks_no_ghost = λ M 𝓤 𝓛 mem run κ a. refl;
  promises = λ M 𝓤 𝓛 mem run κ a g r e. refl;
  once = λ κ a r r' ws ws' p q.
      let e = at_exit regs_convert_I8InRegister_from_register.ended κ a ws in
      let e' = at_exit regs_convert_I8InRegister_from_register.ended κ a ws' in
      let s = regs_all.i8_in_register_from_register_settled κ a r r' e e' p q in
      (s, refl);
}

pub settled_regs_convert_I8InRegister_into_register :
    Settled regs_convert_I8InRegister_into_register.ended (λ M 𝓤 𝓛. regs_convert_I8InRegister_into_register.clauses 𝓛) (λ κ r. r)
settled_regs_convert_I8InRegister_into_register = record {
  Post = λ κ a r e. _;
  asks_nothing = λ M 𝓤 𝓛 mem run κ a g. refl;
  asks_no_ghost = λ M 𝓤 𝓛 mem run κ a. refl;
  promises = λ M 𝓤 𝓛 mem run κ a g r e. refl;
  once = λ κ a r r' ws ws' p q.
      let e = at_exit regs_convert_I8InRegister_into_register.ended κ a ws in
      let e' = at_exit regs_convert_I8InRegister_into_register.ended κ a ws' in
      let s = regs_all.i8_in_register_into_register_settled κ a r r' e e' p q in
      (s, refl);
}

pub settled_regs_convert_U16InRegister_from_register :
    Settled regs_convert_U16InRegister_from_register.ended (λ M 𝓤 𝓛. regs_convert_U16InRegister_from_register.clauses 𝓛) (λ κ r. r)
settled_regs_convert_U16InRegister_from_register = record {
  Post = λ κ a r e. _;
  asks_nothing = λ M 𝓤 𝓛 mem run κ a g. refl;
  asks_no_ghost = λ M 𝓤 𝓛 mem run κ a. refl;
  promises = λ M 𝓤 𝓛 mem run κ a g r e. refl;
  once = λ κ a r r' ws ws' p q.
      let e = at_exit regs_convert_U16InRegister_from_register.ended κ a ws in
      let e' = at_exit regs_convert_U16InRegister_from_register.ended κ a ws' in
      let s = regs_all.u16_in_register_from_register_settled κ a r r' e e' p q in
      (s, refl);
}

pub settled_regs_convert_U16InRegister_into_register :
    Settled regs_convert_U16InRegister_into_register.ended (λ M 𝓤 𝓛. regs_convert_U16InRegister_into_register.clauses 𝓛) (λ κ r. r)
settled_regs_convert_U16InRegister_into_register = record {
  Post = λ κ a r e. _;
  asks_nothing = λ M 𝓤 𝓛 mem run κ a g. refl;
  asks_no_ghost = λ M 𝓤 𝓛 mem run κ a. refl;
  promises = λ M 𝓤 𝓛 mem run κ a g r e. refl;
  once = λ κ a r r' ws ws' p q.
      let e = at_exit regs_convert_U16InRegister_into_register.ended κ a ws in
      let e' = at_exit regs_convert_U16InRegister_into_register.ended κ a ws' in
      let s = regs_all.u16_in_register_into_register_settled κ a r r' e e' p q in
      (s, refl);
}

pub settled_regs_convert_U32InRegister_from_register :
    Settled regs_convert_U32InRegister_from_register.ended (λ M 𝓤 𝓛. regs_convert_U32InRegister_from_register.clauses 𝓛) (λ κ r. r)
settled_regs_convert_U32InRegister_from_register = record {
  Post = λ κ a r e. _;
  asks_nothing = λ M 𝓤 𝓛 mem run κ a g. refl;
  asks_no_ghost = λ M 𝓤 𝓛 mem run κ a. refl;
  promises = λ M 𝓤 𝓛 mem run κ a g r e. refl;
  once = λ κ a r r' ws ws' p q.
      let e = at_exit regs_convert_U32InRegister_from_register.ended κ a ws in
      let e' = at_exit regs_convert_U32InRegister_from_register.ended κ a ws' in
      let s = regs_all.u32_in_register_from_register_settled κ a r r' e e' p q in
      (s, refl);
}

pub settled_regs_convert_U32InRegister_into_register :
    Settled regs_convert_U32InRegister_into_register.ended (λ M 𝓤 𝓛. regs_convert_U32InRegister_into_register.clauses 𝓛) (λ κ r. r)
settled_regs_convert_U32InRegister_into_register = record {
  Post = λ κ a r e. _;
  asks_nothing = λ M 𝓤 𝓛 mem run κ a g. refl;
  asks_no_ghost = λ M 𝓤 𝓛 mem run κ a. refl;
  promises = λ M 𝓤 𝓛 mem run κ a g r e. refl;
  once = λ κ a r r' ws ws' p q.
      let e = at_exit regs_convert_U32InRegister_into_register.ended κ a ws in
      let e' = at_exit regs_convert_U32InRegister_into_register.ended κ a ws' in
      let s = regs_all.u32_in_register_into_register_settled κ a r r' e e' p q in
      (s, refl);
}

pub settled_regs_convert_U64InRegister_from_register :
    Settled regs_convert_U64InRegister_from_register.ended (λ M 𝓤 𝓛. regs_convert_U64InRegister_from_register.clauses 𝓛) (λ κ r. r)
settled_regs_convert_U64InRegister_from_register = record {
  Post = λ κ a r e. _;
  asks_nothing = λ M 𝓤 𝓛 mem run κ a g. refl;
  asks_no_ghost = λ M 𝓤 𝓛 mem run κ a. refl;
  promises = λ M 𝓤 𝓛 mem run κ a g r e. refl;
  once = λ κ a r r' ws ws' p q.
      let e = at_exit regs_convert_U64InRegister_from_register.ended κ a ws in
      let e' = at_exit regs_convert_U64InRegister_from_register.ended κ a ws' in
      let s = regs_all.u64_in_register_from_register_settled κ a r r' e e' p q in
      (s, refl);
}

pub settled_regs_convert_U64InRegister_into_register :
    Settled regs_convert_U64InRegister_into_register.ended (λ M 𝓤 𝓛. regs_convert_U64InRegister_into_register.clauses 𝓛) (λ κ r. r)
settled_regs_convert_U64InRegister_into_register = record {
  Post = λ κ a r e. _;
  asks_nothing = λ M 𝓤 𝓛 mem run κ a g. refl;
  asks_no_ghost = λ M 𝓤 𝓛 mem run κ a. refl;
  promises = λ M 𝓤 𝓛 mem run κ a g r e. refl;
  once = λ κ a r r' ws ws' p q.
      let e = at_exit regs_convert_U64InRegister_into_register.ended κ a ws in
      let e' = at_exit regs_convert_U64InRegister_into_register.ended κ a ws' in
      let s = regs_all.u64_in_register_into_register_settled κ a r r' e e' p q in
      (s, refl);
}

pub settled_regs_convert_U8InRegister_from_register :
    Settled regs_convert_U8InRegister_from_register.ended (λ M 𝓤 𝓛. regs_convert_U8InRegister_from_register.clauses 𝓛) (λ κ r. r)
settled_regs_convert_U8InRegister_from_register = record {
  Post = λ κ a r e. _;
  asks_nothing = λ M 𝓤 𝓛 mem run κ a g. refl;
  asks_no_ghost = λ M 𝓤 𝓛 mem run κ a. refl;
  promises = λ M 𝓤 𝓛 mem run κ a g r e. refl;
  once = λ κ a r r' ws ws' p q.
      let e = at_exit regs_convert_U8InRegister_from_register.ended κ a ws in
      let e' = at_exit regs_convert_U8InRegister_from_register.ended κ a ws' in
      let s = regs_all.u8_in_register_from_register_settled κ a r r' e e' p q in
      (s, refl);
}

pub settled_regs_convert_U8InRegister_into_register :
    Settled regs_convert_U8InRegister_into_register.ended (λ M 𝓤 𝓛. regs_convert_U8InRegister_into_register.clauses 𝓛) (λ κ r. r)
settled_regs_convert_U8InRegister_into_register = record {
  Post = λ κ a r e. _;
  asks_nothing = λ M 𝓤 𝓛 mem run κ a g. refl;
  asks_no_ghost = λ M 𝓤 𝓛 mem run κ a. refl;
  promises = λ M 𝓤 𝓛 mem run κ a g r e. refl;
  once = λ κ a r r' ws ws' p q.
      let e = at_exit regs_convert_U8InRegister_into_register.ended κ a ws in
      let e' = at_exit regs_convert_U8InRegister_into_register.ended κ a ws' in
      let s = regs_all.u8_in_register_into_register_settled κ a r r' e e' p q in
      (s, refl);
}

pub settled_regs_registers_Registers_read_freg32 :
    Settled regs_registers_Registers_read_freg32.ended (λ M 𝓤 𝓛. regs_registers_Registers_read_freg32.clauses 𝓛) (λ κ r. r)
settled_regs_registers_Registers_read_freg32 = record {
  Post = λ κ a r e. _;
  asks_nothing = λ M 𝓤 𝓛 mem run κ a g. refl;
  asks_no_ghost = λ M 𝓤 𝓛 mem run κ a. refl;
  promises = λ M 𝓤 𝓛 mem run κ a g r e. refl;
  once = λ κ a r r' ws ws' p q.
      let e = at_exit regs_registers_Registers_read_freg32.ended κ a ws in
      let e' = at_exit regs_registers_Registers_read_freg32.ended κ a ws' in
      let s = regs_all.read_freg32_settled κ a r r' e e' p q in
      (s, refl);
}

pub settled_regs_registers_Registers_read_freg64 :
    Settled regs_registers_Registers_read_freg64.ended (λ M 𝓤 𝓛. regs_registers_Registers_read_freg64.clauses 𝓛) (λ κ r. r)
settled_regs_registers_Registers_read_freg64 = record {
  Post = λ κ a r e. _;
  asks_nothing = λ M 𝓤 𝓛 mem run κ a g. refl;
  asks_no_ghost = λ M 𝓤 𝓛 mem run κ a. refl;
  promises = λ M 𝓤 𝓛 mem run κ a g r e. refl;
  once = λ κ a r r' ws ws' p q.
      let e = at_exit regs_registers_Registers_read_freg64.ended κ a ws in
      let e' = at_exit regs_registers_Registers_read_freg64.ended κ a ws' in
      let s = regs_all.read_freg64_settled κ a r r' e e' p q in
      (s, refl);
}

pub settled_regs_registers_Registers_read_ireg :
    Settled regs_registers_Registers_read_ireg.ended (λ M 𝓤 𝓛. regs_registers_Registers_read_ireg.clauses 𝓛) (λ κ r. r)
settled_regs_registers_Registers_read_ireg = record {
  Post = λ κ a r e. _;
  asks_nothing = λ M 𝓤 𝓛 mem run κ a g. refl;
  asks_no_ghost = λ M 𝓤 𝓛 mem run κ a. refl;
  promises = λ M 𝓤 𝓛 mem run κ a g r e. refl;
  once = λ κ a r r' ws ws' p q.
      let e = at_exit regs_registers_Registers_read_ireg.ended κ a ws in
      let e' = at_exit regs_registers_Registers_read_ireg.ended κ a ws' in
      let s = regs_all.read_ireg_settled κ a r r' e e' p q in
      (s, refl);
}

pub settled_regs_registers_Registers_stored :
    Settled regs_registers_Registers_stored.ended (λ M 𝓤 𝓛. regs_registers_Registers_stored.clauses 𝓛) (λ κ r. r)
settled_regs_registers_Registers_stored = record {
  Post = λ κ a r e. _;
  asks_nothing = λ M 𝓤 𝓛 mem run κ a g. refl;
  asks_no_ghost = λ M 𝓤 𝓛 mem run κ a. refl;
  promises = λ M 𝓤 𝓛 mem run κ a g r e. refl;
  once = λ κ a r r' ws ws' p q.
      let e = at_exit regs_registers_Registers_stored.ended κ a ws in
      let e' = at_exit regs_registers_Registers_stored.ended κ a ws' in
      let s = regs_all.stored_settled κ a r r' e e' p q in
      (s, refl);
}

pub settled_regs_registers_Registers_with_freg32 :
    Settled regs_registers_Registers_with_freg32.ended (λ M 𝓤 𝓛. regs_registers_Registers_with_freg32.clauses 𝓛) (λ κ r. r)
settled_regs_registers_Registers_with_freg32 = record {
  Post = λ κ a r e. _;
  asks_nothing = λ M 𝓤 𝓛 mem run κ a g. refl;
  asks_no_ghost = λ M 𝓤 𝓛 mem run κ a. refl;
  promises = λ M 𝓤 𝓛 mem run κ a g r e. refl;
  once = λ κ a r r' ws ws' p q.
      let e = at_exit regs_registers_Registers_with_freg32.ended κ a ws in
      let e' = at_exit regs_registers_Registers_with_freg32.ended κ a ws' in
      let s = regs_all.with_freg32_settled κ a r r' e e' p q in
      (s, refl);
}

pub settled_regs_registers_Registers_with_freg64 :
    Settled regs_registers_Registers_with_freg64.ended (λ M 𝓤 𝓛. regs_registers_Registers_with_freg64.clauses 𝓛) (λ κ r. r)
settled_regs_registers_Registers_with_freg64 = record {
  Post = λ κ a r e. _;
  asks_nothing = λ M 𝓤 𝓛 mem run κ a g. refl;
  asks_no_ghost = λ M 𝓤 𝓛 mem run κ a. refl;
  promises = λ M 𝓤 𝓛 mem run κ a g r e. refl;
  once = λ κ a r r' ws ws' p q.
      let e = at_exit regs_registers_Registers_with_freg64.ended κ a ws in
      let e' = at_exit regs_registers_Registers_with_freg64.ended κ a ws' in
      let s = regs_all.with_freg64_settled κ a r r' e e' p q in
      (s, refl);
}

pub settled_regs_registers_Registers_with_ireg :
    Settled regs_registers_Registers_with_ireg.ended (λ M 𝓤 𝓛. regs_registers_Registers_with_ireg.clauses 𝓛) (λ κ r. r)
settled_regs_registers_Registers_with_ireg = record {
  Post = λ κ a r e. _;
  asks_nothing = λ M 𝓤 𝓛 mem run κ a g. refl;
  asks_no_ghost = λ M 𝓤 𝓛 mem run κ a. refl;
  promises = λ M 𝓤 𝓛 mem run κ a g r e. refl;
  once = λ κ a r r' ws ws' p q.
      let e = at_exit regs_registers_Registers_with_ireg.ended κ a ws in
      let e' = at_exit regs_registers_Registers_with_ireg.ended κ a ws' in
      let s = regs_all.with_ireg_settled κ a r r' e e' p q in
      (s, refl);
}

pub settled_regs_registers_Registers_zeroed :
    Settled regs_registers_Registers_zeroed.ended (λ M 𝓤 𝓛. regs_registers_Registers_zeroed.clauses 𝓛) (λ κ r. r)
settled_regs_registers_Registers_zeroed = record {
  Post = λ κ a r e. _;
  asks_nothing = λ M 𝓤 𝓛 mem run κ a g. refl;
  asks_no_ghost = λ M 𝓤 𝓛 mem run κ a. refl;
  promises = λ M 𝓤 𝓛 mem run κ a g r e. refl;
  once = λ κ a r r' ws ws' p q.
      let e = at_exit regs_registers_Registers_zeroed.ended κ a ws in
      let e' = at_exit regs_registers_Registers_zeroed.ended κ a ws' in
      let s = regs_all.zeroed_settled κ a r r' e e' p q in
      (s, refl);
}

pub settled_done_DoneSlot_done_with :
    Settled done_DoneSlot_done_with.ended (λ M 𝓤 𝓛. done_DoneSlot_done_with.clauses 𝓛) (λ κ r. r)
settled_done_DoneSlot_done_with = record {
  Post = λ κ a r e. _;
  asks_nothing = λ M 𝓤 𝓛 mem run κ a g. refl;
  asks_no_ghost = λ M 𝓤 𝓛 mem run κ a. refl;
  promises = λ M 𝓤 𝓛 mem run κ a g r e. refl;
  once = λ κ a r r' ws ws' p q.
      let e = at_exit done_DoneSlot_done_with.ended κ a ws in
      let e' = at_exit done_DoneSlot_done_with.ended κ a ws' in
      let s = done_all.done_with_settled κ a r r' e e' p q in
      (s, refl);
}

pub settled_done_DoneSlot_empty :
    Settled done_DoneSlot_empty.ended (λ M 𝓤 𝓛. done_DoneSlot_empty.clauses 𝓛) (λ κ r. r)
settled_done_DoneSlot_empty = record {
  Post = λ κ a r e. _;
  asks_nothing = λ M 𝓤 𝓛 mem run κ a g. refl;
  asks_no_ghost = λ M 𝓤 𝓛 mem run κ a. refl;
  promises = λ M 𝓤 𝓛 mem run κ a g r e. refl;
  once = λ κ a r r' ws ws' p q.
      let e = at_exit done_DoneSlot_empty.ended κ a ws in
      let e' = at_exit done_DoneSlot_empty.ended κ a ws' in
      let s = done_all.empty_settled κ a r r' e e' p q in
      (s, refl);
}

pub settled_done_DoneSlot_take_done_reason :
    Settled done_DoneSlot_take_done_reason.ended (λ M 𝓤 𝓛. done_DoneSlot_take_done_reason.clauses 𝓛) (λ κ r. r)
settled_done_DoneSlot_take_done_reason = record {
  Post = λ κ a r e. _;
  asks_nothing = λ M 𝓤 𝓛 mem run κ a g. refl;
  asks_no_ghost = λ M 𝓤 𝓛 mem run κ a. refl;
  promises = λ M 𝓤 𝓛 mem run κ a g r e. refl;
  once = λ κ a r r' ws ws' p q.
      let e = at_exit done_DoneSlot_take_done_reason.ended κ a ws in
      let e' = at_exit done_DoneSlot_take_done_reason.ended κ a ws' in
      let s = done_all.take_done_reason_settled κ a r r' e e' p q in
      (s, refl);
}

pub settled_done_U64FromAlreadyFilled_from :
    Settled done_U64FromAlreadyFilled_from.ended (λ M 𝓤 𝓛. done_U64FromAlreadyFilled_from.clauses 𝓛) (λ κ r. r)
settled_done_U64FromAlreadyFilled_from = record {
  Post = λ κ a r e. _;
  asks_nothing = λ M 𝓤 𝓛 mem run κ a g. refl;
  asks_no_ghost = λ M 𝓤 𝓛 mem run κ a. refl;
  promises = λ M 𝓤 𝓛 mem run κ a g r e. refl;
  once = λ κ a r r' ws ws' p q.
      let e = at_exit done_U64FromAlreadyFilled_from.ended κ a ws in
      let e' = at_exit done_U64FromAlreadyFilled_from.ended κ a ws' in
      let s = done_all.u64_from_already_filled_from_settled κ a r r' e e' p q in
      (s, refl);
}

pub settled_done_U64FromNothingToTake_from :
    Settled done_U64FromNothingToTake_from.ended (λ M 𝓤 𝓛. done_U64FromNothingToTake_from.clauses 𝓛) (λ κ r. r)
settled_done_U64FromNothingToTake_from = record {
  Post = λ κ a r e. _;
  asks_nothing = λ M 𝓤 𝓛 mem run κ a g. refl;
  asks_no_ghost = λ M 𝓤 𝓛 mem run κ a. refl;
  promises = λ M 𝓤 𝓛 mem run κ a g r e. refl;
  once = λ κ a r r' ws ws' p q.
      let e = at_exit done_U64FromNothingToTake_from.ended κ a ws in
      let e' = at_exit done_U64FromNothingToTake_from.ended κ a ws' in
      let s = done_all.u64_from_nothing_to_take_from_settled κ a r r' e e' p q in
      (s, refl);
}

pub settled_frames_carried :
    Settled frames_carried.ended (λ M 𝓤 𝓛. frames_carried.clauses 𝓛) (λ κ r. r)
settled_frames_carried = record {
  Post = λ κ a r e. _;
  asks_nothing = λ M 𝓤 𝓛 mem run κ a g. refl;
  asks_no_ghost = λ M 𝓤 𝓛 mem run κ a. refl;
  promises = λ M 𝓤 𝓛 mem run κ a g r e. refl;
  once = λ κ a r r' ws ws' p q.
      let e = at_exit frames_carried.ended κ a ws in
      let e' = at_exit frames_carried.ended κ a ws' in
      let s = frames_all.carried_settled κ a r r' e e' p q in
      (s, refl);
}

pub settled_frames_debt_of :
    Settled frames_debt_of.ended (λ M 𝓤 𝓛. frames_debt_of.clauses 𝓛) (λ κ r. r)
settled_frames_debt_of = record {
  Post = λ κ a r e. _;
  asks_nothing = λ M 𝓤 𝓛 mem run κ a g. refl;
  asks_no_ghost = λ M 𝓤 𝓛 mem run κ a. refl;
  promises = λ M 𝓤 𝓛 mem run κ a g r e. refl;
  once = λ κ a r r' ws ws' p q.
      let e = at_exit frames_debt_of.ended κ a ws in
      let e' = at_exit frames_debt_of.ended κ a ws' in
      let s = frames_all.debt_of_settled κ a r r' e e' p q in
      (s, refl);
}

pub settled_frames_is_broken :
    Settled frames_is_broken.ended (λ M 𝓤 𝓛. frames_is_broken.clauses 𝓛) (λ κ r. r)
settled_frames_is_broken = record {
  Post = λ κ a r e. _;
  asks_nothing = λ M 𝓤 𝓛 mem run κ a g. refl;
  asks_no_ghost = λ M 𝓤 𝓛 mem run κ a. refl;
  promises = λ M 𝓤 𝓛 mem run κ a g r e. refl;
  once = λ κ a r r' ws ws' p q.
      let e = at_exit frames_is_broken.ended κ a ws in
      let e' = at_exit frames_is_broken.ended κ a ws' in
      let s = frames_all.is_broken_settled κ a r r' e e' p q in
      (s, refl);
}

pub settled_frames_new_row :
    Settled frames_new_row.ended (λ M 𝓤 𝓛. frames_new_row.clauses 𝓛) (λ κ r. r)
settled_frames_new_row = record {
  Post = λ κ a r e. _;
  asks_nothing = λ M 𝓤 𝓛 mem run κ a g. refl;
  asks_no_ghost = λ M 𝓤 𝓛 mem run κ a. refl;
  promises = λ M 𝓤 𝓛 mem run κ a g r e. refl;
  once = λ κ a r r' ws ws' p q.
      let e = at_exit frames_new_row.ended κ a ws in
      let e' = at_exit frames_new_row.ended κ a ws' in
      let s = frames_all.new_row_settled κ a r r' e e' p q in
      (s, refl);
}

pub settled_frames_owing :
    Settled frames_owing.ended (λ M 𝓤 𝓛. frames_owing.clauses 𝓛) (λ κ r. r)
settled_frames_owing = record {
  Post = λ κ a r e. _;
  asks_nothing = λ M 𝓤 𝓛 mem run κ a g. refl;
  asks_no_ghost = λ M 𝓤 𝓛 mem run κ a. refl;
  promises = λ M 𝓤 𝓛 mem run κ a g r e. refl;
  once = λ κ a r r' ws ws' p q.
      let e = at_exit frames_owing.ended κ a ws in
      let e' = at_exit frames_owing.ended κ a ws' in
      let s = frames_all.owing_settled κ a r r' e e' p q in
      (s, refl);
}

pub settled_frames_read_row :
    Settled frames_read_row.ended (λ M 𝓤 𝓛. frames_read_row.clauses 𝓛) (λ κ r. r)
settled_frames_read_row = record {
  Post = λ κ a r e. _;
  asks_nothing = λ M 𝓤 𝓛 mem run κ a g. refl;
  asks_no_ghost = λ M 𝓤 𝓛 mem run κ a. refl;
  promises = λ M 𝓤 𝓛 mem run κ a g r e. refl;
  once = λ κ a r r' ws ws' p q.
      let e = at_exit frames_read_row.ended κ a ws in
      let e' = at_exit frames_read_row.ended κ a ws' in
      let s = frames_all.read_row_settled κ a r r' e e' p q in
      (s, refl);
}

pub settled_frames_sync_ip :
    Settled frames_sync_ip.ended (λ M 𝓤 𝓛. frames_sync_ip.clauses 𝓛) (λ κ r. r)
settled_frames_sync_ip = record {
  Post = λ κ a r e. _;
  asks_nothing = λ M 𝓤 𝓛 mem run κ a g. refl;
  asks_no_ghost = λ M 𝓤 𝓛 mem run κ a. refl;
  promises = λ M 𝓤 𝓛 mem run κ a g r e. refl;
  once = λ κ a r r' ws ws' p q.
      let e = at_exit frames_sync_ip.ended κ a ws in
      let e' = at_exit frames_sync_ip.ended κ a ws' in
      let s = frames_all.sync_ip_settled κ a r r' e e' p q in
      (refl, λ i. (at_last a.0 (s i), (a.1.0, (a.1.1.0, (a.1.1.1.0, tt)))));
}

pub settled_frames_too_few_words :
    Settled frames_too_few_words.ended (λ M 𝓤 𝓛. frames_too_few_words.clauses 𝓛) (λ κ r. r)
settled_frames_too_few_words = record {
  Post = λ κ a r e. _;
  asks_nothing = λ M 𝓤 𝓛 mem run κ a g. refl;
  asks_no_ghost = λ M 𝓤 𝓛 mem run κ a. refl;
  promises = λ M 𝓤 𝓛 mem run κ a g r e. refl;
  once = λ κ a r r' ws ws' p q.
      let e = at_exit frames_too_few_words.ended κ a ws in
      let e' = at_exit frames_too_few_words.ended κ a ws' in
      let s = frames_all.too_few_words_settled κ a r r' e e' p q in
      (s, refl);
}

pub settled_frames_write_row :
    Settled frames_write_row.ended (λ M 𝓤 𝓛. frames_write_row.clauses 𝓛) (λ κ r. r)
settled_frames_write_row = record {
  Post = λ κ a r e. _;
  asks_nothing = λ M 𝓤 𝓛 mem run κ a g. refl;
  asks_no_ghost = λ M 𝓤 𝓛 mem run κ a. refl;
  promises = λ M 𝓤 𝓛 mem run κ a g r e. refl;
  once = λ κ a r r' ws ws' p q.
      let e = at_exit frames_write_row.ended κ a ws in
      let e' = at_exit frames_write_row.ended κ a ws' in
      let s = frames_all.write_row_settled κ a r r' e e' p q in
      (refl, λ i. (at_last a.0 (s i), (a.1.0, (a.1.1.0, (a.1.1.1.0, tt)))));
}

pub settled_runs_cells_there :
    Settled runs_cells_there.ended (λ M 𝓤 𝓛. runs_cells_there.clauses 𝓛) (λ κ r. r)
settled_runs_cells_there = record {
  Post = λ κ a r e. _;
  asks_nothing = λ M 𝓤 𝓛 mem run κ a g. refl;
  asks_no_ghost = λ M 𝓤 𝓛 mem run κ a. refl;
  promises = λ M 𝓤 𝓛 mem run κ a g r e. refl;
  once = λ κ a r r' ws ws' p q.
      let e = at_exit runs_cells_there.ended κ a ws in
      let e' = at_exit runs_cells_there.ended κ a ws' in
      let s = runs_all.cells_there_settled κ a r r' e e' p q in
      (s, refl);
}

pub settled_runs_clear_locals :
    Settled runs_clear_locals.ended (λ M 𝓤 𝓛. runs_clear_locals.clauses 𝓛) (λ κ r. r)
settled_runs_clear_locals = record {
  Post = λ κ a r e. _;
  asks_nothing = λ M 𝓤 𝓛 mem run κ a g. refl;
  asks_no_ghost = λ M 𝓤 𝓛 mem run κ a. refl;
  promises = λ M 𝓤 𝓛 mem run κ a g r e. refl;
  once = λ κ a r r' ws ws' p q.
      let e = at_exit runs_clear_locals.ended κ a ws in
      let e' = at_exit runs_clear_locals.ended κ a ws' in
      let s = runs_all.clear_locals_settled κ a r r' e e' p q in
      (refl, λ i. (at_last a.0 (s i), (a.1.0, (a.1.1.0, (a.1.1.1.0, tt)))));
}

pub settled_runs_copy_down :
    Settled runs_copy_down.ended (λ M 𝓤 𝓛. runs_copy_down.clauses 𝓛) (λ κ r. r)
settled_runs_copy_down = record {
  Post = λ κ a r e. _;
  asks_nothing = λ M 𝓤 𝓛 mem run κ a g. refl;
  asks_no_ghost = λ M 𝓤 𝓛 mem run κ a. refl;
  promises = λ M 𝓤 𝓛 mem run κ a g r e. refl;
  once = λ κ a r r' ws ws' p q.
      let e = at_exit runs_copy_down.ended κ a ws in
      let e' = at_exit runs_copy_down.ended κ a ws' in
      let s = runs_all.copy_down_settled κ a r r' e e' p q in
      (refl, λ i. (at_last a.0 (s i), (a.1.0, (a.1.1.0, (a.1.1.1.0, tt)))));
}

pub settled_runs_put_values :
    Settled runs_put_values.ended (λ M 𝓤 𝓛. runs_put_values.clauses 𝓛) (λ κ r. r)
settled_runs_put_values = record {
  Post = λ κ a r e. _;
  asks_nothing = λ M 𝓤 𝓛 mem run κ a g. refl;
  asks_no_ghost = λ M 𝓤 𝓛 mem run κ a. refl;
  promises = λ M 𝓤 𝓛 mem run κ a g r e. refl;
  once = λ κ a r r' ws ws' p q.
      let e = at_exit runs_put_values.ended κ a ws in
      let e' = at_exit runs_put_values.ended κ a ws' in
      let s = runs_all.put_values_settled κ a r r' e e' p q in
      (refl, λ i. (at_last a.0 (s i), (a.1.0, tt)));
}

pub settled_cells_grow_if_needed :
    Settled cells_grow_if_needed.ended (λ M 𝓤 𝓛. cells_grow_if_needed.clauses 𝓛) (λ κ r. r)
settled_cells_grow_if_needed = record {
  Post = λ κ a r e. _;
  asks_nothing = λ M 𝓤 𝓛 mem run κ a g. refl;
  asks_no_ghost = λ M 𝓤 𝓛 mem run κ a. refl;
  promises = λ M 𝓤 𝓛 mem run κ a g r e. refl;
  once = λ κ a r r' ws ws' p q.
      let e = at_exit cells_grow_if_needed.ended κ a ws in
      let e' = at_exit cells_grow_if_needed.ended κ a ws' in
      let s = cells_all.grow_if_needed_settled κ a r r' e e' p q in
      (s, refl);
}

pub settled_cells_host_params :
    Settled cells_host_params.ended (λ M 𝓤 𝓛. cells_host_params.clauses 𝓛) (λ κ r. beside r.ref_ptr r.now)
settled_cells_host_params = record {
  Post = λ κ a r e. _;
  asks_nothing = λ M 𝓤 𝓛 mem run κ a g. refl;
  asks_no_ghost = λ M 𝓤 𝓛 mem run κ a. refl;
  promises = λ M 𝓤 𝓛 mem run κ a g r e. refl;
  once = λ κ a r r' ws ws' p q.
      let e = at_exit cells_host_params.ended κ a ws in
      let e' = at_exit cells_host_params.ended κ a ws' in
      let s = cells_all.host_params_settled κ a r r' e e' p q in
      (s, refl);
}

pub settled_cells_host_results :
    Settled cells_host_results.ended (λ M 𝓤 𝓛. cells_host_results.clauses 𝓛) (λ κ r. beside r.ref_ptr r.now)
settled_cells_host_results = record {
  Post = λ κ a r e. _;
  asks_nothing = λ M 𝓤 𝓛 mem run κ a g. refl;
  asks_no_ghost = λ M 𝓤 𝓛 mem run κ a. refl;
  promises = λ M 𝓤 𝓛 mem run κ a g r e. refl;
  once = λ κ a r r' ws ws' p q.
      let e = at_exit cells_host_results.ended κ a ws in
      let e' = at_exit cells_host_results.ended κ a ws' in
      let s = cells_all.host_results_settled κ a r r' e e' p q in
      (s, refl);
}

pub settled_cells_host_size :
    Settled cells_host_size.ended (λ M 𝓤 𝓛. cells_host_size.clauses 𝓛) (λ κ r. r)
settled_cells_host_size = record {
  Post = λ κ a r e. _;
  asks_nothing = λ M 𝓤 𝓛 mem run κ a g. refl;
  asks_no_ghost = λ M 𝓤 𝓛 mem run κ a. refl;
  promises = λ M 𝓤 𝓛 mem run κ a g r e. refl;
  once = λ κ a r r' ws ws' p q.
      let e = at_exit cells_host_size.ended κ a ws in
      let e' = at_exit cells_host_size.ended κ a ws' in
      let s = cells_all.host_size_settled κ a r r' e e' p q in
      (s, refl);
}

pub settled_cells_is_bad_host_frame :
    Settled cells_is_bad_host_frame.ended (λ M 𝓤 𝓛. cells_is_bad_host_frame.clauses 𝓛) (λ κ r. r)
settled_cells_is_bad_host_frame = record {
  Post = λ κ a r e. _;
  asks_nothing = λ M 𝓤 𝓛 mem run κ a g. refl;
  asks_no_ghost = λ M 𝓤 𝓛 mem run κ a. refl;
  promises = λ M 𝓤 𝓛 mem run κ a g r e. refl;
  once = λ κ a r r' ws ws' p q.
      let e = at_exit cells_is_bad_host_frame.ended κ a ws in
      let e' = at_exit cells_is_bad_host_frame.ended κ a ws' in
      let s = cells_all.is_bad_host_frame_settled κ a r r' e e' p q in
      (s, refl);
}

pub settled_cells_prepare_host_frame :
    Settled cells_prepare_host_frame.ended (λ M 𝓤 𝓛. cells_prepare_host_frame.clauses 𝓛) (λ κ r. r)
settled_cells_prepare_host_frame = record {
  Post = λ κ a r e. _;
  asks_nothing = λ M 𝓤 𝓛 mem run κ a g. refl;
  asks_no_ghost = λ M 𝓤 𝓛 mem run κ a. refl;
  promises = λ M 𝓤 𝓛 mem run κ a g r e. refl;
  once = λ κ a r r' ws ws' p q.
      let e = at_exit cells_prepare_host_frame.ended κ a ws in
      let e' = at_exit cells_prepare_host_frame.ended κ a ws' in
      let s = cells_all.prepare_host_frame_settled κ a r r' e e' p q in
      (refl, λ i. (at_last a.0 (s i), (a.1.0, (a.1.1.0, tt))));
}

pub settled_cells_push :
    Settled cells_push.ended (λ M 𝓤 𝓛. cells_push.clauses 𝓛) (λ κ r. r)
settled_cells_push = record {
  Post = λ κ a r e. _;
  asks_nothing = λ M 𝓤 𝓛 mem run κ a g. refl;
  asks_no_ghost = λ M 𝓤 𝓛 mem run κ a. refl;
  promises = λ M 𝓤 𝓛 mem run κ a g r e. refl;
  once = λ κ a r r' ws ws' p q.
      let e = at_exit cells_push.ended κ a ws in
      let e' = at_exit cells_push.ended κ a ws' in
      let s = cells_all.push_settled κ a r r' e e' p q in
      (refl, λ i. (at_last a.0 (s i), (a.1.0, (a.1.1.0, (a.1.1.1.0, (a.1.1.1.1.0, (a.1.1.1.1.1.0, tt)))))));
}

pub settled_cells_replace :
    Settled cells_replace.ended (λ M 𝓤 𝓛. cells_replace.clauses 𝓛) (λ κ r. r)
settled_cells_replace = record {
  Post = λ κ a r e. _;
  asks_nothing = λ M 𝓤 𝓛 mem run κ a g. refl;
  asks_no_ghost = λ M 𝓤 𝓛 mem run κ a. refl;
  promises = λ M 𝓤 𝓛 mem run κ a g r e. refl;
  once = λ κ a r r' ws ws' p q.
      let e = at_exit cells_replace.ended κ a ws in
      let e' = at_exit cells_replace.ended κ a ws' in
      let s = cells_all.replace_settled κ a r r' e e' p q in
      (refl, λ i. (at_last a.0 (s i), (a.1.0, (a.1.1.0, (a.1.1.1.0, (a.1.1.1.1.0, (a.1.1.1.1.1.0, (a.1.1.1.1.1.1.0, tt))))))));
}

pub settled_cells_return_prepare_host_frame :
    Settled cells_return_prepare_host_frame.ended (λ M 𝓤 𝓛. cells_return_prepare_host_frame.clauses 𝓛) (λ κ r. r)
settled_cells_return_prepare_host_frame = record {
  Post = λ κ a r e. _;
  asks_nothing = λ M 𝓤 𝓛 mem run κ a g. refl;
  asks_no_ghost = λ M 𝓤 𝓛 mem run κ a. refl;
  promises = λ M 𝓤 𝓛 mem run κ a g r e. refl;
  once = λ κ a r r' ws ws' p q.
      let e = at_exit cells_return_prepare_host_frame.ended κ a ws in
      let e' = at_exit cells_return_prepare_host_frame.ended κ a ws' in
      let s = cells_all.return_prepare_host_frame_settled κ a r r' e e' p q in
      (refl, λ i. (at_last a.0 (s i), (a.1.0, (a.1.1.0, (a.1.1.1.0, (a.1.1.1.1.0, (a.1.1.1.1.1.0, tt)))))));
}

pub settled_cells_set_cell :
    Settled cells_set_cell.ended (λ M 𝓤 𝓛. cells_set_cell.clauses 𝓛) (λ κ r. r)
settled_cells_set_cell = record {
  Post = λ κ a r e. _;
  asks_nothing = λ M 𝓤 𝓛 mem run κ a g. refl;
  asks_no_ghost = λ M 𝓤 𝓛 mem run κ a. refl;
  promises = λ M 𝓤 𝓛 mem run κ a g r e. refl;
  once = λ κ a r r' ws ws' p q.
      let e = at_exit cells_set_cell.ended κ a ws in
      let e' = at_exit cells_set_cell.ended κ a ws' in
      let s = cells_all.set_cell_settled κ a r r' e e' p q in
      (refl, λ i. (at_last a.0 (s i), (a.1.0, (a.1.1.0, tt))));
}

pub settled_cells_store_results :
    Settled cells_store_results.ended (λ M 𝓤 𝓛. cells_store_results.clauses 𝓛) (λ κ r. r)
settled_cells_store_results = record {
  Post = λ κ a r e. _;
  asks_nothing = λ M 𝓤 𝓛 mem run κ a g. refl;
  asks_no_ghost = λ M 𝓤 𝓛 mem run κ a. refl;
  promises = λ M 𝓤 𝓛 mem run κ a g r e. refl;
  once = λ κ a r r' ws ws' p q.
      let e = at_exit cells_store_results.ended κ a ws in
      let e' = at_exit cells_store_results.ended κ a ws' in
      let s = cells_all.store_results_settled κ a r r' e e' p q in
      (refl, λ i. (at_last a.0 (s i), (a.1.0, (a.1.1.0, (a.1.1.1.0, tt)))));
}

pub settled_record_is_lawful :
    Settled record_is_lawful.ended (λ M 𝓤 𝓛. record_is_lawful.clauses 𝓛) (λ κ r. r)
settled_record_is_lawful = record {
  Post = λ κ a r e. _;
  asks_nothing = λ M 𝓤 𝓛 mem run κ a g. refl;
  asks_no_ghost = λ M 𝓤 𝓛 mem run κ a. refl;
  promises = λ M 𝓤 𝓛 mem run κ a g r e. refl;
  once = λ κ a r r' ws ws' p q.
      let e = at_exit record_is_lawful.ended κ a ws in
      let e' = at_exit record_is_lawful.ended κ a ws' in
      let s = record_all.is_lawful_settled κ a r r' e e' p q in
      (s, refl);
}

pub settled_record_keeps_row :
    Settled record_keeps_row.ended (λ M 𝓤 𝓛. record_keeps_row.clauses 𝓛) (λ κ r. r)
settled_record_keeps_row = record {
  Post = λ κ a r e. _;
  asks_nothing = λ M 𝓤 𝓛 mem run κ a g. refl;
  asks_no_ghost = λ M 𝓤 𝓛 mem run κ a. refl;
  promises = λ M 𝓤 𝓛 mem run κ a g r e. refl;
  once = λ κ a r r' ws ws' p q.
      let e = at_exit record_keeps_row.ended κ a ws in
      let e' = at_exit record_keeps_row.ended κ a ws' in
      let s = record_all.keeps_row_settled κ a r r' e e' p q in
      (s, refl);
}

pub settled_record_read_fields :
    Settled record_read_fields.ended (λ M 𝓤 𝓛. record_read_fields.clauses 𝓛) (λ κ r. r)
settled_record_read_fields = record {
  Post = λ κ a r e. _;
  asks_nothing = λ M 𝓤 𝓛 mem run κ a g. refl;
  asks_no_ghost = λ M 𝓤 𝓛 mem run κ a. refl;
  promises = λ M 𝓤 𝓛 mem run κ a g r e. refl;
  once = λ κ a r r' ws ws' p q.
      let e = at_exit record_read_fields.ended κ a ws in
      let e' = at_exit record_read_fields.ended κ a ws' in
      let s = record_all.read_fields_settled κ a r r' e e' p q in
      (s, refl);
}

pub settled_record_read_record :
    Settled record_read_record.ended (λ M 𝓤 𝓛. record_read_record.clauses 𝓛) (λ κ r. r)
settled_record_read_record = record {
  Post = λ κ a r e. _;
  asks_nothing = λ M 𝓤 𝓛 mem run κ a g. refl;
  asks_no_ghost = λ M 𝓤 𝓛 mem run κ a. refl;
  promises = λ M 𝓤 𝓛 mem run κ a g r e. refl;
  once = λ κ a r r' ws ws' p q.
      let e = at_exit record_read_record.ended κ a ws in
      let e' = at_exit record_read_record.ended κ a ws' in
      let s = record_all.read_record_settled κ a r r' e e' p q in
      (s, refl);
}

pub settled_record_write_record :
    Settled record_write_record.ended (λ M 𝓤 𝓛. record_write_record.clauses 𝓛) (λ κ r. r)
settled_record_write_record = record {
  Post = λ κ a r e. _;
  asks_nothing = λ M 𝓤 𝓛 mem run κ a g. refl;
  asks_no_ghost = λ M 𝓤 𝓛 mem run κ a. refl;
  promises = λ M 𝓤 𝓛 mem run κ a g r e. refl;
  once = λ κ a r r' ws ws' p q.
      let e = at_exit record_write_record.ended κ a ws in
      let e' = at_exit record_write_record.ended κ a ws' in
      let s = record_all.write_record_settled κ a r r' e e' p q in
      (λ i. (s i).0, λ i. (at_last a.0 (s i).1, (a.1.0, (a.1.1.0, tt))));
}

pub settled_rules_RefusalFromGrowthError_from :
    Settled rules_RefusalFromGrowthError_from.ended (λ M 𝓤 𝓛. rules_RefusalFromGrowthError_from.clauses 𝓛) (λ κ r. r)
settled_rules_RefusalFromGrowthError_from = record {
  Post = λ κ a r e. _;
  asks_nothing = λ M 𝓤 𝓛 mem run κ a g. refl;
  asks_no_ghost = λ M 𝓤 𝓛 mem run κ a. refl;
  promises = λ M 𝓤 𝓛 mem run κ a g r e. refl;
  once = λ κ a r r' ws ws' p q.
      let e = at_exit rules_RefusalFromGrowthError_from.ended κ a ws in
      let e' = at_exit rules_RefusalFromGrowthError_from.ended κ a ws' in
      let s = rules_all.refusal_from_growth_error_from_settled κ a r r' e e' p q in
      (s, refl);
}

pub settled_rules_U64FromRefusal_from :
    Settled rules_U64FromRefusal_from.ended (λ M 𝓤 𝓛. rules_U64FromRefusal_from.clauses 𝓛) (λ κ r. r)
settled_rules_U64FromRefusal_from = record {
  Post = λ κ a r e. _;
  asks_nothing = λ M 𝓤 𝓛 mem run κ a g. refl;
  asks_no_ghost = λ M 𝓤 𝓛 mem run κ a. refl;
  promises = λ M 𝓤 𝓛 mem run κ a g r e. refl;
  once = λ κ a r r' ws ws' p q.
      let e = at_exit rules_U64FromRefusal_from.ended κ a ws in
      let e' = at_exit rules_U64FromRefusal_from.ended κ a ws' in
      let s = rules_all.u64_from_refusal_from_settled κ a r r' e e' p q in
      (s, refl);
}

pub settled_request_host_in :
    Settled request_host_in.ended (λ M 𝓤 𝓛. request_host_in.clauses 𝓛) (λ κ r. r)
settled_request_host_in = record {
  Post = λ κ a r e. _;
  asks_nothing = λ M 𝓤 𝓛 mem run κ a g. refl;
  asks_no_ghost = λ M 𝓤 𝓛 mem run κ a. refl;
  promises = λ M 𝓤 𝓛 mem run κ a g r e. refl;
  once = λ κ a r r' ws ws' p q.
      let e = at_exit request_host_in.ended κ a ws in
      let e' = at_exit request_host_in.ended κ a ws' in
      let s = request_all.host_in_settled κ a r r' e e' p q in
      (s, refl);
}

pub settled_request_next_request :
    Settled request_next_request.ended (λ M 𝓤 𝓛. request_next_request.clauses 𝓛) (λ κ r. r)
settled_request_next_request = record {
  Post = λ κ a r e. _;
  asks_nothing = λ M 𝓤 𝓛 mem run κ a g. refl;
  asks_no_ghost = λ M 𝓤 𝓛 mem run κ a. refl;
  promises = λ M 𝓤 𝓛 mem run κ a g r e. refl;
  once = λ κ a r r' ws ws' p q.
      let e = at_exit request_next_request.ended κ a ws in
      let e' = at_exit request_next_request.ended κ a ws' in
      let s = request_all.next_request_settled κ a r r' e e' p q in
      (s, refl);
}

pub settled_request_place_after :
    Settled request_place_after.ended (λ M 𝓤 𝓛. request_place_after.clauses 𝓛) (λ κ r. r)
settled_request_place_after = record {
  Post = λ κ a r e. _;
  asks_nothing = λ M 𝓤 𝓛 mem run κ a g. refl;
  asks_no_ghost = λ M 𝓤 𝓛 mem run κ a. refl;
  promises = λ M 𝓤 𝓛 mem run κ a g r e. refl;
  once = λ κ a r r' ws ws' p q.
      let e = at_exit request_place_after.ended κ a ws in
      let e' = at_exit request_place_after.ended κ a ws' in
      let s = request_all.place_after_settled κ a r r' e e' p q in
      (s, refl);
}

pub settled_request_push_in :
    Settled request_push_in.ended (λ M 𝓤 𝓛. request_push_in.clauses 𝓛) (λ κ r. r)
settled_request_push_in = record {
  Post = λ κ a r e. _;
  asks_nothing = λ M 𝓤 𝓛 mem run κ a g. refl;
  asks_no_ghost = λ M 𝓤 𝓛 mem run κ a. refl;
  promises = λ M 𝓤 𝓛 mem run κ a g r e. refl;
  once = λ κ a r r' ws ws' p q.
      let e = at_exit request_push_in.ended κ a ws in
      let e' = at_exit request_push_in.ended κ a ws' in
      let s = request_all.push_in_settled κ a r r' e e' p q in
      (s, refl);
}

pub settled_request_record_of :
    Settled request_record_of.ended (λ M 𝓤 𝓛. request_record_of.clauses 𝓛) (λ κ r. r)
settled_request_record_of = record {
  Post = λ κ a r e. _;
  asks_nothing = λ M 𝓤 𝓛 mem run κ a g. refl;
  asks_no_ghost = λ M 𝓤 𝓛 mem run κ a. refl;
  promises = λ M 𝓤 𝓛 mem run κ a g r e. refl;
  once = λ κ a r r' ws ws' p q.
      let e = at_exit request_record_of.ended κ a ws in
      let e' = at_exit request_record_of.ended κ a ws' in
      let s = request_all.record_of_settled κ a r r' e e' p q in
      (s, refl);
}

pub settled_request_replace_in :
    Settled request_replace_in.ended (λ M 𝓤 𝓛. request_replace_in.clauses 𝓛) (λ κ r. r)
settled_request_replace_in = record {
  Post = λ κ a r e. _;
  asks_nothing = λ M 𝓤 𝓛 mem run κ a g. refl;
  asks_no_ghost = λ M 𝓤 𝓛 mem run κ a. refl;
  promises = λ M 𝓤 𝓛 mem run κ a g r e. refl;
  once = λ κ a r r' ws ws' p q.
      let e = at_exit request_replace_in.ended κ a ws in
      let e' = at_exit request_replace_in.ended κ a ws' in
      let s = request_all.replace_in_settled κ a r r' e e' p q in
      (s, refl);
}

pub settled_request_request_of :
    Settled request_request_of.ended (λ M 𝓤 𝓛. request_request_of.clauses 𝓛) (λ κ r. r)
settled_request_request_of = record {
  Post = λ κ a r e. _;
  asks_nothing = λ M 𝓤 𝓛 mem run κ a g. refl;
  asks_no_ghost = λ M 𝓤 𝓛 mem run κ a. refl;
  promises = λ M 𝓤 𝓛 mem run κ a g r e. refl;
  once = λ κ a r r' ws ws' p q.
      let e = at_exit request_request_of.ended κ a ws in
      let e' = at_exit request_request_of.ended κ a ws' in
      let s = request_all.request_of_settled κ a r r' e e' p q in
      (s, refl);
}

pub settled_request_return_host_in :
    Settled request_return_host_in.ended (λ M 𝓤 𝓛. request_return_host_in.clauses 𝓛) (λ κ r. r)
settled_request_return_host_in = record {
  Post = λ κ a r e. _;
  asks_nothing = λ M 𝓤 𝓛 mem run κ a g. refl;
  asks_no_ghost = λ M 𝓤 𝓛 mem run κ a. refl;
  promises = λ M 𝓤 𝓛 mem run κ a g r e. refl;
  once = λ κ a r r' ws ws' p q.
      let e = at_exit request_return_host_in.ended κ a ws in
      let e' = at_exit request_return_host_in.ended κ a ws' in
      let s = request_all.return_host_in_settled κ a r r' e e' p q in
      (s, refl);
}

pub settled_request_write_request :
    Settled request_write_request.ended (λ M 𝓤 𝓛. request_write_request.clauses 𝓛) (λ κ r. r)
settled_request_write_request = record {
  Post = λ κ a r e. _;
  asks_nothing = λ M 𝓤 𝓛 mem run κ a g. refl;
  asks_no_ghost = λ M 𝓤 𝓛 mem run κ a. refl;
  promises = λ M 𝓤 𝓛 mem run κ a g r e. refl;
  once = λ κ a r r' ws ws' p q.
      let e = at_exit request_write_request.ended κ a ws in
      let e' = at_exit request_write_request.ended κ a ws' in
      let s = request_all.write_request_settled κ a r r' e e' p q in
      (λ i. (s i).0, λ i. (at_last a.0 (s i).1, (a.1.0, (a.1.1.0, tt))));
}

pub settled_reader_ReaderIterator_next :
    Settled reader_ReaderIterator_next.ended (λ M 𝓤 𝓛. reader_ReaderIterator_next.clauses 𝓛) (λ κ r. r)
settled_reader_ReaderIterator_next = record {
  Post = λ κ a r e. _;
  asks_nothing = λ M 𝓤 𝓛 mem run κ a g. refl;
  asks_no_ghost = λ M 𝓤 𝓛 mem run κ a. refl;
  promises = λ M 𝓤 𝓛 mem run κ a g r e. refl;
  once = λ κ a r r' ws ws' p q.
      let e = at_exit reader_ReaderIterator_next.ended κ a ws in
      let e' = at_exit reader_ReaderIterator_next.ended κ a ws' in
      let s = reader_all.reader_iterator_next_settled κ a r r' e e' p q in
      (λ i. (s i).0, λ i. (at_last a.0 (s i).1, tt));
}

pub settled_reader_advance :
    Settled reader_advance.ended (λ M 𝓤 𝓛. reader_advance.clauses 𝓛) (λ κ r. r)
settled_reader_advance = record {
  Post = λ κ a r e. _;
  asks_nothing = λ M 𝓤 𝓛 mem run κ a g. refl;
  asks_no_ghost = λ M 𝓤 𝓛 mem run κ a. refl;
  promises = λ M 𝓤 𝓛 mem run κ a g r e. refl;
  once = λ κ a r r' ws ws' p q.
      let e = at_exit reader_advance.ended κ a ws in
      let e' = at_exit reader_advance.ended κ a ws' in
      let s = reader_all.advance_settled κ a r r' e e' p q in
      (s, refl);
}

pub settled_reader_hand_out :
    Settled reader_hand_out.ended (λ M 𝓤 𝓛. reader_hand_out.clauses 𝓛) (λ κ r. r)
settled_reader_hand_out = record {
  Post = λ κ a r e. _;
  asks_nothing = λ M 𝓤 𝓛 mem run κ a g. refl;
  asks_no_ghost = λ M 𝓤 𝓛 mem run κ a. refl;
  promises = λ M 𝓤 𝓛 mem run κ a g r e. refl;
  once = λ κ a r r' ws ws' p q.
      let e = at_exit reader_hand_out.ended κ a ws in
      let e' = at_exit reader_hand_out.ended κ a ws' in
      let s = reader_all.hand_out_settled κ a r r' e e' p q in
      (s, refl);
}

pub settled_reader_next_two :
    Settled reader_next_two.ended (λ M 𝓤 𝓛. reader_next_two.clauses 𝓛) (λ κ r. r)
settled_reader_next_two = record {
  Post = λ κ a r e. _;
  asks_nothing = λ M 𝓤 𝓛 mem run κ a g. refl;
  asks_no_ghost = λ M 𝓤 𝓛 mem run κ a. refl;
  promises = λ M 𝓤 𝓛 mem run κ a g r e. refl;
  once = λ κ a r r' ws ws' p q.
      let e = at_exit reader_next_two.ended κ a ws in
      let e' = at_exit reader_next_two.ended κ a ws' in
      let s = reader_all.next_two_settled κ a r r' e e' p q in
      (s, refl);
}

pub settled_reader_reader_at :
    Settled reader_reader_at.ended (λ M 𝓤 𝓛. reader_reader_at.clauses 𝓛) (λ κ r. r)
settled_reader_reader_at = record {
  Post = λ κ a r e. _;
  asks_nothing = λ M 𝓤 𝓛 mem run κ a g. refl;
  asks_no_ghost = λ M 𝓤 𝓛 mem run κ a. refl;
  promises = λ M 𝓤 𝓛 mem run κ a g r e. refl;
  once = λ κ a r r' ws ws' p q.
      let e = at_exit reader_reader_at.ended κ a ws in
      let e' = at_exit reader_reader_at.ended κ a ws' in
      let s = reader_all.reader_at_settled κ a r r' e e' p q in
      (s, refl);
}

pub settled_reader_take_request :
    Settled reader_take_request.ended (λ M 𝓤 𝓛. reader_take_request.clauses 𝓛) (λ κ r. r)
settled_reader_take_request = record {
  Post = λ κ a r e. _;
  asks_nothing = λ M 𝓤 𝓛 mem run κ a g. refl;
  asks_no_ghost = λ M 𝓤 𝓛 mem run κ a. refl;
  promises = λ M 𝓤 𝓛 mem run κ a g r e. refl;
  once = λ κ a r r' ws ws' p q.
      let e = at_exit reader_take_request.ended κ a ws in
      let e' = at_exit reader_take_request.ended κ a ws' in
      let s = reader_all.take_request_settled κ a r r' e e' p q in
      (λ i. (s i).0, λ i. (at_last a.0 (s i).1, tt));
}

pub settled_stack_answer_number :
    Settled stack_answer_number.ended (λ M 𝓤 𝓛. stack_answer_number.clauses 𝓛) (λ κ r. r)
settled_stack_answer_number = record {
  Post = λ κ a r e. _;
  asks_nothing = λ M 𝓤 𝓛 mem run κ a g. refl;
  asks_no_ghost = λ M 𝓤 𝓛 mem run κ a. refl;
  promises = λ M 𝓤 𝓛 mem run κ a g r e. refl;
  once = λ κ a r r' ws ws' p q.
      let e = at_exit stack_answer_number.ended κ a ws in
      let e' = at_exit stack_answer_number.ended κ a ws' in
      let s = stack_all.answer_number_settled κ a r r' e e' p q in
      (s, refl);
}

pub settled_stack_answer_offset :
    Settled stack_answer_offset.ended (λ M 𝓤 𝓛. stack_answer_offset.clauses 𝓛) (λ κ r. r)
settled_stack_answer_offset = record {
  Post = λ κ a r e. _;
  asks_nothing = λ M 𝓤 𝓛 mem run κ a g. refl;
  asks_no_ghost = λ M 𝓤 𝓛 mem run κ a. refl;
  promises = λ M 𝓤 𝓛 mem run κ a g r e. refl;
  once = λ κ a r r' ws ws' p q.
      let e = at_exit stack_answer_offset.ended κ a ws in
      let e' = at_exit stack_answer_offset.ended κ a ws' in
      let s = stack_all.answer_offset_settled κ a r r' e e' p q in
      (s, refl);
}

pub settled_stack_at_host :
    Settled stack_at_host.ended (λ M 𝓤 𝓛. stack_at_host.clauses 𝓛) (λ κ r. r)
settled_stack_at_host = record {
  Post = λ κ a r e. _;
  asks_nothing = λ M 𝓤 𝓛 mem run κ a g. refl;
  asks_no_ghost = λ M 𝓤 𝓛 mem run κ a. refl;
  promises = λ M 𝓤 𝓛 mem run κ a g r e. refl;
  once = λ κ a r r' ws ws' p q.
      let e = at_exit stack_at_host.ended κ a ws in
      let e' = at_exit stack_at_host.ended κ a ws' in
      let s = stack_all.at_host_settled κ a r r' e e' p q in
      (s, refl);
}

pub settled_stack_at_offset :
    Settled stack_at_offset.ended (λ M 𝓤 𝓛. stack_at_offset.clauses 𝓛) (λ κ r. r)
settled_stack_at_offset = record {
  Post = λ κ a r e. _;
  asks_nothing = λ M 𝓤 𝓛 mem run κ a g. refl;
  asks_no_ghost = λ M 𝓤 𝓛 mem run κ a. refl;
  promises = λ M 𝓤 𝓛 mem run κ a g r e. refl;
  once = λ κ a r r' ws ws' p q.
      let e = at_exit stack_at_offset.ended κ a ws in
      let e' = at_exit stack_at_offset.ended κ a ws' in
      let s = stack_all.at_offset_settled κ a r r' e e' p q in
      (s, refl);
}

pub settled_stack_from_top :
    Settled stack_from_top.ended (λ M 𝓤 𝓛. stack_from_top.clauses 𝓛) (λ κ r. r)
settled_stack_from_top = record {
  Post = λ κ a r e. _;
  asks_nothing = λ M 𝓤 𝓛 mem run κ a g. refl;
  asks_no_ghost = λ M 𝓤 𝓛 mem run κ a. refl;
  promises = λ M 𝓤 𝓛 mem run κ a g r e. refl;
  once = λ κ a r r' ws ws' p q.
      let e = at_exit stack_from_top.ended κ a ws in
      let e' = at_exit stack_from_top.ended κ a ws' in
      let s = stack_all.from_top_settled κ a r r' e e' p q in
      (s, refl);
}

pub settled_stack_is_beyond :
    Settled stack_is_beyond.ended (λ M 𝓤 𝓛. stack_is_beyond.clauses 𝓛) (λ κ r. r)
settled_stack_is_beyond = record {
  Post = λ κ a r e. _;
  asks_nothing = λ M 𝓤 𝓛 mem run κ a g. refl;
  asks_no_ghost = λ M 𝓤 𝓛 mem run κ a. refl;
  promises = λ M 𝓤 𝓛 mem run κ a g r e. refl;
  once = λ κ a r r' ws ws' p q.
      let e = at_exit stack_is_beyond.ended κ a ws in
      let e' = at_exit stack_is_beyond.ended κ a ws' in
      let s = stack_all.is_beyond_settled κ a r r' e e' p q in
      (s, refl);
}

pub settled_stack_is_broken_next :
    Settled stack_is_broken_next.ended (λ M 𝓤 𝓛. stack_is_broken_next.clauses 𝓛) (λ κ r. r)
settled_stack_is_broken_next = record {
  Post = λ κ a r e. _;
  asks_nothing = λ M 𝓤 𝓛 mem run κ a g. refl;
  asks_no_ghost = λ M 𝓤 𝓛 mem run κ a. refl;
  promises = λ M 𝓤 𝓛 mem run κ a g r e. refl;
  once = λ κ a r r' ws ws' p q.
      let e = at_exit stack_is_broken_next.ended κ a ws in
      let e' = at_exit stack_is_broken_next.ended κ a ws' in
      let s = stack_all.is_broken_next_settled κ a r r' e e' p q in
      (s, refl);
}

pub settled_stack_is_broken_state :
    Settled stack_is_broken_state.ended (λ M 𝓤 𝓛. stack_is_broken_state.clauses 𝓛) (λ κ r. r)
settled_stack_is_broken_state = record {
  Post = λ κ a r e. _;
  asks_nothing = λ M 𝓤 𝓛 mem run κ a g. refl;
  asks_no_ghost = λ M 𝓤 𝓛 mem run κ a. refl;
  promises = λ M 𝓤 𝓛 mem run κ a g r e. refl;
  once = λ κ a r r' ws ws' p q.
      let e = at_exit stack_is_broken_state.ended κ a ws in
      let e' = at_exit stack_is_broken_state.ended κ a ws' in
      let s = stack_all.is_broken_state_settled κ a r r' e e' p q in
      (s, refl);
}

pub settled_stack_is_broken_top :
    Settled stack_is_broken_top.ended (λ M 𝓤 𝓛. stack_is_broken_top.clauses 𝓛) (λ κ r. r)
settled_stack_is_broken_top = record {
  Post = λ κ a r e. _;
  asks_nothing = λ M 𝓤 𝓛 mem run κ a g. refl;
  asks_no_ghost = λ M 𝓤 𝓛 mem run κ a. refl;
  promises = λ M 𝓤 𝓛 mem run κ a g r e. refl;
  once = λ κ a r r' ws ws' p q.
      let e = at_exit stack_is_broken_top.ended κ a ws in
      let e' = at_exit stack_is_broken_top.ended κ a ws' in
      let s = stack_all.is_broken_top_settled κ a r r' e e' p q in
      (s, refl);
}

pub settled_stack_is_stray_ip :
    Settled stack_is_stray_ip.ended (λ M 𝓤 𝓛. stack_is_stray_ip.clauses 𝓛) (λ κ r. r)
settled_stack_is_stray_ip = record {
  Post = λ κ a r e. _;
  asks_nothing = λ M 𝓤 𝓛 mem run κ a g. refl;
  asks_no_ghost = λ M 𝓤 𝓛 mem run κ a. refl;
  promises = λ M 𝓤 𝓛 mem run κ a g r e. refl;
  once = λ κ a r r' ws ws' p q.
      let e = at_exit stack_is_stray_ip.ended κ a ws in
      let e' = at_exit stack_is_stray_ip.ended κ a ws' in
      let s = stack_all.is_stray_ip_settled κ a r r' e e' p q in
      (s, refl);
}

pub settled_stack_judge_growth :
    Settled stack_judge_growth.ended (λ M 𝓤 𝓛. stack_judge_growth.clauses 𝓛) (λ κ r. r)
settled_stack_judge_growth = record {
  Post = λ κ a r e. _;
  asks_nothing = λ M 𝓤 𝓛 mem run κ a g. refl;
  asks_no_ghost = λ M 𝓤 𝓛 mem run κ a. refl;
  promises = λ M 𝓤 𝓛 mem run κ a g r e. refl;
  once = λ κ a r r' ws ws' p q.
      let e = at_exit stack_judge_growth.ended κ a ws in
      let e' = at_exit stack_judge_growth.ended κ a ws' in
      let s = stack_all.judge_growth_settled κ a r r' e e' p q in
      (s, refl);
}

pub settled_stack_judge_reset :
    Settled stack_judge_reset.ended (λ M 𝓤 𝓛. stack_judge_reset.clauses 𝓛) (λ κ r. r)
settled_stack_judge_reset = record {
  Post = λ κ a r e. _;
  asks_nothing = λ M 𝓤 𝓛 mem run κ a g. refl;
  asks_no_ghost = λ M 𝓤 𝓛 mem run κ a. refl;
  promises = λ M 𝓤 𝓛 mem run κ a g r e. refl;
  once = λ κ a r r' ws ws' p q.
      let e = at_exit stack_judge_reset.ended κ a ws in
      let e' = at_exit stack_judge_reset.ended κ a ws' in
      let s = stack_all.judge_reset_settled κ a r r' e e' p q in
      (s, refl);
}

pub settled_stack_judge_restore :
    Settled stack_judge_restore.ended (λ M 𝓤 𝓛. stack_judge_restore.clauses 𝓛) (λ κ r. r)
settled_stack_judge_restore = record {
  Post = λ κ a r e. _;
  asks_nothing = λ M 𝓤 𝓛 mem run κ a g. refl;
  asks_no_ghost = λ M 𝓤 𝓛 mem run κ a. refl;
  promises = λ M 𝓤 𝓛 mem run κ a g r e. refl;
  once = λ κ a r r' ws ws' p q.
      let e = at_exit stack_judge_restore.ended κ a ws in
      let e' = at_exit stack_judge_restore.ended κ a ws' in
      let s = stack_all.judge_restore_settled κ a r r' e e' p q in
      (s, refl);
}

pub settled_stack_judge_set :
    Settled stack_judge_set.ended (λ M 𝓤 𝓛. stack_judge_set.clauses 𝓛) (λ κ r. r)
settled_stack_judge_set = record {
  Post = λ κ a r e. _;
  asks_nothing = λ M 𝓤 𝓛 mem run κ a g. refl;
  asks_no_ghost = λ M 𝓤 𝓛 mem run κ a. refl;
  promises = λ M 𝓤 𝓛 mem run κ a g r e. refl;
  once = λ κ a r r' ws ws' p q.
      let e = at_exit stack_judge_set.ended κ a ws in
      let e' = at_exit stack_judge_set.ended κ a ws' in
      let s = stack_all.judge_set_settled κ a r r' e e' p q in
      (s, refl);
}

pub settled_stack_judge_sync :
    Settled stack_judge_sync.ended (λ M 𝓤 𝓛. stack_judge_sync.clauses 𝓛) (λ κ r. r)
settled_stack_judge_sync = record {
  Post = λ κ a r e. _;
  asks_nothing = λ M 𝓤 𝓛 mem run κ a g. refl;
  asks_no_ghost = λ M 𝓤 𝓛 mem run κ a. refl;
  promises = λ M 𝓤 𝓛 mem run κ a g r e. refl;
  once = λ κ a r r' ws ws' p q.
      let e = at_exit stack_judge_sync.ended κ a ws in
      let e' = at_exit stack_judge_sync.ended κ a ws' in
      let s = stack_all.judge_sync_settled κ a r r' e e' p q in
      (s, refl);
}

pub settled_stack_judge_sync_regs :
    Settled stack_judge_sync_regs.ended (λ M 𝓤 𝓛. stack_judge_sync_regs.clauses 𝓛) (λ κ r. r)
settled_stack_judge_sync_regs = record {
  Post = λ κ a r e. _;
  asks_nothing = λ M 𝓤 𝓛 mem run κ a g. refl;
  asks_no_ghost = λ M 𝓤 𝓛 mem run κ a. refl;
  promises = λ M 𝓤 𝓛 mem run κ a g r e. refl;
  once = λ κ a r r' ws ws' p q.
      let e = at_exit stack_judge_sync_regs.ended κ a ws in
      let e' = at_exit stack_judge_sync_regs.ended κ a ws' in
      let s = stack_all.judge_sync_regs_settled κ a r r' e e' p q in
      (s, refl);
}

pub settled_stack_moved_state :
    Settled stack_moved_state.ended (λ M 𝓤 𝓛. stack_moved_state.clauses 𝓛) (λ κ r. r)
settled_stack_moved_state = record {
  Post = λ κ a r e. _;
  asks_nothing = λ M 𝓤 𝓛 mem run κ a g. refl;
  asks_no_ghost = λ M 𝓤 𝓛 mem run κ a. refl;
  promises = λ M 𝓤 𝓛 mem run κ a g r e. refl;
  once = λ κ a r r' ws ws' p q.
      let e = at_exit stack_moved_state.ended κ a ws in
      let e' = at_exit stack_moved_state.ended κ a ws' in
      let s = stack_all.moved_state_settled κ a r r' e e' p q in
      (s, refl);
}

pub settled_stack_no_host :
    Settled stack_no_host.ended (λ M 𝓤 𝓛. stack_no_host.clauses 𝓛) (λ κ r. r)
settled_stack_no_host = record {
  Post = λ κ a r e. _;
  asks_nothing = λ M 𝓤 𝓛 mem run κ a g. refl;
  asks_no_ghost = λ M 𝓤 𝓛 mem run κ a. refl;
  promises = λ M 𝓤 𝓛 mem run κ a g r e. refl;
  once = λ κ a r r' ws ws' p q.
      let e = at_exit stack_no_host.ended κ a ws in
      let e' = at_exit stack_no_host.ended κ a ws' in
      let s = stack_all.no_host_settled κ a r r' e e' p q in
      (s, refl);
}

pub settled_stack_open :
    Settled stack_open.ended (λ M 𝓤 𝓛. stack_open.clauses 𝓛) (λ κ r. r)
settled_stack_open = record {
  Post = λ κ a r e. _;
  asks_nothing = λ M 𝓤 𝓛 mem run κ a g. refl;
  asks_no_ghost = λ M 𝓤 𝓛 mem run κ a. refl;
  promises = λ M 𝓤 𝓛 mem run κ a g r e. refl;
  once = λ κ a r r' ws ws' p q.
      let e = at_exit stack_open.ended κ a ws in
      let e' = at_exit stack_open.ended κ a ws' in
      let s = stack_all.open_settled κ a r r' e e' p q in
      (s, refl);
}

pub settled_stack_refused :
    Settled stack_refused.ended (λ M 𝓤 𝓛. stack_refused.clauses 𝓛) (λ κ r. r)
settled_stack_refused = record {
  Post = λ κ a r e. _;
  asks_nothing = λ M 𝓤 𝓛 mem run κ a g. refl;
  asks_no_ghost = λ M 𝓤 𝓛 mem run κ a. refl;
  promises = λ M 𝓤 𝓛 mem run κ a g r e. refl;
  once = λ κ a r r' ws ws' p q.
      let e = at_exit stack_refused.ended κ a ws in
      let e' = at_exit stack_refused.ended κ a ws' in
      let s = stack_all.refused_settled κ a r r' e e' p q in
      (s, refl);
}

pub settled_stack_reset :
    Settled stack_reset.ended (λ M 𝓤 𝓛. stack_reset.clauses 𝓛) (λ κ r. r)
settled_stack_reset = record {
  Post = λ κ a r e. _;
  asks_nothing = λ M 𝓤 𝓛 mem run κ a g. refl;
  asks_no_ghost = λ M 𝓤 𝓛 mem run κ a. refl;
  promises = λ M 𝓤 𝓛 mem run κ a g r e. refl;
  once = λ κ a r r' ws ws' p q.
      let e = at_exit stack_reset.ended κ a ws in
      let e' = at_exit stack_reset.ended κ a ws' in
      let s = stack_all.reset_settled κ a r r' e e' p q in
      (s, refl);
}

pub settled_stack_restore_frame :
    Settled stack_restore_frame.ended (λ M 𝓤 𝓛. stack_restore_frame.clauses 𝓛) (λ κ r. r)
settled_stack_restore_frame = record {
  Post = λ κ a r e. _;
  asks_nothing = λ M 𝓤 𝓛 mem run κ a g. refl;
  asks_no_ghost = λ M 𝓤 𝓛 mem run κ a. refl;
  promises = λ M 𝓤 𝓛 mem run κ a g r e. refl;
  once = λ κ a r r' ws ws' p q.
      let e = at_exit stack_restore_frame.ended κ a ws in
      let e' = at_exit stack_restore_frame.ended κ a ws' in
      let s = stack_all.restore_frame_settled κ a r r' e e' p q in
      (s, refl);
}

pub settled_stack_set :
    Settled stack_set.ended (λ M 𝓤 𝓛. stack_set.clauses 𝓛) (λ κ r. r)
settled_stack_set = record {
  Post = λ κ a r e. _;
  asks_nothing = λ M 𝓤 𝓛 mem run κ a g. refl;
  asks_no_ghost = λ M 𝓤 𝓛 mem run κ a. refl;
  promises = λ M 𝓤 𝓛 mem run κ a g r e. refl;
  once = λ κ a r r' ws ws' p q.
      let e = at_exit stack_set.ended κ a ws in
      let e' = at_exit stack_set.ended κ a ws' in
      let s = stack_all.set_settled κ a r r' e e' p q in
      (λ i. (s i).0, λ i. (a.0, (a.1.0, (at_last a.1.1.0 (s i).1, (a.1.1.1.0, (a.1.1.1.1.0, tt))))));
}

pub settled_stack_step_reset :
    Settled stack_step_reset.ended (λ M 𝓤 𝓛. stack_step_reset.clauses 𝓛) (λ κ r. r)
settled_stack_step_reset = record {
  Post = λ κ a r e. _;
  asks_nothing = λ M 𝓤 𝓛 mem run κ a g. refl;
  asks_no_ghost = λ M 𝓤 𝓛 mem run κ a. refl;
  promises = λ M 𝓤 𝓛 mem run κ a g r e. refl;
  once = λ κ a r r' ws ws' p q.
      let e = at_exit stack_step_reset.ended κ a ws in
      let e' = at_exit stack_step_reset.ended κ a ws' in
      let s = stack_all.step_reset_settled κ a r r' e e' p q in
      (s, refl);
}

pub settled_stack_step_restore :
    Settled stack_step_restore.ended (λ M 𝓤 𝓛. stack_step_restore.clauses 𝓛) (λ κ r. r)
settled_stack_step_restore = record {
  Post = λ κ a r e. _;
  asks_nothing = λ M 𝓤 𝓛 mem run κ a g. refl;
  asks_no_ghost = λ M 𝓤 𝓛 mem run κ a. refl;
  promises = λ M 𝓤 𝓛 mem run κ a g r e. refl;
  once = λ κ a r r' ws ws' p q.
      let e = at_exit stack_step_restore.ended κ a ws in
      let e' = at_exit stack_step_restore.ended κ a ws' in
      let s = stack_all.step_restore_settled κ a r r' e e' p q in
      (s, refl);
}

pub settled_stack_step_return :
    Settled stack_step_return.ended (λ M 𝓤 𝓛. stack_step_return.clauses 𝓛) (λ κ r. r)
settled_stack_step_return = record {
  Post = λ κ a r e. _;
  asks_nothing = λ M 𝓤 𝓛 mem run κ a g. refl;
  asks_no_ghost = λ M 𝓤 𝓛 mem run κ a. refl;
  promises = λ M 𝓤 𝓛 mem run κ a g r e. refl;
  once = λ κ a r r' ws ws' p q.
      let e = at_exit stack_step_return.ended κ a ws in
      let e' = at_exit stack_step_return.ended κ a ws' in
      let s = stack_all.step_return_settled κ a r r' e e' p q in
      (s, refl);
}

pub settled_stack_step_set :
    Settled stack_step_set.ended (λ M 𝓤 𝓛. stack_step_set.clauses 𝓛) (λ κ r. r)
settled_stack_step_set = record {
  Post = λ κ a r e. _;
  asks_nothing = λ M 𝓤 𝓛 mem run κ a g. refl;
  asks_no_ghost = λ M 𝓤 𝓛 mem run κ a. refl;
  promises = λ M 𝓤 𝓛 mem run κ a g r e. refl;
  once = λ κ a r r' ws ws' p q.
      let e = at_exit stack_step_set.ended κ a ws in
      let e' = at_exit stack_step_set.ended κ a ws' in
      let s = stack_all.step_set_settled κ a r r' e e' p q in
      (λ i. (s i).0, λ i. (a.0, (a.1.0, (at_last a.1.1.0 (s i).1, (a.1.1.1.0, (a.1.1.1.1.0, tt))))));
}

pub settled_stack_step_sync :
    Settled stack_step_sync.ended (λ M 𝓤 𝓛. stack_step_sync.clauses 𝓛) (λ κ r. r)
settled_stack_step_sync = record {
  Post = λ κ a r e. _;
  asks_nothing = λ M 𝓤 𝓛 mem run κ a g. refl;
  asks_no_ghost = λ M 𝓤 𝓛 mem run κ a. refl;
  promises = λ M 𝓤 𝓛 mem run κ a g r e. refl;
  once = λ κ a r r' ws ws' p q.
      let e = at_exit stack_step_sync.ended κ a ws in
      let e' = at_exit stack_step_sync.ended κ a ws' in
      let s = stack_all.step_sync_settled κ a r r' e e' p q in
      (λ i. (s i).0, λ i. (a.0, (at_last a.1.0 (s i).1, (a.1.1.0, (a.1.1.1.0, (a.1.1.1.1.0, tt))))));
}

pub settled_stack_store_ip :
    Settled stack_store_ip.ended (λ M 𝓤 𝓛. stack_store_ip.clauses 𝓛) (λ κ r. r)
settled_stack_store_ip = record {
  Post = λ κ a r e. _;
  asks_nothing = λ M 𝓤 𝓛 mem run κ a g. refl;
  asks_no_ghost = λ M 𝓤 𝓛 mem run κ a. refl;
  promises = λ M 𝓤 𝓛 mem run κ a g r e. refl;
  once = λ κ a r r' ws ws' p q.
      let e = at_exit stack_store_ip.ended κ a ws in
      let e' = at_exit stack_store_ip.ended κ a ws' in
      let s = stack_all.store_ip_settled κ a r r' e e' p q in
      (refl, λ i. (at_last a.0 (s i), (a.1.0, (a.1.1.0, (a.1.1.1.0, tt)))));
}

pub settled_stack_sync_ip :
    Settled stack_sync_ip.ended (λ M 𝓤 𝓛. stack_sync_ip.clauses 𝓛) (λ κ r. r)
settled_stack_sync_ip = record {
  Post = λ κ a r e. _;
  asks_nothing = λ M 𝓤 𝓛 mem run κ a g. refl;
  asks_no_ghost = λ M 𝓤 𝓛 mem run κ a. refl;
  promises = λ M 𝓤 𝓛 mem run κ a g r e. refl;
  once = λ κ a r r' ws ws' p q.
      let e = at_exit stack_sync_ip.ended κ a ws in
      let e' = at_exit stack_sync_ip.ended κ a ws' in
      let s = stack_all.stack_sync_ip_settled κ a r r' e e' p q in
      (λ i. (s i).0, λ i. (a.0, (at_last a.1.0 (s i).1, (a.1.1.0, (a.1.1.1.0, tt)))));
}

pub settled_stack_sync_regs :
    Settled stack_sync_regs.ended (λ M 𝓤 𝓛. stack_sync_regs.clauses 𝓛) (λ κ r. r)
settled_stack_sync_regs = record {
  Post = λ κ a r e. _;
  asks_nothing = λ M 𝓤 𝓛 mem run κ a g. refl;
  asks_no_ghost = λ M 𝓤 𝓛 mem run κ a. refl;
  promises = λ M 𝓤 𝓛 mem run κ a g r e. refl;
  once = λ κ a r r' ws ws' p q.
      let e = at_exit stack_sync_regs.ended κ a ws in
      let e' = at_exit stack_sync_regs.ended κ a ws' in
      let s = stack_all.sync_regs_settled κ a r r' e e' p q in
      (s, refl);
}

pub settled_stack_top_start :
    Settled stack_top_start.ended (λ M 𝓤 𝓛. stack_top_start.clauses 𝓛) (λ κ r. r)
settled_stack_top_start = record {
  Post = λ κ a r e. _;
  asks_nothing = λ M 𝓤 𝓛 mem run κ a g. refl;
  asks_no_ghost = λ M 𝓤 𝓛 mem run κ a. refl;
  promises = λ M 𝓤 𝓛 mem run κ a g r e. refl;
  once = λ κ a r r' ws ws' p q.
      let e = at_exit stack_top_start.ended κ a ws in
      let e' = at_exit stack_top_start.ended κ a ws' in
      let s = stack_all.top_start_settled κ a r r' e e' p q in
      (s, refl);
}

pub settled_stack_calls_are_bad_counts :
    Settled stack_calls_are_bad_counts.ended (λ M 𝓤 𝓛. stack_calls_are_bad_counts.clauses 𝓛) (λ κ r. r)
settled_stack_calls_are_bad_counts = record {
  Post = λ κ a r e. _;
  asks_nothing = λ M 𝓤 𝓛 mem run κ a g. refl;
  asks_no_ghost = λ M 𝓤 𝓛 mem run κ a. refl;
  promises = λ M 𝓤 𝓛 mem run κ a g r e. refl;
  once = λ κ a r r' ws ws' p q.
      let e = at_exit stack_calls_are_bad_counts.ended κ a ws in
      let e' = at_exit stack_calls_are_bad_counts.ended κ a ws' in
      let s = stack_calls_all.are_bad_counts_settled κ a r r' e e' p q in
      (s, refl);
}

pub settled_stack_calls_judge_pop :
    Settled stack_calls_judge_pop.ended (λ M 𝓤 𝓛. stack_calls_judge_pop.clauses 𝓛) (λ κ r. r)
settled_stack_calls_judge_pop = record {
  Post = λ κ a r e. _;
  asks_nothing = λ M 𝓤 𝓛 mem run κ a g. refl;
  asks_no_ghost = λ M 𝓤 𝓛 mem run κ a. refl;
  promises = λ M 𝓤 𝓛 mem run κ a g r e. refl;
  once = λ κ a r r' ws ws' p q.
      let e = at_exit stack_calls_judge_pop.ended κ a ws in
      let e' = at_exit stack_calls_judge_pop.ended κ a ws' in
      let s = stack_calls_all.judge_pop_settled κ a r r' e e' p q in
      (s, refl);
}

pub settled_stack_calls_judge_push :
    Settled stack_calls_judge_push.ended (λ M 𝓤 𝓛. stack_calls_judge_push.clauses 𝓛) (λ κ r. r)
settled_stack_calls_judge_push = record {
  Post = λ κ a r e. _;
  asks_nothing = λ M 𝓤 𝓛 mem run κ a g. refl;
  asks_no_ghost = λ M 𝓤 𝓛 mem run κ a. refl;
  promises = λ M 𝓤 𝓛 mem run κ a g r e. refl;
  once = λ κ a r r' ws ws' p q.
      let e = at_exit stack_calls_judge_push.ended κ a ws in
      let e' = at_exit stack_calls_judge_push.ended κ a ws' in
      let s = stack_calls_all.judge_push_settled κ a r r' e e' p q in
      (s, refl);
}

pub settled_stack_calls_judge_replace :
    Settled stack_calls_judge_replace.ended (λ M 𝓤 𝓛. stack_calls_judge_replace.clauses 𝓛) (λ κ r. r)
settled_stack_calls_judge_replace = record {
  Post = λ κ a r e. _;
  asks_nothing = λ M 𝓤 𝓛 mem run κ a g. refl;
  asks_no_ghost = λ M 𝓤 𝓛 mem run κ a. refl;
  promises = λ M 𝓤 𝓛 mem run κ a g r e. refl;
  once = λ κ a r r' ws ws' p q.
      let e = at_exit stack_calls_judge_replace.ended κ a ws in
      let e' = at_exit stack_calls_judge_replace.ended κ a ws' in
      let s = stack_calls_all.judge_replace_settled κ a r r' e e' p q in
      (s, refl);
}

pub settled_stack_calls_pop_frame :
    Settled stack_calls_pop_frame.ended (λ M 𝓤 𝓛. stack_calls_pop_frame.clauses 𝓛) (λ κ r. r)
settled_stack_calls_pop_frame = record {
  Post = λ κ a r e. _;
  asks_nothing = λ M 𝓤 𝓛 mem run κ a g. refl;
  asks_no_ghost = λ M 𝓤 𝓛 mem run κ a. refl;
  promises = λ M 𝓤 𝓛 mem run κ a g r e. refl;
  once = λ κ a r r' ws ws' p q.
      let e = at_exit stack_calls_pop_frame.ended κ a ws in
      let e' = at_exit stack_calls_pop_frame.ended κ a ws' in
      let s = stack_calls_all.pop_frame_settled κ a r r' e e' p q in
      (s, refl);
}

pub settled_stack_calls_push_frame :
    Settled stack_calls_push_frame.ended (λ M 𝓤 𝓛. stack_calls_push_frame.clauses 𝓛) (λ κ r. r)
settled_stack_calls_push_frame = record {
  Post = λ κ a r e. _;
  asks_nothing = λ M 𝓤 𝓛 mem run κ a g. refl;
  asks_no_ghost = λ M 𝓤 𝓛 mem run κ a. refl;
  promises = λ M 𝓤 𝓛 mem run κ a g r e. refl;
  once = λ κ a r r' ws ws' p q.
      let e = at_exit stack_calls_push_frame.ended κ a ws in
      let e' = at_exit stack_calls_push_frame.ended κ a ws' in
      let s = stack_calls_all.push_frame_settled κ a r r' e e' p q in
      (λ i. (s i).0, λ i. (a.0, (at_last a.1.0 (s i).1.0, (at_last a.1.1.0 (s i).1.1, (a.1.1.1.0, tt)))));
}

pub settled_stack_calls_replace_frame :
    Settled stack_calls_replace_frame.ended (λ M 𝓤 𝓛. stack_calls_replace_frame.clauses 𝓛) (λ κ r. r)
settled_stack_calls_replace_frame = record {
  Post = λ κ a r e. _;
  asks_nothing = λ M 𝓤 𝓛 mem run κ a g. refl;
  asks_no_ghost = λ M 𝓤 𝓛 mem run κ a. refl;
  promises = λ M 𝓤 𝓛 mem run κ a g r e. refl;
  once = λ κ a r r' ws ws' p q.
      let e = at_exit stack_calls_replace_frame.ended κ a ws in
      let e' = at_exit stack_calls_replace_frame.ended κ a ws' in
      let s = stack_calls_all.replace_frame_settled κ a r r' e e' p q in
      (λ i. (s i).0, λ i. (a.0, (at_last a.1.0 (s i).1.0, (at_last a.1.1.0 (s i).1.1, (a.1.1.1.0, tt)))));
}

pub settled_stack_calls_step_pop :
    Settled stack_calls_step_pop.ended (λ M 𝓤 𝓛. stack_calls_step_pop.clauses 𝓛) (λ κ r. r)
settled_stack_calls_step_pop = record {
  Post = λ κ a r e. _;
  asks_nothing = λ M 𝓤 𝓛 mem run κ a g. refl;
  asks_no_ghost = λ M 𝓤 𝓛 mem run κ a. refl;
  promises = λ M 𝓤 𝓛 mem run κ a g r e. refl;
  once = λ κ a r r' ws ws' p q.
      let e = at_exit stack_calls_step_pop.ended κ a ws in
      let e' = at_exit stack_calls_step_pop.ended κ a ws' in
      let s = stack_calls_all.step_pop_settled κ a r r' e e' p q in
      (s, refl);
}

pub settled_stack_calls_step_push :
    Settled stack_calls_step_push.ended (λ M 𝓤 𝓛. stack_calls_step_push.clauses 𝓛) (λ κ r. r)
settled_stack_calls_step_push = record {
  Post = λ κ a r e. _;
  asks_nothing = λ M 𝓤 𝓛 mem run κ a g. refl;
  asks_no_ghost = λ M 𝓤 𝓛 mem run κ a. refl;
  promises = λ M 𝓤 𝓛 mem run κ a g r e. refl;
  once = λ κ a r r' ws ws' p q.
      let e = at_exit stack_calls_step_push.ended κ a ws in
      let e' = at_exit stack_calls_step_push.ended κ a ws' in
      let s = stack_calls_all.step_push_settled κ a r r' e e' p q in
      (λ i. (s i).0, λ i. (a.0, (at_last a.1.0 (s i).1.0, (at_last a.1.1.0 (s i).1.1, (a.1.1.1.0, (a.1.1.1.1.0, tt))))));
}

pub settled_stack_calls_step_replace :
    Settled stack_calls_step_replace.ended (λ M 𝓤 𝓛. stack_calls_step_replace.clauses 𝓛) (λ κ r. r)
settled_stack_calls_step_replace = record {
  Post = λ κ a r e. _;
  asks_nothing = λ M 𝓤 𝓛 mem run κ a g. refl;
  asks_no_ghost = λ M 𝓤 𝓛 mem run κ a. refl;
  promises = λ M 𝓤 𝓛 mem run κ a g r e. refl;
  once = λ κ a r r' ws ws' p q.
      let e = at_exit stack_calls_step_replace.ended κ a ws in
      let e' = at_exit stack_calls_step_replace.ended κ a ws' in
      let s = stack_calls_all.step_replace_settled κ a r r' e e' p q in
      (λ i. (s i).0, λ i. (a.0, (at_last a.1.0 (s i).1.0, (at_last a.1.1.0 (s i).1.1, (a.1.1.1.0, (a.1.1.1.1.0, tt))))));
}

pub settled_stack_hosts_call_host :
    Settled stack_hosts_call_host.ended (λ M 𝓤 𝓛. stack_hosts_call_host.clauses 𝓛) (λ κ r. r)
settled_stack_hosts_call_host = record {
  Post = λ κ a r e. _;
  asks_nothing = λ M 𝓤 𝓛 mem run κ a g. refl;
  asks_no_ghost = λ M 𝓤 𝓛 mem run κ a. refl;
  promises = λ M 𝓤 𝓛 mem run κ a g r e. refl;
  once = λ κ a r r' ws ws' p q.
      let e = at_exit stack_hosts_call_host.ended κ a ws in
      let e' = at_exit stack_hosts_call_host.ended κ a ws' in
      let s = stack_hosts_all.call_host_settled κ a r r' e e' p q in
      (λ i. (s i).0, λ i. (a.0, (a.1.0, (at_last a.1.1.0 (s i).1, (a.1.1.1.0, tt)))));
}

pub settled_stack_hosts_host_inout :
    Settled stack_hosts_host_inout.ended (λ M 𝓤 𝓛. stack_hosts_host_inout.clauses 𝓛) (λ κ r. r)
settled_stack_hosts_host_inout = record {
  Post = λ κ a r e. _;
  asks_nothing = λ M 𝓤 𝓛 mem run κ a g. refl;
  asks_no_ghost = λ M 𝓤 𝓛 mem run κ a. refl;
  promises = λ M 𝓤 𝓛 mem run κ a g r e. refl;
  once = λ κ a r r' ws ws' p q.
      let e = at_exit stack_hosts_host_inout.ended κ a ws in
      let e' = at_exit stack_hosts_host_inout.ended κ a ws' in
      let s = stack_hosts_all.host_inout_settled κ a r r' e e' p q in
      (s, refl);
}

pub settled_stack_hosts_host_params :
    Settled stack_hosts_host_params.ended (λ M 𝓤 𝓛. stack_hosts_host_params.clauses 𝓛) (λ κ r. beside r.ref_ptr r.now)
settled_stack_hosts_host_params = record {
  Post = λ κ a r e. _;
  asks_nothing = λ M 𝓤 𝓛 mem run κ a g. refl;
  asks_no_ghost = λ M 𝓤 𝓛 mem run κ a. refl;
  promises = λ M 𝓤 𝓛 mem run κ a g r e. refl;
  once = λ κ a r r' ws ws' p q.
      let e = at_exit stack_hosts_host_params.ended κ a ws in
      let e' = at_exit stack_hosts_host_params.ended κ a ws' in
      let s = stack_hosts_all.stack_host_params_settled κ a r r' e e' p q in
      (s, refl);
}

pub settled_stack_hosts_host_results :
    Settled stack_hosts_host_results.ended (λ M 𝓤 𝓛. stack_hosts_host_results.clauses 𝓛) (λ κ r. beside r.ref_ptr r.now)
settled_stack_hosts_host_results = record {
  Post = λ κ a r e. _;
  asks_nothing = λ M 𝓤 𝓛 mem run κ a g. refl;
  asks_no_ghost = λ M 𝓤 𝓛 mem run κ a. refl;
  promises = λ M 𝓤 𝓛 mem run κ a g r e. refl;
  once = λ κ a r r' ws ws' p q.
      let e = at_exit stack_hosts_host_results.ended κ a ws in
      let e' = at_exit stack_hosts_host_results.ended κ a ws' in
      let s = stack_hosts_all.stack_host_results_settled κ a r r' e e' p q in
      (s, refl);
}

pub settled_stack_hosts_judge_host :
    Settled stack_hosts_judge_host.ended (λ M 𝓤 𝓛. stack_hosts_judge_host.clauses 𝓛) (λ κ r. r)
settled_stack_hosts_judge_host = record {
  Post = λ κ a r e. _;
  asks_nothing = λ M 𝓤 𝓛 mem run κ a g. refl;
  asks_no_ghost = λ M 𝓤 𝓛 mem run κ a. refl;
  promises = λ M 𝓤 𝓛 mem run κ a g r e. refl;
  once = λ κ a r r' ws ws' p q.
      let e = at_exit stack_hosts_judge_host.ended κ a ws in
      let e' = at_exit stack_hosts_judge_host.ended κ a ws' in
      let s = stack_hosts_all.judge_host_settled κ a r r' e e' p q in
      (s, refl);
}

pub settled_stack_hosts_judge_host_part :
    Settled stack_hosts_judge_host_part.ended (λ M 𝓤 𝓛. stack_hosts_judge_host_part.clauses 𝓛) (λ κ r. r)
settled_stack_hosts_judge_host_part = record {
  Post = λ κ a r e. _;
  asks_nothing = λ M 𝓤 𝓛 mem run κ a g. refl;
  asks_no_ghost = λ M 𝓤 𝓛 mem run κ a. refl;
  promises = λ M 𝓤 𝓛 mem run κ a g r e. refl;
  once = λ κ a r r' ws ws' p q.
      let e = at_exit stack_hosts_judge_host_part.ended κ a ws in
      let e' = at_exit stack_hosts_judge_host_part.ended κ a ws' in
      let s = stack_hosts_all.judge_host_part_settled κ a r r' e e' p q in
      (s, refl);
}

pub settled_stack_hosts_judge_return_host :
    Settled stack_hosts_judge_return_host.ended (λ M 𝓤 𝓛. stack_hosts_judge_return_host.clauses 𝓛) (λ κ r. r)
settled_stack_hosts_judge_return_host = record {
  Post = λ κ a r e. _;
  asks_nothing = λ M 𝓤 𝓛 mem run κ a g. refl;
  asks_no_ghost = λ M 𝓤 𝓛 mem run κ a. refl;
  promises = λ M 𝓤 𝓛 mem run κ a g r e. refl;
  once = λ κ a r r' ws ws' p q.
      let e = at_exit stack_hosts_judge_return_host.ended κ a ws in
      let e' = at_exit stack_hosts_judge_return_host.ended κ a ws' in
      let s = stack_hosts_all.judge_return_host_settled κ a r r' e e' p q in
      (s, refl);
}

pub settled_stack_hosts_prepare_host_frame :
    Settled stack_hosts_prepare_host_frame.ended (λ M 𝓤 𝓛. stack_hosts_prepare_host_frame.clauses 𝓛) (λ κ r. r)
settled_stack_hosts_prepare_host_frame = record {
  Post = λ κ a r e. _;
  asks_nothing = λ M 𝓤 𝓛 mem run κ a g. refl;
  asks_no_ghost = λ M 𝓤 𝓛 mem run κ a. refl;
  promises = λ M 𝓤 𝓛 mem run κ a g r e. refl;
  once = λ κ a r r' ws ws' p q.
      let e = at_exit stack_hosts_prepare_host_frame.ended κ a ws in
      let e' = at_exit stack_hosts_prepare_host_frame.ended κ a ws' in
      let s = stack_hosts_all.stack_prepare_host_frame_settled κ a r r' e e' p q in
      (λ i. (s i).0, λ i. (a.0, (at_last a.1.0 (s i).1.0, (at_last a.1.1.0 (s i).1.1, (a.1.1.1.0, tt)))));
}

pub settled_stack_hosts_return_prepare_host_frame :
    Settled stack_hosts_return_prepare_host_frame.ended (λ M 𝓤 𝓛. stack_hosts_return_prepare_host_frame.clauses 𝓛) (λ κ r. r)
settled_stack_hosts_return_prepare_host_frame = record {
  Post = λ κ a r e. _;
  asks_nothing = λ M 𝓤 𝓛 mem run κ a g. refl;
  asks_no_ghost = λ M 𝓤 𝓛 mem run κ a. refl;
  promises = λ M 𝓤 𝓛 mem run κ a g r e. refl;
  once = λ κ a r r' ws ws' p q.
      let e = at_exit stack_hosts_return_prepare_host_frame.ended κ a ws in
      let e' = at_exit stack_hosts_return_prepare_host_frame.ended κ a ws' in
      let s = stack_hosts_all.stack_return_prepare_host_frame_settled κ a r r' e e' p q in
      (λ i. (s i).0, λ i. (a.0, (a.1.0, (at_last a.1.1.0 (s i).1, (a.1.1.1.0, tt)))));
}

pub settled_stack_hosts_step_host :
    Settled stack_hosts_step_host.ended (λ M 𝓤 𝓛. stack_hosts_step_host.clauses 𝓛) (λ κ r. r)
settled_stack_hosts_step_host = record {
  Post = λ κ a r e. _;
  asks_nothing = λ M 𝓤 𝓛 mem run κ a g. refl;
  asks_no_ghost = λ M 𝓤 𝓛 mem run κ a. refl;
  promises = λ M 𝓤 𝓛 mem run κ a g r e. refl;
  once = λ κ a r r' ws ws' p q.
      let e = at_exit stack_hosts_step_host.ended κ a ws in
      let e' = at_exit stack_hosts_step_host.ended κ a ws' in
      let s = stack_hosts_all.step_host_settled κ a r r' e e' p q in
      (λ i. (s i).0, λ i. (a.0, (at_last a.1.0 (s i).1.0, (at_last a.1.1.0 (s i).1.1, (a.1.1.1.0, (a.1.1.1.1.0, tt))))));
}

pub settled_stack_hosts_step_return_host :
    Settled stack_hosts_step_return_host.ended (λ M 𝓤 𝓛. stack_hosts_step_return_host.clauses 𝓛) (λ κ r. r)
settled_stack_hosts_step_return_host = record {
  Post = λ κ a r e. _;
  asks_nothing = λ M 𝓤 𝓛 mem run κ a g. refl;
  asks_no_ghost = λ M 𝓤 𝓛 mem run κ a. refl;
  promises = λ M 𝓤 𝓛 mem run κ a g r e. refl;
  once = λ κ a r r' ws ws' p q.
      let e = at_exit stack_hosts_step_return_host.ended κ a ws in
      let e' = at_exit stack_hosts_step_return_host.ended κ a ws' in
      let s = stack_hosts_all.step_return_host_settled κ a r r' e e' p q in
      (λ i. (s i).0, λ i. (a.0, (a.1.0, (at_last a.1.1.0 (s i).1, (a.1.1.1.0, (a.1.1.1.1.0, tt))))));
}

pub settled_lines_write_line :
    Settled lines_write_line.ended (λ M 𝓤 𝓛. lines_write_line.clauses 𝓛) (λ κ r. r)
settled_lines_write_line = record {
  Post = λ κ a r e. _;
  asks_nothing = λ M 𝓤 𝓛 mem run κ a g. refl;
  asks_no_ghost = λ M 𝓤 𝓛 mem run κ a. refl;
  promises = λ M 𝓤 𝓛 mem run κ a g r e. refl;
  once = λ κ a r r' ws ws' p q.
      let e = at_exit lines_write_line.ended κ a ws in
      let e' = at_exit lines_write_line.ended κ a ws' in
      let s = lines_all.write_line_settled κ a r r' e e' p q in
      (λ i. (s i).0, λ i. (at_last a.0 (s i).1, (a.1.0, (a.1.1.0, tt))));
}

pub settled_lines_write_spent :
    Settled lines_write_spent.ended (λ M 𝓤 𝓛. lines_write_spent.clauses 𝓛) (λ κ r. r)
settled_lines_write_spent = record {
  Post = λ κ a r e. _;
  asks_nothing = λ M 𝓤 𝓛 mem run κ a g. refl;
  asks_no_ghost = λ M 𝓤 𝓛 mem run κ a. refl;
  promises = λ M 𝓤 𝓛 mem run κ a g r e. refl;
  once = λ κ a r r' ws ws' p q.
      let e = at_exit lines_write_spent.ended κ a ws in
      let e' = at_exit lines_write_spent.ended κ a ws' in
      let s = lines_all.write_spent_settled κ a r r' e e' p q in
      (λ i. (s i).0, λ i. (at_last a.0 (s i).1, (a.1.0, (a.1.1.0, tt))));
}

pub settled_lines_write_stopped :
    Settled lines_write_stopped.ended (λ M 𝓤 𝓛. lines_write_stopped.clauses 𝓛) (λ κ r. r)
settled_lines_write_stopped = record {
  Post = λ κ a r e. _;
  asks_nothing = λ M 𝓤 𝓛 mem run κ a g. refl;
  asks_no_ghost = λ M 𝓤 𝓛 mem run κ a. refl;
  promises = λ M 𝓤 𝓛 mem run κ a g r e. refl;
  once = λ κ a r r' ws ws' p q.
      let e = at_exit lines_write_stopped.ended κ a ws in
      let e' = at_exit lines_write_stopped.ended κ a ws' in
      let s = lines_all.write_stopped_settled κ a r r' e e' p q in
      (λ i. (s i).0, λ i. (at_last a.0 (s i).1, (a.1.0, (a.1.1.0, (a.1.1.1.0, tt)))));
}

pub settled_ask_ask :
    Settled ask_ask.ended (λ M 𝓤 𝓛. ask_ask.clauses 𝓛) (λ κ r. r)
settled_ask_ask = record {
  Post = λ κ a r e. _;
  asks_nothing = λ M 𝓤 𝓛 mem run κ a g. refl;
  asks_no_ghost = λ M 𝓤 𝓛 mem run κ a. refl;
  promises = λ M 𝓤 𝓛 mem run κ a g r e. refl;
  once = λ κ a r r' ws ws' p q.
      let e = at_exit ask_ask.ended κ a ws in
      let e' = at_exit ask_ask.ended κ a ws' in
      let s = ask_all.ask_settled κ a r r' e e' p q in
      (λ i. (s i).0, λ i. (a.0, (at_last a.1.0 (s i).1.0, (at_last a.1.1.0 (s i).1.1, (a.1.1.1.0, tt)))));
}

pub settled_replay_cost_of :
    Settled replay_cost_of.ended (λ M 𝓤 𝓛. replay_cost_of.clauses 𝓛) (λ κ r. r)
settled_replay_cost_of = record {
  Post = λ κ a r e. _;
  asks_nothing = λ M 𝓤 𝓛 mem run κ a g. refl;
  asks_no_ghost = λ M 𝓤 𝓛 mem run κ a. refl;
  promises = λ M 𝓤 𝓛 mem run κ a g r e. refl;
  once = λ κ a r r' ws ws' p q.
      let e = at_exit replay_cost_of.ended κ a ws in
      let e' = at_exit replay_cost_of.ended κ a ws' in
      let s = replay_all.cost_of_settled κ a r r' e e' p q in
      (s, refl);
}

pub settled_replay_replay :
    Settled replay_replay.ended (λ M 𝓤 𝓛. replay_replay.clauses 𝓛) (λ κ r. r)
settled_replay_replay = record {
  Post = λ κ a r e. _;
  asks_nothing = λ M 𝓤 𝓛 mem run κ a g. refl;
  asks_no_ghost = λ M 𝓤 𝓛 mem run κ a. refl;
  promises = λ M 𝓤 𝓛 mem run κ a g r e. refl;
  once = λ κ a r r' ws ws' p q.
      let e = at_exit replay_replay.ended κ a ws in
      let e' = at_exit replay_replay.ended κ a ws' in
      let s = replay_all.replay_settled κ a r r' e e' p q in
      (λ i. (s i).0, λ i. (a.0, (at_last a.1.0 (s i).1.0, (at_last a.1.1.0 (s i).1.1, (a.1.1.1.0, tt)))));
}

pub settled_replay_run_next :
    Settled replay_run_next.ended (λ M 𝓤 𝓛. replay_run_next.clauses 𝓛) (λ κ r. r)
settled_replay_run_next = record {
  Post = λ κ a r e. _;
  asks_nothing = λ M 𝓤 𝓛 mem run κ a g. refl;
  asks_no_ghost = λ M 𝓤 𝓛 mem run κ a. refl;
  promises = λ M 𝓤 𝓛 mem run κ a g r e. refl;
  once = λ κ a r r' ws ws' p q.
      let e = at_exit replay_run_next.ended κ a ws in
      let e' = at_exit replay_run_next.ended κ a ws' in
      let s = replay_all.run_next_settled κ a r r' e e' p q in
      (λ i. (s i).0, λ i. (a.0, (at_last a.1.0 (s i).1.0, (at_last a.1.1.0 (s i).1.1, (a.1.1.1.0, (a.1.1.1.1.0, tt))))));
}

pub settled_replay_run_record :
    Settled replay_run_record.ended (λ M 𝓤 𝓛. replay_run_record.clauses 𝓛) (λ κ r. r)
settled_replay_run_record = record {
  Post = λ κ a r e. _;
  asks_nothing = λ M 𝓤 𝓛 mem run κ a g. refl;
  asks_no_ghost = λ M 𝓤 𝓛 mem run κ a. refl;
  promises = λ M 𝓤 𝓛 mem run κ a g r e. refl;
  once = λ κ a r r' ws ws' p q.
      let e = at_exit replay_run_record.ended κ a ws in
      let e' = at_exit replay_run_record.ended κ a ws' in
      let s = replay_all.run_record_settled κ a r r' e e' p q in
      (λ i. (s i).0, λ i. (a.0, (at_last a.1.0 (s i).1.0, (at_last a.1.1.0 (s i).1.1, (a.1.1.1.0, tt)))));
}

pub settled_replay_start :
    Settled replay_start.ended (λ M 𝓤 𝓛. replay_start.clauses 𝓛) (λ κ r. r)
settled_replay_start = record {
  Post = λ κ a r e. _;
  asks_nothing = λ M 𝓤 𝓛 mem run κ a g. refl;
  asks_no_ghost = λ M 𝓤 𝓛 mem run κ a. refl;
  promises = λ M 𝓤 𝓛 mem run κ a g r e. refl;
  once = λ κ a r r' ws ws' p q.
      let e = at_exit replay_start.ended κ a ws in
      let e' = at_exit replay_start.ended κ a ws' in
      let s = replay_all.start_settled κ a r r' e e' p q in
      (s, refl);
}

pub settled_tape_begin :
    Settled tape_begin.ended (λ M 𝓤 𝓛. tape_begin.clauses 𝓛) (λ κ r. r)
settled_tape_begin = record {
  Post = λ κ a r e. _;
  asks_nothing = λ M 𝓤 𝓛 mem run κ a g. refl;
  asks_no_ghost = λ M 𝓤 𝓛 mem run κ a. refl;
  promises = λ M 𝓤 𝓛 mem run κ a g r e. refl;
  once = λ κ a r r' ws ws' p q.
      let e = at_exit tape_begin.ended κ a ws in
      let e' = at_exit tape_begin.ended κ a ws' in
      let s = tape_all.begin_settled κ a r r' e e' p q in
      (s, refl);
}

pub settled_tape_cut_Cut_first_count :
    Settled tape_cut_Cut_first_count.ended (λ M 𝓤 𝓛. tape_cut_Cut_first_count.clauses 𝓛) (λ κ r. r)
settled_tape_cut_Cut_first_count = record {
  Post = λ κ a r e. _;
  asks_nothing = λ M 𝓤 𝓛 mem run κ a g. refl;
  asks_no_ghost = λ M 𝓤 𝓛 mem run κ a. refl;
  promises = λ M 𝓤 𝓛 mem run κ a g r e. refl;
  once = λ κ a r r' ws ws' p q.
      let e = at_exit tape_cut_Cut_first_count.ended κ a ws in
      let e' = at_exit tape_cut_Cut_first_count.ended κ a ws' in
      let s = tape_all.first_count_settled κ a r r' e e' p q in
      (s, refl);
}

pub settled_tape_cut_block :
    Settled tape_cut_block.ended (λ M 𝓤 𝓛. tape_cut_block.clauses 𝓛) (λ κ r. r)
settled_tape_cut_block = record {
  Post = λ κ a r e. _;
  asks_nothing = λ M 𝓤 𝓛 mem run κ a g. refl;
  asks_no_ghost = λ M 𝓤 𝓛 mem run κ a. refl;
  promises = λ M 𝓤 𝓛 mem run κ a g r e. refl;
  once = λ κ a r r' ws ws' p q.
      let e = at_exit tape_cut_block.ended κ a ws in
      let e' = at_exit tape_cut_block.ended κ a ws' in
      let s = tape_all.cut_block_settled κ a r r' e e' p q in
      (s, refl);
}

pub settled_tape_feed :
    Settled tape_feed.ended (λ M 𝓤 𝓛. tape_feed.clauses 𝓛) (λ κ r. r)
settled_tape_feed = record {
  Post = λ κ a r e. _;
  asks_nothing = λ M 𝓤 𝓛 mem run κ a g. refl;
  asks_no_ghost = λ M 𝓤 𝓛 mem run κ a. refl;
  promises = λ M 𝓤 𝓛 mem run κ a g r e. refl;
  once = λ κ a r r' ws ws' p q.
      let e = at_exit tape_feed.ended κ a ws in
      let e' = at_exit tape_feed.ended κ a ws' in
      let s = tape_all.feed_settled κ a r r' e e' p q in
      (λ i. (s i).0, λ i. (at_last a.0 (s i).1.0, (at_last a.1.0 (s i).1.1.0, (at_last a.1.1.0 (s i).1.1.1, (a.1.1.1.0, tt)))));
}

pub settled_tape_finish :
    Settled tape_finish.ended (λ M 𝓤 𝓛. tape_finish.clauses 𝓛) (λ κ r. r)
settled_tape_finish = record {
  Post = λ κ a r e. _;
  asks_nothing = λ M 𝓤 𝓛 mem run κ a g. refl;
  asks_no_ghost = λ M 𝓤 𝓛 mem run κ a. refl;
  promises = λ M 𝓤 𝓛 mem run κ a g r e. refl;
  once = λ κ a r r' ws ws' p q.
      let e = at_exit tape_finish.ended κ a ws in
      let e' = at_exit tape_finish.ended κ a ws' in
      let s = tape_all.finish_settled κ a r r' e e' p q in
      (refl, λ i. (at_last a.0 (s i).0, (at_last a.1.0 (s i).1.0, (at_last a.1.1.0 (s i).1.1, tt))));
}

pub settled_tape_held_count :
    Settled tape_held_count.ended (λ M 𝓤 𝓛. tape_held_count.clauses 𝓛) (λ κ r. r)
settled_tape_held_count = record {
  Post = λ κ a r e. _;
  asks_nothing = λ M 𝓤 𝓛 mem run κ a g. refl;
  asks_no_ghost = λ M 𝓤 𝓛 mem run κ a. refl;
  promises = λ M 𝓤 𝓛 mem run κ a g r e. refl;
  once = λ κ a r r' ws ws' p q.
      let e = at_exit tape_held_count.ended κ a ws in
      let e' = at_exit tape_held_count.ended κ a ws' in
      let s = tape_all.held_count_settled κ a r r' e e' p q in
      (s, refl);
}

pub settled_tape_hold :
    Settled tape_hold.ended (λ M 𝓤 𝓛. tape_hold.clauses 𝓛) (λ κ r. r)
settled_tape_hold = record {
  Post = λ κ a r e. _;
  asks_nothing = λ M 𝓤 𝓛 mem run κ a g. refl;
  asks_no_ghost = λ M 𝓤 𝓛 mem run κ a. refl;
  promises = λ M 𝓤 𝓛 mem run κ a g r e. refl;
  once = λ κ a r r' ws ws' p q.
      let e = at_exit tape_hold.ended κ a ws in
      let e' = at_exit tape_hold.ended κ a ws' in
      let s = tape_all.hold_settled κ a r r' e e' p q in
      (s, refl);
}

pub settled_tape_tape_Tape_rests :
    Settled tape_tape_Tape_rests.ended (λ M 𝓤 𝓛. tape_tape_Tape_rests.clauses 𝓛) (λ κ r. r)
settled_tape_tape_Tape_rests = record {
  Post = λ κ a r e. _;
  asks_nothing = λ M 𝓤 𝓛 mem run κ a g. refl;
  asks_no_ghost = λ M 𝓤 𝓛 mem run κ a. refl;
  promises = λ M 𝓤 𝓛 mem run κ a g r e. refl;
  once = λ κ a r r' ws ws' p q.
      let e = at_exit tape_tape_Tape_rests.ended κ a ws in
      let e' = at_exit tape_tape_Tape_rests.ended κ a ws' in
      let s = tape_all.rests_settled κ a r r' e e' p q in
      (s, refl);
}

pub settled_listing_list_block :
    Settled listing_list_block.ended (λ M 𝓤 𝓛. listing_list_block.clauses 𝓛) (λ κ r. r)
settled_listing_list_block = record {
  Post = λ κ a r e. _;
  asks_nothing = λ M 𝓤 𝓛 mem run κ a g. refl;
  asks_no_ghost = λ M 𝓤 𝓛 mem run κ a. refl;
  promises = λ M 𝓤 𝓛 mem run κ a g r e. refl;
  once = λ κ a r r' ws ws' p q.
      let e = at_exit listing_list_block.ended κ a ws in
      let e' = at_exit listing_list_block.ended κ a ws' in
      let s = listing_all.list_block_settled κ a r r' e e' p q in
      (λ i. (s i).0, λ i. (a.0, (at_last a.1.0 (s i).1.0, (at_last a.1.1.0 (s i).1.1.0, (a.1.1.1.0, (at_last a.1.1.1.1.0 (s i).1.1.1, tt))))));
}

pub settled_listing_list_end :
    Settled listing_list_end.ended (λ M 𝓤 𝓛. listing_list_end.clauses 𝓛) (λ κ r. r)
settled_listing_list_end = record {
  Post = λ κ a r e. _;
  asks_nothing = λ M 𝓤 𝓛 mem run κ a g. refl;
  asks_no_ghost = λ M 𝓤 𝓛 mem run κ a. refl;
  promises = λ M 𝓤 𝓛 mem run κ a g r e. refl;
  once = λ κ a r r' ws ws' p q.
      let e = at_exit listing_list_end.ended κ a ws in
      let e' = at_exit listing_list_end.ended κ a ws' in
      let s = listing_all.list_end_settled κ a r r' e e' p q in
      (λ i. (s i).0, λ i. (a.0, (at_last a.1.0 (s i).1, tt)));
}

pub settled_listing_list_feed :
    Settled listing_list_feed.ended (λ M 𝓤 𝓛. listing_list_feed.clauses 𝓛) (λ κ r. r)
settled_listing_list_feed = record {
  Post = λ κ a r e. _;
  asks_nothing = λ M 𝓤 𝓛 mem run κ a g. refl;
  asks_no_ghost = λ M 𝓤 𝓛 mem run κ a. refl;
  promises = λ M 𝓤 𝓛 mem run κ a g r e. refl;
  once = λ κ a r r' ws ws' p q.
      let e = at_exit listing_list_feed.ended κ a ws in
      let e' = at_exit listing_list_feed.ended κ a ws' in
      let s = listing_all.list_feed_settled κ a r r' e e' p q in
      (λ i. (s i).0, λ i. (at_last a.0 (s i).1.0, (at_last a.1.0 (s i).1.1.0, (at_last a.1.1.0 (s i).1.1.1.0, (a.1.1.1.0, (at_last a.1.1.1.1.0 (s i).1.1.1.1, tt))))));
}

pub settled_listing_list_finish :
    Settled listing_list_finish.ended (λ M 𝓤 𝓛. listing_list_finish.clauses 𝓛) (λ κ r. r)
settled_listing_list_finish = record {
  Post = λ κ a r e. _;
  asks_nothing = λ M 𝓤 𝓛 mem run κ a g. refl;
  asks_no_ghost = λ M 𝓤 𝓛 mem run κ a. refl;
  promises = λ M 𝓤 𝓛 mem run κ a g r e. refl;
  once = λ κ a r r' ws ws' p q.
      let e = at_exit listing_list_finish.ended κ a ws in
      let e' = at_exit listing_list_finish.ended κ a ws' in
      let s = listing_all.list_finish_settled κ a r r' e e' p q in
      (λ i. (s i).0, λ i. (at_last a.0 (s i).1.0, (at_last a.1.0 (s i).1.1.0, (at_last a.1.1.0 (s i).1.1.1.0, (at_last a.1.1.1.0 (s i).1.1.1.1, tt)))));
}

pub settled_listing_taped_LinesErrorFromAfterEnd_from :
    Settled listing_taped_LinesErrorFromAfterEnd_from.ended (λ M 𝓤 𝓛. listing_taped_LinesErrorFromAfterEnd_from.clauses 𝓛) (λ κ r. r)
settled_listing_taped_LinesErrorFromAfterEnd_from = record {
  Post = λ κ a r e. _;
  asks_nothing = λ M 𝓤 𝓛 mem run κ a g. refl;
  asks_no_ghost = λ M 𝓤 𝓛 mem run κ a. refl;
  promises = λ M 𝓤 𝓛 mem run κ a g r e. refl;
  once = λ κ a r r' ws ws' p q.
      let e = at_exit listing_taped_LinesErrorFromAfterEnd_from.ended κ a ws in
      let e' = at_exit listing_taped_LinesErrorFromAfterEnd_from.ended κ a ws' in
      let s = listing_all.lines_error_from_after_end_from_settled κ a r r' e e' p q in
      (s, refl);
}

pub settled_face_part_told :
    Settled face_part_told.ended (λ M 𝓤 𝓛. face_part_told.clauses 𝓛) (λ κ r. r)
settled_face_part_told = record {
  Post = λ κ a r e. _;
  asks_nothing = λ M 𝓤 𝓛 mem run κ a g. refl;
  asks_no_ghost = λ M 𝓤 𝓛 mem run κ a. refl;
  promises = λ M 𝓤 𝓛 mem run κ a g r e. refl;
  once = λ κ a r r' ws ws' p q.
      let e = at_exit face_part_told.ended κ a ws in
      let e' = at_exit face_part_told.ended κ a ws' in
      let s = face_all.part_told_settled κ a r r' e e' p q in
      (s, refl);
}

pub settled_face_requests_CRequestFromRecord_from :
    Settled face_requests_CRequestFromRecord_from.ended (λ M 𝓤 𝓛. face_requests_CRequestFromRecord_from.clauses 𝓛) (λ κ r. r)
settled_face_requests_CRequestFromRecord_from = record {
  Post = λ κ a r e. _;
  asks_nothing = λ M 𝓤 𝓛 mem run κ a g. refl;
  asks_no_ghost = λ M 𝓤 𝓛 mem run κ a. refl;
  promises = λ M 𝓤 𝓛 mem run κ a g r e. refl;
  once = λ κ a r r' ws ws' p q.
      let e = at_exit face_requests_CRequestFromRecord_from.ended κ a ws in
      let e' = at_exit face_requests_CRequestFromRecord_from.ended κ a ws' in
      let s = face_all.c_request_from_record_from_settled κ a r r' e e' p q in
      (s, refl);
}

pub settled_face_requests_HostArgsFromCRequest_from :
    Settled face_requests_HostArgsFromCRequest_from.ended (λ M 𝓤 𝓛. face_requests_HostArgsFromCRequest_from.clauses 𝓛) (λ κ r. r)
settled_face_requests_HostArgsFromCRequest_from = record {
  Post = λ κ a r e. _;
  asks_nothing = λ M 𝓤 𝓛 mem run κ a g. refl;
  asks_no_ghost = λ M 𝓤 𝓛 mem run κ a. refl;
  promises = λ M 𝓤 𝓛 mem run κ a g r e. refl;
  once = λ κ a r r' ws ws' p q.
      let e = at_exit face_requests_HostArgsFromCRequest_from.ended κ a ws in
      let e' = at_exit face_requests_HostArgsFromCRequest_from.ended κ a ws' in
      let s = face_all.host_args_from_c_request_from_settled κ a r r' e e' p q in
      (s, refl);
}

pub settled_face_requests_PushArgsFromCRequest_from :
    Settled face_requests_PushArgsFromCRequest_from.ended (λ M 𝓤 𝓛. face_requests_PushArgsFromCRequest_from.clauses 𝓛) (λ κ r. r)
settled_face_requests_PushArgsFromCRequest_from = record {
  Post = λ κ a r e. _;
  asks_nothing = λ M 𝓤 𝓛 mem run κ a g. refl;
  asks_no_ghost = λ M 𝓤 𝓛 mem run κ a. refl;
  promises = λ M 𝓤 𝓛 mem run κ a g r e. refl;
  once = λ κ a r r' ws ws' p q.
      let e = at_exit face_requests_PushArgsFromCRequest_from.ended κ a ws in
      let e' = at_exit face_requests_PushArgsFromCRequest_from.ended κ a ws' in
      let s = face_all.push_args_from_c_request_from_settled κ a r r' e e' p q in
      (s, refl);
}

pub settled_face_requests_ReplaceArgsFromCRequest_from :
    Settled face_requests_ReplaceArgsFromCRequest_from.ended (λ M 𝓤 𝓛. face_requests_ReplaceArgsFromCRequest_from.clauses 𝓛) (λ κ r. r)
settled_face_requests_ReplaceArgsFromCRequest_from = record {
  Post = λ κ a r e. _;
  asks_nothing = λ M 𝓤 𝓛 mem run κ a g. refl;
  asks_no_ghost = λ M 𝓤 𝓛 mem run κ a. refl;
  promises = λ M 𝓤 𝓛 mem run κ a g r e. refl;
  once = λ κ a r r' ws ws' p q.
      let e = at_exit face_requests_ReplaceArgsFromCRequest_from.ended κ a ws in
      let e' = at_exit face_requests_ReplaceArgsFromCRequest_from.ended κ a ws' in
      let s = face_all.replace_args_from_c_request_from_settled κ a r r' e e' p q in
      (s, refl);
}

pub settled_face_requests_RequestTryFromCRequest_try_from :
    Settled face_requests_RequestTryFromCRequest_try_from.ended (λ M 𝓤 𝓛. face_requests_RequestTryFromCRequest_try_from.clauses 𝓛) (λ κ r. r)
settled_face_requests_RequestTryFromCRequest_try_from = record {
  Post = λ κ a r e. _;
  asks_nothing = λ M 𝓤 𝓛 mem run κ a g. refl;
  asks_no_ghost = λ M 𝓤 𝓛 mem run κ a. refl;
  promises = λ M 𝓤 𝓛 mem run κ a g r e. refl;
  once = λ κ a r r' ws ws' p q.
      let e = at_exit face_requests_RequestTryFromCRequest_try_from.ended κ a ws in
      let e' = at_exit face_requests_RequestTryFromCRequest_try_from.ended κ a ws' in
      let s = face_all.request_try_from_c_request_try_from_settled κ a r r' e e' p q in
      (s, refl);
}

pub settled_face_requests_ReturnHostArgsFromCRequest_from :
    Settled face_requests_ReturnHostArgsFromCRequest_from.ended (λ M 𝓤 𝓛. face_requests_ReturnHostArgsFromCRequest_from.clauses 𝓛) (λ κ r. r)
settled_face_requests_ReturnHostArgsFromCRequest_from = record {
  Post = λ κ a r e. _;
  asks_nothing = λ M 𝓤 𝓛 mem run κ a g. refl;
  asks_no_ghost = λ M 𝓤 𝓛 mem run κ a. refl;
  promises = λ M 𝓤 𝓛 mem run κ a g r e. refl;
  once = λ κ a r r' ws ws' p q.
      let e = at_exit face_requests_ReturnHostArgsFromCRequest_from.ended κ a ws in
      let e' = at_exit face_requests_ReturnHostArgsFromCRequest_from.ended κ a ws' in
      let s = face_all.return_host_args_from_c_request_from_settled κ a r r' e e' p q in
      (s, refl);
}

pub settled_face_state_CStateFromState_from :
    Settled face_state_CStateFromState_from.ended (λ M 𝓤 𝓛. face_state_CStateFromState_from.clauses 𝓛) (λ κ r. r)
settled_face_state_CStateFromState_from = record {
  Post = λ κ a r e. _;
  asks_nothing = λ M 𝓤 𝓛 mem run κ a g. refl;
  asks_no_ghost = λ M 𝓤 𝓛 mem run κ a. refl;
  promises = λ M 𝓤 𝓛 mem run κ a g r e. refl;
  once = λ κ a r r' ws ws' p q.
      let e = at_exit face_state_CStateFromState_from.ended κ a ws in
      let e' = at_exit face_state_CStateFromState_from.ended κ a ws' in
      let s = face_all.c_state_from_state_from_settled κ a r r' e e' p q in
      (s, refl);
}

pub settled_face_state_StateFromCState_from :
    Settled face_state_StateFromCState_from.ended (λ M 𝓤 𝓛. face_state_StateFromCState_from.clauses 𝓛) (λ κ r. r)
settled_face_state_StateFromCState_from = record {
  Post = λ κ a r e. _;
  asks_nothing = λ M 𝓤 𝓛 mem run κ a g. refl;
  asks_no_ghost = λ M 𝓤 𝓛 mem run κ a. refl;
  promises = λ M 𝓤 𝓛 mem run κ a g r e. refl;
  once = λ κ a r r' ws ws' p q.
      let e = at_exit face_state_StateFromCState_from.ended κ a ws in
      let e' = at_exit face_state_StateFromCState_from.ended κ a ws' in
      let s = face_all.state_from_c_state_from_settled κ a r r' e e' p q in
      (s, refl);
}

pub settled_face_leaves_cattlecleat_align :
    Settled face_leaves_cattlecleat_align.ended (λ M 𝓤 𝓛. face_leaves_cattlecleat_align.clauses 𝓛) (λ κ r. r)
settled_face_leaves_cattlecleat_align = record {
  Post = λ κ a r e. _;
  asks_nothing = λ M 𝓤 𝓛 mem run κ a g. refl;
  asks_no_ghost = λ M 𝓤 𝓛 mem run κ a. refl;
  promises = λ M 𝓤 𝓛 mem run κ a g r e. refl;
  once = λ κ a r r' ws ws' p q.
      let e = at_exit face_leaves_cattlecleat_align.ended κ a ws in
      let e' = at_exit face_leaves_cattlecleat_align.ended κ a ws' in
      let s = face_leaves_all.cattlecleat_align_settled κ a r r' e e' p q in
      (s, refl);
}

pub settled_face_leaves_cattlecleat_done_with :
    Settled face_leaves_cattlecleat_done_with.ended (λ M 𝓤 𝓛. face_leaves_cattlecleat_done_with.clauses 𝓛) (λ κ r. r)
settled_face_leaves_cattlecleat_done_with = record {
  Post = λ κ a r e. _;
  asks_nothing = λ M 𝓤 𝓛 mem run κ a g. refl;
  asks_no_ghost = λ M 𝓤 𝓛 mem run κ a. refl;
  promises = λ M 𝓤 𝓛 mem run κ a g r e. refl;
  once = λ κ a r r' ws ws' p q.
      let e = at_exit face_leaves_cattlecleat_done_with.ended κ a ws in
      let e' = at_exit face_leaves_cattlecleat_done_with.ended κ a ws' in
      let s = face_leaves_all.cattlecleat_done_with_settled κ a r r' e e' p q in
      (s, refl);
}

pub settled_face_leaves_cattlecleat_from_register :
    Settled face_leaves_cattlecleat_from_register.ended (λ M 𝓤 𝓛. face_leaves_cattlecleat_from_register.clauses 𝓛) (λ κ r. r)
settled_face_leaves_cattlecleat_from_register = record {
  Post = λ κ a r e. _;
  asks_nothing = λ M 𝓤 𝓛 mem run κ a g. refl;
  asks_no_ghost = λ M 𝓤 𝓛 mem run κ a. refl;
  promises = λ M 𝓤 𝓛 mem run κ a g r e. refl;
  once = λ κ a r r' ws ws' p q.
      let e = at_exit face_leaves_cattlecleat_from_register.ended κ a ws in
      let e' = at_exit face_leaves_cattlecleat_from_register.ended κ a ws' in
      let s = face_leaves_all.cattlecleat_from_register_settled κ a r r' e e' p q in
      (s, refl);
}

pub settled_face_leaves_cattlecleat_put_freg32 :
    Settled face_leaves_cattlecleat_put_freg32.ended (λ M 𝓤 𝓛. face_leaves_cattlecleat_put_freg32.clauses 𝓛) (λ κ r. r)
settled_face_leaves_cattlecleat_put_freg32 = record {
  Post = λ κ a r e. _;
  asks_nothing = λ M 𝓤 𝓛 mem run κ a g. refl;
  asks_no_ghost = λ M 𝓤 𝓛 mem run κ a. refl;
  promises = λ M 𝓤 𝓛 mem run κ a g r e. refl;
  once = λ κ a r r' ws ws' p q.
      let e = at_exit face_leaves_cattlecleat_put_freg32.ended κ a ws in
      let e' = at_exit face_leaves_cattlecleat_put_freg32.ended κ a ws' in
      let s = face_leaves_all.cattlecleat_put_freg32_settled κ a r r' e e' p q in
      (refl, λ i. (at_last a.0 (s i), (a.1.0, tt)));
}

pub settled_face_leaves_cattlecleat_put_freg64 :
    Settled face_leaves_cattlecleat_put_freg64.ended (λ M 𝓤 𝓛. face_leaves_cattlecleat_put_freg64.clauses 𝓛) (λ κ r. r)
settled_face_leaves_cattlecleat_put_freg64 = record {
  Post = λ κ a r e. _;
  asks_nothing = λ M 𝓤 𝓛 mem run κ a g. refl;
  asks_no_ghost = λ M 𝓤 𝓛 mem run κ a. refl;
  promises = λ M 𝓤 𝓛 mem run κ a g r e. refl;
  once = λ κ a r r' ws ws' p q.
      let e = at_exit face_leaves_cattlecleat_put_freg64.ended κ a ws in
      let e' = at_exit face_leaves_cattlecleat_put_freg64.ended κ a ws' in
      let s = face_leaves_all.cattlecleat_put_freg64_settled κ a r r' e e' p q in
      (refl, λ i. (at_last a.0 (s i), (a.1.0, tt)));
}

pub settled_face_leaves_cattlecleat_put_ireg :
    Settled face_leaves_cattlecleat_put_ireg.ended (λ M 𝓤 𝓛. face_leaves_cattlecleat_put_ireg.clauses 𝓛) (λ κ r. r)
settled_face_leaves_cattlecleat_put_ireg = record {
  Post = λ κ a r e. _;
  asks_nothing = λ M 𝓤 𝓛 mem run κ a g. refl;
  asks_no_ghost = λ M 𝓤 𝓛 mem run κ a. refl;
  promises = λ M 𝓤 𝓛 mem run κ a g r e. refl;
  once = λ κ a r r' ws ws' p q.
      let e = at_exit face_leaves_cattlecleat_put_ireg.ended κ a ws in
      let e' = at_exit face_leaves_cattlecleat_put_ireg.ended κ a ws' in
      let s = face_leaves_all.cattlecleat_put_ireg_settled κ a r r' e e' p q in
      (refl, λ i. (at_last a.0 (s i), (a.1.0, tt)));
}

pub settled_face_leaves_cattlecleat_put_registers :
    Settled face_leaves_cattlecleat_put_registers.ended (λ M 𝓤 𝓛. face_leaves_cattlecleat_put_registers.clauses 𝓛) (λ κ r. r)
settled_face_leaves_cattlecleat_put_registers = record {
  Post = λ κ a r e. _;
  asks_nothing = λ M 𝓤 𝓛 mem run κ a g. refl;
  asks_no_ghost = λ M 𝓤 𝓛 mem run κ a. refl;
  promises = λ M 𝓤 𝓛 mem run κ a g r e. refl;
  once = λ κ a r r' ws ws' p q.
      let e = at_exit face_leaves_cattlecleat_put_registers.ended κ a ws in
      let e' = at_exit face_leaves_cattlecleat_put_registers.ended κ a ws' in
      let s = face_leaves_all.cattlecleat_put_registers_settled κ a r r' e e' p q in
      (refl, λ i. (at_last a.0 (s i), (a.1.0, (a.1.1.0, (a.1.1.1.0, tt)))));
}

pub settled_face_leaves_cattlecleat_read_record :
    Settled face_leaves_cattlecleat_read_record.ended (λ M 𝓤 𝓛. face_leaves_cattlecleat_read_record.clauses 𝓛) (λ κ r. r)
settled_face_leaves_cattlecleat_read_record = record {
  Post = λ κ a r e. _;
  asks_nothing = λ M 𝓤 𝓛 mem run κ a g. refl;
  asks_no_ghost = λ M 𝓤 𝓛 mem run κ a. refl;
  promises = λ M 𝓤 𝓛 mem run κ a g r e. refl;
  once = λ κ a r r' ws ws' p q.
      let e = at_exit face_leaves_cattlecleat_read_record.ended κ a ws in
      let e' = at_exit face_leaves_cattlecleat_read_record.ended κ a ws' in
      let s = face_leaves_all.cattlecleat_read_record_settled κ a r r' e e' p q in
      (s, refl);
}

pub settled_face_leaves_cattlecleat_read_registers :
    Settled face_leaves_cattlecleat_read_registers.ended (λ M 𝓤 𝓛. face_leaves_cattlecleat_read_registers.clauses 𝓛) (λ κ r. r)
settled_face_leaves_cattlecleat_read_registers = record {
  Post = λ κ a r e. _;
  asks_nothing = λ M 𝓤 𝓛 mem run κ a g. refl;
  asks_no_ghost = λ M 𝓤 𝓛 mem run κ a. refl;
  promises = λ M 𝓤 𝓛 mem run κ a g r e. refl;
  once = λ κ a r r' ws ws' p q.
      let e = at_exit face_leaves_cattlecleat_read_registers.ended κ a ws in
      let e' = at_exit face_leaves_cattlecleat_read_registers.ended κ a ws' in
      let s = face_leaves_all.cattlecleat_read_registers_settled κ a r r' e e' p q in
      (s, refl);
}

pub settled_face_leaves_cattlecleat_take_done_reason :
    Settled face_leaves_cattlecleat_take_done_reason.ended (λ M 𝓤 𝓛. face_leaves_cattlecleat_take_done_reason.clauses 𝓛) (λ κ r. r)
settled_face_leaves_cattlecleat_take_done_reason = record {
  Post = λ κ a r e. _;
  asks_nothing = λ M 𝓤 𝓛 mem run κ a g. refl;
  asks_no_ghost = λ M 𝓤 𝓛 mem run κ a. refl;
  promises = λ M 𝓤 𝓛 mem run κ a g r e. refl;
  once = λ κ a r r' ws ws' p q.
      let e = at_exit face_leaves_cattlecleat_take_done_reason.ended κ a ws in
      let e' = at_exit face_leaves_cattlecleat_take_done_reason.ended κ a ws' in
      let s = face_leaves_all.cattlecleat_take_done_reason_settled κ a r r' e e' p q in
      (s, refl);
}

pub settled_face_leaves_cattlecleat_to_register :
    Settled face_leaves_cattlecleat_to_register.ended (λ M 𝓤 𝓛. face_leaves_cattlecleat_to_register.clauses 𝓛) (λ κ r. r)
settled_face_leaves_cattlecleat_to_register = record {
  Post = λ κ a r e. _;
  asks_nothing = λ M 𝓤 𝓛 mem run κ a g. refl;
  asks_no_ghost = λ M 𝓤 𝓛 mem run κ a. refl;
  promises = λ M 𝓤 𝓛 mem run κ a g r e. refl;
  once = λ κ a r r' ws ws' p q.
      let e = at_exit face_leaves_cattlecleat_to_register.ended κ a ws in
      let e' = at_exit face_leaves_cattlecleat_to_register.ended κ a ws' in
      let s = face_leaves_all.cattlecleat_to_register_settled κ a r r' e e' p q in
      (s, refl);
}

pub settled_face_leaves_cattlecleat_write_record :
    Settled face_leaves_cattlecleat_write_record.ended (λ M 𝓤 𝓛. face_leaves_cattlecleat_write_record.clauses 𝓛) (λ κ r. r)
settled_face_leaves_cattlecleat_write_record = record {
  Post = λ κ a r e. _;
  asks_nothing = λ M 𝓤 𝓛 mem run κ a g. refl;
  asks_no_ghost = λ M 𝓤 𝓛 mem run κ a. refl;
  promises = λ M 𝓤 𝓛 mem run κ a g r e. refl;
  once = λ κ a r r' ws ws' p q.
      let e = at_exit face_leaves_cattlecleat_write_record.ended κ a ws in
      let e' = at_exit face_leaves_cattlecleat_write_record.ended κ a ws' in
      let s = face_leaves_all.cattlecleat_write_record_settled κ a r r' e e' p q in
      (λ i. (s i).0, λ i. (at_last a.0 (s i).1, (a.1.0, (a.1.1.0, tt))));
}

pub settled_face_leaves_cattlecleat_zero_registers :
    Settled face_leaves_cattlecleat_zero_registers.ended (λ M 𝓤 𝓛. face_leaves_cattlecleat_zero_registers.clauses 𝓛) (λ κ r. r)
settled_face_leaves_cattlecleat_zero_registers = record {
  Post = λ κ a r e. _;
  asks_nothing = λ M 𝓤 𝓛 mem run κ a g. refl;
  asks_no_ghost = λ M 𝓤 𝓛 mem run κ a. refl;
  promises = λ M 𝓤 𝓛 mem run κ a g r e. refl;
  once = λ κ a r r' ws ws' p q.
      let e = at_exit face_leaves_cattlecleat_zero_registers.ended κ a ws in
      let e' = at_exit face_leaves_cattlecleat_zero_registers.ended κ a ws' in
      let s = face_leaves_all.cattlecleat_zero_registers_settled κ a r r' e e' p q in
      (refl, λ i. (at_last a.0 (s i), tt));
}

pub settled_face_leaves_slot_CReasonFromDoneReason_from :
    Settled face_leaves_slot_CReasonFromDoneReason_from.ended (λ M 𝓤 𝓛. face_leaves_slot_CReasonFromDoneReason_from.clauses 𝓛) (λ κ r. r)
settled_face_leaves_slot_CReasonFromDoneReason_from = record {
  Post = λ κ a r e. _;
  asks_nothing = λ M 𝓤 𝓛 mem run κ a g. refl;
  asks_no_ghost = λ M 𝓤 𝓛 mem run κ a. refl;
  promises = λ M 𝓤 𝓛 mem run κ a g r e. refl;
  once = λ κ a r r' ws ws' p q.
      let e = at_exit face_leaves_slot_CReasonFromDoneReason_from.ended κ a ws in
      let e' = at_exit face_leaves_slot_CReasonFromDoneReason_from.ended κ a ws' in
      let s = face_leaves_all.c_reason_from_done_reason_from_settled κ a r r' e e' p q in
      (s, refl);
}

pub settled_face_leaves_slot_CReasonFromDoneSlot_from :
    Settled face_leaves_slot_CReasonFromDoneSlot_from.ended (λ M 𝓤 𝓛. face_leaves_slot_CReasonFromDoneSlot_from.clauses 𝓛) (λ κ r. r)
settled_face_leaves_slot_CReasonFromDoneSlot_from = record {
  Post = λ κ a r e. _;
  asks_nothing = λ M 𝓤 𝓛 mem run κ a g. refl;
  asks_no_ghost = λ M 𝓤 𝓛 mem run κ a. refl;
  promises = λ M 𝓤 𝓛 mem run κ a g r e. refl;
  once = λ κ a r r' ws ws' p q.
      let e = at_exit face_leaves_slot_CReasonFromDoneSlot_from.ended κ a ws in
      let e' = at_exit face_leaves_slot_CReasonFromDoneSlot_from.ended κ a ws' in
      let s = face_leaves_all.c_reason_from_done_slot_from_settled κ a r r' e e' p q in
      (s, refl);
}

pub settled_face_leaves_slot_DoneReasonFromCReason_from :
    Settled face_leaves_slot_DoneReasonFromCReason_from.ended (λ M 𝓤 𝓛. face_leaves_slot_DoneReasonFromCReason_from.clauses 𝓛) (λ κ r. r)
settled_face_leaves_slot_DoneReasonFromCReason_from = record {
  Post = λ κ a r e. _;
  asks_nothing = λ M 𝓤 𝓛 mem run κ a g. refl;
  asks_no_ghost = λ M 𝓤 𝓛 mem run κ a. refl;
  promises = λ M 𝓤 𝓛 mem run κ a g r e. refl;
  once = λ κ a r r' ws ws' p q.
      let e = at_exit face_leaves_slot_DoneReasonFromCReason_from.ended κ a ws in
      let e' = at_exit face_leaves_slot_DoneReasonFromCReason_from.ended κ a ws' in
      let s = face_leaves_all.done_reason_from_c_reason_from_settled κ a r r' e e' p q in
      (s, refl);
}

pub settled_face_leaves_slot_DoneSlotFromCReason_from :
    Settled face_leaves_slot_DoneSlotFromCReason_from.ended (λ M 𝓤 𝓛. face_leaves_slot_DoneSlotFromCReason_from.clauses 𝓛) (λ κ r. r)
settled_face_leaves_slot_DoneSlotFromCReason_from = record {
  Post = λ κ a r e. _;
  asks_nothing = λ M 𝓤 𝓛 mem run κ a g. refl;
  asks_no_ghost = λ M 𝓤 𝓛 mem run κ a. refl;
  promises = λ M 𝓤 𝓛 mem run κ a g r e. refl;
  once = λ κ a r r' ws ws' p q.
      let e = at_exit face_leaves_slot_DoneSlotFromCReason_from.ended κ a ws in
      let e' = at_exit face_leaves_slot_DoneSlotFromCReason_from.ended κ a ws' in
      let s = face_leaves_all.done_slot_from_c_reason_from_settled κ a r r' e e' p q in
      (s, refl);
}

pub settled_face_place_cattlecleat_host_part_in_place :
    Settled face_place_cattlecleat_host_part_in_place.ended (λ M 𝓤 𝓛. face_place_cattlecleat_host_part_in_place.clauses 𝓛) (λ κ r. r)
settled_face_place_cattlecleat_host_part_in_place = record {
  Post = λ κ a r e. _;
  asks_nothing = λ M 𝓤 𝓛 mem run κ a g. refl;
  asks_no_ghost = λ M 𝓤 𝓛 mem run κ a. refl;
  promises = λ M 𝓤 𝓛 mem run κ a g r e. refl;
  once = λ κ a r r' ws ws' p q.
      let e = at_exit face_place_cattlecleat_host_part_in_place.ended κ a ws in
      let e' = at_exit face_place_cattlecleat_host_part_in_place.ended κ a ws' in
      let s = face_place_all.cattlecleat_host_part_in_place_settled κ a r r' e e' p q in
      (s, refl);
}

pub settled_face_place_cattlecleat_pop_frame :
    Settled face_place_cattlecleat_pop_frame.ended (λ M 𝓤 𝓛. face_place_cattlecleat_pop_frame.clauses 𝓛) (λ κ r. r)
settled_face_place_cattlecleat_pop_frame = record {
  Post = λ κ a r e. _;
  asks_nothing = λ M 𝓤 𝓛 mem run κ a g. refl;
  asks_no_ghost = λ M 𝓤 𝓛 mem run κ a. refl;
  promises = λ M 𝓤 𝓛 mem run κ a g r e. refl;
  once = λ κ a r r' ws ws' p q.
      let e = at_exit face_place_cattlecleat_pop_frame.ended κ a ws in
      let e' = at_exit face_place_cattlecleat_pop_frame.ended κ a ws' in
      let s = face_place_all.cattlecleat_pop_frame_settled κ a r r' e e' p q in
      (λ i. (s i).0, λ i. (at_last a.0 (s i).1, (a.1.0, (a.1.1.0, (a.1.1.1.0, tt)))));
}

pub settled_face_place_cattlecleat_prepare_host_frame :
    Settled face_place_cattlecleat_prepare_host_frame.ended (λ M 𝓤 𝓛. face_place_cattlecleat_prepare_host_frame.clauses 𝓛) (λ κ r. r)
settled_face_place_cattlecleat_prepare_host_frame = record {
  Post = λ κ a r e. _;
  asks_nothing = λ M 𝓤 𝓛 mem run κ a g. refl;
  asks_no_ghost = λ M 𝓤 𝓛 mem run κ a. refl;
  promises = λ M 𝓤 𝓛 mem run κ a g r e. refl;
  once = λ κ a r r' ws ws' p q.
      let e = at_exit face_place_cattlecleat_prepare_host_frame.ended κ a ws in
      let e' = at_exit face_place_cattlecleat_prepare_host_frame.ended κ a ws' in
      let s = face_place_all.cattlecleat_prepare_host_frame_settled κ a r r' e e' p q in
      (λ i. (s i).0, λ i. (at_last a.0 (s i).1.0, (at_last a.1.0 (s i).1.1.0, (at_last a.1.1.0 (s i).1.1.1, (a.1.1.1.0, tt)))));
}

pub settled_face_place_cattlecleat_push_frame :
    Settled face_place_cattlecleat_push_frame.ended (λ M 𝓤 𝓛. face_place_cattlecleat_push_frame.clauses 𝓛) (λ κ r. r)
settled_face_place_cattlecleat_push_frame = record {
  Post = λ κ a r e. _;
  asks_nothing = λ M 𝓤 𝓛 mem run κ a g. refl;
  asks_no_ghost = λ M 𝓤 𝓛 mem run κ a. refl;
  promises = λ M 𝓤 𝓛 mem run κ a g r e. refl;
  once = λ κ a r r' ws ws' p q.
      let e = at_exit face_place_cattlecleat_push_frame.ended κ a ws in
      let e' = at_exit face_place_cattlecleat_push_frame.ended κ a ws' in
      let s = face_place_all.cattlecleat_push_frame_settled κ a r r' e e' p q in
      (λ i. (s i).0, λ i. (at_last a.0 (s i).1.0, (at_last a.1.0 (s i).1.1.0, (at_last a.1.1.0 (s i).1.1.1, (a.1.1.1.0, tt)))));
}

pub settled_face_place_cattlecleat_replace_frame :
    Settled face_place_cattlecleat_replace_frame.ended (λ M 𝓤 𝓛. face_place_cattlecleat_replace_frame.clauses 𝓛) (λ κ r. r)
settled_face_place_cattlecleat_replace_frame = record {
  Post = λ κ a r e. _;
  asks_nothing = λ M 𝓤 𝓛 mem run κ a g. refl;
  asks_no_ghost = λ M 𝓤 𝓛 mem run κ a. refl;
  promises = λ M 𝓤 𝓛 mem run κ a g r e. refl;
  once = λ κ a r r' ws ws' p q.
      let e = at_exit face_place_cattlecleat_replace_frame.ended κ a ws in
      let e' = at_exit face_place_cattlecleat_replace_frame.ended κ a ws' in
      let s = face_place_all.cattlecleat_replace_frame_settled κ a r r' e e' p q in
      (λ i. (s i).0, λ i. (at_last a.0 (s i).1.0, (at_last a.1.0 (s i).1.1.0, (at_last a.1.1.0 (s i).1.1.1, (a.1.1.1.0, tt)))));
}

pub settled_face_place_cattlecleat_reset :
    Settled face_place_cattlecleat_reset.ended (λ M 𝓤 𝓛. face_place_cattlecleat_reset.clauses 𝓛) (λ κ r. r)
settled_face_place_cattlecleat_reset = record {
  Post = λ κ a r e. _;
  asks_nothing = λ M 𝓤 𝓛 mem run κ a g. refl;
  asks_no_ghost = λ M 𝓤 𝓛 mem run κ a. refl;
  promises = λ M 𝓤 𝓛 mem run κ a g r e. refl;
  once = λ κ a r r' ws ws' p q.
      let e = at_exit face_place_cattlecleat_reset.ended κ a ws in
      let e' = at_exit face_place_cattlecleat_reset.ended κ a ws' in
      let s = face_place_all.cattlecleat_reset_settled κ a r r' e e' p q in
      (λ i. (s i).0, λ i. (at_last a.0 (s i).1, (a.1.0, (a.1.1.0, tt))));
}

pub settled_face_place_cattlecleat_restore_frame :
    Settled face_place_cattlecleat_restore_frame.ended (λ M 𝓤 𝓛. face_place_cattlecleat_restore_frame.clauses 𝓛) (λ κ r. r)
settled_face_place_cattlecleat_restore_frame = record {
  Post = λ κ a r e. _;
  asks_nothing = λ M 𝓤 𝓛 mem run κ a g. refl;
  asks_no_ghost = λ M 𝓤 𝓛 mem run κ a. refl;
  promises = λ M 𝓤 𝓛 mem run κ a g r e. refl;
  once = λ κ a r r' ws ws' p q.
      let e = at_exit face_place_cattlecleat_restore_frame.ended κ a ws in
      let e' = at_exit face_place_cattlecleat_restore_frame.ended κ a ws' in
      let s = face_place_all.cattlecleat_restore_frame_settled κ a r r' e e' p q in
      (s, refl);
}

pub settled_face_place_cattlecleat_return_prepare_host_frame :
    Settled face_place_cattlecleat_return_prepare_host_frame.ended (λ M 𝓤 𝓛. face_place_cattlecleat_return_prepare_host_frame.clauses 𝓛) (λ κ r. r)
settled_face_place_cattlecleat_return_prepare_host_frame = record {
  Post = λ κ a r e. _;
  asks_nothing = λ M 𝓤 𝓛 mem run κ a g. refl;
  asks_no_ghost = λ M 𝓤 𝓛 mem run κ a. refl;
  promises = λ M 𝓤 𝓛 mem run κ a g r e. refl;
  once = λ κ a r r' ws ws' p q.
      let e = at_exit face_place_cattlecleat_return_prepare_host_frame.ended κ a ws in
      let e' = at_exit face_place_cattlecleat_return_prepare_host_frame.ended κ a ws' in
      let s = face_place_all.cattlecleat_return_prepare_host_frame_settled κ a r r' e e' p q in
      (λ i. (s i).0, λ i. (at_last a.0 (s i).1.0, (a.1.0, (at_last a.1.1.0 (s i).1.1, (a.1.1.1.0, tt)))));
}

pub settled_face_place_cattlecleat_set :
    Settled face_place_cattlecleat_set.ended (λ M 𝓤 𝓛. face_place_cattlecleat_set.clauses 𝓛) (λ κ r. r)
settled_face_place_cattlecleat_set = record {
  Post = λ κ a r e. _;
  asks_nothing = λ M 𝓤 𝓛 mem run κ a g. refl;
  asks_no_ghost = λ M 𝓤 𝓛 mem run κ a. refl;
  promises = λ M 𝓤 𝓛 mem run κ a g r e. refl;
  once = λ κ a r r' ws ws' p q.
      let e = at_exit face_place_cattlecleat_set.ended κ a ws in
      let e' = at_exit face_place_cattlecleat_set.ended κ a ws' in
      let s = face_place_all.cattlecleat_set_settled κ a r r' e e' p q in
      (λ i. (s i).0, λ i. (a.0, (a.1.0, (at_last a.1.1.0 (s i).1, (a.1.1.1.0, (a.1.1.1.1.0, tt))))));
}

pub settled_face_place_cattlecleat_sync_ip :
    Settled face_place_cattlecleat_sync_ip.ended (λ M 𝓤 𝓛. face_place_cattlecleat_sync_ip.clauses 𝓛) (λ κ r. r)
settled_face_place_cattlecleat_sync_ip = record {
  Post = λ κ a r e. _;
  asks_nothing = λ M 𝓤 𝓛 mem run κ a g. refl;
  asks_no_ghost = λ M 𝓤 𝓛 mem run κ a. refl;
  promises = λ M 𝓤 𝓛 mem run κ a g r e. refl;
  once = λ κ a r r' ws ws' p q.
      let e = at_exit face_place_cattlecleat_sync_ip.ended κ a ws in
      let e' = at_exit face_place_cattlecleat_sync_ip.ended κ a ws' in
      let s = face_place_all.cattlecleat_sync_ip_settled κ a r r' e e' p q in
      (λ i. (s i).0, λ i. (a.0, (at_last a.1.0 (s i).1, (a.1.1.0, (a.1.1.1.0, tt)))));
}

pub settled_face_place_cattlecleat_sync_registers_in_place :
    Settled face_place_cattlecleat_sync_registers_in_place.ended (λ M 𝓤 𝓛. face_place_cattlecleat_sync_registers_in_place.clauses 𝓛) (λ κ r. r)
settled_face_place_cattlecleat_sync_registers_in_place = record {
  Post = λ κ a r e. _;
  asks_nothing = λ M 𝓤 𝓛 mem run κ a g. refl;
  asks_no_ghost = λ M 𝓤 𝓛 mem run κ a. refl;
  promises = λ M 𝓤 𝓛 mem run κ a g r e. refl;
  once = λ κ a r r' ws ws' p q.
      let e = at_exit face_place_cattlecleat_sync_registers_in_place.ended κ a ws in
      let e' = at_exit face_place_cattlecleat_sync_registers_in_place.ended κ a ws' in
      let s = face_place_all.cattlecleat_sync_registers_in_place_settled κ a r r' e e' p q in
      (λ i. (s i).0, λ i. (at_last a.0 (s i).1, (a.1.0, (a.1.1.0, (a.1.1.1.0, tt)))));
}

pub settled_face_ask_cattlecleat_ask :
    Settled face_ask_cattlecleat_ask.ended (λ M 𝓤 𝓛. face_ask_cattlecleat_ask.clauses 𝓛) (λ κ r. r)
settled_face_ask_cattlecleat_ask = record {
  Post = λ κ a r e. _;
  asks_nothing = λ M 𝓤 𝓛 mem run κ a g. refl;
  asks_no_ghost = λ M 𝓤 𝓛 mem run κ a. refl;
  promises = λ M 𝓤 𝓛 mem run κ a g r e. refl;
  once = λ κ a r r' ws ws' p q.
      let e = at_exit face_ask_cattlecleat_ask.ended κ a ws in
      let e' = at_exit face_ask_cattlecleat_ask.ended κ a ws' in
      let s = face_ask_all.cattlecleat_ask_settled κ a r r' e e' p q in
      (λ i. (s i).0, λ i. (a.0, (at_last a.1.0 (s i).1.0, (at_last a.1.1.0 (s i).1.1, (a.1.1.1.0, tt)))));
}

pub settled_face_ask_cattlecleat_host_part :
    Settled face_ask_cattlecleat_host_part.ended (λ M 𝓤 𝓛. face_ask_cattlecleat_host_part.clauses 𝓛) (λ κ r. r)
settled_face_ask_cattlecleat_host_part = record {
  Post = λ κ a r e. _;
  asks_nothing = λ M 𝓤 𝓛 mem run κ a g. refl;
  asks_no_ghost = λ M 𝓤 𝓛 mem run κ a. refl;
  promises = λ M 𝓤 𝓛 mem run κ a g r e. refl;
  once = λ κ a r r' ws ws' p q.
      let e = at_exit face_ask_cattlecleat_host_part.ended κ a ws in
      let e' = at_exit face_ask_cattlecleat_host_part.ended κ a ws' in
      let s = face_ask_all.cattlecleat_host_part_settled κ a r r' e e' p q in
      (s, refl);
}

pub settled_face_ask_cattlecleat_open :
    Settled face_ask_cattlecleat_open.ended (λ M 𝓤 𝓛. face_ask_cattlecleat_open.clauses 𝓛) (λ κ r. r)
settled_face_ask_cattlecleat_open = record {
  Post = λ κ a r e. _;
  asks_nothing = λ M 𝓤 𝓛 mem run κ a g. refl;
  asks_no_ghost = λ M 𝓤 𝓛 mem run κ a. refl;
  promises = λ M 𝓤 𝓛 mem run κ a g r e. refl;
  once = λ κ a r r' ws ws' p q.
      let e = at_exit face_ask_cattlecleat_open.ended κ a ws in
      let e' = at_exit face_ask_cattlecleat_open.ended κ a ws' in
      let s = face_ask_all.cattlecleat_open_settled κ a r r' e e' p q in
      (s, refl);
}

pub settled_face_ask_cattlecleat_sync_registers :
    Settled face_ask_cattlecleat_sync_registers.ended (λ M 𝓤 𝓛. face_ask_cattlecleat_sync_registers.clauses 𝓛) (λ κ r. r)
settled_face_ask_cattlecleat_sync_registers = record {
  Post = λ κ a r e. _;
  asks_nothing = λ M 𝓤 𝓛 mem run κ a g. refl;
  asks_no_ghost = λ M 𝓤 𝓛 mem run κ a. refl;
  promises = λ M 𝓤 𝓛 mem run κ a g r e. refl;
  once = λ κ a r r' ws ws' p q.
      let e = at_exit face_ask_cattlecleat_sync_registers.ended κ a ws in
      let e' = at_exit face_ask_cattlecleat_sync_registers.ended κ a ws' in
      let s = face_ask_all.cattlecleat_sync_registers_settled κ a r r' e e' p q in
      (s, refl);
}

pub settled_face_replay_cattlecleat_feed :
    Settled face_replay_cattlecleat_feed.ended (λ M 𝓤 𝓛. face_replay_cattlecleat_feed.clauses 𝓛) (λ κ r. r)
settled_face_replay_cattlecleat_feed = record {
  Post = λ κ a r e. _;
  asks_nothing = λ M 𝓤 𝓛 mem run κ a g. refl;
  asks_no_ghost = λ M 𝓤 𝓛 mem run κ a. refl;
  promises = λ M 𝓤 𝓛 mem run κ a g r e. refl;
  once = λ κ a r r' ws ws' p q.
      let e = at_exit face_replay_cattlecleat_feed.ended κ a ws in
      let e' = at_exit face_replay_cattlecleat_feed.ended κ a ws' in
      let s = face_replay_all.cattlecleat_feed_settled κ a r r' e e' p q in
      (λ i. (s i).0, λ i. (a.0, (at_last a.1.0 (s i).1.0, (at_last a.1.1.0 (s i).1.1, (a.1.1.1.0, tt)))));
}

pub settled_face_replay_cattlecleat_finish :
    Settled face_replay_cattlecleat_finish.ended (λ M 𝓤 𝓛. face_replay_cattlecleat_finish.clauses 𝓛) (λ κ r. r)
settled_face_replay_cattlecleat_finish = record {
  Post = λ κ a r e. _;
  asks_nothing = λ M 𝓤 𝓛 mem run κ a g. refl;
  asks_no_ghost = λ M 𝓤 𝓛 mem run κ a. refl;
  promises = λ M 𝓤 𝓛 mem run κ a g r e. refl;
  once = λ κ a r r' ws ws' p q.
      let e = at_exit face_replay_cattlecleat_finish.ended κ a ws in
      let e' = at_exit face_replay_cattlecleat_finish.ended κ a ws' in
      let s = face_replay_all.cattlecleat_finish_settled κ a r r' e e' p q in
      (λ i. (s i).0, λ i. (a.0, (at_last a.1.0 (s i).1.0, (at_last a.1.1.0 (s i).1.1, tt))));
}

pub settled_face_replay_cattlecleat_replay :
    Settled face_replay_cattlecleat_replay.ended (λ M 𝓤 𝓛. face_replay_cattlecleat_replay.clauses 𝓛) (λ κ r. r)
settled_face_replay_cattlecleat_replay = record {
  Post = λ κ a r e. _;
  asks_nothing = λ M 𝓤 𝓛 mem run κ a g. refl;
  asks_no_ghost = λ M 𝓤 𝓛 mem run κ a. refl;
  promises = λ M 𝓤 𝓛 mem run κ a g r e. refl;
  once = λ κ a r r' ws ws' p q.
      let e = at_exit face_replay_cattlecleat_replay.ended κ a ws in
      let e' = at_exit face_replay_cattlecleat_replay.ended κ a ws' in
      let s = face_replay_all.cattlecleat_replay_settled κ a r r' e e' p q in
      (λ i. (s i).0, λ i. (a.0, (at_last a.1.0 (s i).1.0, (at_last a.1.1.0 (s i).1.1, (a.1.1.1.0, tt)))));
}

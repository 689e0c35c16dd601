-- `stack::registers::judge_sync_regs` meets its contract: at each return the test that led there chooses the case. Assumes nothing.
use Rattle.choice.proofs.Choices.{choices}
use Rattle.rules.specs.Syncs.{register_tests, register_room}
use Rattle.stack.proofs.registers.judge_sync_regs.Goals as goal

pub returns-then-is_broken_state : goal.returns-then-is_broken_state
unfolding register_tests register_room
returns-then-is_broken_state c =
    search choices

pub returns : goal.returns
unfolding register_tests register_room
returns c =
    search choices

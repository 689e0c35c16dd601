-- One name that opens all that a computed table looks through: `unfolding computing` opens what its line names, and what their lines do.
-- Only the tables that the checker computes say so (Cases, Limits, Reached, TailWorlds; tools/walls). Assumes nothing.
use Rattle.choice.specs.Choose.{choose}
use Rattle.frames.specs.Rows.{too_few_words, row_at, put_row, put_ip, broken_row}
use Rattle.frames.specs.Debts.{new_row, debt_of, owing_of, carried_of}
use Rattle.runs.specs.Runs.{cleared, copied}
use Rattle.cells.specs.Cells.{reached, push_cells, replace_cells, host_cells, return_host_cells, set_cell}
use Rattle.cells.specs.Host.{bad_host_frame, host_part, host_place}
use Rattle.rules.specs.World.{newest_start}
use Rattle.rules.specs.Broken.{broken_state, broken_top, broken_next}
use Rattle.rules.specs.Shared.{grown_to, ip_stored}
use Rattle.rules.specs.Calls.{push_tests, push_room, pushed, replace_tests, replace_room, replaced}
use Rattle.rules.specs.Returns.{instance_after, returned_to, pop_tests, pop_room, popped}
use Rattle.rules.specs.Hosts.{host_tests, host_room, hosted, return_host_tests, return_host_room, returned_host, part_tests, part_room, part_lent, part_cells, part_place}
use Rattle.rules.specs.Syncs.{top_room, sync_tests, synced, restore_tests, restored, reset_tests, reset_room, emptied}
use Rattle.rules.specs.Syncs.{set_tests, set_room, cell_set, register_tests, register_room, registers_stored}
use Rattle.rules.specs.Rules.{answered}
use Rattle.rules.specs.Events.{stepped_by, ran_through}
use Rattle.rules.specs.Open.{open_tests, stack_opened}

unfoldable pub frames_opened : Type 0
unfolding too_few_words row_at put_row put_ip broken_row new_row debt_of owing_of carried_of
frames_opened = Unit {0}

unfoldable pub cells_opened : Type 0
unfolding cleared copied reached push_cells replace_cells host_cells return_host_cells set_cell bad_host_frame host_part host_place
cells_opened = Unit {0}

unfoldable pub looked_at : Type 0
unfolding choose newest_start broken_state broken_top broken_next grown_to ip_stored
looked_at = Unit {0}

unfoldable pub calls_opened : Type 0
unfolding push_tests push_room pushed replace_tests replace_room replaced instance_after returned_to pop_tests pop_room popped
calls_opened = Unit {0}

unfoldable pub hosts_opened : Type 0
unfolding host_tests host_room hosted return_host_tests return_host_room returned_host part_tests part_room part_lent part_cells part_place
hosts_opened = Unit {0}

unfoldable pub syncs_opened : Type 0
unfolding top_room sync_tests synced restore_tests restored reset_tests reset_room emptied set_tests set_room cell_set register_tests register_room registers_stored
syncs_opened = Unit {0}

unfoldable pub computing : Type 0
unfolding frames_opened cells_opened looked_at calls_opened hosts_opened syncs_opened answered stepped_by ran_through open_tests stack_opened
computing = Unit {0}

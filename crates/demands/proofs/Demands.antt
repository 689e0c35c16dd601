-- The three demands, and the requests. Assumes nothing.
use Rattle.demands.specs.Demands.{Demand1, Demand2, Demand3, Request1, Request13}
use Rattle.demands.proofs.Answers.{requests_refused, requests_follow, histories_follow}
use Rattle.demands.proofs.AsTheyCame.{numbers_asked, states_as_they_came, words_as_they_came, runs_as_they_came}
use Rattle.demands.proofs.Openings.{openings_answered}
use Rattle.demands.proofs.Leaves.{slots_filled, slots_taken, addresses_aligned}
use Rattle.demands.proofs.Records.{records_read, records_written, requests_decoded, requests_walked, records_read_back, numbers_read_back}
use Rattle.demands.proofs.Registers.{registers_handed_back, registers_read}
use Rattle.demands.proofs.Parts.{parts_inside, routine_inside, parts_told}
use Rattle.demands.proofs.Returned.{calls_return, calls_in_traces}
use Rattle.demands.proofs.Taken.{blocks_begin, blocks_follow, blocks_so_far, blocks_whole}
use Rattle.demands.proofs.Taken.{empty_changes_nothing, stop_stands, end_stands, blocks_refused}
use Rattle.demands.proofs.TapesKept.{tapes_as_they_came}
use Rattle.demands.proofs.LinesTaken.{blocks_listed, no_room_for_lines}
use Rattle.demands.proofs.TailCalls.{tails_keep, tails_in_traces}

pub demand_1 : Demand1
demand_1 = (
  requests_refused,
  numbers_asked,
  states_as_they_came,
  words_as_they_came,
  runs_as_they_came,
  openings_answered,
  slots_filled,
  slots_taken,
  addresses_aligned,
  records_read,
  records_written,
  requests_decoded,
  requests_walked,
)

pub demand_2 : Demand2
demand_2 = (requests_follow, histories_follow, records_read_back, numbers_read_back, registers_handed_back, registers_read, parts_told)

pub demand_3 : Demand3
demand_3 = (calls_return, calls_in_traces, parts_inside, routine_inside)

pub request_1 : Request1
request_1 = (
  blocks_begin,
  blocks_follow,
  blocks_so_far,
  blocks_whole,
  empty_changes_nothing,
  stop_stands,
  end_stands,
  blocks_refused,
  tapes_as_they_came,
  blocks_listed,
  no_room_for_lines,
)

pub request_13 : Request13
request_13 = (tails_keep, tails_in_traces)

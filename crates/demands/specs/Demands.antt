-- The three demands, and document 02's requests that are laws, a statement each, by the public functions' own promises. An audit signs these; the rest is
-- checked by the machine.
--     Demand1     any state, request, bytes and lent buffers get an answer. A refusal has its number and its place in document 01's order, is given
--                 exactly then, and changes no cell, frame or state. (That every public function of every library answers every input, with no
--                 `requires`, and that its promise allows one outcome, is `Settled`, of each: proofs/Functions.antt)
--     Demand2     every accepted request gives what document 01's definitions say. A trace record written reads back as the same request
--     Demand3     a caller's frame and a current instance; a call is accepted; any requests follow that never take the depth below the callee's; a
--                 return ends it. Then the caller is as it was
--     Request1    document 02, T-01: a trace that arrives in blocks. Whatever the cuts, answers, cells, spent fuel and final state equal those of the whole
--                 trace at once; an empty block changes nothing; a short record is reported at the end, and a second end adds nothing; after a stop blocks and
--                 ends only repeat it; 22 exactly for a nonempty block after an end without a stop
--     Request13   document 02, T-13: any run of replaces, with sync, set, restore and register sync among them, leaves the depth, top start and all older
--                 frames the same; `len` is the largest that was reached; the debt, if it was empty with current instance A, is empty exactly while no
--                 other instance was named, and A from then on; one accepted return then restores A
use Rattle.demands.specs.Answers.{RequestsRefused, RequestsFollow, HistoriesFollow}
use Rattle.demands.specs.AsTheyCame.{NumbersAsked, StatesAsTheyCame, WordsAsTheyCame, RunsAsTheyCame, TapesAsTheyCame}
use Rattle.demands.specs.Openings.{OpeningsAnswered}
use Rattle.demands.specs.Leaves.{SlotsFilled, SlotsTaken, AddressesAligned}
use Rattle.demands.specs.Records.{RecordsRead, RecordsWritten, RequestsDecoded, RequestsWalked, RecordsReadBack, NumbersReadBack}
use Rattle.demands.specs.Registers.{RegistersBack, RegistersRead}
use Rattle.demands.specs.Parts.{PartsInside, RoutineInside, PartsTold}
use Rattle.demands.specs.Returned.{CallsReturn, CallsInTraces}
use Rattle.demands.specs.Taken.{BlocksBegin, BlocksFollow, BlocksSoFar, BlocksWhole, EmptyChangesNothing, StopStands, EndStands, BlocksRefused}
use Rattle.demands.specs.LinesTaken.{BlocksListed, NoRoomForLines}
use Rattle.demands.specs.TailCalls.{TailsKeep, TailsInTraces}

abbrev pub Demand1 : Type 0
Demand1 =
    -- 2 to 9 and 11; and 10, of numbers over the C face
    RequestsRefused
    × NumbersAsked
    × StatesAsTheyCame
    × WordsAsTheyCame
    × RunsAsTheyCame
    -- 14
    × OpeningsAnswered
    -- 12 and 13
    × SlotsFilled
    × SlotsTaken
    -- 15
    × AddressesAligned
    -- 10
    × RecordsRead
    × RecordsWritten
    × RequestsDecoded
    × RequestsWalked

abbrev pub Demand2 : Type 0
Demand2 =
    -- openings, slots and addresses that are accepted: in the statements of demand 1
    RequestsFollow
    × HistoriesFollow
    × RecordsReadBack
    × NumbersReadBack
    × RegistersBack
    × RegistersRead
    × PartsTold

abbrev pub Demand3 : Type 0
Demand3 =
    CallsReturn
    × CallsInTraces
    -- what hosts write through the parts that they are lent lies there
    × PartsInside
    × RoutineInside

abbrev pub Request1 : Type 0
Request1 =
    BlocksBegin
    × BlocksFollow
    × BlocksSoFar
    × BlocksWhole
    × EmptyChangesNothing
    × StopStands
    × EndStands
    × BlocksRefused
    × TapesAsTheyCame
    -- and with the listing
    × BlocksListed
    × NoRoomForLines

abbrev pub Request13 : Type 0
Request13 =
    TailsKeep
    × TailsInTraces

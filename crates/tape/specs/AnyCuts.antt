-- What document 02 says of a trace in blocks.
--     fed_all t bs, joined bs       blocks fed one after another, and the bytes that they are together
--     numbers_of t bs               the numbers that they are answered
--     Coming, came_all t cs         blocks and ends in any order, and the tape after them; blocks_of bs: blocks alone
--     bytes_run t c                 the bytes that a tape runs of what comes next: whole records, or at the end the short one
-- Statements:
--     AnyCuts, AnyCutsThenAny      whatever the cuts, the blocks and the end come to the replay of the whole trace at once: state, words, cells, number,
--                                  spent fuel and stop; whatever comes behind the end
--     SoFar, ShortWaits            before the end the tape depends on the bytes alone; fewer than a record run nothing
--     RunsItsBytes                 what comes next is replayed from where the run stands
--     AllDone, EmptyBlock          before the end each block is answered 0; an empty one always is, and changes nothing
--     StopRests, StopRepeats       after a stop neither blocks nor ends change the tape, and a block is answered 0
--     EndRests                     after an end nothing changes the tape; so a second end adds nothing
--     Exactly22, Only22            22 exactly for a nonempty block after an end without a stop; no other refusal is given, and it changes nothing
--     TidyStays                    nothing but zeros is kept behind the held bytes, which are at most 39
use Rattle.std.specs.Prelude.{◌≡◌, true, false, List, [], ◌∷◌, ◌++◌, ◌↔◌, ◌⊎◌, ℕ, ◌≤◌, ◌<◌, length, replicate}
use Rattle.choice.specs.Choose.{choose}
use Rattle.record.specs.Form.{record_size}
use Rattle.replay.specs.Running.{Running, replayed}
use Rattle.tape.specs.Tapes.{Taping, most_held, held_in, kept_of, begun, whole_in, has_stopped, block_rests}
use Rattle.tape.specs.Tapes.{end_rests, went_through, fed, fed_with, feeding, end_told}

unfoldable pub fed_all : Taping → List (List ℕ) → Taping
fed_all t [] = t
fed_all t (b ∷ bs) = fed_all (fed t b) bs

abbrev pub joined : List (List ℕ) → List ℕ
joined [] = []
joined (b ∷ bs) = b ++ joined bs

unfoldable pub numbers_of : Taping → List (List ℕ) → List ℕ
numbers_of t [] = []
numbers_of t (b ∷ bs) = (feeding t b).number ∷ numbers_of (fed t b) bs

pub data Coming : Type 0 where
  a_block : List ℕ → Coming
  an_end : Coming

abbrev pub came_by : Taping → Coming → Taping
came_by t (a_block b) = fed t b
came_by t an_end = end_told t

-- the bytes that it runs
abbrev pub bytes_run : Taping → Coming → List ℕ
bytes_run t (a_block b) = choose (block_rests t b) [] (whole_in (held_in t ++ b))
bytes_run t an_end = choose (end_rests t) [] (held_in t)

unfoldable pub came_all : Taping → List Coming → Taping
came_all t [] = t
came_all t (c ∷ cs) = came_all (came_by t c) cs

abbrev pub blocks_of : List (List ℕ) → List Coming
blocks_of [] = []
blocks_of (b ∷ bs) = a_block b ∷ blocks_of bs

abbrev pub AnyCuts : Type 0
AnyCuts = (v : Running) (bs : List (List ℕ)) → (end_told (fed_all (begun v) bs)).run ≡ replayed v (joined bs)

-- and whatever comes behind the end
abbrev pub AnyCutsThenAny : Type 0
AnyCutsThenAny = (v : Running) (bs : List (List ℕ)) (cs : List Coming) → (came_all (begun v) (blocks_of bs ++ an_end ∷ cs)).run ≡ replayed v (joined bs)

abbrev pub SoFar : Type 0
SoFar = (v : Running) (bs : List (List ℕ)) → fed_all (begun v) bs ≡ went_through v (joined bs)

abbrev pub AllDone : Type 0
AllDone = (v : Running) (bs : List (List ℕ)) → numbers_of (begun v) bs ≡ replicate (length bs) 0

abbrev pub RunsItsBytes : Type 0
RunsItsBytes = (t : Taping) (c : Coming) → (came_by t c).run ≡ replayed t.run (bytes_run t c)

abbrev pub EmptyBlock : Type 0
EmptyBlock = (t : Taping) → feeding t [] ≡ fed_with t 0

abbrev pub StopRests : Type 0
StopRests = (t : Taping) (cs : List Coming) → has_stopped t.run ≡ true → came_all t cs ≡ t

abbrev pub StopRepeats : Type 0
StopRepeats = (t : Taping) (block : List ℕ) → has_stopped t.run ≡ true → feeding t block ≡ fed_with t 0

abbrev pub EndRests : Type 0
EndRests = (t : Taping) (cs : List Coming) → came_all (end_told t) cs ≡ end_told t

pub record EndedWithoutStop (t : Taping) : Type 0 where
  pub told_so : t.ended ≡ true
  pub unstopped : has_stopped t.run ≡ false

abbrev pub Exactly22 : Type 0
Exactly22 = (t : Taping) (block : List ℕ) → (feeding t block).number ≡ 22 ↔ (EndedWithoutStop t × (length block ≡ 0 → ⊥))

abbrev pub Only22 : Type 0
Only22 = (t : Taping) (block : List ℕ) → (feeding t block ≡ fed_with (fed t block) 0) ⊎ (feeding t block ≡ fed_with t 22)

abbrev pub ShortWaits : Type 0
ShortWaits = (v : Running) (bs : List (List ℕ)) → length (joined bs) < record_size → (fed_all (begun v) bs).run ≡ v

abbrev pub Tidy : Taping → Type 0
Tidy t = (t.held ≤ most_held) × (t.kept ≡ kept_of (held_in t))

abbrev pub TidyStays : Type 0
TidyStays = (v : Running) (cs : List Coming) → Tidy (came_all (begun v) cs)

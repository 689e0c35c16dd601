-- Blocks and ends of a trace (document 02, T-01) that functions have taken, by their own promises.
--     came_answer t c          what the next block, or the end, is answered, with the tape after it
--     Taken t c s             a function took it: s is what it handed back, with what both lent buffers hold
--     TapeHistory t cs u      blocks and ends one after another, by whatever functions, the tape and both buffers handed on as they are
-- Statements: BlocksFollow, what is handed back is what document 02 says; BlocksRefused, 22 exactly for a nonempty block after an end without a stop, and then
-- nothing changes; BlocksBegin, a tape that `begin` made has gone through nothing; BlocksSoFar, BlocksWhole: whatever the cuts, the tape before the end
-- depends on the bytes alone, and from the end on run, words and cells are those of the whole trace at once, whatever comes later;
-- EmptyChangesNothing; StopStands, after a stop blocks and ends only repeat it; EndStands, a second end adds nothing.
use Rattle.std.specs.Prelude.{◌≡◌, true, ◌↔◌, List, [], ◌∷◌, ◌++◌, ℕ, ◌≤◌, length, Result, ⊤}
use Rattle.replay.specs.Running.{Running, running_of, replayed}
use Rattle.tape.specs.declared.tape.Tape.{Tape}
use Rattle.tape.specs.declared.tape.AfterEnd.{AfterEnd}
use Rattle.tape.specs.Tapes.{Taping, taping_of, begun, has_stopped, went_through, ShownFed, fed_with, shown_feeding, feeding, end_told}
use Rattle.tape.specs.AnyCuts.{joined, Coming, a_block, an_end, blocks_of, EndedWithoutStop}
use Rattle.tape.proofs.begin.Reads as begins
use Rattle.tape.proofs.feed.Reads as feeds
use Rattle.tape.proofs.finish.Reads as finishes
use Rattle.listing.specs.declared.taped.LinesError.{LinesError}
use Rattle.listing.specs.Taped.{fed_lines_number}
use Rattle.listing.proofs.list_feed.Reads as list-feeds
use Rattle.listing.proofs.list_finish.Reads as list-finishes
use Rattle.face_replay.specs.declared.tapes.CTape.{CTape}
use Rattle.face_replay.specs.declared.tapes.CFed.{CFed}
use Rattle.face_replay.specs.Tapes.{taping_from}
use Rattle.face_replay.proofs.cattlecleat_feed.Reads as c-feed
use Rattle.face_replay.proofs.cattlecleat_finish.Reads as c-finish

abbrev pub came_answer : Taping → Coming → ShownFed
came_answer t (a_block b) = feeding t b
came_answer t an_end = fed_with (end_told t) 0

pub data Taken : Taping → Coming → ShownFed → Type 0 where
  by_feed : (κ : _) (a : _) (r : Result ⊤ AfterEnd) (e : _) → feeds.Post κ a r e
      → Taken (taping_of a.0.now a.1.0.now a.1.1.0.now) (a_block a.1.1.1.0.now) (shown_feeding r e.0.now e.1.0.now e.1.1.0.now)
  by_finish : (κ : _) (a : _) (r : ⊤) (e : _) → finishes.Post κ a r e
      → Taken (taping_of a.0.now a.1.0.now a.1.1.0.now) an_end (fed_with (taping_of e.0.now e.1.0.now e.1.1.0.now) 0)
  by_cattlecleat_feed : (κ : _) (a : _) (r : CFed) (e : _) → c-feed.Post κ a r e
      → Taken (taping_from a.0 a.1.0.now a.1.1.0.now) (a_block a.1.1.1.0.now)
      (fed_with (taping_from r.tape e.1.0.now e.1.1.0.now) r.number)
  by_cattlecleat_finish : (κ : _) (a : _) (r : CTape) (e : _) → c-finish.Post κ a r e
      → Taken (taping_from a.0 a.1.0.now a.1.1.0.now) an_end (fed_with (taping_from r e.1.0.now e.1.1.0.now) 0)
  -- with its lines: without room for them, 19, nothing is taken
  by_list_feed : (κ : _) (a : _) (r : Result ℕ LinesError) (e : _) → list-feeds.Post κ a r e → (fed_lines_number r ≡ 19 → ⊥)
      → Taken (taping_of a.0.now a.1.0.now a.1.1.0.now) (a_block a.1.1.1.0.now)
      (fed_with (taping_of e.0.now e.1.0.now e.1.1.0.now) (fed_lines_number r))
  by_list_finish : (κ : _) (a : _) (r : Result ℕ LinesError) (e : _) → list-finishes.Post κ a r e → (fed_lines_number r ≡ 19 → ⊥)
      → Taken (taping_of a.0.now a.1.0.now a.1.1.0.now) an_end
      (fed_with (taping_of e.0.now e.1.0.now e.1.1.0.now) (fed_lines_number r))

pub data TapeHistory : Taping → List Coming → Taping → Type 0 where
  tape_end : (t : Taping) → TapeHistory t [] t
  taken_then : (t : Taping) (c : Coming) (s : ShownFed) (cs : List Coming) (u : Taping) → Taken t c s → TapeHistory s.tape cs u → TapeHistory t (c ∷ cs) u

abbrev pub BlocksFollow : Type 0
BlocksFollow = (t : Taping) (c : Coming) (s : ShownFed) → Taken t c s → s ≡ came_answer t c

abbrev pub BlocksRefused : Type 0
BlocksRefused =
    (t : Taping) (block : List ℕ) (s : ShownFed) → Taken t (a_block block) s
    -- 22 exactly for a nonempty block after an end without a stop
    → (s.number ≡ 22 ↔ (EndedWithoutStop t × (length block ≡ 0 → ⊥)))
    -- no other refusal is given, and a refusal changes neither tape nor buffers
    × (2 ≤ s.number → s ≡ fed_with t 22)

abbrev pub BlocksBegin : Type 0
BlocksBegin =
    (κ : _) (a : _) (r : Tape) (e : _) → begins.Post κ a r e → (words cells : List ℕ) → taping_of r words cells ≡ begun (running_of a.0 words cells)

abbrev pub BlocksSoFar : Type 0
BlocksSoFar = (v : Running) (bs : List (List ℕ)) (u : Taping) → TapeHistory (begun v) (blocks_of bs) u → u ≡ went_through v (joined bs)

abbrev pub BlocksWhole : Type 0
BlocksWhole =
    (v : Running) (bs : List (List ℕ)) (cs : List Coming) (u : Taping) → TapeHistory (begun v) (blocks_of bs ++ an_end ∷ cs) u
    → u.run ≡ replayed v (joined bs)

abbrev pub EmptyChangesNothing : Type 0
EmptyChangesNothing = (t : Taping) (s : ShownFed) → Taken t (a_block []) s → s ≡ fed_with t 0

abbrev pub StopStands : Type 0
StopStands =
    (t : Taping) → has_stopped t.run ≡ true
    → ((c : Coming) (s : ShownFed) → Taken t c s → s ≡ fed_with t 0)
    × ((cs : List Coming) (u : Taping) → TapeHistory t cs u → u ≡ t)

abbrev pub EndStands : Type 0
EndStands = (t : Taping) (s : ShownFed) → Taken t an_end s → (cs : List Coming) (u : Taping) → TapeHistory s.tape cs u → u ≡ s.tape

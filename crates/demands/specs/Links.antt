-- What happens to a stack between two moments, by the functions' own promises. A whole trace is one link: so a push by a function, a trace by a replay
-- and a pop by a function make a history.
--     events_ran v ds         what the records of a replay asked for, as far as they were run
--     entries_here, entries_listed      the record at a place of a trace, none behind its end; those of a block that has room for its lines
--     entries_coming t c      those that a tape runs of what comes next
--     InPlace before after   registers that a function stores in place
--     Link d w es u          one call, or one store of a host: from world w to world u, with these events; inside a trace the depth is d or more
--     History d w es v       links one after another; in every world between them the depth is d or more
use Rattle.std.specs.Prelude.{◌≡◌, refl, List, [], ◌∷◌, ◌++◌, ℕ, ◌≤◌, leb, ltb, length, Result, is_some, Ok, Err}
use Rattle.std.proofs.lemmas.List.Edits.{sets}
use Rattle.choice.specs.Choose.{choose}
use Rattle.choice.specs.Promised.{Promised}
use Rattle.regs.specs.declared.registers.Registers.{Registers}
use Rattle.cells.specs.declared.host.HostFrame.{HostFrame}
use Rattle.record.specs.Reading.{bad_record}
use Rattle.rules.specs.declared.Asked.{Asked}
use Rattle.rules.specs.declared.Asked.TheVariants.{Traced, HostPart}
use Rattle.rules.specs.World.{World, world_of}
use Rattle.rules.specs.Answers.{After}
use Rattle.rules.specs.Events.{Event, asks, host_wrote, registers_put}
use Rattle.request.specs.Requests.{Decoded}
use Rattle.request.specs.Entries.{record_count, entry_at, entries_in}
use Rattle.replay.specs.declared.run.Run.{Run}
use Rattle.replay.specs.declared.run.Ran.{Ran}
use Rattle.replay.specs.declared.trace.Turn.{Turn}
use Rattle.replay.specs.Running.{Running, running_of, ran}
use Rattle.replay.specs.Resumed.{DepthKept}
use Rattle.replay.proofs.replay.Reads as replays
use Rattle.replay.proofs.run_record.Reads as runs
use Rattle.replay.proofs.run_next.Reads as turns
use Rattle.tape.specs.Tapes.{Taping, ShownFed}
use Rattle.tape.specs.AnyCuts.{Coming, bytes_run}
use Rattle.listing.specs.declared.block.Listed.{Listed}
use Rattle.listing.specs.declared.taped.LinesError.{LinesError}
use Rattle.listing.specs.Blocks.{block_room}
use Rattle.listing.specs.Taped.{fed_lines_number}
use Rattle.listing.proofs.list_block.Reads as lists
use Rattle.listing.proofs.list_feed.Reads as list-feeds
use Rattle.listing.proofs.list_finish.Reads as list-finishes
use Rattle.face.specs.declared.state.CState.{CState}
use Rattle.face.specs.Requests.{request_from}
use Rattle.face_leaves.specs.contracts.cattlecleat_put_ireg as c-put-ireg
use Rattle.face_leaves.specs.contracts.cattlecleat_put_freg32 as c-put-freg32
use Rattle.face_leaves.specs.contracts.cattlecleat_put_freg64 as c-put-freg64
use Rattle.face_leaves.specs.contracts.cattlecleat_put_registers as c-put-registers
use Rattle.face_leaves.specs.contracts.cattlecleat_zero_registers as c-zero-registers
use Rattle.face_ask.specs.declared.answers.CAnswer.{CAnswer}
use Rattle.face_ask.proofs.cattlecleat_ask.Reads as c-ask
use Rattle.face_replay.specs.declared.traces.CRun.{CRun}
use Rattle.face_replay.specs.Runs.{running_from}
use Rattle.face_replay.proofs.cattlecleat_replay.Reads as c-replay
use Rattle.demands.specs.Heard.{world_said, Heard, RoutineHeard, routine_writes}
use Rattle.demands.specs.Taken.{Taken}

-- ---- the records of a trace

-- one that reads badly asks for nothing
abbrev pub events_by : Decoded → List Event → List Event
events_by (Ok q) es = asks (Traced q) ∷ es
events_by (Err e) es = es

-- where the run has stopped, nothing more is asked
unfoldable pub events_ran : Running → List Decoded → List Event
events_ran v [] = []
events_ran v (d ∷ ds) = choose (is_some (ran v d).run.stop) [] (events_by d (events_ran (ran v d).run ds))

abbrev pub entries_here : List ℕ → (at : ℕ) → List Decoded
entries_here bytes at = choose (leb (length bytes) at) [] (entry_at bytes at ∷ [])

abbrev pub entries_listed : (bytes out : List ℕ) → List Decoded
entries_listed bytes out = choose (ltb (length out) (block_room (record_count (length bytes)))) [] (entries_in bytes)

-- of a tape: those that a block makes whole, or the short one at the end
abbrev pub entries_coming : Taping → Coming → List Decoded
entries_coming t c = entries_in (bytes_run t c)

-- ---- registers in place. Their promise is what the checker made of their `clauses`

abbrev pub put_ireg_says : Promised c-put-ireg.ended (λ M 𝓤 𝓛. c-put-ireg.clauses 𝓛)
put_ireg_says = record { Post = λ κ a r e. _; ensures = λ M 𝓤 𝓛 mem run κ a g r e. refl }

abbrev pub put_freg32_says : Promised c-put-freg32.ended (λ M 𝓤 𝓛. c-put-freg32.clauses 𝓛)
put_freg32_says = record { Post = λ κ a r e. _; ensures = λ M 𝓤 𝓛 mem run κ a g r e. refl }

abbrev pub put_freg64_says : Promised c-put-freg64.ended (λ M 𝓤 𝓛. c-put-freg64.clauses 𝓛)
put_freg64_says = record { Post = λ κ a r e. _; ensures = λ M 𝓤 𝓛 mem run κ a g r e. refl }

abbrev pub put_registers_says : Promised c-put-registers.ended (λ M 𝓤 𝓛. c-put-registers.clauses 𝓛)
put_registers_says = record { Post = λ κ a r e. _; ensures = λ M 𝓤 𝓛 mem run κ a g r e. refl }

abbrev pub zero_registers_says : Promised c-zero-registers.ended (λ M 𝓤 𝓛. c-zero-registers.clauses 𝓛)
zero_registers_says = record { Post = λ κ a r e. _; ensures = λ M 𝓤 𝓛 mem run κ a g r e. refl }

pub data InPlace : Registers → Registers → Type 0 where
  by_put_ireg : (κ : _) (a : _) (r : _) (e : _) → put_ireg_says.Post κ a r e → InPlace a.0.now e.0.now
  by_put_freg32 : (κ : _) (a : _) (r : _) (e : _) → put_freg32_says.Post κ a r e → InPlace a.0.now e.0.now
  by_put_freg64 : (κ : _) (a : _) (r : _) (e : _) → put_freg64_says.Post κ a r e → InPlace a.0.now e.0.now
  by_put_registers : (κ : _) (a : _) (r : _) (e : _) → put_registers_says.Post κ a r e → InPlace a.0.now e.0.now
  by_zero_registers : (κ : _) (a : _) (r : _) (e : _) → zero_registers_says.Post κ a r e → InPlace a.0.now e.0.now

-- a state's numbers, with these registers
abbrev pub numbers_with : CState → Registers → CState
numbers_with s regs = record {
  depth = s.depth;
  height = s.height;
  words = s.words;
  cells = s.cells;
  count = s.count;
  len = s.len;
  currentflag = s.currentflag;
  current = s.current;
  regs = regs;
}

-- ---- links

pub data Link (d : ℕ) : World → List Event → World → Type 0 where
  asked : (w : World) (a : Asked) (t : After) → Heard w a t → Link d w (asks a ∷ []) t.world
  -- a host stores values in the cells, or the routine of `call_host` does
  by_host_store : (w : World) (at : ℕ) (values : List ℕ) → Link d w (host_wrote at values ∷ []) (world_of w.state w.words (sets w.cells at values))
  by_routine : (w : World) (f : HostFrame) (t : After) → RoutineHeard w f t
      → Link d w (asks (HostPart f) ∷ host_wrote f.start (routine_writes w f) ∷ []) t.world
  -- numbers that say no request
  none_asked : (κ : _) (a : _) (r : CAnswer) (e : _) → c-ask.Post κ a r e → request_from a.1.1.1.0 ≡ Err bad_record
      → Link d (world_said a.0 a.1.0.now a.1.1.0.now) [] (world_said r.state e.1.0.now e.1.1.0.now)
  -- the registers of a state that a host holds as numbers
  put_in_place : (s : CState) (words cells : List ℕ) (regs : Registers) → InPlace s.regs regs
      → Link d (world_said s words cells) (registers_put regs ∷ []) (world_said (numbers_with s regs) words cells)
  -- a whole trace, or one record of it
  by_cattlecleat_replay : (κ : _) (a : _) (r : CRun) (e : _) → c-replay.Post κ a r e
      → DepthKept d (running_from a.0 a.1.0.now a.1.1.0.now) (entries_in a.1.1.1.0.now)
      → Link d (world_said a.0.state a.1.0.now a.1.1.0.now)
      (events_ran (running_from a.0 a.1.0.now a.1.1.0.now) (entries_in a.1.1.1.0.now))
      (world_said r.state e.1.0.now e.1.1.0.now)
  by_replay : (κ : _) (a : _) (r : Run) (e : _) → replays.Post κ a r e
      → DepthKept d (running_of a.0 a.1.0.now a.1.1.0.now) (entries_in a.1.1.1.0.now)
      → Link d (world_of a.0.state a.1.0.now a.1.1.0.now)
      (events_ran (running_of a.0 a.1.0.now a.1.1.0.now) (entries_in a.1.1.1.0.now))
      (world_of r.state e.1.0.now e.1.1.0.now)
  by_run_record : (κ : _) (a : _) (r : Ran) (e : _) → runs.Post κ a r e
      → DepthKept d (running_of a.0 a.1.0.now a.1.1.0.now) (a.1.1.1.0 ∷ [])
      → Link d (world_of a.0.state a.1.0.now a.1.1.0.now)
      (events_ran (running_of a.0 a.1.0.now a.1.1.0.now) (a.1.1.1.0 ∷ []))
      (world_of r.run.state e.1.0.now e.1.1.0.now)
  by_run_next : (κ : _) (a : _) (r : Turn) (e : _) → turns.Post κ a r e
      → DepthKept d (running_of a.0 a.1.0.now a.1.1.0.now) (entries_here a.1.1.1.0.now a.1.1.1.1.0)
      → Link d (world_of a.0.state a.1.0.now a.1.1.0.now)
      (events_ran (running_of a.0 a.1.0.now a.1.1.0.now) (entries_here a.1.1.1.0.now a.1.1.1.1.0))
      (world_of r.ran.run.state e.1.0.now e.1.1.0.now)
  -- a block of a tape, or its end
  came_next : (t : Taping) (c : Coming) (s : ShownFed) → Taken t c s → DepthKept d t.run (entries_coming t c)
      → Link d t.run.world (events_ran t.run (entries_coming t c)) s.tape.run.world
  -- a block, or an end, without room for its lines
  no_room_to_feed : (κ : _) (a : _) (r : Result ℕ LinesError) (e : _) → list-feeds.Post κ a r e → fed_lines_number r ≡ 19
      → Link d (world_of a.0.now.run.state a.1.0.now a.1.1.0.now) [] (world_of e.0.now.run.state e.1.0.now e.1.1.0.now)
  no_room_to_finish : (κ : _) (a : _) (r : Result ℕ LinesError) (e : _) → list-finishes.Post κ a r e → fed_lines_number r ≡ 19
      → Link d (world_of a.0.now.run.state a.1.0.now a.1.1.0.now) [] (world_of e.0.now.run.state e.1.0.now e.1.1.0.now)
  -- a block of a trace, with its lines
  by_list_block : (κ : _) (a : _) (r : Listed) (e : _) → lists.Post κ a r e
      → DepthKept d (running_of a.0 a.1.0.now a.1.1.0.now) (entries_listed a.1.1.1.0.now a.1.1.1.1.0.now)
      → Link d (world_of a.0.state a.1.0.now a.1.1.0.now)
      (events_ran (running_of a.0 a.1.0.now a.1.1.0.now) (entries_listed a.1.1.1.0.now a.1.1.1.1.0.now))
      (world_of r.run.state e.1.0.now e.1.1.0.now)

pub data History (d : ℕ) : World → List Event → World → Type 0 where
  history_end : (w : World) → d ≤ w.state.count → History d w [] w
  link_then : (w : World) (es : List Event) (u : World) (fs : List Event) (v : World) → d ≤ w.state.count → Link d w es u → History d u fs v
      → History d w (es ++ fs) v

-- The listing of a trace that arrives in blocks (document 02, T-01), where hosts stand: what `list_feed`, `list_finish` and `list_end` wrote.
--     LinesHistory t bs text u          blocks listed one after another by `list_feed`, each done, the texts that they wrote joined
-- BlocksListed: these texts, that of the end, and the lines behind them are the listing of the whole trace, whatever the cuts. NoRoomForLines: 19 exactly
-- where records would be run and the buffer has no room for as many of the longest lines; refused, tape, words, cells and buffer are as they were.
use Rattle.std.specs.Prelude.{◌≡◌, false, ◌↔◌, List, [], ◌∷◌, ◌++◌, ℕ, ◌≤◌, ◌<◌, length, take, Result, Ok}
use Rattle.request.specs.Entries.{entries_in}
use Rattle.replay.specs.Running.{Running}
use Rattle.tape.specs.Tapes.{Taping, taping_of, begun, block_rests, end_rests}
use Rattle.tape.specs.AnyCuts.{joined}
use Rattle.listing.specs.declared.taped.LinesError.{LinesError}
use Rattle.listing.specs.Listing.{listing_of, text_of}
use Rattle.listing.specs.Blocks.{block_room}
use Rattle.listing.specs.Taped.{fed_lines_number, block_lines_room, end_lines_room}
use Rattle.listing.proofs.list_feed.Reads as list-feeds
use Rattle.listing.proofs.list_finish.Reads as list-finishes
use Rattle.listing.proofs.list_end.Reads as list-ends

pub data LinesHistory : Taping → List (List ℕ) → List ℕ → Taping → Type 0 where
  lines_end : (t : Taping) → LinesHistory t [] [] t
  listed_then : (κ : _) (a : _) (r : Result ℕ LinesError) (e : _) (used : ℕ) → list-feeds.Post κ a r e → r ≡ Ok used
      → (bs : List (List ℕ)) (text : List ℕ) (u : Taping) → LinesHistory (taping_of e.0.now e.1.0.now e.1.1.0.now) bs text u
      → LinesHistory (taping_of a.0.now a.1.0.now a.1.1.0.now) (a.1.1.1.0.now ∷ bs) (take used e.1.1.1.1.0.now ++ text) u

abbrev pub BlocksListed : Type 0
BlocksListed =
    (v : Running) (bs : List (List ℕ)) (text : List ℕ) (t : Taping) → LinesHistory (begun v) bs text t
    -- the end is told, and its lines written
    → (κ : _) (a : _) (r : Result ℕ LinesError) (e : _) (used : ℕ) → list-finishes.Post κ a r e → r ≡ Ok used
    → taping_of a.0.now a.1.0.now a.1.1.0.now ≡ t
    -- and the lines behind, in a buffer with room for two
    → (ι : _) (b : _) (n : ℕ) (f : _) → list-ends.Post ι b n f → b.0 ≡ e.0.now.run → block_room 2 ≤ length b.1.0.now
    → text ++ (take used e.1.1.1.0.now ++ take n f.1.0.now) ≡ text_of (listing_of v (entries_in (joined bs)))

abbrev pub NoRoomForLines : Type 0
NoRoomForLines =
    ((κ : _) (a : _) (r : Result ℕ LinesError) (e : _) → list-feeds.Post κ a r e
    → (fed_lines_number r ≡ 19
    ↔ ((block_rests (taping_of a.0.now a.1.0.now a.1.1.0.now) a.1.1.1.0.now ≡ false)
    × (length a.1.1.1.1.0.now < block_lines_room (taping_of a.0.now a.1.0.now a.1.1.0.now) a.1.1.1.0.now)))
    × (2 ≤ fed_lines_number r
    → (e.0.now ≡ a.0.now) × (e.1.0.now ≡ a.1.0.now) × (e.1.1.0.now ≡ a.1.1.0.now) × (e.1.1.1.1.0.now ≡ a.1.1.1.1.0.now)))
    × ((κ : _) (a : _) (r : Result ℕ LinesError) (e : _) → list-finishes.Post κ a r e
    → (fed_lines_number r ≡ 19
    ↔ ((end_rests (taping_of a.0.now a.1.0.now a.1.1.0.now) ≡ false)
    × (length a.1.1.1.0.now < end_lines_room (taping_of a.0.now a.1.0.now a.1.1.0.now))))
    × (2 ≤ fed_lines_number r
    → (e.0.now ≡ a.0.now) × (e.1.0.now ≡ a.1.0.now) × (e.1.1.0.now ≡ a.1.1.0.now) × (e.1.1.1.0.now ≡ a.1.1.1.0.now)))

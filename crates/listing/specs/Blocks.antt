-- The listing in blocks: what writing the lines of a block of records into a buffer gives.
--     lines_text v ds            the text of the records' lines
--     block_room n               room for the lines of so many records
--     ListedBlock, shown_block        the run after a block, how many bytes of text there are, and the buffer
--     block_listed v bytes out   the lines of a block of records, at the start of a buffer; where there is no room for the longest lines, nothing is run
--     end_listed text out        the text of the lines behind those of the records, likewise
-- Two statements, LinesJoin and ListingInBlocks: the lines of a trace of whole records with another behind it are the lines of the two, one after the
-- other; so the text of a listing is that of its blocks, and of its end.
use Rattle.std.specs.Prelude.{◌≡◌, List, ◌++◌, ℕ, ◌*◌, ltb, length, Option, None, Some, is_some}
use Rattle.std.proofs.lemmas.List.Edits.{sets}
use Rattle.choice.specs.Choose.{choose}
use Rattle.lines.specs.Text.{longest_text, line_text, stopped_text, ShownText, shown_text, text_put}
use Rattle.request.specs.Requests.{Decoded}
use Rattle.request.specs.Entries.{record_count, entries_in, WholeRecords}
use Rattle.replay.specs.Running.{Running, running_of, replayed}
use Rattle.replay.specs.Turns.{turn_at}
use Rattle.listing.specs.declared.block.Listed.{Listed}
use Rattle.listing.specs.Listing.{line_of, lines_of, said_of, listing_of, text_of}

unfoldable pub lines_text : Running → List Decoded → List ℕ
lines_text v ds = text_of (said_of (lines_of v ds))

abbrev pub block_room : (n : ℕ) → ℕ
block_room n = n * longest_text

pub record ListedBlock : Type 0 where
  pub run : Running
  pub used : ℕ
  pub out : List ℕ

abbrev pub block_of : Running → (used : ℕ) → List ℕ → ListedBlock
block_of v used out = record { run = v; used = used; out = out }

abbrev pub shown_block : Listed → (words cells out : List ℕ) → ListedBlock
shown_block l words cells out = block_of (running_of l.run words cells) l.used out

-- a text at the start of a buffer
abbrev pub block_with : Running → (text out : List ℕ) → ListedBlock
block_with v text out = block_of v (length text) (sets out 0 text)

unfoldable pub block_listed : Running → (bytes out : List ℕ) → ListedBlock
block_listed v bytes out =
    choose (ltb (length out) (block_room (record_count (length bytes)))) (block_of v 0 out)
    (block_with (replayed v bytes) (lines_text v (entries_in bytes)) out)

-- the record at a place, with its line at a place of the buffer
abbrev pub listed_at : Running → ShownText → ListedBlock
listed_at v text = block_of v text.next text.bytes

unfoldable pub record_listed : Running → (bytes : List ℕ) (at : ℕ) → (out : List ℕ) (used : ℕ) → ListedBlock
record_listed v bytes at out used =
    let t = (turn_at v bytes at).turned in
    listed_at t.run (choose (is_some t.run.stop) (shown_text used out) (text_put out used (line_text (line_of v.number t))))

-- ---- the end

abbrev pub stop_listed : (number : ℕ) → Option ℕ → (out : List ℕ) → ShownText
stop_listed number None out = shown_text 0 out
stop_listed number (Some cost) out = text_put out 0 (stopped_text number cost)

-- a text at the start of a buffer that has room for two lines
unfoldable pub end_listed : (text out : List ℕ) → ShownText
end_listed text out = choose (ltb (length out) (block_room 2)) (shown_text 0 out) (shown_text (length text) (sets out 0 text))

-- ---- statements

abbrev pub LinesJoin : Type 0
LinesJoin =
    (v : Running) (a b : List ℕ) → WholeRecords a
    → lines_text v (entries_in (a ++ b)) ≡ lines_text v (entries_in a) ++ lines_text (replayed v a) (entries_in b)

abbrev pub ListingInBlocks : Type 0
ListingInBlocks =
    (v : Running) (a b : List ℕ) → WholeRecords a
    → text_of (listing_of v (entries_in (a ++ b))) ≡ lines_text v (entries_in a) ++ text_of (listing_of (replayed v a) (entries_in b))

-- The listing of a trace that arrives in blocks (document 02, T-01): what a block of a tape, and its end, come to, with the lines of the records that
-- were run as text at the start of a lent buffer.
--     lines_fed t block, lines_told t       the text of the lines of a block, and of the end; none where the tape stays as it is
--     lines_fed_all t bs                    of blocks one after another
--     block_lines_room, end_lines_room        room for as many of the longest lines as records would be run
--     list_feed_tests t block out           22 as without a listing; then 19, where records would be run and the buffer has no such room
--     list_feeding t block out             the number answered, how many bytes of text there are, the tape, and the buffer. Refused, both are as they were
--     list_end_tests, list_telling           the same of the end, which gives no 22
-- ListingAnyCuts: whatever the cuts, the texts of the blocks and of the end, with the lines behind those of the records, are the listing of the whole
-- trace.
use Rattle.std.specs.Prelude.{◌≡◌, not, ◌&&◌, List, [], ◌∷◌, ◌++◌, ℕ, ◌+◌, ◌/◌, ltb, length, Result, Ok, Err}
use Rattle.std.proofs.lemmas.List.Edits.{sets}
use Rattle.choice.specs.Choose.{choose}
use Rattle.choice.specs.Tests.{Test, ◌gives◌, settle}
use Rattle.record.specs.Form.{record_size}
use Rattle.request.specs.Entries.{record_count, entries_in}
use Rattle.replay.specs.Running.{Running, replayed}
use Rattle.tape.specs.declared.tape.Tape.{Tape}
use Rattle.tape.specs.Tapes.{Taping, taping_of, held_in, begun, whole_in, block_rests, end_rests, went_through, feed_tests, fed, end_told}
use Rattle.tape.specs.AnyCuts.{fed_all, joined}
use Rattle.listing.specs.declared.taped.LinesError.{LinesError}
use Rattle.listing.specs.declared.taped.LinesError.TheVariants.{AfterEnd, NoRoom}
use Rattle.listing.specs.Listing.{said_at_end, listing_of, text_of}
use Rattle.listing.specs.Blocks.{lines_text, block_room, ListedBlock, block_with}

-- ---- the lines

unfoldable pub lines_fed : Taping → (block : List ℕ) → List ℕ
lines_fed t block = choose (block_rests t block) [] (lines_text t.run (entries_in (whole_in (held_in t ++ block))))

unfoldable pub lines_told : Taping → List ℕ
lines_told t = choose (end_rests t) [] (lines_text t.run (entries_in (held_in t)))

unfoldable pub lines_fed_all : Taping → List (List ℕ) → List ℕ
lines_fed_all t [] = []
lines_fed_all t (b ∷ bs) = lines_fed t b ++ lines_fed_all (fed t b) bs

-- ---- what is answered

pub record ShownLines : Type 0 where
  pub number : ℕ
  pub used : ℕ
  pub tape : Taping
  pub out : List ℕ

abbrev pub lines_out : (number used : ℕ) → Taping → (out : List ℕ) → ShownLines
lines_out number used t out = record { number = number; used = used; tape = t; out = out }

abbrev pub lines_refused : Taping → (out : List ℕ) → (number : ℕ) → ShownLines
lines_refused t out number = lines_out number 0 t out

-- a text at the start of the buffer
abbrev pub lines_done : Taping → (text out : List ℕ) → ShownLines
lines_done t text out = lines_out 0 (length text) t (sets out 0 text)

abbrev pub fed_lines_number : Result ℕ LinesError → ℕ
fed_lines_number (Ok used) = 0
fed_lines_number (Err AfterEnd) = 22
fed_lines_number (Err NoRoom) = 19

abbrev pub fed_lines_used : Result ℕ LinesError → ℕ
fed_lines_used (Ok used) = used
fed_lines_used (Err why) = 0

-- the error that a refusal of `feed` goes up as
abbrev pub refused_as_fed : LinesError
refused_as_fed = AfterEnd

abbrev pub shown_lines : Result ℕ LinesError → Tape → (words cells out : List ℕ) → ShownLines
shown_lines r t words cells out = lines_out (fed_lines_number r) (fed_lines_used r) (taping_of t words cells) out

-- ---- a block

-- the whole records of the held bytes and the block together
abbrev pub block_lines_room : Taping → (block : List ℕ) → ℕ
block_lines_room t block = block_room ((length (held_in t) + length block) / record_size)

unfoldable pub list_feed_tests : Taping → (block out : List ℕ) → List Test
unfolding feed_tests
list_feed_tests t block out = feed_tests t block ++ (not (block_rests t block) && ltb (length out) (block_lines_room t block)) gives 19 ∷ []

unfoldable pub list_feeding : Taping → (block out : List ℕ) → ShownLines
unfolding list_feed_tests
list_feeding t block out = settle (list_feed_tests t block out) (lines_refused t out) (lines_done (fed t block) (lines_fed t block) out)

-- ---- the end

-- the held bytes are a short record
abbrev pub end_lines_room : Taping → ℕ
end_lines_room t = block_room (record_count (length (held_in t)))

unfoldable pub list_end_tests : Taping → (out : List ℕ) → List Test
list_end_tests t out = (not (end_rests t) && ltb (length out) (end_lines_room t)) gives 19 ∷ []

unfoldable pub list_telling : Taping → (out : List ℕ) → ShownLines
unfolding list_end_tests
list_telling t out = settle (list_end_tests t out) (lines_refused t out) (lines_done (end_told t) (lines_told t) out)

-- ---- how the code goes: bytes behind others, and a block that is cut

abbrev pub both_listed : Running → (a b out : List ℕ) → ListedBlock
both_listed v a b out = block_with (replayed (replayed v a) b) (lines_text v (entries_in a) ++ lines_text (replayed v a) (entries_in b)) out

abbrev pub cut_listed : Running → (bytes out : List ℕ) → ShownLines
cut_listed v bytes out = lines_done (went_through v bytes) (lines_text v (entries_in (whole_in bytes))) out

-- ---- statement

abbrev pub ListingAnyCuts : Type 0
ListingAnyCuts =
    (v : Running) (bs : List (List ℕ))
    → lines_fed_all (begun v) bs ++ (lines_told (fed_all (begun v) bs) ++ text_of (said_at_end (end_told (fed_all (begun v) bs)).run))
    ≡ text_of (listing_of v (entries_in (joined bs)))

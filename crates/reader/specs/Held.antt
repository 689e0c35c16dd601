-- A reader as a value, the two requests that stand next, and a reader's walk over its trace.
--     reader_on bytes at            the reader of lent bytes, at a place
--     passed r                     the reader past what stands next: the same bytes, at the next place
--     shown_two, nexts_at bytes at   what stands at a place, and what stands at the next place
--     entries_ahead r               what all from its place on say
--     passed_by k r                 the reader past k that stand next
--     place_by k len at             the place behind k records, as the cursor has it
--     handed_out k r                what k requests say that a reader hands out, moving on behind each
use Rattle.std.specs.Prelude.{List, [], ◌∷◌, ℕ, zero, suc, length}
use Rattle.std.specs.Borrow.{Bor}
use Rattle.request.specs.Requests.{Decoded}
use Rattle.request.specs.Walk.{next_place, ShownNext, shown_next, next_at}
use Rattle.request.specs.Entries.{entry_at, entries_left}
use Rattle.reader.specs.declared.Reader.{Reader}
use Rattle.reader.specs.declared.Two.{Two}

abbrev pub reader_on : Bor (List ℕ) → (at : ℕ) → Reader
reader_on bytes at = record { bytes = bytes; at = at }

abbrev pub passed : Reader → Reader
passed r = reader_on r.bytes (next_place (length r.bytes.now) r.at)

-- ---- the two that stand next

pub record ShownTwo : Type 0 where
  pub first : ShownNext
  pub second : ShownNext

abbrev pub shown_two : Two → ShownTwo
shown_two t = record { first = shown_next t.first; second = shown_next t.second }

abbrev pub nexts_at : List ℕ → (at : ℕ) → ShownTwo
nexts_at bytes at = record { first = next_at bytes at; second = next_at bytes (next_place (length bytes) at) }

-- ---- a walk

abbrev pub entries_ahead : Reader → List Decoded
entries_ahead r = entries_left r.bytes.now r.at

abbrev pub passed_by : (k : ℕ) → Reader → Reader
passed_by zero r = r
passed_by (suc k) r = passed_by k (passed r)

abbrev pub place_by : (k len at : ℕ) → ℕ
place_by zero len at = at
place_by (suc k) len at = place_by k len (next_place len at)

abbrev pub handed_out : (k : ℕ) → Reader → List Decoded
handed_out zero r = []
handed_out (suc k) r = entry_at r.bytes.now r.at ∷ handed_out k (passed r)

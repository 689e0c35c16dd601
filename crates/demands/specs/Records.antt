-- Demands 1 and 2, of trace records: 10 exactly then, and a record written reads back as the same request.
--     Unreadable bytes at          document 01's causes of 10: fewer than 40 bytes, a spare byte that is not 0, a record that breaks the rules of its kind
--     ReadHeard bytes at t         a record was read at a place, and t was answered
--     WriteHeard bytes at r t      the record r was written at a place, and t was answered, with the bytes then
--     NextHeard bytes at t         what stands at a place of a trace was asked for
--     RecordsRead, RecordsWritten, RequestsDecoded, RequestsWalked      10 exactly then
--     RecordsReadBack              a record written reads back as the same record, and so as the same request
--     NumbersReadBack              over the C face: as numbers that say the same request
use Rattle.std.specs.Prelude.{◌≡◌, ⊤, Result, false, ◌↔◌, ◌⊎◌, List, ℕ, ◌+◌, ◌≤◌, ◌<◌, length}
use Rattle.record.specs.declared.Record.{Record}
use Rattle.record.specs.declared.BadRecord.{BadRecord}
use Rattle.record.specs.Form.{record_size, spare_in, FieldsFit}
use Rattle.record.specs.Kinds.{lawful_record}
use Rattle.record.specs.Reading.{part_at, record_at, ShownRead, read_number, read_refused, shown_read, ShownWrite, write_number, write_refused, write_done, shown_write}
use Rattle.record.proofs.read_record.Reads as read-record
use Rattle.record.proofs.write_record.Reads as write-record
use Rattle.rules.specs.declared.Request.{Request}
use Rattle.request.specs.Requests.{Decoded, Next, record_for}
use Rattle.request.specs.Walk.{shown_decoded, ShownNext, next_asks, next_none, shown_next}
use Rattle.request.proofs.request_of.Reads as request-of
use Rattle.request.proofs.next_request.Reads as next-request
use Rattle.request.proofs.write_request.Reads as write-request
use Rattle.face.specs.Requests.{request_from}
use Rattle.face_leaves.specs.declared.records.CRead.{CRead}
use Rattle.face_leaves.specs.Spelt.{record_spelt}
use Rattle.face_leaves.proofs.cattlecleat_read_record.Reads as c-read-record
use Rattle.face_leaves.proofs.cattlecleat_write_record.Reads as c-write-record

abbrev pub Unreadable : List ℕ → (at : ℕ) → Type 0
Unreadable bytes at =
    (length bytes < at + record_size)
    ⊎ ((0 < spare_in (part_at bytes at))
    ⊎ (lawful_record (record_at bytes at) ≡ false))

-- ---- what was heard

abbrev pub read_said : CRead → ShownRead
read_said r = read_number r.number (record_spelt r.request)

pub data ReadHeard : List ℕ → (at : ℕ) → ShownRead → Type 0 where
  by_read_record : (κ : _) (a : _) (r : Result Record BadRecord) (e : _) → read-record.Post κ a r e → ReadHeard a.0.now a.1.0 (shown_read r)
  by_cattlecleat_read_record : (κ : _) (a : _) (r : CRead) (e : _) → c-read-record.Post κ a r e → ReadHeard a.0.now a.1.0 (read_said r)

pub data WriteHeard : List ℕ → (at : ℕ) → Record → ShownWrite → Type 0 where
  by_write_record : (κ : _) (a : _) (r : Result ⊤ BadRecord) (e : _) → write-record.Post κ a r e
      → WriteHeard a.0.now a.1.0 a.1.1.0 (shown_write r e.0.now)
  -- a request's record
  by_write_request : (κ : _) (a : _) (r : Result ⊤ BadRecord) (e : _) → write-request.Post κ a r e
      → WriteHeard a.0.now a.1.0 (record_for a.1.1.0) (shown_write r e.0.now)
  -- the record that the numbers spell
  by_cattlecleat_write_record : (κ : _) (a : _) (r : ℕ) (e : _) → c-write-record.Post κ a r e
      → WriteHeard a.0.now a.1.0 (record_spelt a.1.1.0) (write_number r e.0.now)

pub data NextHeard : List ℕ → (at : ℕ) → ShownNext → Type 0 where
  by_next_request : (κ : _) (a : _) (r : Next) (e : _) → next-request.Post κ a r e → NextHeard a.0.now a.1.0 (shown_next r)

-- ---- 10

abbrev pub RecordsRead : Type 0
RecordsRead =
    (bytes : List ℕ) (at : ℕ) (t : ShownRead) → ReadHeard bytes at t
    → (t.number ≡ 10 ↔ Unreadable bytes at) × ((t ≡ read_refused 10) ⊎ (t ≡ read_number 0 (record_at bytes at)))

-- too few bytes, or a record that breaks the rules of its kind; and then no byte has changed
abbrev pub RecordsWritten : Type 0
RecordsWritten =
    (bytes : List ℕ) (at : ℕ) (r : Record) (t : ShownWrite) → WriteHeard bytes at r t
    → (t.number ≡ 10 ↔ ((length bytes < at + record_size) ⊎ (lawful_record r ≡ false))) × ((t ≡ write_refused bytes 10) ⊎ (t ≡ write_done bytes at r))

-- a record by value
abbrev pub RequestsDecoded : Type 0
RequestsDecoded =
    (κ : _) (a : _) (r : Decoded) (e : _) → request-of.Post κ a r e → (shown_decoded r).number ≡ 10 ↔ lawful_record a.0 ≡ false

-- before the end of a trace as the reader says; at it, and behind it, nothing
abbrev pub RequestsWalked : Type 0
RequestsWalked =
    (bytes : List ℕ) (at : ℕ) (t : ShownNext) → NextHeard bytes at t
    → (t.number ≡ 10 ↔ ((at < length bytes) × Unreadable bytes at)) × (t ≡ next_none ↔ length bytes ≤ at)

-- ---- back

-- every number of a record can be spelt with the width of its field: so of every `Record` and every `Request`, by their types
abbrev pub RecordsReadBack : Type 0
RecordsReadBack =
    (bytes : List ℕ) (at : ℕ) (r : Record) (t : ShownWrite) → WriteHeard bytes at r t → FieldsFit r → t.number ≡ 0
    -- the record
    → ((read : ShownRead) → ReadHeard t.bytes at read → read ≡ read_number 0 r)
    -- and the request that it is of
    × ((q : Request) → r ≡ record_for q → (next : ShownNext) → NextHeard t.bytes at next → next ≡ next_asks (at + record_size) q)

abbrev pub NumbersReadBack : Type 0
NumbersReadBack =
    (κ : _) (a : _) (n : ℕ) (e : _) → c-write-record.Post κ a n e → FieldsFit (record_spelt a.1.1.0) → n ≡ 0
    → (κ' : _) (b : _) (r : CRead) (f : _) → c-read-record.Post κ' b r f → b.0.now ≡ e.0.now → b.1.0 ≡ a.1.0
    → (r.number ≡ 0) × (request_from r.request ≡ request_from a.1.1.0)

-- Single records as numbers.
--     read_told t               what reading one hands out: with 10 all zeros
--     written_by bytes at q     what writing the record that the numbers spell gives: 10 where it breaks the rules of its kind
-- Statements: ReadBack, what was written at a place reads there as numbers that say the same request; WriteBack, what was read at a place, written there
-- again, leaves every byte as it was.
use Rattle.std.specs.Prelude.{◌≡◌, ℕ, List}
use Rattle.record.specs.Numbers.{AllBytes}
use Rattle.record.specs.Form.{FieldsFit}
use Rattle.record.specs.Reading.{ShownRead, read_at, ShownWrite, write_number, record_written}
use Rattle.face.specs.declared.requests.CRequest.{CRequest}
use Rattle.face.specs.Requests.{request_from, request_to}
use Rattle.face_leaves.specs.declared.records.CRead.{CRead}
use Rattle.face_leaves.specs.Spelt.{record_spelt}

abbrev pub read_told : ShownRead → CRead
read_told t = record { number = t.number; request = request_to t.found }

abbrev pub written_by : List ℕ → (at : ℕ) → CRequest → ShownWrite
written_by bytes at q = record_written bytes at (record_spelt q)

-- each number fits its field: so of all that is written, by the types of the struct
abbrev pub ReadBack : Type 0
ReadBack =
    (bytes : List ℕ) (at : ℕ) (q : CRequest) → FieldsFit (record_spelt q) → (written_by bytes at q).number ≡ 0
    → ((read_told (read_at (written_by bytes at q).bytes at)).number ≡ 0)
    × (request_from (read_told (read_at (written_by bytes at q).bytes at)).request ≡ request_from q)

abbrev pub WriteBack : Type 0
WriteBack =
    (bytes : List ℕ) (at : ℕ) → AllBytes bytes → (read_told (read_at bytes at)).number ≡ 0
    → written_by bytes at (read_told (read_at bytes at)).request ≡ write_number 0 bytes

-- What the number of a record written says, from what the functions below promise. Assumes nothing.
use Rattle.std.proofs.Common.{◌≡◌, ℕ, ◌<◌, List, sym, ap, ◌∙◌}
use Rattle.std.specs.Prelude.{⊤, Result}
use Rattle.choice.specs.Choose.{choose}
use Rattle.choice.proofs.Choices.{chosen_either}
use Rattle.record.specs.declared.BadRecord.{BadRecord}
use Rattle.record.specs.Reading.{too_short, ShownWrite, write_number, written_number, shown_write, write_tests, record_written}
use Rattle.record.proofs.Coding.{kind_beyond}
use Rattle.face.specs.declared.requests.CRequest.{CRequest}
use Rattle.face_leaves.specs.Spelt.{record_spelt}
use Rattle.face_leaves.specs.Records.{written_by}

-- a record written, by its number
pub written_is_told : (n : ℕ) (w : Result ⊤ BadRecord) (bytes : List ℕ) (t : ShownWrite) → n ≡ written_number w → shown_write w bytes ≡ t → write_number n bytes ≡ t
written_is_told n w bytes t tells writes = ap (λ x. write_number x bytes) tells ∙ writes

-- a kind beyond the table
pub none_written : (bytes : List ℕ) (at : ℕ) (q : CRequest) → 9 < q.kind → write_number 10 bytes ≡ written_by bytes at q
unfolding choose record_written write_tests
none_written bytes at q beyond = rw (sym (kind_beyond (record_spelt q) beyond)) (sym (chosen_either (too_short bytes at) (write_number 10 bytes)))

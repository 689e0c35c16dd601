-- `face_leaves::records::record_spelt` meets its contract. Assumes nothing.
use Rattle.face_leaves.proofs.records.record_spelt.Goals as goal

pub returns : goal.returns
returns c =
    rw (c.flag_spelt.ensures.value, c.flag_spelt-2.ensures.value)

-- `vector_text::floats::double_of`: the pattern is no NaN's. Assumes nothing.
use Rattle.vector_text.proofs.Nans.{within_64, false_not}
use Rattle.vector_text.proofs.floats.double_of.Goals as goal

pub float_from_bits-result : goal.float_from_bits-result
float_from_bits-result c = false_not _ (within_64 c.args.bits c.if-bits-gt9218868437227405312.false)

-- `vector_text::floats::single_of_bits`: the pattern is no NaN's. Assumes nothing.
use Rattle.vector_text.proofs.Nans.{within_32, false_not}
use Rattle.vector_text.proofs.floats.single_of_bits.Goals as goal

pub float_from_bits-result : goal.float_from_bits-result
float_from_bits-result c = false_not _ (within_32 c.args.bits c.if-bits-gt2139095040.false)

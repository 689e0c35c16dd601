-- `vector_text::floats::double_bits`: a float that equals itself is no NaN. Assumes nothing.
use Rattle.vector_text.proofs.Nans.{equals_itself, false_not}
use Rattle.vector_text.proofs.floats.double_bits.Goals as goal

pub float_to_bits-result : goal.float_to_bits-result
float_to_bits-result c = false_not _ (equals_itself c.args.x c.if-x.false)

-- `frames::row::too_few_words` meets its contract: a quotient below the depth is a number of words below the rows'. Assumes nothing.
use Rattle.frames.proofs.Places.{by_quotient}
use Rattle.frames.proofs.row.too_few_words.Goals as goal

pub returns : goal.returns
returns c = by_quotient c.args.words c.args.depth

-- `request::request_of` meets its contract: at each return the test that led there says which case of `decoded` holds. Assumes nothing.
use mathlib.Core.Path.{ap}
use Rattle.choice.proofs.Choices.{choices}
use Rattle.request.specs.Walk.{decoded_asks, decoded}
use Rattle.request.proofs.request_of.Goals as goal

pub returns-then-not-is_lawful : goal.returns-then-not-is_lawful
unfolding decoded
returns-then-not-is_lawful c =
    search choices

pub returns : goal.returns
unfolding decoded
returns c =
    let asked = ap decoded_asks c.request_in.ensures in search (choices, asked)

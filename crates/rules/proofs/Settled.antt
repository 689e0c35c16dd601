-- Each public promise allows one outcome. Assumes nothing.
use mathlib.Core.Path.{sym, ◌∙◌}
use Rattle.choice.specs.Once.{Once}
use Rattle.rules.proofs.U64FromRefusal.from.Reads as refusal-told
use Rattle.rules.proofs.RefusalFromGrowthError.from.Reads as growth-refused

pub u64_from_refusal_from_settled : Once refusal-told.Post
u64_from_refusal_from_settled κ a r r' e e' p q = p ∙ sym q

pub refusal_from_growth_error_from_settled : Once growth-refused.Post
refusal_from_growth_error_from_settled κ a r r' e e' p q = p ∙ sym q

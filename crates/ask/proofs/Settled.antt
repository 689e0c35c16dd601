-- Each public promise allows one outcome: one result, and one list of words and of cells where they are lent to be written. Assumes nothing.
use mathlib.Core.Path.{sym, ◌∙◌}
use Rattle.choice.specs.Once.{OnceSeen, beside}
use Rattle.rules.proofs.OneAnswer.{shown_outcome_lem, shown_words, shown_cells}
use Rattle.ask.proofs.ask.Reads as ask-any

pub ask_settled : OnceSeen ask-any.Post (λ κ r e. beside r (beside e.1.0.now e.1.1.0.now))
ask_settled κ a r r' e e' p q = λ t. (
  shown_outcome_lem r r' _ _ _ _ (p ∙ sym q) t,
  (shown_words r r' _ _ _ _ (p ∙ sym q) t, shown_cells r r' _ _ _ _ (p ∙ sym q) t),
)

-- `tape::tape::Tape::rests` meets its contract. Assumes nothing.
use mathlib.Core.Path.{refl, sym, ap, ◌∙◌}
use mathlib.Core.Bool.{◌||◌}
use Rattle.choice.proofs.Choices.{chosen_first, chosen_second}
use Rattle.tape.specs.Tapes.{is_empty, rests_told}
use Rattle.tape.proofs.tape.Tape.rests.Goals as goal

pub returns-then-is_some-block : goal.returns-then-is_some-block
unfolding rests_told
returns-then-is_some-block c =
    chosen_first _ _ _ _ _ (ap (λ s. s || is_empty c.args.block.now) (sym c.is_some.ensures) ∙ c.if-is_some-block.true) refl

pub returns-then-self : goal.returns-then-self
unfolding rests_told
returns-then-self c =
    chosen_second _ _ _ _ _ (ap (λ s. s || is_empty c.args.block.now) (sym c.is_some.ensures) ∙ c.if-is_some-block.false)
    (chosen_first _ _ _ _ _ c.if-self.true refl)

pub returns : goal.returns
unfolding rests_told
returns c =
    chosen_second _ _ _ _ _ (ap (λ s. s || is_empty c.args.block.now) (sym c.is_some.ensures) ∙ c.if-is_some-block.false)
    (chosen_second _ _ _ _ _ c.if-self.false refl)

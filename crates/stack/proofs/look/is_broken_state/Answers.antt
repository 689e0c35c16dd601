-- `stack::look::is_broken_state` meets its contract: each cause as the code tests it, with the buffers' lengths for the state's where they agree. Assumes nothing.
use borrow.Author.Tests.{eqb-true}
use mathlib.Core.Path.{◌≡◌, refl, ap, ◌∙◌}
use mathlib.Core.Bool.{Bool, true, false, not, ◌||◌}
use Prim.Native.Nat.{ℕ}
use lib.Dec.{ltb, eqb}
use lib.ListN.{length}
use Rattle.frames.specs.Rows.{too_few_words}
use Rattle.rules.specs.declared.State.{State}
use Rattle.rules.specs.Broken.{max_depth, max_cells, broken_state}
use Rattle.stack.proofs.look.is_broken_state.Goals as goal

-- behind the test that two numbers differ, the one may stand for the other
agreed : (lent own : ℕ) (rest : ℕ → Bool) → (not (eqb lent own) || rest lent) ≡ (not (eqb lent own) || rest own)
agreed lent own rest = by (eqb lent own) refl
  where
    by : (same : Bool) → eqb lent own ≡ same → (not same || rest lent) ≡ (not same || rest own)
    by true e = ap rest (eqb-true lent own e)
    by false e = refl

-- the causes behind the lent lengths, by those or by the state's own
abbrev causes : State → (words cells : ℕ) → Bool
causes s words cells =
    ltb max_depth s.depth
    || (ltb max_cells s.height
    || (ltb max_cells cells || (too_few_words words s.depth || (ltb s.depth s.count || (ltb cells s.len || ltb s.height s.len)))))

by_lengths : (s : State) (words cells : ℕ)
    → (not (eqb words s.words) || (not (eqb cells s.cells) || causes s words cells))
    ≡ (not (eqb words s.words) || (not (eqb cells s.cells) || causes s s.words s.cells))
by_lengths s words cells =
    agreed words s.words (λ n. not (eqb cells s.cells) || causes s n cells)
    ∙ ap (λ (t : Bool). not (eqb words s.words) || t) (agreed cells s.cells (causes s s.words))

pub returns : goal.returns
unfolding broken_state
returns c =
    rw c.too_few_words-few.ensures (by_lengths c.args.s (length c.args.words.now) (length c.args.cells.now))

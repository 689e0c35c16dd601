-- `stack_hosts::routine::sum_of` meets its contract: what the fold over the cells from the last to the first comes to. Assumes nothing.
use Rattle.std.proofs.Common.{◌∙◌, rules}
use Rattle.std.proofs.lemmas.Iterator.Adapters.{YieldsList-from_rev_slice}
use Rattle.std.proofs.lemmas.Iterator.Consumers.{fold_from_yields_List}
use Rattle.stack_hosts.proofs.Sums.{wrapped_plus, sum_folded}
use Rattle.stack_hosts.proofs.routine.sum_of.Goals as goal

pub returns : goal.returns
returns c =
    fold_from_yields_List _ wrapped_plus _ _ c.fold.ensures.ran (YieldsList-from_rev_slice c.args.params.now cc) (λ a x b q k. search rules)
    ∙ sum_folded c.args.params.now

-- T-13's example and its limits hold of the definitions: each is computed. The sentences stand with the cases, in specs/TailWorlds.antt.
-- Assumes nothing.
use mathlib.Core.Path.{refl}
use Prim.Native.Nat.{◌<◌}
use lib.Dec.{T, lit<}
use Rattle.rules.specs.declared.Request.TheVariants.{Pop}
use Rattle.rules.specs.declared.Asked.TheVariants.{Traced}
use Rattle.rules.specs.Rules.{answered}
use Rattle.rules.specs.Events.{ran_through}
use Rattle.rules.specs.Cases.{holds_all}
use Rattle.rules.specs.Returning.{Accepted, Gives, by_pop}
use Rattle.rules.specs.Tails.{tail_replace, tail_sync, tail_set, tail_restore, tail_registers, tail_put, AllTails, accepted_by, accepted_replaces, ends_of}
use Rattle.rules.specs.Tails.{greatest, NothingOwed}
use Rattle.rules.specs.TailWorlds.{tail_world, tail_events, tail_lines, tails_without_instance, tails_over_debt, tails_without_caller}
use Rattle.rules.proofs.Computing.{computing}

-- all that the theorem assumes holds of the example
pub example_tails : AllTails tail_events
example_tails = (
  tail_replace _,
  (
    tail_sync _,
    (tail_replace _, (tail_set _ _, (tail_replace _, (tail_restore, (tail_registers _, (tail_put _, (tail_replace _, tt))))))),
  ),
)

pub example_owes_nothing : NothingOwed tail_world 1
unfolding computing
example_owes_nothing = record { no_debt = refl; has_instance = refl }

pub example_tail_return : (1 < tail_world.state.count) × Gives (Pop 1) 1 × Accepted (answered (ran_through tail_world tail_events) (Traced (Pop 1)))
unfolding computing
example_tail_return = (lit< tt, by_pop 1, lit< tt)

-- and what follows is seen
pub example_tails_seen : T (holds_all tail_lines)
unfolding tail_lines accepted_by accepted_replaces ends_of greatest computing
example_tails_seen = tt

pub limit_tails_without_instance : T (holds_all tails_without_instance)
unfolding tails_without_instance computing
limit_tails_without_instance = tt

pub limit_tails_over_debt : T (holds_all tails_over_debt)
unfolding tails_over_debt computing
limit_tails_over_debt = tt

pub limit_tails_without_caller : T (holds_all tails_without_caller)
unfolding tails_without_caller computing
limit_tails_without_caller = tt

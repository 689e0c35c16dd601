-- What each call on the done slot gives back.
--     no_reason                      the slot without a reason
--     reason_number, reason_value     a reason as numbers: 1 returned (offset), 2 host error, 3 out of fuel (amount needed), 4 error
--     shown_fill, shown_take          an answer's number, the values it names, and the slot as the call leaves it
--     fill_tests, take_tests          12: the slot already filled. 13: nothing to take
--     filled, taken                 what is answered
use Rattle.std.specs.Prelude.{not, Bool, List, [], ◌∷◌, ℕ, Some, None, is_some, unwrap_or, option_map, Result, Ok, Err, ⊤}
use Rattle.choice.specs.Tests.{Test, ◌gives◌, settle}
use Rattle.done.specs.declared.DoneReason.{DoneReason}
use Rattle.done.specs.declared.DoneReason.TheVariants.{Returned, HostError, OutOfFuel, Error}
use Rattle.done.specs.declared.DoneSlot.{DoneSlot}
use Rattle.done.specs.declared.AlreadyFilled.{AlreadyFilled}
use Rattle.done.specs.declared.NothingToTake.{NothingToTake}

abbrev pub no_reason : DoneSlot
no_reason = record { reason = None }

-- the slot with this reason
abbrev pub holds_reason : DoneReason → DoneSlot
holds_reason r = record { reason = Some r }

abbrev pub is_filled : DoneSlot → Bool
is_filled s = is_some s.reason

abbrev pub reason_number : DoneReason → ℕ
reason_number (Returned offset) = 1
reason_number HostError = 2
reason_number (OutOfFuel needed) = 3
reason_number Error = 4

abbrev pub reason_value : DoneReason → ℕ
reason_value (Returned offset) = offset
reason_value HostError = 0
reason_value (OutOfFuel needed) = needed
reason_value Error = 0

-- ---- fill

pub record ShownFill : Type 0 where
  pub number : ℕ
  pub slot : DoneSlot

abbrev pub fill_number : Result ⊤ AlreadyFilled → ℕ
fill_number (Ok _) = 0
fill_number (Err _) = 12

abbrev pub shown_fill : Result ⊤ AlreadyFilled → DoneSlot → ShownFill
shown_fill r s = record { number = fill_number r; slot = s }

unfoldable pub fill_tests : DoneSlot → List Test
fill_tests s = is_filled s gives 12 ∷ []

abbrev pub fill_refused : DoneSlot → ℕ → ShownFill
fill_refused s n = record { number = n; slot = s }

abbrev pub fill_done : DoneReason → ShownFill
fill_done reason = record { number = 0; slot = holds_reason reason }

unfoldable pub filled : DoneSlot → DoneReason → ShownFill
unfolding fill_tests
filled s reason = settle (fill_tests s) (fill_refused s) (fill_done reason)

-- ---- take

pub record ShownTake : Type 0 where
  pub number : ℕ
  pub reason : ℕ
  pub value : ℕ
  pub slot : DoneSlot

abbrev pub take_number : Result DoneReason NothingToTake → ℕ
take_number (Ok r) = 0
take_number (Err _) = 13

abbrev pub take_reason : Result DoneReason NothingToTake → ℕ
take_reason (Ok r) = reason_number r
take_reason (Err _) = 0

abbrev pub take_value : Result DoneReason NothingToTake → ℕ
take_value (Ok r) = reason_value r
take_value (Err _) = 0

abbrev pub shown_take : Result DoneReason NothingToTake → DoneSlot → ShownTake
shown_take r s = record { number = take_number r; reason = take_reason r; value = take_value r; slot = s }

unfoldable pub take_tests : DoneSlot → List Test
take_tests s = not (is_filled s) gives 13 ∷ []

-- the reason that a slot holds, as numbers
abbrev pub held_reason : DoneSlot → ℕ
held_reason s = unwrap_or (option_map reason_number s.reason) 0

abbrev pub held_value : DoneSlot → ℕ
held_value s = unwrap_or (option_map reason_value s.reason) 0

abbrev pub take_refused : DoneSlot → ℕ → ShownTake
take_refused s n = record { number = n; reason = 0; value = 0; slot = s }

abbrev pub take_done : DoneSlot → ShownTake
take_done s = record { number = 0; reason = held_reason s; value = held_value s; slot = no_reason }

unfoldable pub taken : DoneSlot → ShownTake
unfolding take_tests
taken s = settle (take_tests s) (take_refused s) (take_done s)

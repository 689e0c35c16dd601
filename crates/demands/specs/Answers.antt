-- Demands 1 and 2, of whatever is asked by any function: what is refused, and what is accepted.
--     RefusedExactly w a t    what was heard has its number exactly then; and a refusal changes nothing
--     RequestsRefused         so of every request that was heard
--     RequestsFollow          what is accepted has its step, by document 01's definitions
--     HistoriesFollow         and whatever is done by functions, traces too, comes to what document 01 answers, one thing after another
use Rattle.std.specs.Prelude.{◌≡◌, ◌↔◌, List, ℕ, ◌≤◌}
use Rattle.choice.specs.Tests.{FirstIs}
use Rattle.rules.specs.declared.Asked.{Asked}
use Rattle.rules.specs.World.{World}
use Rattle.rules.specs.Answers.{no_values, After}
use Rattle.rules.specs.Rules.{tests_of, effect_of}
use Rattle.rules.specs.Events.{Event, ran_through}
use Rattle.rules.specs.Returning.{Accepted}
use Rattle.demands.specs.Heard.{Heard}
use Rattle.demands.specs.Links.{History}

abbrev pub RefusedExactly : World → Asked → After → Type 0
RefusedExactly w a t =
    -- a number of 2 or above is given exactly when the first true test of the request's list has it
    ((n : ℕ) → 2 ≤ n → t.shown.number ≡ n ↔ FirstIs (tests_of w a) n)
    -- and then no cell, frame or state changes
    × (2 ≤ t.shown.number → t.world ≡ w)
    -- and zeros are handed back
    × (2 ≤ t.shown.number → t.shown.values ≡ no_values)

abbrev pub RequestsRefused : Type 0
RequestsRefused = (w : World) (a : Asked) (t : After) → Heard w a t → RefusedExactly w a t

abbrev pub RequestsFollow : Type 0
RequestsFollow = (w : World) (a : Asked) (t : After) → Heard w a t → Accepted t → t ≡ effect_of w a

abbrev pub HistoriesFollow : Type 0
HistoriesFollow = (d : ℕ) (w v : World) (es : List Event) → History d w es v → v ≡ ran_through w es

-- A host's routine that stands in for any: it reads its parameters and has one result.
--     wrapped_sum cells      the sum of the cells, wrapping at 64 bits
--     host_called w f        the host part is asked for; where it is not refused, that sum of the part for parameters goes into the part for results
use Rattle.std.specs.Prelude.{ℕ, ◌+◌, ◌%◌, ◌^◌, List, [], ◌∷◌}
use Rattle.choice.specs.Tests.{settle}
use Rattle.cells.specs.declared.host.HostFrame.{HostFrame}
use Rattle.cells.specs.Host.{host_params, results_stored}
use Rattle.rules.specs.World.{World, world_of}
use Rattle.rules.specs.Answers.{no_values, shown_of, After, after_of, refused_with}
use Rattle.rules.specs.Hosts.{part_tests}

abbrev pub wrapped_sum : List ℕ → ℕ
wrapped_sum [] = 0
wrapped_sum (cell ∷ cells) = (wrapped_sum cells + cell) % 2 ^ 64

unfoldable pub sum_stored : World → HostFrame → After
sum_stored w f =
    after_of (shown_of 0 no_values)
    (world_of w.state w.words
    (results_stored w.cells w.state.len f (wrapped_sum (host_params w.cells w.state.len f) ∷ [])))

unfoldable pub host_called : World → HostFrame → After
host_called w f = settle (part_tests w f) (refused_with w) (sum_stored w f)

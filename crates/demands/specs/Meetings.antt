-- What is assumed of hosts can be met, so that no statement is empty: in any world anything can be asked over the C face, and any events are a history there.
--     EveryAsked       whatever is asked of any world is heard, by a function over the C face
--     EveryHistory     and so any events one after another, as deep as they are
--     EveryTrace       and any trace, by `cattlecleat_replay`
--     EveryComing      and any block of any tape, and its end, by `cattlecleat_feed` and `cattlecleat_finish`
use Rattle.std.specs.Prelude.{List, ℕ}
use contract.Lifetimes.{Lfts}
use Rattle.rules.specs.declared.Asked.{Asked}
use Rattle.rules.specs.World.{World}
use Rattle.rules.specs.Rules.{answered}
use Rattle.rules.specs.Events.{Event, ran_through}
use Rattle.rules.specs.Returning.{NeverBelow}
use Rattle.request.specs.Entries.{entries_in}
use Rattle.replay.specs.Running.{replayed}
use Rattle.replay.specs.Resumed.{DepthKept}
use Rattle.face_replay.specs.declared.traces.CRun.{CRun}
use Rattle.face_replay.specs.Runs.{running_from}
use Rattle.face_replay.specs.declared.tapes.CTape.{CTape}
use Rattle.face_replay.specs.Tapes.{taping_from}
use Rattle.tape.specs.AnyCuts.{Coming}
use Rattle.demands.specs.Heard.{world_said, Heard}
use Rattle.demands.specs.Taken.{came_answer, Taken}
use Rattle.demands.specs.Links.{events_ran, Link, History}

-- κ and ι are the lifetimes of what is lent: two buffers, or a record of registers
abbrev pub EveryAsked : Type 0
EveryAsked = (κ : Lfts 2) (w : World) (a : Asked) → Heard w a (answered w a)

abbrev pub EveryHistory : Type 0
EveryHistory = (κ : Lfts 2) (ι : Lfts 1) (d : ℕ) (w : World) (es : List Event) → NeverBelow d w es → History d w es (ran_through w es)

abbrev pub EveryTrace : Type 0
EveryTrace =
    (κ : Lfts 3) (d : ℕ) (run : CRun) (words cells bytes : List ℕ) → DepthKept d (running_from run words cells) (entries_in bytes)
    → Link d (world_said run.state words cells) (events_ran (running_from run words cells) (entries_in bytes))
    (replayed (running_from run words cells) bytes).world

abbrev pub EveryComing : Type 0
EveryComing =
    (κ : Lfts 3) (ι : Lfts 2) (tape : CTape) (words cells : List ℕ) (c : Coming)
    → Taken (taping_from tape words cells) c (came_answer (taping_from tape words cells) c)

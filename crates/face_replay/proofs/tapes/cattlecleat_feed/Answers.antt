-- `face_replay::tapes::cattlecleat_feed` meets its contract. Assumes nothing.
use mathlib.Core.Path.{◌∙◌}
use Rattle.face_replay.proofs.Telling.{feeding_is_told, feed_at}
use Rattle.face_replay.proofs.tapes.cattlecleat_feed.Goals as goal

pub returns : goal.returns
returns c =
    feeding_is_told _ _ c.args.t c.feed-fed.result _ _ _ _ c.fed_number.ensures c.tape_back.ensures
    (c.feed-fed.ensures ∙ feed_at _ _ c.tape_from-tape.ensures _ _ _)

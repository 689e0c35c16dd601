-- The listing in blocks where hosts stand, from the laws of listing: the texts that were written make the listing of the whole trace. Assumes nothing.
use mathlib.Core.Path.{◌≡◌, refl, sym, ap, subst, ◌∙◌}
use mathlib.Core.Bool.{false}
use mathlib.Core.Logic.{◌↔◌}
use mathlib.Core.List.{List, ◌++◌}
use Prim.Native.Nat.{ℕ, ◌≤◌, ◌<◌}
use lib.ListN.{length, take}
use Rattle.lines.specs.Text.{shown_text}
use Rattle.replay.specs.declared.run.Run.{Run}
use Rattle.tape.specs.Tapes.{Taping, taping_of, begun, block_rests, end_rests, end_told}
use Rattle.tape.specs.AnyCuts.{fed_all}
use Rattle.listing.specs.Listing.{said_at_end, said_at_stop, text_of}
use Rattle.listing.specs.Taped.{ShownLines, fed_lines_number, fed_lines_used, lines_fed_all}
use Rattle.listing.specs.Taped.{lines_told, block_lines_room, end_lines_room, list_feeding, list_telling}
use Rattle.listing.proofs.AnyCuts.{listing_any_cuts}
use Rattle.listing.proofs.Written.{fed_verdict, feed_texts, feed_unmoved, feed_19, end_verdict, end_texts, end_unmoved, end_19, behind_written}
use Rattle.face_replay.specs.Tapes.{tape_of}
use Rattle.demands.specs.LinesTaken.{LinesHistory, lines_end, listed_then, BlocksListed, NoRoomForLines}

-- blocks one after another: the tape after them, and their texts
pub lines_told_lem : {t u : Taping} {bs : List (List ℕ)} {text : List ℕ} → LinesHistory t bs text u → (u ≡ fed_all t bs) × (text ≡ lines_fed_all t bs)
unfolding fed_all lines_fed_all
lines_told_lem (lines_end t) = (refl, refl)
lines_told_lem (listed_then κ a r e used p done bs text u rest) =
    let t = taping_of a.0.now a.1.0.now a.1.1.0.now in
    let block = a.1.1.1.0.now in
    let zero : (list_feeding t block a.1.1.1.1.0.now).number ≡ 0 = sym (ap (λ (s : ShownLines). s.number) p) ∙ ap fed_lines_number done in
    let wrote = feed_texts t block a.1.1.1.1.0.now (fed_verdict t block a.1.1.1.1.0.now) zero in
    let tape = ap (λ (s : ShownLines). s.tape) p ∙ wrote.0 in
    let first = ap (λ k. take k e.1.1.1.1.0.now) (sym (ap fed_lines_used done))
    ∙ ap (λ (s : ShownLines). take s.used s.out) p ∙ wrote.1 in
    let later = lines_told_lem rest in (
      later.0 ∙ ap (λ x. fed_all x bs) tape,
      (λ i. first i ++ (later.1 ∙ ap (λ x. lines_fed_all x bs) tape) i),
    )

-- the end, and the lines behind
pub blocks_listed : BlocksListed
blocks_listed v bs text t history κ a r e used p done same ι b n f q run room =
    let u = taping_of a.0.now a.1.0.now a.1.1.0.now in
    let out = a.1.1.1.0.now in
    let so_far = lines_told_lem history in
    let there : u ≡ fed_all (begun v) bs = same ∙ so_far.0 in
    let zero : (list_telling u out).number ≡ 0 = sym (ap (λ (s : ShownLines). s.number) p) ∙ ap fed_lines_number done in
    let wrote = end_texts u out (end_verdict u out) zero in
    let tape : taping_of e.0.now e.1.0.now e.1.1.0.now ≡ end_told (fed_all (begun v) bs) =
    ap (λ (s : ShownLines). s.tape) p ∙ wrote.0 ∙ ap end_told there in
    let ending : take used e.1.1.1.0.now ≡ lines_told (fed_all (begun v) bs) =
    ap (λ k. take k e.1.1.1.0.now) (sym (ap fed_lines_used done)) ∙ ap (λ (s : ShownLines). take s.used s.out) p ∙ wrote.1
    ∙ ap lines_told there in
    let behind : take n f.1.0.now ≡ text_of (said_at_end (end_told (fed_all (begun v) bs)).run) =
    behind_written b.0.number b.0.stop b.0.spent b.1.0.now (shown_text n f.1.0.now) room q
    ∙ ap (λ (x : Run). text_of (said_at_stop x.number x.stop x.spent)) run
    ∙ ap (λ (x : Taping). text_of (said_at_end x.run)) tape in
    (λ i. so_far.1 i ++ (ending i ++ behind i)) ∙ listing_any_cuts v bs

-- ---- 19
pub no_room_for_lines : NoRoomForLines
no_room_for_lines = (
  λ κ a r e p.
      let t = taping_of a.0.now a.1.0.now a.1.1.0.now in
      let block = a.1.1.1.0.now in
      let out = a.1.1.1.1.0.now in
      let number = ap (λ (s : ShownLines). s.number) p in (
        subst (λ n. (n ≡ 19) ↔ ((block_rests t block ≡ false) × (length out < block_lines_room t block))) (sym number)
            (feed_19 t block out (fed_verdict t block out)),
        λ two.
            let still = feed_unmoved t block out (fed_verdict t block out) (subst (λ n. 2 ≤ n) number two) in
            let tape = ap (λ (s : ShownLines). s.tape) p ∙ still.0 in (
              ap tape_of tape,
              ap (λ (x : Taping). x.run.world.words) tape,
              ap (λ (x : Taping). x.run.world.cells) tape,
              ap (λ (s : ShownLines). s.out) p ∙ still.1,
            ),
      ),
  λ κ a r e p.
      let t = taping_of a.0.now a.1.0.now a.1.1.0.now in
      let out = a.1.1.1.0.now in
      let number = ap (λ (s : ShownLines). s.number) p in (
        subst (λ n. (n ≡ 19) ↔ ((end_rests t ≡ false) × (length out < end_lines_room t))) (sym number) (end_19 t out (end_verdict t out)),
        λ two.
            let still = end_unmoved t out (end_verdict t out) (subst (λ n. 2 ≤ n) number two) in
            let tape = ap (λ (s : ShownLines). s.tape) p ∙ still.0 in (
              ap tape_of tape,
              ap (λ (x : Taping). x.run.world.words) tape,
              ap (λ (x : Taping). x.run.world.cells) tape,
              ap (λ (s : ShownLines). s.out) p ∙ still.1,
            ),
      ),
)

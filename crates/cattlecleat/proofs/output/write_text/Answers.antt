-- `write_text`: what a write took stands behind what was written before.
use Rattle.std.proofs.Common.{rules, ◌≤◌, ◌+◌, ◌++◌, length, take, sym, ap, ◌∙◌, subst}
use Rattle.std.proofs.Math.Seq.{take-add}
use Rattle.std.proofs.lemmas.List.{take_rest}
use Rattle.std.specs.Io.KnownBytes.{Appends}
use Rattle.std.proofs.KnownBytes.{Appends-trans}
use Rattle.cattlecleat.proofs.output.write_text.Goals as goal

pub loop-done-preserved : goal.loop-done-preserved
loop-done-preserved g c =
    let text = c.args.text.now in
    let done = c.loop-done.done in
    let more = c.in_ok-more.more in
    let within : done + more ≤ length text = search rules in
    let taken = ap (λ xs. take done text ++ take more xs) (take_rest text done) ∙ sym (take-add done more text) in
    (within, subst (Appends _ _) taken (Appends-trans _ _ _ _ _ c.loop-done.invariant.1 c.in_ok-more.ensures.bytes))

-- `tape::cut::put_bytes` meets its contract: the part that was lent comes back with the bytes. Assumes nothing.
use borrow.Author.Rules.{rules}
use native.Mathlib.Omega.{arith}
use mathlib.Core.Path.{◌≡◌, ap, ◌∙◌}
use lib.ListN.{length}
use lib.Seq.{sets}
use Rattle.runs.proofs.Lists.{lent_back}
use Rattle.record.specs.Form.{record_size}
use Rattle.tape.proofs.cut.put_bytes.Goals as goal

pub returns : goal.returns
returns c =
    let long : length c.args.into ≡ record_size =
    search rules in
    let put = c.copy_from_slice.ensures.after in
    lent_back c.args.into _ c.args.at _ (omega arith) (ap length put ∙ omega arith) ∙ ap (sets c.args.into c.args.at) put

-- `request::decode::request_in` meets its contract: in each arm the kind is known, and in the last that it is none of theirs. Assumes nothing.
use mathlib.Core.Path.{ap}
use native.Mathlib.Omega.{arith}
use borrow.Author.Tests.{ne_eqb}
use Rattle.choice.specs.Choose.{choose}
use Rattle.rules.specs.declared.Request.TheVariants.{Push, Replace, Host, ReturnHost}
use Rattle.request.specs.Requests.{request_in}
use Rattle.request.proofs.decode.request_in.Goals as goal

pub returns-in-1 : goal.returns-in-1
unfolding choose request_in
returns-in-1 c =
    rw c.in-1.is (ap Push c.push_in.ensures)

pub returns-in-2 : goal.returns-in-2
unfolding choose request_in
returns-in-2 c =
    rw c.in-2.is

pub returns-in-3 : goal.returns-in-3
unfolding choose request_in
returns-in-3 c =
    rw c.in-3.is (ap Replace c.replace_in.ensures)

pub returns-in-4 : goal.returns-in-4
unfolding choose request_in
returns-in-4 c =
    rw c.in-4.is (ap Host c.host_in.ensures)

pub returns-in-5 : goal.returns-in-5
unfolding choose request_in
returns-in-5 c =
    rw c.in-5.is (ap ReturnHost c.return_host_in.ensures)

pub returns-in-6 : goal.returns-in-6
unfolding choose request_in
returns-in-6 c =
    rw c.in-6.is

pub returns-in-7 : goal.returns-in-7
unfolding choose request_in
returns-in-7 c =
    rw c.in-7.is

pub returns-in-8 : goal.returns-in-8
unfolding choose request_in
returns-in-8 c =
    rw c.in-8.is

pub returns-in_default : goal.returns-in_default
unfolding choose request_in
returns-in_default c =
    let k = c.args.r.kind in
    rw (
      ne_eqb k 1 (omega arith),
      ne_eqb k 2 (omega arith),
      ne_eqb k 3 (omega arith),
      ne_eqb k 4 (omega arith),
      ne_eqb k 5 (omega arith),
      ne_eqb k 6 (omega arith),
      ne_eqb k 7 (omega arith),
      ne_eqb k 8 (omega arith),
    )

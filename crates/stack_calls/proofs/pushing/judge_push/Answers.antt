-- `stack_calls::pushing::judge_push` meets its contract: at each return the tests that led there choose the case. Assumes nothing.
use borrow.Author.Rules.{rules}
use mathlib.Core.Path.{◌≡◌, sym, ◌∙◌}
use Prim.Native.Nat.{ℕ, ◌≤◌, ◌<◌}
use native.Mathlib.Omega.{arith}
use Rattle.choice.proofs.Choices.{choices}
use Rattle.rules.specs.Calls.{push_tests, push_room}
use Rattle.rules.proofs.Bounds.{start_bound, count_bound}
use Rattle.rules.proofs.GoodStates.{top_good}
use Rattle.stack_calls.proofs.pushing.judge_push.Goals as goal

same_count : {count depth : ℕ} → count ≤ depth → depth ≤ count → count ≡ depth
same_count few full = omega (arith, few, full)

less_count : {count depth : ℕ} → count < depth → count ≡ depth → ⊥
less_count room full = omega (arith, room, full)

pub returns-then-is_broken_top : goal.returns-then-is_broken_top
unfolding push_tests push_room
returns-then-is_broken_top c =
    search choices

pub overflow_add-start : goal.overflow_add-start
unfolding push_tests push_room
overflow_add-start c =
    let small = start_bound _ _ c.is_broken_top.ensures c.if-is_broken_top.false in
    let start = c.top_start.ensures in
    search rules

pub overflow_add-end : goal.overflow_add-end
unfolding push_tests push_room
overflow_add-end c =
    let small = start_bound _ _ c.is_broken_top.ensures c.if-is_broken_top.false in
    let start = c.top_start.ensures in
    search rules

pub overflow_add-more : goal.overflow_add-more
unfolding push_tests push_room
overflow_add-more c =
    let few = count_bound _ _ c.is_broken_top.ensures c.if-is_broken_top.false in search rules

pub returns-then-depth-count : goal.returns-then-depth-count
unfolding push_tests push_room
returns-then-depth-count c =
    let few = (top_good _ (sym c.is_broken_top.ensures ∙ c.if-is_broken_top.false)).count_within in
    let full = same_count few c.if-depth-count.true in
    search choices

pub returns-then-is_stray_ip : goal.returns-then-is_stray_ip
unfolding push_tests push_room
returns-then-is_stray_ip c =
    let room = less_count c.if-depth-count.false in search choices

pub returns-then-is_missing_ip : goal.returns-then-is_missing_ip
unfolding push_tests push_room
returns-then-is_missing_ip c =
    let room = less_count c.if-depth-count.false in search choices

pub returns : goal.returns
unfolding push_tests push_room
returns c =
    let room = less_count c.if-depth-count.false in
    rw (sym c.top_start.ensures) (search choices depth 9)

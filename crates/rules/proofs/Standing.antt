-- The callee's frame stands: every accepted request that leaves it there keeps what holds since the call (`Unwinding`), and none writes a cell before
-- the newest frame's start. Assumes nothing.
--     top_start_lem                      the start of the newest frame, where there is one
--     top_there                      its row is there, where it breaks no rule
--     stored_below, stored_top       the rows after an ip was stored in the newest frame
--     debt_made_good                 what a return leaves current, where a frame is left
--     Standing                       what holds of a world since the call; `callee_below` that the newest frame then starts no earlier than the callee
--     push_stands, effect_stands     a push, over rows that keep it; and whatever is accepted
--     push_leaves, effect_leaves     the cells before the new start; and those before the newest frame's
use Rattle.std.specs.Prelude.{Option, None, Some, is_some}
use Rattle.std.specs.Option.{option_or}
use mathlib.Core.Path.{◌≡◌, refl, sym, ap, subst, ◌∙◌}
use mathlib.Core.Bool.{true, false}
use mathlib.Core.Logic.{inl}
use mathlib.Core.List.{List}
use Prim.Native.Nat.{ℕ, suc, ◌+◌, ◌-◌, ◌≤◌, ◌<◌}
use native.Mathlib.Omega.{arith}
use lib.Dec.{eqb}
use lib.ListN.{length, get_or}
use borrow.Author.Tests.{ne_eqb, eqb-false}
use Rattle.choice.specs.Choose.{choose}
use Rattle.choice.specs.Tests.{Passed}
use Rattle.choice.proofs.Choices.{chosen_holds, chosen_second}
use Rattle.frames.specs.declared.row.Row.{Row}
use Rattle.frames.specs.Rows.{RowThere, too_few_words, row_at, put_row, with_ip}
use Rattle.frames.specs.Debts.{new_row, debt_of}
use Rattle.frames.proofs.Rows.{row_same, row_other, ip_same, ip_other}
use Rattle.frames.proofs.Debts.{new_start, new_debt, ip_debt, repaid, repaid_over}
use Rattle.cells.proofs.Cells.{push_kept, replace_kept, host_kept, return_host_kept, set_other}
use Rattle.rules.specs.declared.State.{State}
use Rattle.rules.specs.declared.PushArgs.{PushArgs}
use Rattle.rules.specs.declared.ReplaceArgs.{ReplaceArgs}
use Rattle.rules.specs.declared.Room.{Room}
use Rattle.rules.specs.declared.Request.TheVariants.{Push, Pop, Replace, Host, ReturnHost, Sync, Restore, Reset, Set}
use Rattle.rules.specs.declared.Asked.{Asked}
use Rattle.rules.specs.declared.Asked.TheVariants.{Traced, SyncRegs, HostPart}
use Rattle.rules.specs.World.{World, frame_at, top_frame, newest_start, cell_at, top_start}
use Rattle.rules.specs.Broken.{broken_top}
use Rattle.rules.specs.Shared.{ip_stored, top_ip_stored}
use Rattle.rules.specs.Calls.{push_tests, push_room, pushed, replace_tests, replace_room, replaced}
use Rattle.rules.specs.Returns.{instance_after, less_top, pop_room, popped}
use Rattle.rules.specs.Hosts.{is_sized, host_tests, host_room, hosted, return_host_room, returned_host, part_lent}
use Rattle.rules.specs.Syncs.{top_room, sync_tests, synced, restored, emptied, set_room, cell_set, registers_stored}
use Rattle.rules.specs.Rules.{tests_of, effect_of}
use Rattle.rules.proofs.GoodStates.{good_words, top_good}
use Rattle.rules.proofs.SoundMoves.{length_ip_stored}
use Rattle.rules.proofs.Unwinding.{Since, since_put, since_pushed, since_popped, given_either}

-- ---- frames that were read
pub top_start_lem : (w : World) → 0 < w.state.count → top_start w ≡ (top_frame w).start
unfolding newest_start choose
top_start_lem w h = rw (ne_eqb w.state.count 0 (omega arith))

module _ (w : World) (passed : broken_top w ≡ false) where
  rows_enough : too_few_words (length w.words) w.state.depth ≡ false
  rows_enough = good_words w (top_good w passed)

  pub top_there : 0 < w.state.count → RowThere w.state.depth w.words (w.state.count - 1)
  top_there some = let within = (top_good w passed).count_within in (rows_enough, omega arith)

  -- there is room for one more
  next_there : eqb w.state.count w.state.depth ≡ false → (g : Option ℕ) → RowThere w.state.depth (top_ip_stored w g) w.state.count
  next_there below g =
      let full = eqb-false w.state.count w.state.depth below in
      let within = (top_good w passed).count_within in
      (ap (λ k. too_few_words k w.state.depth) (length_ip_stored w.state.depth w.words w.state.count g) ∙ rows_enough, omega arith)

  -- ---- the newest frame's ip
  pub stored_top : 0 < w.state.count → (ip : ℕ) → row_at w.state.depth (top_ip_stored w (Some ip)) (w.state.count - 1) ≡ with_ip (top_frame w) ip
  unfolding ip_stored
  stored_top some ip = ip_same w.state.depth w.words (w.state.count - 1) ip (top_there some)

pub stored_below : (w : World) (g : Option ℕ) (j : ℕ) → j < w.state.count - 1 → row_at w.state.depth (top_ip_stored w g) j ≡ frame_at w j
unfolding ip_stored
stored_below w None j b = refl
stored_below w (Some ip) j b = ip_other w.state.depth w.words (w.state.count - 1) ip j (λ e. omega arith)

-- with more than one frame, the debt of the newest is made good when it goes
pub debt_made_good : (s : State) (top : Row) → 1 < s.count → instance_after s top ≡ option_or (debt_of top) s.current
unfolding instance_after
debt_made_good s top more = sym (chosen_second _ _ _ _ (eqb s.count _) (ne_eqb s.count _ (λ e. omega arith)) refl)

-- ---- the frames
module _ (B : ℕ → Row) (i s A : ℕ) where
  abbrev pub Standing : World → Type 0
  Standing w = Since B i s A (frame_at w) w.state.count w.state.current

  pub callee_below : (w : World) → Standing w → i < w.state.count → s ≤ top_start w
  callee_below w h c = rw (top_start_lem w (omega arith)) (h.starts (w.state.count - 1) (omega arith) (omega arith))

  -- other words, where the newest row starts where it did and makes good the same, and those below it stay
  anew : (w : World) → Standing w → i < w.state.count → (words : List ℕ)
      → ((j : ℕ) → j < w.state.count - 1 → row_at w.state.depth words j ≡ frame_at w j)
      → (d : Option ℕ)
      → (row_at w.state.depth words (w.state.count - 1)).start ≡ (top_frame w).start
      → is_some d ≡ true
      → option_or (debt_of (row_at w.state.depth words (w.state.count - 1))) d ≡ option_or (debt_of (top_frame w)) w.state.current
      → Since B i s A (row_at w.state.depth words) w.state.count d
  anew w h c words same d start t debt =
      let e : w.state.count ≡ suc (w.state.count - 1) = omega arith in
      subst (λ n. Since B i s A (row_at w.state.depth words) n d) (sym e)
      (since_put (row_at w.state.depth words) (w.state.count - 1) (subst (λ n. Since B i s A (frame_at w) n w.state.current) e h) (omega arith)
      same
      d
      start
      t
      debt)

  ip_stands : (w : World) → Standing w → i < w.state.count → broken_top w ≡ false → (g : Option ℕ)
      → Since B i s A (row_at w.state.depth (top_ip_stored w g)) w.state.count w.state.current
  unfolding ip_stored
  ip_stands w h c passed None = h
  ip_stands w h c passed (Some ip) =
      let top = stored_top w passed (omega arith) ip in
      anew w h c (top_ip_stored w (Some ip)) (stored_below w (Some ip)) w.state.current
      (ap (λ row. row.start) top)
      h.awake
      (ap (λ row. option_or (debt_of row) w.state.current) top
      ∙ ap (λ debt. option_or debt w.state.current) (ip_debt (top_frame w) ip))

  -- a row made anew in the newest's place, and one put on top
  row_anew : (w : World) → Standing w → i < w.state.count → broken_top w ≡ false → (ip start : ℕ) (debt d : Option ℕ)
      → start ≡ top_start w → is_some d ≡ true → option_or debt d ≡ option_or (debt_of (top_frame w)) w.state.current
      → Since B i s A (row_at w.state.depth (put_row w.state.depth w.words (w.state.count - 1) (new_row ip start debt))) w.state.count d
  row_anew w h c passed ip start debt d same t good =
      let D = w.state.depth in
      let k = w.state.count - 1 in
      let top = row_same D w.words k (new_row ip start debt) (top_there w passed (omega arith)) in
      anew w h c (put_row D w.words k (new_row ip start debt))
      (λ j b. row_other D w.words k (new_row ip start debt) j (λ e. omega arith))
      d
      (ap (λ row. row.start) top ∙ new_start ip start debt ∙ same ∙ top_start_lem w (omega arith))
      t
      (ap (λ row. option_or (debt_of row) d) top ∙ ap (λ owes. option_or owes d) (new_debt ip start debt) ∙ good)

  row_on_top : (D : ℕ) (words : List ℕ) (n : ℕ) (c : Option ℕ) → Since B i s A (row_at D words) n c → i ≤ n → RowThere D words n
      → (ip start : ℕ) (debt d : Option ℕ)
      → s ≤ start → is_some d ≡ true → option_or debt d ≡ c
      → Since B i s A (row_at D (put_row D words n (new_row ip start debt))) (n + 1) d
  row_on_top D words n c h low there ip start debt d late t good =
      let top = row_same D words n (new_row ip start debt) there in
      let more : suc n ≡ n + 1 = omega arith in
      subst (λ k. Since B i s A (row_at D (put_row D words n (new_row ip start debt))) k d) more
      (since_pushed (row_at D (put_row D words n (new_row ip start debt))) n h low
      (λ j b. row_other D words n (new_row ip start debt) j (λ e. omega arith))
      d
      (rw (top, new_start ip start debt) late)
      t
      (ap (λ row. option_or (debt_of row) d) top ∙ ap (λ owes. option_or owes d) (new_debt ip start debt) ∙ good))

  pub push_stands : (w : World) (q : PushArgs) → Since B i s A (row_at w.state.depth (top_ip_stored w q.caller)) w.state.count w.state.current
      → i ≤ w.state.count → s ≤ top_start w + q.head → Passed (push_tests w q) → Standing (pushed w q (push_room w q)).world
  unfolding push_tests push_room pushed
  push_stands w q h low late p =
      row_on_top w.state.depth _ w.state.count w.state.current h low (next_there w p.0 p.1.0 q.caller) q.callee _ _ _
      late
      (given_either q.instance w.state.current h.awake)
      (repaid w.state.current q.instance h.awake)

  replace_stands : (w : World) (q : ReplaceArgs) → Standing w → i < w.state.count → Passed (replace_tests w q)
      → Standing (replaced w q (replace_room w q)).world
  unfolding replace_tests replace_room replaced
  replace_stands w q h c p =
      row_anew w h c p.0 q.callee _ _ _
      refl
      (given_either q.instance w.state.current h.awake)
      (repaid_over (debt_of (top_frame w)) w.state.current q.instance h.awake)

  return_stands : (w : World) → Standing w → i < w.state.count - 1 → (room : Room) → room.count ≡ w.state.count - 1
      → Standing (less_top w room w.cells)
  return_stands w h c room less =
      let e : w.state.count ≡ suc (w.state.count - 1) = omega arith in
      rw less
      (subst (λ d. Since B i s A (frame_at w) (w.state.count - 1) d) (sym (debt_made_good w.state _ (omega arith)))
      (since_popped (w.state.count - 1) (subst (λ n. Since B i s A (frame_at w) n w.state.current) e h) (omega arith)))

  pub effect_stands : (w : World) (a : Asked) → Standing w → i < w.state.count → Passed (tests_of w a) → i < (effect_of w a).world.state.count
      → Standing (effect_of w a).world
  unfolding push_tests pop_room popped host_tests host_room hosted
      return_host_room returned_host top_room sync_tests synced restored emptied set_room cell_set registers_stored part_lent
  effect_stands w (Traced (Push q)) h c p d =
      let low = callee_below w h c in
      push_stands w q (ip_stands w h c p.0 q.caller) (omega arith) (omega arith) p
  effect_stands w (Traced (Pop instance)) h c p d = return_stands w h d (pop_room w) refl
  effect_stands w (Traced (Replace q)) h c p d = replace_stands w q h c p
  effect_stands w (Traced (Host q)) h c p d = ip_stands w h c p.0 q.caller
  effect_stands w (Traced (ReturnHost q)) h c p d = return_stands w h d (return_host_room w q) refl
  effect_stands w (Traced (Sync ip)) h c p d = ip_stands w h c p.0 _
  effect_stands w (Traced Restore) h c p d = h
  effect_stands w (Traced Reset) h c p d = absurd (omega arith)
  effect_stands w (Traced (Set head cell)) h c p d = h
  effect_stands w (SyncRegs regs) h c p d = h
  effect_stands w (HostPart frame) h c p d = h

-- ---- the cells
-- cell k is as in w
abbrev Left : World → (k : ℕ) → List ℕ → Type 0
Left w k cells = get_or cells k 0 ≡ cell_at w k

pub push_leaves : (w : World) (q : PushArgs) (k : ℕ) → k < top_start w + q.head → cell_at (pushed w q (push_room w q)).world k ≡ cell_at w k
unfolding push_room pushed
push_leaves w q k h =
    chosen_holds (Left w k) (eqb q.slots 0) w.cells _ refl
    (push_kept w.cells _ _ (top_start w + q.head) q.params q.locals k (inl (omega arith)))

pub effect_leaves : (w : World) (a : Asked) (k : ℕ) → k < top_start w → cell_at (effect_of w a).world k ≡ cell_at w k
unfolding popped replace_room replaced hosted return_host_room returned_host synced restored emptied set_room cell_set registers_stored part_lent
effect_leaves w (Traced (Push q)) k h = push_leaves w q k (omega arith)
effect_leaves w (Traced (Pop instance)) k h = refl
effect_leaves w (Traced (Replace q)) k h =
    chosen_holds (Left w k) (eqb q.slots 0) w.cells _ refl
    (replace_kept w.cells _ _ (top_start w) q.head q.params q.locals k (inl h))
effect_leaves w (Traced (Host q)) k h = host_kept w.cells _ _ k
effect_leaves w (Traced (ReturnHost q)) k h =
    chosen_holds (Left w k) (is_sized q.params q.results) _ w.cells
    (return_host_kept w.cells _ _ (top_start w) q.head q.params k (inl h))
    refl
effect_leaves w (Traced (Sync ip)) k h = refl
effect_leaves w (Traced Restore) k h = refl
effect_leaves w (Traced Reset) k h = refl
effect_leaves w (Traced (Set head cell)) k h = set_other w.cells (top_start w + head) cell k (λ e. omega arith)
effect_leaves w (SyncRegs regs) k h = refl
effect_leaves w (HostPart frame) k h = refl

-- What the words and numbers say after a request in place: document 01's answer, whatever registers lie behind the state.
--     number_shown, offset_shown, frame_shown, hosted_shown, returned_shown     what is shown by the numbers handed out: what they leave out is 0
--     restored_shown               so of a restore, of which the registers are those behind the state, zeros where it is refused
--     SaidBy tell show left a     what is handed out and left of a request says what is answered to it
-- Statements: PlacedSaid, so of every request that leaves the registers alone; WholeSaid, so of a reset and of a register sync, with the registers in words;
-- PartsSaid, a host's part is told alike whatever registers lie there.
use Rattle.std.specs.Prelude.{◌≡◌, List, ℕ, ◌≤◌, leb, length}
use Rattle.choice.specs.Choose.{choose}
use Rattle.cells.specs.declared.host.HostFrame.{HostFrame}
use Rattle.regs.specs.declared.registers.Registers.{Registers}
use Rattle.regs.specs.Registers.{zero_registers}
use Rattle.rules.specs.declared.PushArgs.{PushArgs}
use Rattle.rules.specs.declared.ReplaceArgs.{ReplaceArgs}
use Rattle.rules.specs.declared.HostArgs.{HostArgs}
use Rattle.rules.specs.declared.ReturnHostArgs.{ReturnHostArgs}
use Rattle.rules.specs.declared.Values.{Values}
use Rattle.rules.specs.declared.Request.TheVariants.{Push, Pop, Replace, Host, ReturnHost, Sync, Restore, Reset, Set}
use Rattle.rules.specs.declared.Asked.{Asked}
use Rattle.rules.specs.declared.Asked.TheVariants.{Traced, SyncRegs}
use Rattle.rules.specs.Answers.{no_host, host_values, offset_values, no_values, Shown, shown_of, After, after_of}
use Rattle.rules.specs.Rules.{answered}
use Rattle.face.specs.Parts.{part_told}
use Rattle.face_place.specs.declared.answers.COffset.{COffset}
use Rattle.face_place.specs.declared.answers.CFrame.{CFrame}
use Rattle.face_place.specs.declared.answers.CHosted.{CHosted}
use Rattle.face_place.specs.declared.answers.CReturned.{CReturned}
use Rattle.face_place.specs.Held.{registers_held}
use Rattle.face_place.specs.Placed.{number_told, offset_told, frame_told, hosted_told, returned_told, world_held, answered_in}
use Rattle.face_place.specs.Placed.{same_after, moved_after, len_after, stored_after, emptied_after}

-- ---- what is shown

abbrev pub number_shown : (number : ℕ) → Shown
number_shown number = shown_of number no_values

abbrev pub offset_shown : COffset → Shown
offset_shown r = shown_of r.number (offset_values r.offset)

abbrev pub frame_values : (offset ip instance : ℕ) → HostFrame → Registers → Values
frame_values offset ip instance host regs = record { offset = offset; ip = ip; instance = instance; host = host; regs = regs }

abbrev pub frame_shown : CFrame → Shown
frame_shown r = shown_of r.number (frame_values r.offset r.ip r.instance no_host zero_registers)

abbrev pub restored_shown : Registers → CFrame → Shown
restored_shown regs r =
    shown_of r.number (frame_values r.offset r.ip r.instance no_host (choose (leb 2 r.number) zero_registers regs))

abbrev pub hosted_shown : CHosted → Shown
hosted_shown r = shown_of r.number (host_values r.offset r.host)

abbrev pub returned_shown : CReturned → Shown
returned_shown r = shown_of r.number (frame_values r.offset r.ip r.instance r.host zero_registers)

-- ---- the statements

abbrev pub SaidBy : {A : Type 0} → (Shown → A) → (Registers → A → Shown) → (List ℕ → After → List ℕ) → Asked → Type 0
SaidBy tell show left a =
    (st words cells : List ℕ) (regs : Registers) → 8 ≤ length st
    → let t = answered_in st words cells a in
    after_of (show regs (tell t.shown)) (world_held (left st t) regs t.world.words t.world.cells) ≡ answered (world_held st regs words cells) a

abbrev pub PlacedSaid : Type 0
PlacedSaid =
    ((q : PushArgs) → SaidBy offset_told (λ regs. offset_shown) moved_after (Traced (Push q)))
    × ((instance : ℕ) → SaidBy frame_told (λ regs. frame_shown) moved_after (Traced (Pop instance)))
    × ((q : ReplaceArgs) → SaidBy offset_told (λ regs. offset_shown) moved_after (Traced (Replace q)))
    × ((q : HostArgs) → SaidBy hosted_told (λ regs. hosted_shown) len_after (Traced (Host q)))
    × ((q : ReturnHostArgs) → SaidBy returned_told (λ regs. returned_shown) moved_after (Traced (ReturnHost q)))
    × ((ip : ℕ) → SaidBy offset_told (λ regs. offset_shown) same_after (Traced (Sync ip)))
    × SaidBy frame_told restored_shown same_after (Traced Restore)
    × ((head cell : ℕ) → SaidBy offset_told (λ regs. offset_shown) same_after (Traced (Set head cell)))

abbrev pub WholeBy : (List ℕ → After → List ℕ) → Asked → Type 0
WholeBy left a =
    (st words cells : List ℕ) → 11 ≤ length st
    → let t = answered_in st words cells a in
    let st' = left st t in
    after_of (number_shown (number_told t.shown)) (world_held st' (registers_held st' 8) t.world.words t.world.cells)
    ≡ answered (world_held st (registers_held st 8) words cells) a

abbrev pub WholeSaid : Type 0
WholeSaid = WholeBy emptied_after (Traced Reset) × ((ws : List ℕ) → WholeBy (stored_after ws) (SyncRegs (registers_held ws 0)))

abbrev pub PartsSaid : Type 0
PartsSaid =
    (st words cells : List ℕ) (regs : Registers) (frame : HostFrame)
    → part_told (world_held st zero_registers words cells) frame ≡ part_told (world_held st regs words cells) frame

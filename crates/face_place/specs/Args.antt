-- Arguments in words, as they lie: up to four counts of 16 bits in the first, the lowest first, then a word for each number, with the flag of one that may
-- be missing before it.
--     count_in word place      the count at place 1, 2 or 3 of a word; the one at place 0 is its low bits
--     push_held, replace_held, host_held, return_host_held         what the words of each request ask for
--     host_frame_held           the host's frame that three words say: its counts are in the last
use Rattle.std.specs.Prelude.{List, ℕ, ◌/◌, ◌^◌, get_or}
use Rattle.std.specs.Int.{w16}
use Rattle.std.specs.Bool.{then_some}
use Rattle.cells.specs.declared.host.HostFrame.{HostFrame}
use Rattle.regs.specs.Convert.{low_bits, truth_of}
use Rattle.rules.specs.declared.PushArgs.{PushArgs}
use Rattle.rules.specs.declared.ReplaceArgs.{ReplaceArgs}
use Rattle.rules.specs.declared.HostArgs.{HostArgs}
use Rattle.rules.specs.declared.ReturnHostArgs.{ReturnHostArgs}
use Rattle.rules.specs.Answers.{host_of}

abbrev pub count_in : (word place : ℕ) → ℕ
count_in word place = low_bits w16 (word / 65536 ^ place)

abbrev pub push_held : List ℕ → PushArgs
push_held q = record {
  caller = then_some (truth_of (get_or q 1 0)) (get_or q 2 0);
  callee = get_or q 3 0;
  head = low_bits w16 (get_or q 0 0);
  params = count_in (get_or q 0 0) 1;
  locals = count_in (get_or q 0 0) 2;
  slots = count_in (get_or q 0 0) 3;
  instance = then_some (truth_of (get_or q 4 0)) (get_or q 5 0);
}

abbrev pub replace_held : List ℕ → ReplaceArgs
replace_held q = record {
  callee = get_or q 1 0;
  head = low_bits w16 (get_or q 0 0);
  params = count_in (get_or q 0 0) 1;
  locals = count_in (get_or q 0 0) 2;
  slots = count_in (get_or q 0 0) 3;
  instance = then_some (truth_of (get_or q 2 0)) (get_or q 3 0);
}

abbrev pub host_held : List ℕ → HostArgs
host_held q = record {
  caller = then_some (truth_of (get_or q 1 0)) (get_or q 2 0);
  head = low_bits w16 (get_or q 0 0);
  params = count_in (get_or q 0 0) 1;
  results = count_in (get_or q 0 0) 2;
}

abbrev pub return_host_held : List ℕ → ReturnHostArgs
return_host_held q = record {
  head = low_bits w16 (get_or q 0 0);
  params = count_in (get_or q 0 0) 1;
  results = count_in (get_or q 0 0) 2;
  instance = get_or q 1 0;
}

abbrev pub host_frame_held : List ℕ → HostFrame
host_frame_held f = host_of (get_or f 0 0) (get_or f 1 0) (low_bits w16 (get_or f 2 0)) (count_in (get_or f 2 0) 1)

use Rattle.std.proofs.Common.{◌≡◌, ◌<◌, ℕ, false, take, length, get_or}
use Rattle.vclock.specs.Clock.{has_repeat, has_node}
use Rattle.c_calls.specs.Pairs.{clock_pairs}
use Rattle.c_calls.proofs.pair.has_repeat_by_table.Given as goal

abbrev pub invariant-loop-pair : goal.invariant-loop-pair
invariant-loop-pair l = record {
  each_node : length l.seen ≡ 65536;
  came : (n : ℕ) → n < 65536 → get_or l.seen n false ≡ has_node (take l.pair-index (clock_pairs l.pairs)) n;
  none : has_repeat (take l.pair-index (clock_pairs l.pairs)) ≡ false;
}

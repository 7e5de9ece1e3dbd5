use Rattle.std.proofs.Common.{◌≡◌, ◌-◌, ◌^◌, map}
use Rattle.std.specs.Prelude.{min}
use Rattle.std.specs.List.{sum, range_with_len}
use Rattle.range_state.specs.Bytes.{replaced_leaf_len}
use Rattle.range_state.proofs.state.bytes.replaced_len.Given as goal

abbrev pub invariant-loop-leaf : goal.invariant-loop-leaf
invariant-loop-leaf l = l.len ≡ min (sum (map (replaced_leaf_len l.tree l.own l.later) (range_with_len 0 l.leaf))) (2 ^ 64 - 1)

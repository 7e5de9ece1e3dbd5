use Rattle.std.proofs.Common.{◌≡◌, ◌-◌, ◌^◌, take}
use Rattle.std.specs.Prelude.{min}
use Rattle.range_state.specs.Bytes.{taken_len}
use Rattle.range_state.proofs.state.bytes.taken_len.Given as goal

abbrev pub invariant-loop-text : goal.invariant-loop-text
invariant-loop-text l = l.len ≡ min (taken_len (take l.text-index l.taken)) (2 ^ 64 - 1)

use Rattle.std.proofs.Common.{◌≡◌, length}
use Rattle.std.specs.Vec.Iter.{into_iter_items, into_iter_len}
use Rattle.range_state.specs.Portions.{installed_all}
use Rattle.range_state.proofs.state.RangeState.install_portion.Given as goal

abbrev pub invariant-loop-it : goal.invariant-loop-it
invariant-loop-it l = record {
  all : installed_all l.self (into_iter_items l.it-iterator) ≡ installed_all l.initial.self (into_iter_items l.initial.it-iterator);
  left : into_iter_len l.it-iterator ≡ length (into_iter_items l.it-iterator);
}

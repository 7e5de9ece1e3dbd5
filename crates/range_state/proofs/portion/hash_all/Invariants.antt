use Rattle.std.proofs.Common.{◌≡◌, ◌≤◌, ◌+◌, ◌++◌, length}
use Rattle.std.specs.Vec.{vec_capacity}
use Rattle.std.specs.Vec.Iter.{into_iter_items, into_iter_len}
use Rattle.range_state.proofs.portion.hash_all.Given as goal

abbrev pub invariant-loop-job : goal.invariant-loop-job
invariant-loop-job l = record {
  all : l.hashed.items ++ into_iter_items l.job-iterator ≡ l.initial.hashed.items ++ into_iter_items l.initial.job-iterator;
  left : into_iter_len l.job-iterator ≡ length (into_iter_items l.job-iterator);
  room : length l.hashed.items + length (into_iter_items l.job-iterator) ≤ vec_capacity l.hashed;
}

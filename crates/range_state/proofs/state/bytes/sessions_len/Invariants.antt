use Rattle.std.proofs.Common.{◌≡◌, ◌+◌, ◌-◌, ◌≤◌, ◌^◌, drop}
use Rattle.std.specs.Prelude.{min}
use Rattle.range_state.specs.Bytes.{sessions_len}
use Rattle.range_state.proofs.state.bytes.sessions_len.Given as goal

-- with the size of the sessions that are left, the size is that of all
abbrev pub invariant-loop-at : goal.invariant-loop-at
invariant-loop-at l = record {
  short : l.len ≤ 2 ^ 64 - 1;
  all : min (l.len + sessions_len l.tree (drop l.at l.records)) (2 ^ 64 - 1) ≡ min (sessions_len l.tree l.records) (2 ^ 64 - 1);
}

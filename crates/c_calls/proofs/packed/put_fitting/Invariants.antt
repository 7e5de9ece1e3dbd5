use Rattle.std.proofs.Common.{◌≡◌, ◌+◌, ◌++◌, length, take, drop}
use Rattle.c_calls.specs.Packed.{IsWritten, entries_text, fitting}
use Rattle.c_calls.proofs.packed.put_fitting.Given as goal

abbrev pub invariant-loop-count : goal.invariant-loop-count
invariant-loop-count l = record {
  fit : take l.count l.entries ++ fitting l.format l.left (drop l.count l.entries) ≡ fitting l.format (length l.initial.out) l.entries;
  written : IsWritten (entries_text l.format (take l.count l.entries)) l.initial.out 0 l.out l.len;
  room : l.len + l.left ≡ length l.initial.out;
}

use Rattle.std.proofs.Common.{◌≡◌, ◌≤◌, ◌+◌, ◌*◌, vec_len}
use Rattle.outage_script.specs.Moves.{script_place}
use Rattle.outage_script.proofs.RunLemmas.{Progress}
use Rattle.outage_script.proofs.run.drive.Given as goal

-- what was read so far is answered, but for a line that is not whole yet
abbrev pub invariant-loop-calls : goal.invariant-loop-calls
invariant-loop-calls g l = record {
  size : vec_len l.buffer ≡ 65536;
  number : l.script.number ≤ 1 + 65536 * l.calls;
  run : Progress (g.R.Read.remaining l.fn.reader) (g.R.Read.remaining l.reader) (g.W.Write.contents l.fn.writer) (g.W.Write.contents l.writer)
      (script_place l.script.number l.script.world l.script.line.items l.script.too_long);
}

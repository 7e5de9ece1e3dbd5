use Rattle.std.proofs.Common.{length}
use Rattle.outage_script.specs.Moves.{script_place}
use Rattle.outage_script.proofs.FeedLemmas.{Fed}
use Rattle.outage_script.proofs.script_run.ScriptRun.feed.Given as goal

-- the lines so far are taken
abbrev pub invariant-loop-at : goal.invariant-loop-at
invariant-loop-at g l = Fed (script_place l.fn.self.number l.fn.self.world l.fn.self.line.items l.fn.self.too_long) l.piece l.rest
    (script_place l.self.number l.self.world l.self.line.items l.self.too_long) (g.W.Write.contents l.fn.writer) (g.W.Write.contents l.writer)

abbrev pub decreases-loop-at : goal.decreases-loop-at
decreases-loop-at g l = length l.rest

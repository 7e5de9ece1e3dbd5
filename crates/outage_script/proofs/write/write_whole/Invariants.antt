use Rattle.std.proofs.Common.{◌≡◌, List, ℕ, ◌++◌, length}
use Rattle.std.specs.Io.KnownBytes.{Appends}
use Rattle.outage_script.proofs.write.write_whole.Given as goal

-- what is written so far, and then the rest, are the bytes
abbrev pub invariant-loop-rest : goal.invariant-loop-rest
invariant-loop-rest g l = (some : List ℕ) × Appends (g.W.Write.contents l.fn.writer) (g.W.Write.contents l.writer) some
    × (l.fn.bytes ≡ some ++ l.rest)

abbrev pub decreases-loop-rest : goal.decreases-loop-rest
decreases-loop-rest g l = length l.rest

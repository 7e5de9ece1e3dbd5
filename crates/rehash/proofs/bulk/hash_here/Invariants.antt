use Rattle.std.proofs.Common.{◌≡◌, map}
use Rattle.rehash.specs.Jobs.{NodeText}
use Rattle.rehash.proofs.bulk.hash_here.Given as goal

abbrev pub invariant-loop-job : goal.invariant-loop-job
invariant-loop-job l = l.hashed.items ≡ map (λ (j : NodeText). j.text) l.yielded

use Rattle.std.proofs.Common.{rules}
use Rattle.std.proofs.iter.runs.Made.{chains}
use Rattle.outage_cluster.proofs.replicas.Replicas.owners.Goals as goal

pub returns : goal.returns
returns c = search (rules, chains)

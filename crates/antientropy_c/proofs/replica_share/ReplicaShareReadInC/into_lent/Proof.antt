use Rattle.c_handle.proofs.LentLaws.{moved}
use Rattle.antientropy_c.proofs.Structs.{into_lent, of_replica_share}
use Rattle.antientropy_c.proofs.replica_share.ReplicaShareReadInC.into_lent.Statement.{statement}
use Rattle.antientropy_c.proofs.replica_share.ReplicaShareReadInC.into_lent.Code.{unfolded}

pub into_lent_spec : {M : Type 1} → statement M
into_lent_spec 𝓤 𝓛 𝓜 𝓡 wired = moved (into_lent of_replica_share) 𝓤 𝓛 𝓜 𝓡 _ (unfolded 𝓤 𝓛.H 𝓜 𝓡 wired)

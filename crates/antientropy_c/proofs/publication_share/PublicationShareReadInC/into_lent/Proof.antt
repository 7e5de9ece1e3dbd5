use Rattle.c_handle.proofs.LentLaws.{moved}
use Rattle.antientropy_c.proofs.Structs.{into_lent, of_publication_share}
use Rattle.antientropy_c.proofs.publication_share.PublicationShareReadInC.into_lent.Statement.{statement}
use Rattle.antientropy_c.proofs.publication_share.PublicationShareReadInC.into_lent.Code.{unfolded}

pub into_lent_spec : {M : Type 1} → statement M
into_lent_spec 𝓤 𝓛 𝓜 𝓡 wired = moved (into_lent of_publication_share) 𝓤 𝓛 𝓜 𝓡 _ (unfolded 𝓤 𝓛.H 𝓜 𝓡 wired)

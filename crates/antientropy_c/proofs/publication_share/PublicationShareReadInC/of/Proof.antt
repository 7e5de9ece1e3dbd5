use Rattle.c_handle.proofs.LentLaws.{moved}
use Rattle.antientropy_c.proofs.Structs.{of_lent, of_publication_share}
use Rattle.antientropy_c.proofs.publication_share.PublicationShareReadInC.of.Statement.{statement}
use Rattle.antientropy_c.proofs.publication_share.PublicationShareReadInC.of.Code.{unfolded}

pub of_spec : {M : Type 1} → statement M
of_spec 𝓤 𝓛 𝓜 𝓡 wired = moved (of_lent of_publication_share) 𝓤 𝓛 𝓜 𝓡 _ (unfolded 𝓤 𝓛.H 𝓜 𝓡 wired)

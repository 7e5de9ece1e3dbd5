use Rattle.antientropy_c.proofs.Structs.{of_handle, moved, of_renewal}
use Rattle.antientropy_c.proofs.renewal_handle.RenewalHandleInC.of.Statement.{statement}
use Rattle.antientropy_c.proofs.renewal_handle.RenewalHandleInC.of.Code.{unfolded}

pub of_spec : {M : Type 1} → statement M
of_spec 𝓤 𝓛 𝓜 𝓡 wired = moved (of_handle of_renewal) 𝓤 𝓛 𝓜 𝓡 _ (unfolded 𝓤 𝓛.H 𝓜 𝓡 wired)

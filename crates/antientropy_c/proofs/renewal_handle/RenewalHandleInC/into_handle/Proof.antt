use Rattle.antientropy_c.proofs.Structs.{into_handle, moved, of_renewal}
use Rattle.antientropy_c.proofs.renewal_handle.RenewalHandleInC.into_handle.Statement.{statement}
use Rattle.antientropy_c.proofs.renewal_handle.RenewalHandleInC.into_handle.Code.{unfolded}

pub into_handle_spec : {M : Type 1} → statement M
into_handle_spec 𝓤 𝓛 𝓜 𝓡 wired = moved (into_handle of_renewal) 𝓤 𝓛 𝓜 𝓡 _ (unfolded 𝓤 𝓛.H 𝓜 𝓡 wired)

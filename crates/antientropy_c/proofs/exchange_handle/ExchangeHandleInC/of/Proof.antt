use Rattle.antientropy_c.proofs.Structs.{of_handle, moved, of_exchange}
use Rattle.antientropy_c.proofs.exchange_handle.ExchangeHandleInC.of.Statement.{statement}
use Rattle.antientropy_c.proofs.exchange_handle.ExchangeHandleInC.of.Code.{unfolded}

pub of_spec : {M : Type 1} → statement M
of_spec 𝓤 𝓛 𝓜 𝓡 wired = moved (of_handle of_exchange) 𝓤 𝓛 𝓜 𝓡 _ (unfolded 𝓤 𝓛.H 𝓜 𝓡 wired)

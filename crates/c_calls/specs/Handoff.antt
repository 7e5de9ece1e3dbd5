-- The parts of a hint, for C.
use Rattle.std.specs.Prelude.{ℕ, List, Option, option_map}
use Rattle.version_set.specs.declared.version.Version.{Version}
use Rattle.hint_store.specs.declared.hint.Kept.{Kept}

-- the parts of a hint, if any
abbrev pub owner_in : Option Kept → Option ℕ
owner_in k = option_map (λ (x : Kept). x.hint.owner) k

abbrev pub hint_key_in : Option Kept → Option (List ℕ)
hint_key_in k = option_map (λ (x : Kept). x.hint.key) k

abbrev pub hint_version_in : Option Kept → Option Version
hint_version_in k = option_map (λ (x : Kept). x.hint.version) k

-- Sizes, in bytes.
use Rattle.std.specs.Prelude.{ℕ, ◌+◌, ◌*◌, List, length}
use Rattle.version_set.specs.declared.version.Version.{Version}

-- the bytes of a key, and of a version's value and clock: of each pair, 2 for the node and 8 for the counter
abbrev pub payload_len : List ℕ → Version → ℕ
payload_len key v = length key + length v.value + 10 * length v.clock

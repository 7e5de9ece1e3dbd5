-- A fast hash of a key, which places nothing.
use Rattle.std.specs.Prelude.{ℕ, List}
use Rattle.std.specs.Hash.FoldHasher.{initial, write, finish}

-- the hash of the kit's `FoldHasher`, which is fed the key
unfoldable pub key_hash : List ℕ → ℕ
key_hash key = finish (write initial key)

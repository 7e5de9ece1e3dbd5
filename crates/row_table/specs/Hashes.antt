-- The hash of a key.
use Rattle.std.specs.Prelude.{ℕ, List}
use Rattle.std.specs.List.{fold}
use Rattle.std.specs.Hash as fed
use Rattle.std.specs.Hash.FoldHasher.{initial, write, finish}
use Rattle.row_table.specs.declared.seed.Seed.{Seed}

-- the hash of the kit's `FoldHasher`, which is fed the two words of a seed and then a key
unfoldable pub key_hash : Seed → List ℕ → ℕ
key_hash seed key = finish (write (fold write (fold write initial (fed.u64 seed.first)) (fed.u64 seed.second)) key)

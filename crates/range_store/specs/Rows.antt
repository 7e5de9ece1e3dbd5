-- The rows of a journal: section 4.4 of the Dynamo paper, key by key.
use Rattle.std.specs.Prelude.{List, [], ◌∷◌, ℕ, map}
use Rattle.version_set.specs.Order.{inserted}
use Rattle.range_journal.specs.declared.journal.Entry.{Entry}
use Rattle.range_journal.specs.Journal.{held}
use Rattle.row_bytes.specs.declared.row.Row.{Row}
use Rattle.hash_tree.specs.Leaves.{key_cmp}

-- the keys with one more, in ascending order, each once
abbrev pub with_key : List ℕ → List (List ℕ) → List (List ℕ)
with_key k ks = inserted key_cmp k ks

-- these keys, and those that have an entry
abbrev pub keys_from : List (List ℕ) → List Entry → List (List ℕ)
keys_from ks [] = ks
keys_from ks (e ∷ es) = keys_from (with_key e.key ks) es

-- each key that has an entry, in ascending order, with the versions that are held for it
unfoldable pub rows_of : List Entry → List Row
rows_of es = map (λ k. record { key = k; versions = held es k }) (keys_from [] es)

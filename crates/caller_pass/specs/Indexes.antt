-- The places of a pass's receipts, by the hashes of their keys.
use Rattle.std.specs.Prelude.{◌≡◌, ℕ, zero, suc, ◌<◌, ◌≤◌, Bool, false, List, length, Option, Some, None, slice_get, unwrap_or, option_map, nat_eq, if◌then◌else◌}
use Rattle.std.specs.HashMap.{get}
use Rattle.key_ring.specs.Hashes.{key_hash}
use Rattle.range_journal.specs.declared.journal.Entry.{Entry}
use Rattle.caller_pass.specs.declared.receipt_index.ByKey.{ByKey}

-- the hash of the key of the entry at a place, if any
abbrev pub hash_at : List Entry → ℕ → Option ℕ
hash_at es place = option_map (λ e. key_hash e.key) (slice_get es place)

-- an entry, if any, has a key of this hash
abbrev pub is_entry_of : Option Entry → ℕ → Bool
is_entry_of None hash = false
is_entry_of (Some e) hash = nat_eq (key_hash e.key) hash

-- the last of the first n entries whose key has this hash: one more than its place, or 0 if none has
abbrev pub last_of : List Entry → ℕ → ℕ → ℕ
last_of es hash zero = 0
last_of es hash (suc n) = if is_entry_of (slice_get es n) hash then suc n else last_of es hash n

-- the last entry of a hash that an index has, or 0
abbrev pub found_in : ByKey → ℕ → ℕ
found_in index hash = unwrap_or (get nat_eq index.last hash) 0

-- For the first entries, length earlier of them, an index has the last one of each hash, and for each entry the
-- previous one with the same hash. It has the hashes of these, and maybe of more of the entries, in order.
pub record IsIndex (es : List Entry) (index : ByKey) : Type 0 where
  pub last : (hash : ℕ) → found_in index hash ≡ last_of es hash (length index.earlier.items)
  pub earlier : (i : ℕ) (e : Entry) → i < length index.earlier.items → slice_get es i ≡ Some e
      → slice_get index.earlier.items i ≡ Some (last_of es (key_hash e.key) i)
  pub known : length index.earlier.items ≤ length index.hashes.items
  pub within : length index.hashes.items ≤ length es
  pub hashes : (i : ℕ) → i < length index.hashes.items → slice_get index.hashes.items i ≡ hash_at es i

-- The keys of a leaf in order, for C.
use Rattle.std.specs.Prelude.{◌≡◌, ℕ, nat_le, nat_lt, List, [], ◌∷◌, length, take, Option, Some, None, Err, if◌then◌else◌, MatchBool}
use Rattle.vclock.specs.declared.refusal.Refusal.TheVariants.{BadKey, BadMessage}
use Rattle.row_bytes.specs.declared.row.Row.{Row}
use Rattle.row_bytes.specs.Rows.{is_before}
use Rattle.hash_tree.specs.Leaves.{rows_in_leaf}
use Rattle.range_store.specs.Rows.{rows_of}
use Rattle.range_state.specs.State.{State}
use Rattle.range_store.specs.Store.{leaf_in, leaf_count}
use Rattle.c_calls.specs.Hands.{copied, copy_code, HandsOut, HandsAny}
use Rattle.c_calls.specs.Numbers.{NO_VERSION}

-- the first key above k in ascending rows, if any
abbrev pub key_after : List ℕ → List Row → Option (List ℕ)
key_after k [] = None
key_after k (r ∷ rows) = if is_before k r.key then Some r.key else key_after k rows

-- the least key of a leaf above k is copied out, if the tree has such a leaf
abbrev pub HandsKeyAfter : State → ℕ → List ℕ → ℕ → ℕ × List ℕ → ℕ × List ℕ → Type 0
HandsKeyAfter s leaf k code before after = MatchBool (nat_lt leaf (leaf_count s.store.config))
    (HandsAny (key_after k (rows_in_leaf (leaf_in s.store.config) leaf (rows_of s.store.entries))) code before after)
    (HandsOut (Err BadMessage) code before after)

-- Bytes take the place of those at the front of a buffer if all of them fit, and their number is stored; otherwise
-- nothing is written. Before and after are the stored number and the buffer.
abbrev pub Replaces : Option (List ℕ) → ℕ → ℕ × List ℕ → ℕ × List ℕ → Type 0
Replaces None code before after = (code ≡ NO_VERSION) × (after.0 ≡ before.0) × (after.1 ≡ before.1)
Replaces (Some bytes) code before after = (code ≡ copy_code bytes before.1)
    × (after.0 ≡ (if nat_le (length bytes) (length before.1) then length bytes else before.0))
    × (after.1 ≡ copied bytes before.1)

-- the least key of some rows above the one at the front of a buffer takes its place, if the buffer has that many bytes
abbrev pub HandsNext : List Row → ℕ → ℕ × List ℕ → ℕ × List ℕ → Type 0
HandsNext rows code before after = MatchBool (nat_le before.0 (length before.1))
    (Replaces (key_after (take before.0 before.1) rows) code before after)
    (HandsOut (Err BadKey) code before after)

-- the least key of a replica's leaf above the one at the front of a buffer takes its place, if the tree has such a leaf
abbrev pub HandsKeyNext : State → ℕ → ℕ → ℕ × List ℕ → ℕ × List ℕ → Type 0
HandsKeyNext s leaf code before after = MatchBool (nat_lt leaf (leaf_count s.store.config))
    (HandsNext (rows_in_leaf (leaf_in s.store.config) leaf (rows_of s.store.entries)) code before after)
    (HandsOut (Err BadMessage) code before after)

-- Reads of a snapshot, for C.
use Rattle.std.specs.Prelude.{ℕ, ◌^◌, ◌&&◌, nat_le, nat_lt, Bool, List, Result, Ok, Err, if◌then◌else◌, MatchBool}
use Rattle.vclock.specs.declared.refusal.Refusal.{Refusal}
use Rattle.vclock.specs.declared.refusal.Refusal.TheVariants.{BadMessage}
use Rattle.key_ring.specs.Places.{leaf_bits}
use Rattle.hash_tree.specs.Leaves.{rows_in_leaf, versions_in}
use Rattle.tree_nodes.specs.Nodes.{tree_depth}
use Rattle.snapshot.specs.RowMaps.{RowMap, leaf_in, digest_at}
use Rattle.c_calls.specs.Hands.{HandsOut}
use Rattle.c_calls.specs.Keys.{HandsNext}
use Rattle.c_calls.specs.Shows.{row_of}

-- the text of the row of a key: no bytes if the key has no row
abbrev pub row_in : RowMap → List ℕ → List ℕ
row_in m key = row_of m.format key (versions_in key m.rows)

-- the least key of a leaf above the one at the front of a buffer takes its place, if the tree has such a leaf
abbrev pub HandsKeyNextIn : RowMap → ℕ → ℕ → ℕ × List ℕ → ℕ × List ℕ → Type 0
HandsKeyNextIn m leaf code before after = MatchBool (nat_lt leaf (2 ^ leaf_bits m.format))
    (HandsNext (rows_in_leaf (leaf_in m) leaf m.rows) code before after)
    (HandsOut (Err BadMessage) code before after)

-- the tree has a node
abbrev pub has_node : RowMap → ℕ → ℕ → Bool
has_node m depth index = nat_le depth (tree_depth m.format) && nat_lt index (16 ^ depth)

-- the digest of a node, if the tree has it
abbrev pub digest_in : RowMap → ℕ → ℕ → Result (List ℕ) Refusal
digest_in m depth index = if has_node m depth index then Ok (digest_at m depth index) else Err BadMessage

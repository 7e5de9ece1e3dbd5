-- The size of a range, in bytes. A session keeps the rows of its moment; the range itself has other rows in the leaves
-- that have changed since.
use Rattle.std.specs.Prelude.{ℕ, ◌+◌, ◌-◌, ◌^◌, Bool, false, bytes_eq, nat_le, min, List, [], ◌∷◌, length, map, Option, Some, None, if◌then◌else◌}
use Rattle.std.specs.List.{sum, sum_by, range_with_len}
use Rattle.key_ring.specs.Places.{leaf_bits}
use Rattle.range_journal.specs.Sizes.{entries_len}
use Rattle.tree_nodes.specs.Nodes.{Node, tree_depth, place_of, kept_digest}
use Rattle.hash_tree.specs.Leaves.{rows_in_leaf}
use Rattle.hash_tree.specs.Sizes.{rows_len}
use Rattle.snapshot.specs.RowMaps.{RowMap, leaf_in, digest_at}
use Rattle.range_tree.specs.Trees.{RangeTree}
use Rattle.range_store.specs.Store.{tree_in}
use Rattle.sync_session.specs.Walks.{Walk, TakenText}
use Rattle.range_state.specs.declared.«record».Record.{Record}
use Rattle.range_state.specs.declared.state.bytes.RangeBytes.{RangeBytes}
use Rattle.range_state.specs.State.{State}

-- the digest of a node in the tree over some rows, if the tree has the node
abbrev pub digest_in : RowMap → Node → Option (List ℕ)
digest_in m n = if nat_le n.depth (tree_depth m.format) then Some (digest_at m n.depth n.index) else None

-- the digest of a node in the rows of the first session, or in the tree without sessions
abbrev pub later_digest : RangeTree → List Record → Node → Option (List ℕ)
later_digest t [] n = kept_digest t.marks (place_of n)
later_digest t (r ∷ rs) n = digest_in r.session.own n

abbrev pub is_digest : Option (List ℕ) → List ℕ → Bool
is_digest None other = false
is_digest (Some digest) other = bytes_eq digest other

-- the length of the texts of a leaf's rows, if later rows have another digest there or none; otherwise 0
abbrev pub replaced_leaf_len : RangeTree → RowMap → List Record → ℕ → ℕ
replaced_leaf_len t own later leaf =
    if is_digest (later_digest t later (record { depth = tree_depth own.format; index = leaf })) (digest_at own (tree_depth own.format) leaf)
    then 0 else rows_len own.format (rows_in_leaf (leaf_in own) leaf own.rows)

-- the length for all leaves
abbrev pub replaced_len : RangeTree → RowMap → List Record → ℕ
replaced_len t own later = sum (map (replaced_leaf_len t own later) (range_with_len 0 (2 ^ leaf_bits own.format)))

-- the length of the texts that a session took
abbrev pub taken_len : List TakenText → ℕ
taken_len taken = sum_by (λ (t : TakenText). length t.text) taken

abbrev pub session_len : RangeTree → Walk → List Record → ℕ
session_len t w later = replaced_len t w.own later + taken_len w.taken

-- the length of the data that sessions keep in addition to the tree and to the sessions after them
unfoldable pub sessions_len : RangeTree → List Record → ℕ
sessions_len t [] = 0
sessions_len t (r ∷ later) = session_len t r.session later + sessions_len t later

-- a number of bytes in 64 bits
abbrev in_64_bits : ℕ → ℕ
in_64_bits n = min n (2 ^ 64 - 1)

abbrev pub bytes_of : State → RangeBytes
bytes_of s = record {
  rows = in_64_bits (rows_len s.store.config.format (tree_in s.store).map.rows);
  journal = in_64_bits (entries_len s.store.entries);
  sessions = in_64_bits (sessions_len (tree_in s.store) s.records);
}

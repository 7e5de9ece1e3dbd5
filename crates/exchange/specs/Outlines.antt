-- The outlines of nodes, and the number of outlines in a row without a text.
use Rattle.std.specs.Prelude.{ℕ, ◌+◌, ◌*◌, min, Bool, true, false, ◌&&◌, not, nat_lt, nat_le, bytes_eq, List, [], length, replicate, slice_get, slice_set, Option, Some, None, if◌then◌else◌}
use Rattle.vclock.specs.declared.format.Format.{Format}
use Rattle.tree_nodes.specs.Nodes.{Node, node_count, place_of, tree_depth}
use Rattle.snapshot.specs.RowMaps.{RowMap, digest_at}
use Rattle.sync_session.specs.Walks.{Walk, expected, whole_digest}
use Rattle.text_patch.specs.Marks.{marks_of}
use Rattle.text_patch.specs.Messages.{outline_text}
use Rattle.text_patch.specs.Parts.{parts_at}
use Rattle.exchange.specs.declared.outlining.Outlining.{Outlining}
use Rattle.exchange.specs.declared.outlining.Outlining.TheVariants.{Never, Sent, Ended}
use Rattle.exchange.specs.Standings.{standing_of, is_sent}
use Rattle.exchange.specs.Courses.{Course}
use Rattle.exchange.specs.Asks.{is_leaf, local_leaf}

-- the state of each node's outline, by its place; and the number of outlines in a row without a text, up to 3
pub record Outlines : Type 0 where
  pub nodes : List Outlining
  pub misses : ℕ

-- no outline was sent for the nodes of a tree
abbrev pub unsent : Format → Outlines
unsent format = record { nodes = replicate (node_count format) Never; misses = 0 }

abbrev pub no_outlines : Outlines
no_outlines = record { nodes = []; misses = 0 }

abbrev pub outlining_of : Outlines → Node → Option Outlining
outlining_of o n = slice_get o.nodes (place_of n)

-- none was sent for a node
abbrev pub is_never : Option Outlining → Bool
is_never (Some Never) = true
is_never (Some Sent) = false
is_never (Some Ended) = false
is_never None = false

-- one is in progress
abbrev pub is_out : Option Outlining → Bool
is_out (Some Sent) = true
is_out (Some Never) = false
is_out (Some Ended) = false
is_out None = false

-- an outline may be sent for a node: none was, and fewer than three in a row brought no text
abbrev pub may_outline : Outlines → Node → Bool
may_outline o n = nat_lt o.misses 3 && is_never (outlining_of o n)

abbrev pub with_outlining : Outlines → Node → Outlining → Outlines
with_outlining o n s = record o { nodes = slice_set o.nodes (place_of n) s }

-- it brought no text
abbrev pub after_miss : Outlines → Node → Outlines
after_miss o n = record { nodes = slice_set o.nodes (place_of n) Ended; misses = min 3 (o.misses + 1) }

-- it brought a text that was judged: a count of three misses stays
abbrev pub after_text : Outlines → Node → Outlines
after_text o n = record { nodes = slice_set o.nodes (place_of n) Ended; misses = if nat_lt o.misses 3 then 0 else 3 }

-- An outline pays: a leaf's local rows have over 255 bytes; an inner node's first two children differ. Children without
-- rows don't differ.
abbrev pub pays : RowMap → Node → Bool
pays own n =
    if is_leaf own n then nat_lt 255 (local_leaf own n)
    else not (bytes_eq (digest_at own (n.depth + 1) (16 * n.index)) (digest_at own (n.depth + 1) (16 * n.index + 1)))

-- the outline of a node, with marks of three bytes, if it has at most `room` bytes
abbrev pub outline_by : Course → RowMap → Node → ℕ → Option (List ℕ) → Option (List ℕ)
outline_by x own n room None = None
outline_by x own n room (Some salt) =
    if nat_le (13 + 3 * length (parts_at own n)) room then Some (outline_text (record { offer = x.offer.offer; node = n }) (marks_of salt 3 (parts_at own n))) else None

-- the outline to send in place of the ask in progress for a node, if any
abbrev pub outline_for : Outlines → Course → Walk → Node → ℕ → Option (List ℕ)
outline_for o x w n room =
    if nat_le n.depth (tree_depth w.own.format) && (is_sent (standing_of x.standings n) && (may_outline o n && pays w.own n))
    then outline_by x w.own n room (whole_digest (expected w.root w.taken n)) else None

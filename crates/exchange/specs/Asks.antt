-- The asks of an exchange.
use Rattle.std.specs.Prelude.{ℕ, ◌+◌, ◌-◌, ◌/◌, ◌^◌, min, max, Bool, ◌||◌, ◌&&◌, ◌==◌, nat_lt, nat_le, nat_eq, is_some, Option, Some, None, option_map, if◌then◌else◌}
use Rattle.hash_tree.specs.Leaves.{rows_in_leaf}
use Rattle.hash_tree.specs.Sizes.{rows_len}
use Rattle.tree_nodes.specs.Nodes.{Node, tree_depth}
use Rattle.snapshot.specs.RowMaps.{RowMap, leaf_in}
use Rattle.walk_messages.specs.declared.message.Ask.{Ask}
use Rattle.sync_session.specs.Walks.{Walk}
use Rattle.exchange.specs.declared.tally.Tally.{Tally}
use Rattle.exchange.specs.declared.standing.Standing.TheVariants.{InFlight}
use Rattle.exchange.specs.Standings.{in_flight, bytes_in_flight, first_askable, with_standing}
use Rattle.exchange.specs.Courses.{Course, is_over}

-- a node is a leaf of the tree over these rows
abbrev pub is_leaf : RowMap → Node → Bool
is_leaf own n = nat_eq n.depth (tree_depth own.format)

-- the mean length of the taken texts of leaves
abbrev pub mean_leaf : Tally → ℕ
mean_leaf t = if t.leaves == 0 then 0 else t.leaf_bytes / t.leaves

-- the length of the rows of a local leaf
abbrev pub local_leaf : RowMap → Node → ℕ
local_leaf own n = min (rows_len own.format (rows_in_leaf (leaf_in own) n.index own.rows)) (2 ^ 64 - 1)

-- an estimate of the answer in bytes: a leaf is as long as the local one, or as the mean of the taken ones if that is
-- more
abbrev pub estimate : Course → RowMap → Node → ℕ
estimate x own n = if is_leaf own n then max (local_leaf own n) (mean_leaf x.tally) else 513

-- the maximum number of asks in progress: 16 for a leaf, before the first leaf was taken
abbrev pub most_ways : Course → Bool → ℕ
most_ways x leaf = if leaf && (x.tally.leaves == 0) then min 16 x.bounds.asks else x.bounds.asks

-- another ask may be sent, with an answer of this size: none is in progress, or it is within the bounds
abbrev pub has_room : Course → Bool → ℕ → Bool
has_room x leaf bytes = (in_flight x.standings == 0) || (nat_lt (in_flight x.standings) (most_ways x leaf) && nat_le (bytes_in_flight x.standings + bytes) x.bounds.bytes)

-- the node, with the estimate, if it is within the bounds
abbrev pub fitting : Course → RowMap → Option Node → Option (Node × ℕ)
fitting x own None = None
fitting x own (Some n) = if has_room x (is_leaf own n) (estimate x own n) then Some (n, estimate x own n) else None

-- the node to ask now, with the estimate of its answer, if any: the first outstanding one that may be asked
abbrev pub next_in : Course → Walk → Option (Node × ℕ)
next_in x w = if is_some x.stop || is_over x then None else fitting x w.own (first_askable x.standings w.outstanding)

abbrev pub ask_for : Course → Option (Node × ℕ) → Option Ask
ask_for x next = option_map (λ p. record { offer = x.offer.offer; node = p.0 }) next

-- the course after an ask was sent
abbrev pub after_ask : Course → Option (Node × ℕ) → Course
after_ask x None = x
after_ask x (Some p) = record x { standings = with_standing x.standings p.0 (InFlight p.1); tally = record x.tally { asks = x.tally.asks + 1 } }

-- The effects of the commands on the state, and their answers.
use Rattle.std.specs.Prelude.{ℕ, ◌^◌, Bool, true, false, not, ◌==◌, ◌&&◌, ◌-◌, nat_le, nat_lt, slice_index_or, List, [], ◌∷◌, length, map, filter, if◌then◌else◌, Option, Some, None, is_some}
use Rattle.std.specs.List.{list_any, list_all}
use Rattle.vclock.specs.Answer.{first_fault}
use Rattle.vclock.specs.Clock.{clock_of, pairs_fault}
use Rattle.vclock.specs.Bytes.{key_fault}
use Rattle.vclock.specs.Outcome.{Outcome, gives, refuses, is_given, through, ◌>>◌, ◌>>=◌}
use Rattle.vclock.specs.declared.format.Format.{Format}
use Rattle.vclock.specs.declared.format.Format.TheVariants.{One, Two}
use Rattle.vclock.specs.declared.refusal.Refusal.{Refusal}
use Rattle.vclock.specs.declared.refusal.Refusal.TheVariants.{BadRing, Down, OtherRange}
use Rattle.version_set.specs.Kind.{value_fault}
use Rattle.version_set.specs.declared.kind.Kind.{Kind}
use Rattle.version_set.specs.declared.version.Version.{Version}
use Rattle.row_bytes.specs.Rows.{row_text}
use Rattle.version_set.specs.declared.kind.Kind.TheVariants.{Live, Tombstone}
use Rattle.key_ring.specs.Places.{range_at}
use Rattle.key_ring.specs.Ring.{Places, ring_fault}
use Rattle.admission.specs.Admission.{Admission, lend}
use Rattle.range_journal.specs.Journal.{held}
use Rattle.range_journal.specs.declared.journal.Entry.{Entry}
use Rattle.range_journal.specs.declared.journal.Source.TheVariants.{Copy}
use Rattle.range_store.specs.Config.{Config, config_of}
use Rattle.range_store.specs.Rows.{rows_of}
use Rattle.range_store.specs.Store as range
use Rattle.range_store.specs.Trees.{rehashed}
use Rattle.range_store.specs.declared.receipt.Accepted.{Accepted}
use Rattle.range_state.specs.Sessions.{crowd_fault}
use Rattle.tree_nodes.specs.Nodes.{tree_depth, place_at, kept_digest, dirty_count}
use Rattle.hash_tree.specs.Texts.{node_digest}
use Rattle.outage_commands.specs.declared.command.Command.{Command}
use Rattle.outage_commands.specs.declared.command.Command.TheVariants as Commands
use Rattle.outage_commands.specs.declared.command.Get.{Get}
use Rattle.outage_commands.specs.declared.command.NewRing.{NewRing}
use Rattle.outage_commands.specs.declared.command.Put.{Put}
use Rattle.outage_commands.specs.declared.command.Rehash.{Rehash}
use Rattle.outage_commands.specs.declared.command.ShowNode.{ShowNode}
use Rattle.outage_commands.specs.declared.command.SyncFrom.{SyncFrom}
use Rattle.outage_cluster.specs.declared.answer.CommandAnswer.{CommandAnswer}
use Rattle.outage_cluster.specs.declared.answer.CommandAnswer.TheVariants as Answers
use Rattle.outage_cluster.specs.State.{Cluster, ClusterState, Replica, first_slots, made, in_replica, at_home, left, replica_at, at_node, replicas_of, with_range, with_replicas, home, is_member, is_down, taken_down, brought_up, hints_of}
use Rattle.outage_cluster.specs.Handoff.{owners_of, carrier_of, hinted, deliver_at}
use Rattle.outage_cluster.specs.Syncs.{sync_report, synced_with}
use Rattle.outage_cluster.specs.Slots.{slot_act, sample_act, is_target}
use Rattle.outage_cluster.specs.declared.answer.CommandAnswer.TheVariants.{Refused}

-- ---- a ring

abbrev pub places_of : NewRing → Places
places_of r = record { bits = r.bits; nodes = r.nodes; copies = r.copies }

-- the configuration of range 0, if the format and the limit are valid
abbrev pub ring_config : NewRing → Option Config
ring_config r = config_of r.format r.bits 0 r.limit

-- a new cluster, with new slots
abbrev pub ring_act : NewRing → Option Config → Outcome CommandAnswer ClusterState
ring_act r None = refuses BadRing
ring_act r (Some c) = do
  ring_fault (places_of r)
  gives (Answers.Ring (length r.nodes) (2 ^ r.bits)) (record { cluster = made (places_of r) c; slots = first_slots })

-- ---- nodes

-- the fault of the nodes that a command names: one is not on the ring
abbrev pub ring_nodes_fault : Cluster → ℕ → List ℕ → Option Refusal
ring_nodes_fault s node others = if is_member s node && list_all (is_member s) others then None else Some BadRing

-- the fault of a node that is down
abbrev pub down_fault : Cluster → ℕ → Option Refusal
down_fault s node = if is_down s node then Some Down else None

-- the fault of nodes: one is not on the ring, or the first is down
abbrev pub nodes_fault : Cluster → ℕ → List ℕ → Option Refusal
nodes_fault s node others = first_fault (ring_nodes_fault s node others) (down_fault s node)

unfoldable pub down_act : ℕ → Cluster → Outcome CommandAnswer Cluster
down_act n s = do
  ring_nodes_fault s n []
  gives (Answers.Up n false) (taken_down s n)

unfoldable pub up_act : ℕ → Cluster → Outcome CommandAnswer Cluster
up_act n s = do
  ring_nodes_fault s n []
  gives (Answers.Up n true) (brought_up s n)

-- ---- a put

-- the fault of a put before its range is found
abbrev pub put_fault : Put → Cluster → Option Refusal
put_fault p s = first_fault (nodes_fault s p.node p.lose) (first_fault (pairs_fault p.context) (first_fault (key_fault p.key) (value_fault s.format p.kind p.value)))

-- a put into the store of its node: the script's seat is 0
unfoldable pub put_by : Put → range.Store → Outcome Entry range.Store
put_by p h = range.put h 0 p.node p.key (clock_of p.context) p.kind p.value

-- a replica is to have a put: it is another node, and not one that gets no copy
abbrev pub is_sent_to : ℕ → List ℕ → ℕ → Bool
is_sent_to node lose n = not (n == node) && not (list_any (λ m. m == n) lose)

-- a replica is sent a copy of a put: it is to have it, and is up
abbrev pub gets_copy : List ℕ → ℕ → List ℕ → ℕ → Bool
gets_copy down node lose n = is_sent_to node lose n && not (list_any (λ m. m == n) down)

-- a replica is to have a hint of a put: it is to have the put, and is down
abbrev pub gets_hint : List ℕ → ℕ → List ℕ → ℕ → Bool
gets_hint down node lose n = is_sent_to node lose n && list_any (λ m. m == n) down

-- a copy of an entry, sent to a replica
unfoldable pub copied_to : Entry → Replica → Outcome Accepted Replica
copied_to e r = in_replica r (range.accept r.range 0 Copy e.key e.version)

-- a replica is sent a copy of an entry, and accepts it or knows it
abbrev pub takes : List ℕ → ℕ → List ℕ → Entry → Replica → Bool
takes down node lose e r = gets_copy down node lose r.node && is_given (copied_to e r)

-- a replica after the copies were sent: one that refuses its copy is unchanged
abbrev pub after_copy : List ℕ → ℕ → List ℕ → Entry → Replica → Replica
after_copy down node lose e r = if gets_copy down node lose r.node then left (copied_to e r) r else r

-- a put and its copies: the entry, and the number of replicas that accept a copy or know it
unfoldable pub put_into : List ℕ → Put → List Replica → Outcome (Entry × ℕ) (List Replica)
put_into down p reps = do
  at ← at_home p.node (put_by p) reps
  gives (at.0, length (filter (takes down p.node p.lose at.0) at.1)) (map (after_copy down p.node p.lose at.0) at.1)

-- a put whose hints were kept
abbrev pub put_answer : Entry × ℕ → ℕ × Cluster → Outcome CommandAnswer Cluster
put_answer e kept = gives (Answers.Put e.0.version.clock e.1 kept.0 e.0.number) kept.1

unfoldable pub put_act : Put → Cluster → Outcome CommandAnswer Cluster
put_act p s = do
  put_fault p s
  at ← put_into s.down p (replicas_of s p.key)
  put_answer at.0 (hinted at.0.0 (owners_of (gets_hint s.down p.node p.lose) (replicas_of s p.key)) (with_replicas s p.key at.1) (carrier_of s (range_at s.ring.bits p.key)))

-- ---- reads of a node

-- the answer about the store of a range at a node, if the node keeps the range
abbrev pub shown : Cluster → (range.Store → CommandAnswer) → Option range.Store → Outcome CommandAnswer Cluster
shown s show None = refuses OtherRange
shown s show (Some h) = gives (show h) s

-- the answer about a key at a node
unfoldable pub key_act : (range.Store → CommandAnswer) → Get → Cluster → Outcome CommandAnswer Cluster
key_act show g s = do
  nodes_fault s g.node []
  key_fault g.key
  shown s show (home g.node (replicas_of s g.key))

abbrev pub held_at : Get → range.Store → CommandAnswer
held_at g h = Answers.Versions (held h.entries g.key)

-- a row's text in a format, or no bytes if no version is held
abbrev pub held_text : Format → List ℕ → List Version → List ℕ
held_text format key [] = []
held_text format key (v ∷ vs) = row_text format (record { key = key; versions = v ∷ vs })

abbrev pub row_answer : Get → range.Store → CommandAnswer
row_answer g h = Answers.Row (held_text h.config.format g.key (held h.entries g.key))

-- the store of the range of that number at a node: None if the node does not keep it or the ring has no such range
abbrev pub range_on : Cluster → ℕ → ℕ → Option range.Store
range_on s node r = home node (slice_index_or s.replicas r [])

-- the digest of a node if it is clean: the digest of the node's text for the rows now
abbrev pub shown_digest : ℕ → ℕ → range.Store → Option (List ℕ)
shown_digest depth index h = if is_some (kept_digest h.marks (place_at depth index)) then Some (node_digest h.config.format (range.leaf_in h.config) (rows_of h.entries) (tree_depth h.config.format - depth) index) else None

abbrev pub node_at : ShowNode → range.Store → CommandAnswer
node_at q h = Answers.Node (shown_digest q.depth q.index h)

unfoldable pub node_act : ShowNode → Cluster → Outcome CommandAnswer Cluster
node_act q s = do
  nodes_fault s q.node []
  shown s (node_at q) (range_on s q.node q.range)

-- ---- background work

-- the fault of a node that does not keep the range
abbrev pub kept_fault : Option range.Store → Option Refusal
kept_fault None = Some OtherRange
kept_fault (Some h) = None

-- the fault of a command on a range at a node
abbrev pub range_fault : Cluster → ℕ → ℕ → Option Refusal
range_fault s node r = first_fault (nodes_fault s node []) (kept_fault (range_on s node r))

-- all nodes of a range's tree made clean, and the number of those that were dirty
abbrev pub clean_at : range.Store → Outcome ℕ range.Store
clean_at h = gives (dirty_count h.marks) (rehashed h)

-- a rehash of range r at a node
unfoldable pub rehash_at : ℕ → ℕ → Cluster → Outcome CommandAnswer Cluster
rehash_at node r s = do
  hashed ← at_home node clean_at (slice_index_or s.replicas r [])
  gives (Answers.Rehash hashed.0) (with_range s r hashed.1)

-- the fault of the nodes of a sync: one is not on the ring, one is down, or one does not keep the range
abbrev pub sync_nodes_fault : SyncFrom → Cluster → Option Refusal
sync_nodes_fault q s = first_fault (ring_nodes_fault s q.node (q.from ∷ [])) (first_fault (down_fault s q.node) (down_fault s q.from))

abbrev pub keepers_fault : SyncFrom → Cluster → Option Refusal
keepers_fault q s = first_fault (sync_nodes_fault q s) (first_fault (kept_fault (range_on s q.node q.range)) (kept_fault (range_on s q.from q.range)))

-- the replica at a node of the range of that number
abbrev pub replica_in : Cluster → ℕ → ℕ → Option Replica
replica_in s node r = replica_at node (slice_index_or s.replicas r [])

-- a sync of a node's replica of range r with the range of another node
abbrev pub synced_in : ℕ → ℕ → Cluster → Option range.Store → Option Replica → Outcome CommandAnswer Cluster
synced_in node r s None own = refuses OtherRange
synced_in node r s (Some h) None = do
  range.dirty_fault h
  refuses OtherRange
synced_in node r s (Some h) (Some own) = do
  range.dirty_fault h
  crowd_fault own.sessions
  range.dirty_fault own.range
  gives (Answers.Sync (sync_report own (range.rows_now h))) (with_range s r (at_node node (synced_with (range.rows_now h)) (slice_index_or s.replicas r [])))

-- a sync of a node's replica of range r with the replica of the node `from`
unfoldable pub sync_at : ℕ → ℕ → ℕ → Cluster → Outcome CommandAnswer Cluster
sync_at node from r s = synced_in node r s (range_on s from r) (replica_in s node r)

-- ---- the commands

-- a change of the cluster, or of the slots, as a change of the state
abbrev pub in_cluster : ClusterState → Outcome CommandAnswer Cluster → Outcome CommandAnswer ClusterState
in_cluster s done = through (λ c. record s { cluster = c }) done

abbrev pub in_slots : ClusterState → Outcome CommandAnswer Admission → Outcome CommandAnswer ClusterState
in_slots s done = through (λ a. record s { slots = a }) done

-- background work, with a slot that is returned
abbrev pub with_slot : ClusterState → Outcome CommandAnswer Cluster → Outcome CommandAnswer ClusterState
with_slot s work = lend s.slots >>= (λ lent. in_cluster s work)

unfoldable pub deliver_act : ℕ → ClusterState → Outcome CommandAnswer ClusterState
deliver_act n s = do
  nodes_fault s.cluster n []
  with_slot s (deliver_at s.cluster n (hints_of s.cluster n))

unfoldable pub rehash_act : Rehash → ClusterState → Outcome CommandAnswer ClusterState
rehash_act q s = do
  range_fault s.cluster q.node q.range
  with_slot s (rehash_at q.node q.range s.cluster)

unfoldable pub sync_act : SyncFrom → ClusterState → Outcome CommandAnswer ClusterState
sync_act q s = do
  keepers_fault q s.cluster
  with_slot s (sync_at q.node q.from q.range s.cluster)

-- the answer of a command, and the state after it
unfoldable pub act : Command → ClusterState → Outcome CommandAnswer ClusterState
act (Commands.Ring r) s = ring_act r (ring_config r)
act (Commands.Put p) s = in_cluster s (put_act p s.cluster)
act (Commands.Get g) s = in_cluster s (key_act (held_at g) g s.cluster)
act (Commands.Row g) s = in_cluster s (key_act (row_answer g) g s.cluster)
act (Commands.Down n) s = in_cluster s (down_act n s.cluster)
act (Commands.Up n) s = in_cluster s (up_act n s.cluster)
act (Commands.Deliver n) s = deliver_act n s
act (Commands.Rehash q) s = rehash_act q s
act (Commands.Sync q) s = sync_act q s
act (Commands.Node q) s = in_cluster s (node_act q s.cluster)
act (Commands.Slot x) s = in_slots s (slot_act x s.slots)
act (Commands.Sample q) s = in_slots s (sample_act q s.slots)

-- the tree of a range in a format has a node
abbrev pub is_tree_node : Format → ℕ → ℕ → Bool
is_tree_node format depth index = nat_le depth (tree_depth format) && nat_lt index (16 ^ depth)

-- a format has puts of a kind: format 1 has no tombstones
abbrev pub has_kind : Format → Kind → Bool
has_kind One Live = true
has_kind One Tombstone = false
has_kind Two kind = true

-- the ring in force has such a command: its format has puts of the kind, the tree has the node, and the controller may
-- have the target
abbrev pub suits : ClusterState → Command → Bool
suits s (Commands.Put p) = has_kind s.cluster.format p.kind
suits s (Commands.Node q) = is_tree_node s.cluster.format q.depth q.index
suits s (Commands.Slot x) = is_target s.slots x
suits s command = true

-- the answer of a command, or its refusal
abbrev pub replied : {S : Type 0} → Outcome CommandAnswer S → CommandAnswer
replied (gives answer s) = answer
replied (refuses refusal) = Refused refusal

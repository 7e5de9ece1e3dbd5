-- The store of a range, which has no rows in its value, and the results and changes of its calls. Trees are as in
-- section 4.7 of the Dynamo paper.
use Rattle.std.specs.Prelude.{◌≡◌, ℕ, ◌^◌, Bool, ◌==◌, nat_lt, ◌++◌, List, [], ◌∷◌, length, map, IsTrue, Option, Some, None, if◌then◌else◌, true, false}
use Rattle.std.specs.List.{list_any, AllByRecursion}
use Rattle.vclock.specs.Answer.{first_fault}
use Rattle.vclock.specs.Outcome.{Outcome, gives, through, ◌>>=◌, ◌>>◌}
use Rattle.vclock.specs.Clock.{at_most, raised, raise_fault, Pairs}
use Rattle.vclock.specs.Bytes.{key_fault}
use Rattle.vclock.specs.declared.refusal.Refusal.{Refusal}
use Rattle.vclock.specs.declared.refusal.Refusal.TheVariants.{OtherRange, JournalFull, StaleContext}
use Rattle.version_set.specs.Kind.{value_fault}
use Rattle.version_set.specs.Version.{covered, offer_fault}
use Rattle.version_set.specs.declared.kind.Kind.{Kind}
use Rattle.version_set.specs.declared.version.Version.{Version}
use Rattle.range_journal.specs.declared.journal.Entry.{Entry}
use Rattle.range_journal.specs.declared.journal.Source.{Source}
use Rattle.range_journal.specs.declared.journal.Source.TheVariants.{Client, Partner, Copy, Hint}
use Rattle.range_journal.specs.Journal.{accepted, held, AreNews, NeverCrowded}
use Rattle.key_ring.specs.Places.{range_at, leaf_at, leaf_bits}
use Rattle.row_bytes.specs.Rows.{IsRow}
use Rattle.hash_tree.specs.Leaves.{Bucket, rows_in_leaf}
use Rattle.tree_nodes.specs.Nodes.{Node, Tree, dirtied}
use Rattle.hash_tree.specs.Texts.{IsTreeFor}
use Rattle.snapshot.specs.RowMaps.{RowMap}
use Rattle.range_tree.specs.Trees.{RangeTree, all_dirty}
use Rattle.range_tree.specs.Jobs as jobs
use Rattle.range_store.specs.declared.receipt.Accepted.{Accepted}
use Rattle.range_store.specs.declared.receipt.Accepted.TheVariants.{Taken, Known}
use Rattle.range_store.specs.Config.{Config, is_config}
use Rattle.range_store.specs.Rows.{rows_of}

-- the configuration, the entries of the journal, and by place the digests of the clean nodes of the tree
pub record Store : Type 0 where
  pub config : Config
  pub entries : List Entry
  pub marks : List (Option (List ℕ))

-- a range that has accepted nothing
abbrev pub fresh : Config → Store
fresh c = record { config = c; entries = []; marks = all_dirty c.format }

-- the leaf of a key
abbrev pub leaf_in : Config → List ℕ → ℕ
leaf_in c key = leaf_at c.format c.bits key

-- the number of leaves of the range
abbrev pub leaf_count : Config → ℕ
leaf_count c = 2 ^ leaf_bits c.format

-- the fault of a version of this key, kind and value that has no place in the range
abbrev pub place_fault : Config → List ℕ → Kind → List ℕ → Option Refusal
place_fault c key kind value = first_fault (key_fault key) (first_fault (value_fault c.format kind value) (if range_at c.bits key == c.range then None else Some OtherRange))

-- the next entry
abbrev pub entry_of : Store → ℕ → Source → List ℕ → Version → Entry
entry_of s seat source key v = record { number = length s.entries; seat = seat; source = source; key = key; version = v }

-- the state with an entry at the end: the leaf of its key is dirty, and so is each node above
abbrev pub journaled : Store → Entry → Store
journaled s e = record s { entries = s.entries ++ e ∷ []; marks = dirtied s.config.format (leaf_in s.config e.key) s.marks }

-- the fault of an entry that a full journal refuses
abbrev pub full_fault : Store → Option Refusal
full_fault s = if nat_lt (length s.entries) s.config.limit then None else Some JournalFull

-- a version is covered by the accepted versions of its key
abbrev pub knows : Store → List ℕ → Version → Bool
knows s key v = covered v (accepted s.entries key)

-- the state after a version that was made elsewhere was accepted, if it was not refused
abbrev pub accept_step : Store → ℕ → Source → List ℕ → Version → Store
accept_step s seat source key v = if knows s key v then s else journaled s (entry_of s seat source key v)

-- an entry, and the state with it at the end
abbrev pub admit : Store → Entry → Outcome Entry Store
admit s e = do
  full_fault s
  gives e (journaled s e)

-- a version that was made elsewhere is known, or becomes an entry
abbrev pub accept : Store → ℕ → Source → List ℕ → Version → Outcome Accepted Store
accept s seat source key v = do
  place_fault s.config key v.kind v.value
  if knows s key v then gives Known s else do
    offer_fault v (held s.entries key)
    taken ← admit s (entry_of s seat source key v)
    gives (Taken taken.0) taken.1

-- the version that a put at a node makes: its clock is the context with the node's counter raised by one
abbrev pub put_version : ℕ → Pairs → Kind → List ℕ → Version
put_version at context kind value = record { clock = raised context at; kind = kind; value = value }

-- the fault of a clock that cannot be put at a key: some held version has seen everything that the clock has
abbrev pub stale_fault : List Version → Pairs → Option Refusal
stale_fault versions clock = if list_any (λ v. at_most clock v.clock) versions then Some (StaleContext (map (λ v. v.clock) versions)) else None

-- the fault of a put before its clock is compared with the held clocks
abbrev pub ask_fault : Config → ℕ → List ℕ → Pairs → Kind → List ℕ → Option Refusal
ask_fault c at key context kind value = first_fault (place_fault c key kind value) (raise_fault context at)

-- the entry of a put
abbrev pub put_entry : Store → ℕ → ℕ → List ℕ → Pairs → Kind → List ℕ → Entry
put_entry s seat at key context kind value = entry_of s seat Client key (put_version at context kind value)

-- a value that is put at a node becomes an entry
abbrev pub put : Store → ℕ → ℕ → List ℕ → Pairs → Kind → List ℕ → Outcome Entry Store
put s seat at key context kind value = do
  place_fault s.config key kind value
  raise_fault context at
  stale_fault (held s.entries key) (raised context at)
  offer_fault (put_version at context kind value) (held s.entries key)
  admit s (put_entry s seat at key context kind value)

-- the rows now
abbrev pub rows_now : Store → RowMap
rows_now s = record { format = s.config.format; bits = s.config.bits; range = s.config.range; rows = rows_of s.entries }

-- the tree over them
abbrev pub tree_in : Store → RangeTree
tree_in s = record { map = rows_now s; marks = s.marks }

-- the state with another tree over the same rows
abbrev pub with_tree : Store → RangeTree → Store
with_tree s t = record s { marks = t.marks }

-- the digest of a text is installed at a node
abbrev pub install : Store → Node → List ℕ → Outcome (Unit {0}) Store
install s node text = through (with_tree s) (jobs.install (tree_in s) node text)

-- the fault of rows that cannot be offered to another replica: some node has no digest
abbrev pub dirty_fault : Store → Option Refusal
dirty_fault s = jobs.dirty_fault (tree_in s)

-- an entry within the limits, of this range
pub record IsOwn (c : Config) (e : Entry) : Type 0 where
  pub key : key_fault e.key ≡ None
  pub value : value_fault c.format e.version.kind e.version.value ≡ None
  pub here : range_at c.bits e.key ≡ c.range

-- the tree of the marks
abbrev pub tree_of : Store → Tree
tree_of s = record { format = s.config.format; digests = s.marks }

-- the facts of each store: the entries belong to the range, each was new when it was accepted, no key ever held over 64
-- versions, each row has a text, the children of a clean node are clean, and each clean node has the digest of its text
-- for the rows now
pub record IsSound (s : Store) : Type 0 where
  pub config : IsTrue (is_config s.config)
  pub own : AllByRecursion (IsOwn s.config) s.entries
  pub news : AreNews s.entries
  pub short : (key : List ℕ) → NeverCrowded s.entries key
  pub rows : AllByRecursion (IsRow s.config.format) (rows_of s.entries)
  pub marks : IsTreeFor (leaf_in s.config) (rows_of s.entries) (tree_of s)

-- the rows of a leaf
abbrev pub bucket_of : Config → List Entry → ℕ → Bucket
bucket_of c entries leaf = record { format = c.format; rows = rows_in_leaf (leaf_in c) leaf (rows_of entries) }

-- as a copy or as a hint
abbrev pub is_sent : Source → Bool
is_sent Client = false
is_sent Copy = true
is_sent Hint = true
is_sent Partner = false

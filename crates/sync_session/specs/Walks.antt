-- Walks: the record of a session, and the conditions for its validity. A session (the Dynamo paper, section 4.7)
-- compares two trees from the root down, and transfers the leaves that differ.
use Rattle.std.specs.Prelude.{◌≡◌, ℕ, zero, suc, ◌+◌, ◌*◌, ◌/◌, ◌%◌, ◌⊎◌, true, IsTrue, is_some, bytes_eq, Option, Some, None, option_map, List, [], ◌∷◌, ◌++◌, take, drop, length, if◌then◌else◌, nat_lt, nat_eq, slice_index, ◌<◌}
use Rattle.std.specs.List.{flat_map, AllByRecursion, Contains}
use Rattle.sha2.specs.Sha256.{sha256}
use Rattle.vclock.specs.declared.format.Format.{Format}
use Rattle.version_set.specs.Version.{covered}
use Rattle.version_set.specs.declared.version.Version.{Version}
use Rattle.key_ring.specs.Places.{range_at}
use Rattle.row_bytes.specs.declared.row.Row.{Row}
use Rattle.row_bytes.specs.Rows.{AreRows}
use Rattle.tree_nodes.specs.Nodes.{Node, IsNode, top, child, is_same_node, contains_node, tree_depth}
use Rattle.hash_tree.specs.Texts.{inner_byte, leaf_text}
use Rattle.snapshot.specs.RowMaps.{RowMap, IsRowMap, leaf_in, root_of}
use Rattle.sync_session.specs.declared.state.SessionState.{SessionState}
use Rattle.sync_session.specs.declared.state.SessionState.TheVariants.{Finished}
use Rattle.sync_session.specs.TreeNodes.{text_of, digest_of}

-- a node, and the text that was taken for it
pub record TakenText : Type 0 where
  pub node : Node
  pub text : List ℕ

-- the local rows, the root that the partner offered, all nodes that were asked, those not answered yet, the texts that
-- were taken, each list in order, and the state of the session
pub record Walk : Type 0 where
  pub own : RowMap
  pub root : List ℕ
  pub asked : List Node
  pub outstanding : List Node
  pub taken : List TakenText
  pub state : SessionState

-- the text that was taken for a node, if any
abbrev pub taken_at : List TakenText → Node → Option (List ℕ)
taken_at [] n = None
taken_at (t ∷ ts) n = if is_same_node t.node n then Some t.text else taken_at ts n

-- the digest of child j in the text of an inner node
abbrev pub child_digest : List ℕ → ℕ → List ℕ
child_digest text j = take 32 (drop (32 * j + 1) text)

-- the digest that is expected at a node: at the root the offered one, otherwise the one at its place in the text that
-- was taken for its parent
abbrev pub expected_at : List ℕ → List TakenText → ℕ → ℕ → Option (List ℕ)
expected_at offered taken zero i = Some offered
expected_at offered taken (suc depth) i = option_map (λ text. child_digest text (i % 16)) (taken_at taken (record { depth = depth; index = i / 16 }))

abbrev pub expected : List ℕ → List TakenText → Node → Option (List ℕ)
expected offered taken n = expected_at offered taken n.depth n.index

-- a digest, if it has its 32 bytes
abbrev pub whole_digest : Option (List ℕ) → Option (List ℕ)
whole_digest None = None
whole_digest (Some d) = if nat_eq (length d) 32 then Some d else None

-- the first k children whose digests in the text differ from the local ones, by ascending index
unfoldable pub differing : RowMap → Node → List ℕ → ℕ → List Node
differing own n text zero = []
differing own n text (suc k) = differing own n text k ++ (if bytes_eq (child_digest text k) (digest_of own (child n k)) then [] else child n k ∷ [])

-- the nodes that a taken text asks
abbrev pub asks : RowMap → TakenText → List Node
asks own t = if nat_lt t.node.depth (tree_depth own.format) then differing own t.node t.text 16 else []

-- the first node that is asked: no node if the roots are equal
abbrev pub first_asked : RowMap → List ℕ → List Node
first_asked own offered = if bytes_eq offered (root_of own) then [] else top ∷ []

-- all nodes that are asked, by the texts that were taken
abbrev pub asked_by : RowMap → List ℕ → List TakenText → List Node
asked_by own offered taken = first_asked own offered ++ flat_map (asks own) taken

-- each version of the rows is held for its key, or is below a held version
abbrev pub Held : List Row → (List ℕ → List Version) → Type 0
Held rows held = AllByRecursion (λ (r : Row). AllByRecursion (λ (v : Version). IsTrue (covered v (held r.key))) r.versions) rows

-- the rows of one leaf, and their text
pub record AreSpelled (m : RowMap) (n : Node) (text : List ℕ) (rows : List Row) : Type 0 where
  pub text_is : text ≡ leaf_text m.format rows
  pub are : AreRows m.format rows
  pub range : AllByRecursion (λ (r : Row). range_at m.bits r.key ≡ m.range) rows
  pub leaf : AllByRecursion (λ (r : Row). leaf_in m r.key ≡ n.index) rows

-- the form of the text of an inner node
pub record IsInnerText (format : Format) (text : List ℕ) : Type 0 where
  pub size : length text ≡ 513
  pub mark : slice_index text 0 ≡ inner_byte format

-- a text that the node can have over some rows of the format, the ring's bits and the range of the local ones
abbrev pub IsCanonical : RowMap → Node → List ℕ → Type 0
IsCanonical m n text = ((n.depth < tree_depth m.format) × IsInnerText m.format text) ⊎ ((n.depth ≡ tree_depth m.format) × ((rows : List Row) × AreSpelled m n text rows))

-- a taken text that is canonical and has the expected digest
pub record IsExpectedText (w : Walk) (t : TakenText) : Type 0 where
  pub canonical : IsCanonical w.own t.node t.text
  pub digest : expected w.root w.taken t.node ≡ Some (sha256 t.text)

-- each row that a leaf's text spells is held
abbrev pub IsLeafHeld : RowMap → (List ℕ → List Version) → TakenText → Type 0
IsLeafHeld own held t = t.node.depth ≡ tree_depth own.format → (rows : List Row) → AreRows own.format rows → t.text ≡ leaf_text own.format rows → Held rows held

-- A record that is valid for the versions held now: the local rows and the rows of each taken leaf are held; each taken
-- text is canonical for its node and has the digest that was expected there; the nodes asked are those that the texts
-- ask; each of them has its text or is outstanding; and a finished session has nothing outstanding.
pub record Walked (held : List ℕ → List Version) (w : Walk) : Type 0 where
  pub map : IsRowMap w.own
  pub own_held : Held w.own.rows held
  pub rows_held : AllByRecursion (IsLeafHeld w.own held) w.taken
  pub texts : AllByRecursion (IsExpectedText w) w.taken
  pub asked : w.asked ≡ asked_by w.own w.root w.taken
  pub answered : (n : Node) → contains_node n w.asked ≡ true → (is_some (taken_at w.taken n) ≡ true) ⊎ (contains_node n w.outstanding ≡ true)
  pub finished : w.state ≡ Finished → w.outstanding ≡ []

-- a compared text: of a node of either tree, or taken
abbrev pub IsCompared : RowMap → RowMap → List TakenText → List ℕ → Type 0
IsCompared own other taken text =
    ((n : Node) × IsNode (tree_depth own.format) n × (text ≡ text_of own n))
    ⊎ (((n : Node) × IsNode (tree_depth other.format) n × (text ≡ text_of other n))
    ⊎ ((t : TakenText) × Contains taken t × (text ≡ t.text)))

-- no two different texts that are compared have the same digest
abbrev pub NoTwoShareADigest : RowMap → RowMap → List TakenText → Type 0
NoTwoShareADigest own other taken = (x y : List ℕ) → IsCompared own other taken x → IsCompared own other taken y → sha256 x ≡ sha256 y → x ≡ y

-- rows of the format, the ring's bits and the range of the local ones, with the root that was offered
pub record IsPartners (w : Walk) (other : RowMap) : Type 0 where
  pub format : other.format ≡ w.own.format
  pub bits : other.bits ≡ w.own.bits
  pub range : other.range ≡ w.own.range
  pub root : root_of other ≡ w.root
  pub map : IsRowMap other

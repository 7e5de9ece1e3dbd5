-- Nodes of a range's tree: those that are for a job, their texts, and digests that are set.
use Rattle.std.proofs.Common.{◌≡◌, ℕ, suc, ◌+◌, ◌-◌, ◌<◌, ◌≤◌, ◌^◌, Bool, true, List, [], ◌∷◌, map, set, length, get_or, Option, Some, None, refl}
use Rattle.std.proofs.Common.{ap, sym, subst, ◌∙◌, ◌↔◌, arith, inl, inr, ◌&&◌}
use Rattle.std.specs.Prelude.{nat_eq, nat_le, nat_lt, IsTrue, IfSome, MatchOption}
use Rattle.std.specs.Cmp.Lexicographic.{pointwise, bytes_decides}
use Rattle.std.proofs.lemmas.Bool.{cases_Bool, cases_lt, and_parts, leb-true, le-leb, ltb-true, lt-ltb, both_ways}
use Rattle.std.proofs.lemmas.List.{get_or_past}
use Rattle.sha2.specs.Sha256.{sha256}
use Rattle.vclock.specs.declared.format.Format.{Format}
use Rattle.vclock.specs.declared.format.Format.TheVariants.{One, Two}
use Rattle.hash_tree.specs.Leaves.{Bucket}
use Rattle.tree_nodes.specs.Nodes.{IsNode, Node, place_of, Tree, IsTree, tree_depth, kept_digest, children_of, are_clean, is_ready, ready_from}
use Rattle.hash_tree.specs.Texts.{leaf_text, inner_text, node_text, AreTrue}
use Rattle.tree_nodes.proofs.PlaceLaws.{depth_within}
use Rattle.hash_tree.proofs.TextLaws.{leaf_node}
use Rattle.tree_nodes.proofs.TreeLaws.{leaf_children}
use Rattle.hash_tree.proofs.DigestLaws.{true_set, children_text}
use Rattle.tree_nodes.proofs.ReadyLaws.{ready_is}
use Rattle.key_ring.specs.Places.{leaf_bits}
use Rattle.snapshot.specs.RowMaps.{leaf_in}
use Rattle.range_tree.specs.Trees.{RangeTree, IsRangeTree, AreLeaves, bucket_of}
use Rattle.range_tree.specs.Jobs.{has_node, text_in, is_current}

-- ---- nodes that are for a job

-- the tree has the nodes down to its depth
tree_has : (s : RangeTree) (node : Node) → IsNode 3 node → node.depth ≤ tree_depth s.map.format → has_node s node ≡ true
tree_has s node there deep = rw (le-leb node.depth (tree_depth s.map.format) deep, lt-ltb node.index (16 ^ node.depth) there.within) refl

-- and no others
pub has_within : (s : RangeTree) (node : Node) → IsTrue (has_node s node) → IsNode (tree_depth s.map.format) node
has_within s node has =
    let parts = and_parts (nat_le node.depth (tree_depth s.map.format)) (nat_lt node.index (16 ^ node.depth)) has in
    record { shallow = leb-true node.depth (tree_depth s.map.format) parts.0; within = ltb-true node.index (16 ^ node.depth) parts.1 }

-- what was found, if anything
abbrev pub Found : RangeTree → ℕ → Option Node → Type 0
Found s from o = MatchOption o (ready_from s.marks from ≡ [])
    (λ (node : Node). ready_from s.marks from ≡ place_of node ∷ ready_from s.marks (place_of node + 1))

-- is a node of the tree
pub found_has : (s : RangeTree) (from : ℕ) (o : Option Node) → IfSome o (IsNode 3) → IsRangeTree s → Found s from o
    → IfSome o (λ (node : Node). IsTrue (has_node s node))
found_has s from None is ok h = tt
found_has s from (Some node) is ok h =
    let found = ready_is s.marks from (place_of node) (ready_from s.marks (place_of node + 1)) h in
    tree_has s node is (depth_within s.map.format node.depth node.index (omega (arith, found.2, ok.marks.tree.all)))

-- that is ready
pub found_is_ready : (s : RangeTree) (from : ℕ) (o : Option Node) → Found s from o
    → IfSome o (λ (node : Node). IsTrue (is_ready s.marks (place_of node)))
found_is_ready s from None h = tt
found_is_ready s from (Some node) h = (ready_is s.marks from (place_of node) (ready_from s.marks (place_of node + 1)) h).0

-- ---- texts

-- the text of a leaf, written from its rows
pub leaf_text_here : (s : RangeTree) (leaves : List Bucket) (node : Node) (leaf : Bucket) → IsNode 3 node → AreLeaves s.map leaves
    → node.depth ≡ tree_depth s.map.format → leaf ≡ get_or leaves node.index leaf
    → (leaf.format ≡ s.map.format) × (leaf_text leaf.format leaf.rows ≡ text_in s node)
leaf_text_here s leaves node leaf there ok deep is =
    let within : node.index < 16 ^ tree_depth s.map.format = subst (λ (d : ℕ). node.index < 16 ^ d) deep there.within in
    let here : leaf ≡ bucket_of s.map node.index = is ∙ ok.each node.index leaf (counted s.map.format node.index within) in
    let none : tree_depth s.map.format - node.depth ≡ 0 = omega (arith, deep) in (
      ap (λ (b : Bucket). b.format) here,
      (λ i. leaf_text (here i).format (here i).rows)
          ∙ sym (leaf_node s.map.format (leaf_in s.map) (s.map.rows) node.index)
          ∙ sym (ap (λ (h : ℕ). node_text s.map.format (leaf_in s.map) (s.map.rows) h node.index) none),
    )
  where
    counted : (f : Format) (n : ℕ) → n < 16 ^ tree_depth f → n < 2 ^ leaf_bits f
    counted One n h = h
    counted Two n h = h

-- the text of another node, written from its children's digests
pub inner_text_here : (s : RangeTree) (node : Node) (ds : List (List ℕ)) → IsNode 3 node → IsRangeTree s → node.depth < tree_depth s.map.format
    → children_of s.marks (place_of node) ≡ map Some ds → inner_text s.map.format ds ≡ text_in s node
inner_text_here s node ds there ok above clean =
    let height = tree_depth s.map.format - suc node.depth in
    let sum : node.depth + suc height ≡ tree_depth s.map.format = omega (arith, above) in
    let high : tree_depth s.map.format - node.depth ≡ suc height = omega (arith, above) in
    children_text s.map.format (leaf_in s.map)
    (s.map.rows) s.marks node.depth height node.index ds ok.marks.digests ok.marks.tree.all sum there.within clean
    ∙ sym (ap (λ (h : ℕ). node_text s.map.format (leaf_in s.map) (s.map.rows) h node.index) high)

-- ---- whether a text is a node's now

decided : (b : Bool) (x y : List ℕ) → (IsTrue b ↔ (x ≡ y)) → b ≡ pointwise nat_eq x y
decided b x y h = elim (cases_Bool b) [
  | inl t ↦ t ∙ sym ((bytes_decides x y).1 (h.0 t))
  | inr f ↦ elim (cases_Bool (pointwise nat_eq x y)) [
    | inl p ↦ absurd (both_ways b f (h.1 ((bytes_decides x y).0 p)))
    | inr q ↦ f ∙ sym q
  ]
]

clean_some : (ds : List (List ℕ)) → are_clean (map Some ds) ≡ true
clean_some [] = refl
clean_some (d ∷ ds) = clean_some ds

pub leaf_current : (s : RangeTree) (leaves : List Bucket) (node : Node) (text : List ℕ) (leaf : Bucket) (b : Bool) → IsNode 3 node → IsRangeTree s
    → AreLeaves s.map leaves → node.depth ≡ tree_depth s.map.format → leaf ≡ get_or leaves node.index leaf
    → (IsTrue b ↔ (text ≡ leaf_text leaf.format leaf.rows)) → b ≡ is_current s node text
leaf_current s leaves node text leaf b there ok are deep is h =
    let now = (leaf_text_here s leaves node leaf there are deep is).1 in
    let has : has_node s node ≡ true = tree_has s node there (omega (arith, deep)) in
    let clean : are_clean (children_of s.marks (place_of node)) ≡ true = ap are_clean
    (leaf_children s.map.format s.marks node.depth node.index deep ok.marks.tree.all) in
    rw (has, clean) (decided b text (text_in s node) (subst (λ (t : List ℕ). IsTrue b ↔ (text ≡ t)) now h))

pub inner_current : (s : RangeTree) (node : Node) (text : List ℕ) (ds : List (List ℕ)) (b : Bool) → IsNode 3 node → IsRangeTree s
    → node.depth < tree_depth s.map.format → children_of s.marks (place_of node) ≡ map Some ds
    → (IsTrue b ↔ (text ≡ inner_text s.map.format ds)) → b ≡ is_current s node text
inner_current s node text ds b there ok above children h =
    let has : has_node s node ≡ true = tree_has s node there (omega (arith, above)) in
    let clean : are_clean (children_of s.marks (place_of node)) ≡ true = ap are_clean children ∙ clean_some ds in
    rw (has, clean) (decided b text (text_in s node)
    (subst (λ (t : List ℕ). IsTrue b ↔ (text ≡ t)) (inner_text_here s node ds there ok above children) h))

-- ---- after a digest was set

-- what a current text means
pub current_parts : (s : RangeTree) (node : Node) (text : List ℕ) → IsTrue (is_current s node text)
    → IsTrue (has_node s node) × IsTrue (are_clean (children_of s.marks (place_of node))) × (text ≡ text_in s node)
current_parts s node text h =
    let first = and_parts (has_node s node && are_clean (children_of s.marks (place_of node))) (pointwise nat_eq text (text_in s node)) h in
    let two = and_parts (has_node s node) (are_clean (children_of s.marks (place_of node))) first.0 in
    (two.0, two.1, (bytes_decides text (text_in s node)).0 first.1)

pub cleaned_right : (s : RangeTree) (node : Node) (text : List ℕ) (tree : Tree) → IsRangeTree s → IsTrue (is_current s node text)
    → tree ≡ record { format = s.map.format; digests = set s.marks (place_of node) (Some (sha256 text)) } → IsTree tree
    → IsRangeTree (record { map = s.map; marks = tree.digests })
cleaned_right s node text tree ok current is valid =
    let parts = current_parts s node text current in
    let there = has_within s node parts.0 in
    let right = true_set s.map.format (leaf_in s.map) (s.map.rows) s.marks node.depth
    (tree_depth s.map.format - node.depth) node.index text ok.marks.digests (omega (arith, there.shallow)) there.within parts.2 in
    let new : IsRangeTree (record { map = s.map; marks = set s.marks (place_of node) (Some (sha256 text)) }) = record {
      rows = ok.rows;
      marks = record { tree = subst IsTree is valid; digests = right };
    } in
    subst (λ (t : Tree). IsRangeTree (record { map = s.map; marks = t.digests })) (sym is) new

-- ---- digests that are shown

-- a node that has a digest has that of its text
pub digest_is : (s : RangeTree) (node : Node) (o : Option (List ℕ)) → IsNode 3 node → IsRangeTree s → o ≡ kept_digest s.marks (place_of node)
    → IfSome o (λ (d : List ℕ). d ≡ sha256 (text_in s node))
unfolding AreTrue
digest_is s node None there ok e = tt
digest_is s node (Some d) there ok e = elim (cases_lt (place_of node) (length s.marks)) [
  | inl within ↦
      let low = depth_within s.map.format node.depth node.index (omega (arith, within, ok.marks.tree.all)) in
      ok.marks.digests node.depth (tree_depth s.map.format - node.depth) node.index d (omega (arith, low)) there.within (sym e)
  | inr past ↦ absurd (let no : Some d ≡ None = e ∙ get_or_past s.marks (place_of node) None (omega (arith, past)) in cc)
]

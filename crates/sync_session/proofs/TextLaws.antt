-- The texts of the nodes of a row map, and the rows of its leaves.
use Rattle.std.proofs.Common.{◌≡◌, ℕ, zero, suc, ◌+◌, ◌*◌, ◌^◌, ◌<◌, List, [], ◌∷◌, ◌++◌, length, take, drop, get_or, None, refl, ap, subst, ◌∙◌}
use Rattle.std.proofs.Common.{arith}
use Rattle.std.specs.List.{flat_map, AllByRecursion}
use Rattle.std.proofs.lemmas.List.{take_at, length-append}
use Rattle.std.proofs.lemmas.Grind.{common_steps}
use Rattle.std.proofs.Math.Seq.{drop-append-add}
use Rattle.std.specs.Ordering.{is_lt}
use Rattle.std.specs.declared.cmp.Ordering.TheVariants.{Less}
use Rattle.sha2.specs.Sha256.{sha256}
use Rattle.sha2.proofs.Facts256.{length-sha256}
use Rattle.vclock.specs.declared.format.Format.{Format}
use Rattle.vclock.specs.declared.format.Format.TheVariants.{One, Two}
use Rattle.vclock.specs.Bytes.{key_fault}
use Rattle.version_set.proofs.ListLaws.{all-filter, Pairwise-filter}
use Rattle.key_ring.specs.Places.{leaf_at}
use Rattle.row_bytes.specs.declared.row.Row.{Row}
use Rattle.row_bytes.specs.Rows.{IsRow, KeysAscend, AreRows}
use Rattle.hash_tree.specs.Leaves.{key_cmp, AscendByKey, rows_in_leaf}
use Rattle.tree_nodes.specs.Nodes.{tree_depth, ancestor_of}
use Rattle.hash_tree.specs.Texts.{inner_text, per_child, node_text}
use Rattle.hash_tree.proofs.TextLaws.{length-per_child, per_child-at}
use Rattle.snapshot.specs.RowMaps.{RowMap, IsRowMap, leaf_in}
use Rattle.sync_session.specs.Walks.{child_digest}

-- the text of the node of this index, so high above the leaves
abbrev pub text_above : RowMap → ℕ → ℕ → List ℕ
text_above m height index = node_text m.format (leaf_in m) m.rows height index

-- the rows of a leaf
abbrev pub leaf_rows : RowMap → ℕ → List Row
leaf_rows m index = rows_in_leaf (leaf_in m) index m.rows

-- ---- digests in texts

-- one of several texts of 32 bytes that follow each other
part_of : (ds : List (List ℕ)) (j : ℕ) → ((i : ℕ) → i < length ds → length (get_or ds i []) ≡ 32) → j < length ds
    → take 32 (drop (32 * j) (flat_map (λ d. d) ds)) ≡ get_or ds j []
part_of [] j long lt = absurd (omega arith)
part_of (d ∷ ds) zero long lt = take_at d (flat_map (λ d. d) ds) 32 (long 0 (omega arith))
part_of (d ∷ ds) (suc j) long lt =
    let first : length d ≡ 32 = long 0 (omega arith) in
    let at : 32 * suc j ≡ length d + 32 * j = omega (arith, first) in
    ap (take 32) (ap (λ (k : ℕ). drop k (d ++ flat_map (λ d. d) ds)) at ∙ drop-append-add d (flat_map (λ d. d) ds) (32 * j))
    ∙ part_of ds j (λ i l. long (suc i) (omega arith)) (omega arith)

-- several texts of 32 bytes together
length_parts : (ds : List (List ℕ)) → ((i : ℕ) → i < length ds → length (get_or ds i []) ≡ 32) → length (flat_map (λ d. d) ds) ≡ 32 * length ds
length_parts [] long = refl
length_parts (d ∷ ds) long =
    let first : length d ≡ 32 = long 0 (omega arith) in
    let rest = length_parts ds (λ i l. long (suc i) (omega arith)) in
    omega (arith, first, rest, length-append d (flat_map (λ d. d) ds))

-- the digests of a node's children
abbrev children_of : RowMap → ℕ → ℕ → List (List ℕ)
children_of m height i = per_child (λ j. sha256 (text_above m height (16 * i + j)))

child_length : (m : RowMap) (height i k : ℕ) → k < length (children_of m height i) → length (get_or (children_of m height i) k []) ≡ 32
child_length m height i k l =
    let f : ℕ → List ℕ = λ j. sha256 (text_above m height (16 * i + j)) in
    ap (λ (d : List ℕ). length d) (per_child-at f k (omega (arith, length-per_child f))) ∙ length-sha256 _

-- A node's children have 512 bytes of digests.
pub length-children : (m : RowMap) (height i : ℕ) → length (flat_map (λ d. d) (children_of m height i)) ≡ 512
length-children m height i =
    length_parts (children_of m height i) (child_length m height i)
    ∙ ap (λ (n : ℕ). 32 * n) (length-per_child (λ j. sha256 (text_above m height (16 * i + j))))

-- A child's digest stands in the node's text.
pub child_digest-text : (m : RowMap) (height i j : ℕ) → j < 16
    → child_digest (text_above m (suc height) i) j ≡ sha256 (text_above m height (16 * i + j))
unfolding node_text inner_text
child_digest-text m height i j lt =
    let f : ℕ → List ℕ = λ j. sha256 (text_above m height (16 * i + j)) in
    skip _ (32 * j) (flat_map (λ d. d) (per_child f)) ∙ part_of (per_child f) j (child_length m height i) (omega (arith, length-per_child f))
    ∙ per_child-at f j lt
  where
    skip : (b k : ℕ) (xs : List ℕ) → take 32 (drop (k + 1) (b ∷ xs)) ≡ take 32 (drop k xs)
    skip b k xs = grind (arith, common_steps)

-- ---- leaves

below : (format : Format) (bits : ℕ) (key : List ℕ) → leaf_at format bits key < 16 ^ tree_depth format
unfolding leaf_at
below One bits key = omega arith
below Two bits key = omega arith

-- The leaf of a key is one of the tree's.
pub leaf_below : (m : RowMap) (key : List ℕ) → leaf_in m key < 16 ^ tree_depth m.format
leaf_below m key = below m.format m.bits key

pub ancestor_below : (h d leaf : ℕ) → leaf < 16 ^ (d + h) → ancestor_of h leaf < 16 ^ d
ancestor_below zero d leaf lt = subst (λ (n : ℕ). leaf < 16 ^ n) (omega arith) lt
ancestor_below (suc h) d leaf lt =
    let up = ancestor_below h (suc d) leaf (subst (λ (n : ℕ). leaf < 16 ^ n) (omega arith) lt) in
    omega (arith, up)

-- ---- the order of a leaf's rows

-- keys that ascend among each other ascend one by one
pub keys_ascend : (last : List ℕ) (rows : List Row) → AllByRecursion (λ (x : Row). key_cmp last x.key ≡ Less) rows → AscendByKey rows
    → KeysAscend last rows
keys_ascend last [] all a = tt
keys_ascend last (r ∷ rows) all a = (ap is_lt all.0, keys_ascend r.key rows a.0 a.1)

-- each key stands after no bytes
after_nothing : (format : Format) (rows : List Row) → AllByRecursion (IsRow format) rows → AllByRecursion (λ (x : Row). key_cmp [] x.key ≡ Less) rows
after_nothing format [] all = tt
after_nothing format (r ∷ rows) all = (some r.key all.0.key, after_nothing format rows all.1)
  where
    some : (key : List ℕ) → key_fault key ≡ None → key_cmp [] key ≡ Less
    some [] none = absurd (cc)
    some (byte ∷ key) none = refl

-- The rows of a leaf are rows in order.
pub leaf_are : (m : RowMap) → IsRowMap m → (index : ℕ) → AreRows m.format (leaf_rows m index)
leaf_are m is index =
    let each = all-filter (IsRow m.format) _ m.rows is.each in
    record {
      each = each;
      ascending = keys_ascend [] (leaf_rows m index) (after_nothing m.format (leaf_rows m index) each)
          (Pairwise-filter (λ (r x : Row). key_cmp r.key x.key ≡ Less) _ m.rows is.ascending);
    }

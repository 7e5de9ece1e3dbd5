-- What a snapshot shows.
use Rattle.std.proofs.Common.{◌≡◌, ℕ, suc, ◌+◌, ◌*◌, ◌-◌, ◌<◌, ◌≤◌, ◌^◌, Some, List, Option, None, length, get_or, map, take, drop, sym, ap, subst}
use Rattle.std.proofs.Common.{◌∙◌, arith}
use Rattle.std.proofs.lemmas.List.{get_or-map, length-map, take-map, drop-map}
use Rattle.std.proofs.lemmas.List.FromFn.{get_or-map-range_with_len, length-map-range_with_len}
use Rattle.vclock.specs.declared.format.Format.{Format}
use Rattle.vclock.specs.declared.format.Format.TheVariants.{One, Two}
use Rattle.key_ring.specs.Places.{leaf_bits}
use Rattle.hash_tree.specs.Leaves.{Bucket, rows_in_leaf}
use Rattle.tree_nodes.specs.Nodes.{tree_depth, place_at, children_of}
use Rattle.hash_tree.specs.Texts.{leaf_text, inner_text, node_text, AreTrue}
use Rattle.tree_nodes.proofs.PlaceLaws.{place_within, child_place, child_within}
use Rattle.hash_tree.proofs.TextLaws.{leaf_node}
use Rattle.hash_tree.proofs.DigestLaws.{children_text}
use Rattle.snapshot.specs.RowMaps.{RowMap, leaf_in, text_at, digest_at}
use Rattle.snapshot.specs.Snapshots.{leaves_of, IsSnapshot}
use Rattle.snapshot.proofs.OrderLaws.{bucket_at}

-- ---- leaves

-- how many leaves there are
pub leaf_count : (m : RowMap) (leaves : List Bucket) (digests : List (List ℕ)) → IsSnapshot m leaves digests → length leaves ≡ 2 ^ leaf_bits m.format
unfolding leaves_of
leaf_count m leaves digests is = ap (λ (xs : List Bucket). length xs) is.leaves_are
    ∙ length-map-range_with_len (bucket_at m) 0 (2 ^ leaf_bits m.format)

-- what a leaf has
pub leaf_shown : (m : RowMap) (leaves : List Bucket) (digests : List (List ℕ)) (i : ℕ) (d : Bucket) → IsSnapshot m leaves digests
    → i < 2 ^ leaf_bits m.format → get_or leaves i d ≡ bucket_at m i
unfolding leaves_of
leaf_shown m leaves digests i d is within = ap (λ (xs : List Bucket). get_or xs i d) is.leaves_are
    ∙ get_or-map-range_with_len (bucket_at m) 0 (2 ^ leaf_bits m.format) i i d within (omega arith)

-- a node of the leaves' depth is a leaf
pub leaf_within : (f : Format) (depth index : ℕ) → depth ≡ tree_depth f → index < 16 ^ depth → index < 2 ^ leaf_bits f
leaf_within f depth index deep within = counted f index (subst (λ (d : ℕ). index < 16 ^ d) deep within)
  where
    counted : (f : Format) (n : ℕ) → n < 16 ^ tree_depth f → n < 2 ^ leaf_bits f
    counted One n h = h
    counted Two n h = h

-- the text of a leaf
pub leaf_text_at : (m : RowMap) (depth index : ℕ) → depth ≡ tree_depth m.format
    → leaf_text m.format (rows_in_leaf (leaf_in m) index m.rows) ≡ text_at m depth index
leaf_text_at m depth index deep =
    let none : tree_depth m.format - depth ≡ 0 = omega (arith, deep) in
    sym (leaf_node m.format (leaf_in m) m.rows index) ∙ sym (ap (λ (h : ℕ). node_text m.format (leaf_in m) m.rows h index) none)

-- ---- digests

-- where a node has its digest
pub digest_within : (m : RowMap) (leaves : List Bucket) (digests : List (List ℕ)) (depth index : ℕ) → IsSnapshot m leaves digests
    → depth ≤ tree_depth m.format → index < 16 ^ depth → place_at depth index < length digests
digest_within m leaves digests depth index is has within = omega (arith, is.all, place_within m.format depth index has within)

-- the digest of a node
pub digest_shown : (m : RowMap) (leaves : List Bucket) (digests : List (List ℕ)) (depth index : ℕ) (d : List ℕ) → IsSnapshot m leaves digests
    → depth ≤ tree_depth m.format → index < 16 ^ depth → get_or digests (place_at depth index) d ≡ digest_at m depth index
unfolding AreTrue
digest_shown m leaves digests depth index d is has within =
    let place = place_at depth index in
    is.right depth (tree_depth m.format - depth) index (get_or digests place d) (omega (arith, has)) within
    (get_or-map (λ (x : List ℕ). Some x) digests place d None (digest_within m leaves digests depth index is has within))

-- ---- children

-- the digests behind a node that is no leaf
pub children_within : (m : RowMap) (leaves : List Bucket) (digests : List (List ℕ)) (depth index : ℕ) → IsSnapshot m leaves digests
    → depth < tree_depth m.format → index < 16 ^ depth → 16 * place_at depth index + 17 ≤ length digests
children_within m leaves digests depth index is inner within =
    omega (
      arith,
      is.all,
      child_place depth index 15,
      place_within m.format (suc depth) (16 * index + 15) (omega arith)
          (child_within depth index 15 within (omega arith)),
    )

-- the text of a node that is no leaf
pub inner_text_at : (m : RowMap) (leaves : List Bucket) (digests : List (List ℕ)) (depth index : ℕ) → IsSnapshot m leaves digests
    → depth < tree_depth m.format → index < 16 ^ depth
    → inner_text m.format (take 16 (drop (16 * place_at depth index + 1) digests)) ≡ text_at m depth index
inner_text_at m leaves digests depth index is inner within =
    let some = λ (x : List ℕ). Some x in
    let height = tree_depth m.format - suc depth in
    let high : tree_depth m.format - depth ≡ suc height = omega (arith, inner) in
    let ds = take 16 (drop (16 * place_at depth index + 1) digests) in
    let children : children_of (map Some digests) (place_at depth index) ≡ map Some ds =
    ap (λ (xs : List (Option (List ℕ))). take 16 xs) (drop-map some (16 * place_at depth index + 1) digests)
    ∙ take-map some 16 (drop (16 * place_at depth index + 1) digests) in
    children_text m.format (leaf_in m) m.rows (map Some digests) depth height index ds is.right (length-map digests some ∙ is.all)
    (omega (arith, inner)) within children
    ∙ sym (ap (λ (h : ℕ). node_text m.format (leaf_in m) m.rows h index) high)

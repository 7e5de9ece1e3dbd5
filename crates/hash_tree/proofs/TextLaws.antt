-- The texts of nodes: what changes with one leaf, and what a text says.
use Rattle.std.proofs.Common.{◌≡◌, ◌≢◌, ℕ, zero, suc, ◌+◌, ◌*◌, ◌<◌, ◌≤◌, List, [], ◌∷◌, ◌++◌, length, get_or, take, drop, refl, sym, ap, ◌∙◌, arith}
use Rattle.std.specs.Prelude.{nat_eq}
use Rattle.std.specs.List.{flat_map, AllByRecursion}
use Rattle.std.proofs.lemmas.Bool.{cond-false, ne_eqb}
use Rattle.std.proofs.lemmas.List.{length-append, take-append-drop}
use Rattle.std.proofs.lemmas.Grind.{flat_map-append}
use Rattle.std.proofs.lemmas.List.FromFn.{get_or-map-range_with_len, length-map-range_with_len, fill_by_all}
use Rattle.sha2.specs.Sha256.{sha256}
use Rattle.vclock.specs.declared.format.Format.{Format}
use Rattle.version_set.specs.declared.version.Version.{Version}
use Rattle.row_bytes.specs.declared.row.Row.{Row}
use Rattle.row_bytes.specs.Rows.{row_text, IsRow}
use Rattle.row_bytes.proofs.RowLaws.{one_row}
use Rattle.row_bytes.proofs.StripLaws.{flat_map-at}
use Rattle.hash_tree.specs.Leaves.{AscendByKey, rows_in_leaf, with_offer}
use Rattle.tree_nodes.specs.Nodes.{ancestor_of}
use Rattle.hash_tree.specs.Texts.{leaf_text, inner_text, per_child, node_text, node_digest}
use Rattle.hash_tree.proofs.LeafLaws.{rows_at-with_offer}

-- ---- per child

-- Sixteen texts are what f gives for each child, where each is.
pub per_child_is : (f : ℕ → List ℕ) (ds : List (List ℕ)) → length ds ≡ 16 → ((j : ℕ) → j < 16 → get_or ds j [] ≡ f j) → ds ≡ per_child f
unfolding per_child
per_child_is f ds long each = fill_by_all f ds 16 [] long each

-- There are sixteen.
pub length-per_child : (f : ℕ → List ℕ) → length (per_child f) ≡ 16
unfolding per_child
length-per_child f = length-map-range_with_len f 0 16

-- What stands at a child.
pub per_child-at : (f : ℕ → List ℕ) (j : ℕ) → j < 16 → get_or (per_child f) j [] ≡ f j
unfolding per_child
per_child-at f j less = get_or-map-range_with_len f 0 16 j j [] less (omega arith)

-- Two functions that agree at each child give the same.
pub per_child_same : (f g : ℕ → List ℕ) → ((j : ℕ) → j < 16 → f j ≡ g j) → per_child f ≡ per_child g
per_child_same f g same = per_child_is g (per_child f) (length-per_child f) (λ j less. per_child-at f j less ∙ same j less)

-- ---- nodes

-- The text of a leaf, as the definition has it.
pub leaf_node : (format : Format) (leaf : List ℕ → ℕ) (rows : List Row) (index : ℕ)
    → node_text format leaf rows zero index ≡ leaf_text format (rows_in_leaf leaf index rows)
unfolding node_text
leaf_node format leaf rows index = refl

-- The text of a node that is no leaf, as the definition has it.
pub inner_node : (format : Format) (leaf : List ℕ → ℕ) (rows : List Row) (height index : ℕ)
    → node_text format leaf rows (suc height) index ≡ inner_text format (per_child (λ j. node_digest format leaf rows height (16 * index + j)))
unfolding node_text
inner_node format leaf rows height index = refl

-- A version of a key leaves the rows of each other leaf.
pub rows_kept : (leaf : List ℕ → ℕ) (index : ℕ) (key : List ℕ) (v : Version) (rows : List Row) → AscendByKey rows → index ≢ leaf key
    → rows_in_leaf leaf index (with_offer key v rows) ≡ rows_in_leaf leaf index rows
rows_kept leaf index key v rows ascend other =
    rows_at-with_offer leaf index key v rows ascend
    ∙ cond-false (nat_eq (leaf key) index) (with_offer key v (rows_in_leaf leaf index rows)) (rows_in_leaf leaf index rows)
    (ne_eqb (leaf key) index (λ e. other (sym e)))

-- Rows that differ in one leaf leave the text of each node that is not above that leaf.
pub text_apart : (format : Format) (leaf : List ℕ → ℕ) (rows others : List Row) (there : ℕ)
    → ((i : ℕ) → i ≢ there → rows_in_leaf leaf i others ≡ rows_in_leaf leaf i rows)
    → (height index : ℕ) → index ≢ ancestor_of height there → node_text format leaf others height index ≡ node_text format leaf rows height index
unfolding node_text
text_apart format leaf rows others there same zero index other = ap (leaf_text format) (same index other)
text_apart format leaf rows others there same (suc height) index other =
    ap (inner_text format) (per_child_same (λ j. sha256 (node_text format leaf others height (16 * index + j)))
    (λ j. sha256 (node_text format leaf rows height (16 * index + j)))
    (λ j less. ap sha256 (text_apart format leaf rows others there same height (16 * index + j) (λ e. other (omega (arith, e))))))

-- A version of a key leaves the text of each node that is not above the key's leaf.
pub text_kept : (format : Format) (leaf : List ℕ → ℕ) (rows : List Row) (key : List ℕ) (v : Version) (height index : ℕ) → AscendByKey rows
    → index ≢ ancestor_of height (leaf key)
    → node_text format leaf (with_offer key v rows) height index ≡ node_text format leaf rows height index
text_kept format leaf rows key v height index ascend other =
    text_apart format leaf rows (with_offer key v rows) (leaf key) (λ i apart. rows_kept leaf i key v rows ascend apart) height index other

-- ---- how long texts are

-- What stands before an item and its own text are no longer than all texts.
pub part_within : {X : Type 0} (f : X → List ℕ) (xs : List X) (i : ℕ) (x : X) → i < length xs → x ≡ get_or xs i x
    → length (flat_map f (take i xs)) + length (f x) ≤ length (flat_map f xs)
part_within f xs i x within is =
    let rest = flat_map f (drop (i + 1) xs) in
    let first : flat_map f (drop i xs) ≡ f x ++ rest = flat_map-at f xs i x within ∙ ap (λ (y : List ℕ). y ++ rest) (ap f (sym is)) in
    let split : flat_map f xs ≡ flat_map f (take i xs) ++ (f x ++ rest) =
    ap (flat_map f) (sym (take-append-drop i xs)) ∙ flat_map-append f (take i xs) (drop i xs)
    ∙ ap (λ (t : List ℕ). flat_map f (take i xs) ++ t) first in
    omega (arith, ap (λ (t : List ℕ). length t) split, length-append (flat_map f (take i xs)) (f x ++ rest), length-append (f x) rest)

-- ---- what a leaf's text says

-- a row's text has some bytes
some_bytes : (format : Format) (r : Row) → 2 ≤ length (row_text format r)
unfolding row_text
some_bytes format r = grind (arith, length-append)

-- Rows with equal texts are equal.
same_rows : (format : Format) (rows others : List Row) → AllByRecursion (IsRow format) rows → AllByRecursion (IsRow format) others
    → flat_map (row_text format) rows ≡ flat_map (row_text format) others → rows ≡ others
same_rows format [] [] p q e = refl
same_rows format [] (s ∷ others) p q e =
    absurd (omega (arith, ap length e, some_bytes format s, length-append (row_text format s) (flat_map (row_text format) others)))
same_rows format (r ∷ rows) [] p q e =
    absurd (omega (arith, ap length e, some_bytes format r, length-append (row_text format r) (flat_map (row_text format) rows)))
same_rows format (r ∷ rows) (s ∷ others) p q e =
    let one = one_row format r s (flat_map (row_text format) rows) (flat_map (row_text format) others) p.0 q.0 e in
    let rest = same_rows format rows others p.1 q.1 one.1 in
    λ i. one.0 i ∷ rest i

-- Leaves with equal texts have equal rows.
pub same_leaf : (format : Format) (rows others : List Row) → AllByRecursion (IsRow format) rows → AllByRecursion (IsRow format) others
    → leaf_text format rows ≡ leaf_text format others → rows ≡ others
unfolding leaf_text
same_leaf format rows others p q e = same_rows format rows others p q (cc)

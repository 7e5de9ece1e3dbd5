-- Two replicas that took each other's leaves where their trees differ: what they hold, and their rows.
use Rattle.std.proofs.Common.{◌≡◌, ℕ, zero, suc, ◌+◌, ◌-◌, ◌*◌, ◌/◌, ◌%◌, ◌^◌, ◌<◌, Bool, true, false, cond, not, Option, Some, None, List, [], ◌∷◌}
use Rattle.std.proofs.Common.{◌++◌, length, refl, ap, sym, subst, ◌∙◌, ◌||◌, ◌&&◌, inl, inr, arith}
use Rattle.std.proofs.lemmas.Bool.{cases_Bool, both_ways, or_left, or_right, cases_lt}
use Rattle.std.proofs.lemmas.List.Folds.{list_any-append}
use Rattle.std.proofs.lemmas.Slice.Eq.{bytes_eq-Decides}
use Rattle.std.specs.Prelude.{nat_eq}
use Rattle.std.specs.List.{list_any, filter, AllByRecursion}
use Rattle.sha2.specs.Sha256.{sha256}
use Rattle.vclock.specs.declared.format.Format.{Format}
use Rattle.vclock.specs.declared.format.Format.TheVariants.{One, Two}
use Rattle.vclock.specs.declared.refusal.Refusal.TheVariants.{Dirty}
use Rattle.version_set.specs.declared.version.Version.{Version}
use Rattle.range_journal.specs.Journal.{held}
use Rattle.key_ring.specs.Places.{leaf_at}
use Rattle.row_bytes.specs.Rows.{IsRow}
use Rattle.row_bytes.proofs.LimitLaws.{no_fault_else}
use Rattle.hash_tree.specs.Leaves.{versions_in}
use Rattle.tree_nodes.specs.Nodes.{Node, is_same_node, contains_node, tree_depth, node_count, kept_digest, are_clean}
use Rattle.hash_tree.specs.Texts.{leaf_text, node_digest, AreTrue}
use Rattle.hash_tree.proofs.LeafLaws.{versions_in-rows_at}
use Rattle.hash_tree.proofs.TextLaws.{leaf_node, same_leaf}
use Rattle.snapshot.specs.RowMaps.{RowMap, IsRowMap, leaf_in, root_of}
use Rattle.sync_session.specs.TreeNodes.{text_of}
use Rattle.sync_session.specs.Walks.{child_digest, IsCompared, NoTwoShareADigest}
use Rattle.sync_session.specs.Differing.{first_of_level, nodes_above_depth, all_nodes, is_unlike, differs_at, differ}
use Rattle.sync_session.proofs.DescentLaws.{at_node, is_node-same}
use Rattle.sync_session.proofs.TextLaws.{text_above, leaf_rows, child_digest-text, leaf_below, leaf_are}
use Rattle.range_store.specs.Rows.{rows_of}
use Rattle.range_store.specs.Store.{Store, IsSound, rows_now, dirty_fault}
use Rattle.range_state.specs.Syncs.{IsOfRange, leaves_between, synced}
use Rattle.range_state.specs.Unions.{union_of}
use Rattle.range_store.proofs.RowLaws.{versions_in-rows_of}
use Rattle.range_store.proofs.OfferLaws.{row_map_now}
use Rattle.range_store.proofs.SameRowLaws.{same_rows}
use Rattle.range_store.proofs.StoreLaws.{eq_itself}
use Rattle.range_state.proofs.SyncLists.{member_of}
use Rattle.range_state.proofs.UnionLaws.{offers_unite, union_alike, union_swap, for_leaves, leaves_hold, leaves_any}
use Rattle.range_store.proofs.HeldLaws.{held-Ascends, held_own}

-- ---- a leaf where the trees differ is among those that are taken

level_has : (d k i : ℕ) → i < k → contains_node (at_node d i) (first_of_level d k) ≡ true
unfolding first_of_level
level_has d zero i lt = absurd (omega arith)
level_has d (suc k) i lt =
    list_any-append (is_same_node (at_node d i)) (first_of_level d k) (at_node d k ∷ [])
    ∙ elim (cases_lt i k) [
      | inl less ↦ or_left (contains_node (at_node d i) (first_of_level d k)) (contains_node (at_node d i) (at_node d k ∷ [])) (level_has d k i less)
      | inr more ↦ or_right (contains_node (at_node d i) (first_of_level d k)) (contains_node (at_node d i) (at_node d k ∷ []))
          (subst (λ (j : ℕ). contains_node (at_node d i) (at_node d j ∷ []) ≡ true) (omega arith)
          (or_left (is_same_node (at_node d i) (at_node d i)) false (is_node-same (at_node d i))))
    ]

levels_have : (m d i : ℕ) → d < m → i < 16 ^ d → contains_node (at_node d i) (nodes_above_depth m) ≡ true
unfolding nodes_above_depth
levels_have zero d i lt within = absurd (omega arith)
levels_have (suc m) d i lt within =
    list_any-append (is_same_node (at_node d i)) (nodes_above_depth m) (first_of_level m (16 ^ m))
    ∙ elim (cases_lt d m) [
      | inl less ↦ or_left (contains_node (at_node d i) (nodes_above_depth m)) (contains_node (at_node d i) (first_of_level m (16 ^ m)))
          (levels_have m d i less within)
      | inr more ↦ or_right (contains_node (at_node d i) (nodes_above_depth m)) (contains_node (at_node d i) (first_of_level m (16 ^ m)))
          (subst (λ (k : ℕ). contains_node (at_node d i) (first_of_level k (16 ^ k)) ≡ true) (omega arith) (level_has d (16 ^ d) i within))
    ]

-- what a test finds among nodes that another keeps
kept : (p q : Node → Bool) (n : Node) (xs : List Node) → contains_node n xs ≡ true → p n ≡ true → q n ≡ true → list_any q (filter p xs) ≡ true
kept p q n [] h a b = absurd (both_ways (contains_node n []) refl h)
kept p q n (x ∷ xs) h a b = elim (member_of n x xs h) [
  | inl same ↦
      ap (λ c. list_any q (cond c (x ∷ filter p xs) (filter p xs))) (ap p (sym same) ∙ a)
      ∙ or_left (q x) (list_any q (filter p xs)) (ap q (sym same) ∙ b)
  | inr later ↦ by_test (p x) (kept p q n xs later a b)
]
  where
    by_test : (c : Bool) → list_any q (filter p xs) ≡ true → list_any q (cond c (x ∷ filter p xs) (filter p xs)) ≡ true
    by_test true e = or_right (q x) (list_any q (filter p xs)) e
    by_test false e = e

leaf_listed : (own other : RowMap) (i : ℕ) → i < 16 ^ tree_depth own.format → differs_at own other (tree_depth own.format) i ≡ true
    → list_any (λ (n : Node). nat_eq n.index i) (leaves_between own other) ≡ true
leaf_listed own other i lt h =
    let d = tree_depth own.format in
    let n = at_node d i in
    let among : contains_node n (differ own other) ≡ true = kept (λ m. differs_at own other m.depth m.index) (is_same_node n) n (all_nodes own.format)
    (levels_have (suc d) d i (omega arith) lt) h (is_node-same n) in
    kept (λ m. nat_eq m.depth d) (λ m. nat_eq m.index i) n (differ own other) among (eq_itself d) (eq_itself i)

-- ---- a leaf where they don't differ has the same rows in both

-- two row maps of one range, of which no two different node texts share a digest
pub record IsPair (own other : RowMap) : Type 0 where
  pub own_map : IsRowMap own
  pub other_map : IsRowMap other
  pub format : other.format ≡ own.format
  pub bits : other.bits ≡ own.bits
  pub distinct : NoTwoShareADigest own other []

same_levels : (own other : RowMap) → IsPair own other → tree_depth other.format ≡ tree_depth own.format
same_levels own other pair = ap tree_depth pair.format

same_above : (own other : RowMap) (pair : IsPair own other) (d h i : ℕ) → d + h ≡ tree_depth own.format → i < 16 ^ d
    → sha256 (text_above own h i) ≡ sha256 (text_above other h i) → text_above own h i ≡ text_above other h i
same_above own other pair d h i e lt digests =
    pair.distinct (text_above own h i) (text_above other h i)
    (inl (at_node d i, record { shallow = omega (arith, e); within = lt }, ap (λ (k : ℕ). text_above own k i) (omega (arith, e))))
    (inr (inl (
      at_node d i,
      record { shallow = omega (arith, e, same_levels own other pair); within = lt },
      ap (λ (k : ℕ). text_above other k i) (omega (arith, e, same_levels own other pair)),
    )))
    digests

-- nodes with one digest have one text
alike : (own other : RowMap) (pair : IsPair own other) (d h i : ℕ) → d + h ≡ tree_depth own.format → i < 16 ^ d
    → is_unlike own other (at_node d i) ≡ false → text_above own h i ≡ text_above other h i
alike own other pair d h i e lt like =
    same_above own other pair d h i e lt
    (ap (λ (k : ℕ). sha256 (text_above own k i)) (omega (arith, e))
    ∙ (bytes_eq-Decides (sha256 (text_of own (at_node d i))) (sha256 (text_of other (at_node d i)))).0 (not_unlike _ like)
    ∙ ap (λ (k : ℕ). sha256 (text_above other k i)) (omega (arith, e, same_levels own other pair)))
  where
    not_unlike : (b : Bool) → not b ≡ false → b ≡ true
    not_unlike true n = refl
    not_unlike false n = sym n

-- where they don't differ they have one text, since one of the nodes above has one
same_text : (own other : RowMap) (pair : IsPair own other) (d h i : ℕ) → d + h ≡ tree_depth own.format → i < 16 ^ d → differs_at own other d i ≡ false
    → text_above own h i ≡ text_above other h i
same_text own other pair zero h i e lt like = alike own other pair zero h i e lt like
same_text own other pair (suc d) h i e lt like = elim (cases_Bool (differs_at own other d (i / 16))) [
  | inl differs ↦ alike own other pair (suc d) h i e lt (sym (ap (λ b. b && is_unlike own other (at_node (suc d) i)) differs) ∙ like)
  | inr same ↦
      let above = same_text own other pair d (suc h) (i / 16) (omega (arith, e)) (omega (arith, lt)) same in
      let place : 16 * (i / 16) + i % 16 ≡ i = omega arith in
      let j : i % 16 < 16 = omega arith in
      let digests : sha256 (text_above own h (16 * (i / 16) + i % 16)) ≡ sha256 (text_above other h (16 * (i / 16) + i % 16)) =
      sym (child_digest-text own h (i / 16) (i % 16) j)
      ∙ (ap (λ (t : List ℕ). child_digest t (i % 16)) above ∙ child_digest-text other h (i / 16) (i % 16) j) in
      same_above own other pair (suc d) h i e lt (subst (λ (k : ℕ). sha256 (text_above own h k) ≡ sha256 (text_above other h k)) place digests)
]

same_leaf_rows : (own other : RowMap) → IsPair own other → (i : ℕ) → text_above own zero i ≡ text_above other zero i
    → leaf_rows own i ≡ leaf_rows other i
same_leaf_rows own other pair i same =
    let theirs = leaf_are other pair.other_map i in
    let ours = leaf_are own pair.own_map i in
    let texts : leaf_text own.format (leaf_rows own i) ≡ leaf_text own.format (leaf_rows other i) =
    sym (leaf_node own.format (leaf_in own) own.rows i) ∙ same ∙ leaf_node other.format (leaf_in other) other.rows i
    ∙ ap (λ (f : Format). leaf_text f (leaf_rows other i)) pair.format in
    same_leaf own.format (leaf_rows own i) (leaf_rows other i) ours.each
    (subst (λ (f : Format). AllByRecursion (IsRow f) (leaf_rows other i)) pair.format theirs.each) texts

leaf_same : (own other : RowMap) → IsPair own other → (key : List ℕ) → leaf_in other key ≡ leaf_in own key
leaf_same own other pair key = λ i. leaf_at (pair.format i) (pair.bits i) key

-- a key whose leaf is not taken has the same versions in both
untaken : (own other : RowMap) → IsPair own other → (key : List ℕ)
    → list_any (λ (n : Node). nat_eq n.index (leaf_in other key)) (leaves_between own other) ≡ false
    → versions_in key own.rows ≡ versions_in key other.rows
untaken own other pair key none =
    let d = tree_depth own.format in
    let leaf = leaf_in own key in
    let away : list_any (λ (n : Node). nat_eq n.index leaf) (leaves_between own other) ≡ false = ap
    (λ (k : ℕ). list_any (λ (n : Node). nat_eq n.index k) (leaves_between own other)) (sym (leaf_same own other pair key)) ∙ none in
    let lt : leaf < 16 ^ d = leaf_below own key in
    let like : differs_at own other d leaf ≡ false = elim (cases_Bool (differs_at own other d leaf)) [
      | inl differs ↦ absurd (both_ways _ away (leaf_listed own other leaf lt differs))
      | inr same ↦ same
    ] in
    sym (versions_in-rows_at (leaf_in own) key own.rows pair.own_map.ascending)
    ∙ ap (versions_in key) (same_leaf_rows own other pair leaf (same_text own other pair d zero leaf (omega arith) lt like))
    ∙ ap (λ (k : ℕ). versions_in key (leaf_rows other k)) (sym (leaf_same own other pair key))
    ∙ versions_in-rows_at (leaf_in other) key other.rows pair.other_map.ascending

-- ---- what is held afterwards

joined : (own other : RowMap) → IsPair own other → (key : List ℕ) (p : Version → Bool)
    → list_any p (versions_in key own.rows ++ for_leaves key other (leaves_between own other)) ≡ list_any p
    (versions_in key own.rows ++ versions_in key other.rows)
joined own other pair key p =
    let S = versions_in key own.rows in
    let T = versions_in key other.rows in
    let came = leaves_any p other key (leaves_between own other) pair.other_map.ascending in
    list_any-append p S (for_leaves key other (leaves_between own other))
    ∙ elim (cases_Bool (list_any (λ (n : Node). nat_eq n.index (leaf_in other key)) (leaves_between own other))) [
      | inl taken ↦ ap (λ b. list_any p S || b) (came ∙ ap (λ b. b && list_any p T) taken)
      | inr none ↦
          ap (λ b. list_any p S || b) (came ∙ ap (λ b. b && list_any p T) none)
          ∙ either (list_any p S)
          ∙ ap (λ (U : List Version). list_any p S || list_any p U) (untaken own other pair key none)
    ]
    ∙ sym (list_any-append p S T)
  where
    either : (b : Bool) → (b || false) ≡ (b || b)
    either true = refl
    either false = refl

-- A range that took the leaves where its tree differs from a partner's holds the maximal versions of both.
pub holds_both : (s : Store) (seat : ℕ) (other : RowMap) → IsPair (rows_now s) other → (synced s seat other).fault ≡ None → (key : List ℕ)
    → held (synced s seat other).store.entries key ≡ union_of (held s.entries key) (versions_in key other.rows)
holds_both s seat other pair fits key =
    let own = versions_in-rows_of s.entries key in
    leaves_hold s seat other 0 (leaves_between (rows_now s) other) key fits
    ∙ offers_unite (held s.entries key) (for_leaves key other (leaves_between (rows_now s) other)) (held-Ascends s.entries key)
    (held_own s.entries key)
    ∙ union_alike (held s.entries key) (for_leaves key other (leaves_between (rows_now s) other)) (versions_in key other.rows)
    (λ p. subst (λ (S : List Version). list_any p (S ++ for_leaves key other (leaves_between (rows_now s) other)) ≡ list_any p
    (S ++ versions_in key other.rows)) own (joined (rows_now s) other pair key p))

-- ---- rows by what is held

-- and so have ranges
pub same_rows_now : (a b : Store) → IsOfRange a.config (rows_now b) → ((key : List ℕ) → held a.entries key ≡ held b.entries key)
    → rows_now a ≡ rows_now b
same_rows_now a b here same =
    let rows = same_rows a.entries b.entries same in
    λ i. record { format = sym here.format i; bits = sym here.bits i; range = sym here.range i; rows = rows i }

-- ---- roots

clean_root : (digests : List (Option (List ℕ))) → 0 < length digests → are_clean digests ≡ true → (d : List ℕ) × (kept_digest digests 0 ≡ Some d)
clean_root [] some clean = absurd (omega arith)
clean_root (Some d ∷ rest) some clean = (d, refl)
clean_root (None ∷ rest) some clean = absurd (let clash : false ≡ true = clean in cc)

-- a clean tree has the root of the rows now
pub root_now : (s : Store) → IsSound s → dirty_fault s ≡ None → kept_digest s.marks 0 ≡ Some (root_of (rows_now s))
unfolding AreTrue
root_now s ok clean =
    let f = s.config.format in
    let root = clean_root s.marks (omega (arith, ok.marks.tree.all, some_node f)) (no_fault_else (are_clean s.marks) Dirty clean) in
    let height : tree_depth f ≡ tree_depth f - 0 = omega arith in
    root.1
    ∙ ap (λ (d : List ℕ). Some d) (ok.marks.digests 0 (tree_depth f) 0 root.0 (omega arith) (omega arith) root.1)
    ∙ ap (λ (h : ℕ). Some (node_digest f (leaf_in (rows_now s)) (rows_of s.entries) h 0)) height
  where
    some_node : (f : Format) → 0 < node_count f
    some_node One = omega arith
    some_node Two = omega arith

-- Clean ranges that hold the same have the same root.
pub same_roots : (a b : Store) → IsSound a → IsSound b → IsOfRange a.config (rows_now b) → ((key : List ℕ) → held a.entries key ≡ held b.entries key)
    → dirty_fault a ≡ None → dirty_fault b ≡ None → kept_digest a.marks 0 ≡ kept_digest b.marks 0
same_roots a b ok_a ok_b here same clean_a clean_b = root_now a ok_a clean_a ∙ ap (λ (m : RowMap). Some (root_of m)) (same_rows_now a b here same)
    ∙ sym (root_now b ok_b clean_b)

-- ---- both ways

pub pair_of : (a b : Store) → IsSound a → IsSound b → IsOfRange a.config (rows_now b) → NoTwoShareADigest (rows_now a) (rows_now b) []
    → IsPair (rows_now a) (rows_now b)
pair_of a b ok_a ok_b here distinct = record {
  own_map = row_map_now a ok_a;
  other_map = row_map_now b ok_b;
  format = here.format;
  bits = here.bits;
  distinct = distinct;
}

-- what is compared from one side is compared from the other
compared_back : (a b : RowMap) (text : List ℕ) → IsCompared b a [] text → IsCompared a b [] text
compared_back a b text (inl of_b) = inr (inl of_b)
compared_back a b text (inr (inl of_a)) = inl of_a
compared_back a b text (inr (inr taken)) = inr (inr taken)

pub turned_pair : (own other : RowMap) → IsPair own other → IsPair other own
turned_pair own other pair = record {
  own_map = pair.other_map;
  other_map = pair.own_map;
  format = sym pair.format;
  bits = sym pair.bits;
  distinct = λ x y cx cy e. pair.distinct x y (compared_back own other x cx) (compared_back own other y cy) e;
}

-- the first of a pair holds what both held
pub first_holds : (a b : Store) (seat : ℕ) → IsPair (rows_now a) (rows_now b) → (synced a seat (rows_now b)).fault ≡ None → (key : List ℕ)
    → held (synced a seat (rows_now b)).store.entries key ≡ union_of (held a.entries key) (held b.entries key)
first_holds a b seat pair fits key = holds_both a seat (rows_now b) pair fits key
    ∙ ap (union_of (held a.entries key)) (versions_in-rows_of b.entries key)

-- and so does the second
pub second_holds : (a b : Store) (seat : ℕ) → IsPair (rows_now a) (rows_now b) → (synced b seat (rows_now a)).fault ≡ None → (key : List ℕ)
    → held (synced b seat (rows_now a)).store.entries key ≡ union_of (held a.entries key) (held b.entries key)
second_holds a b seat pair fits key = first_holds b a seat (turned_pair (rows_now a) (rows_now b) pair) fits key
    ∙ union_swap (held b.entries key) (held a.entries key)

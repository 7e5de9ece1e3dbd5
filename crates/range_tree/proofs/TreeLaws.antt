-- A range's tree: what its fields make, and what a change of one leaf leaves of it.
use Rattle.std.proofs.Common.{◌≡◌, ℕ, ◌<◌, ◌≤◌, ◌^◌, true, false, cond, set, List, [], ◌∷◌, length, map, get_or, replicate, Option, Some, None, refl}
use Rattle.std.proofs.Common.{sym, ap, subst, ◌∙◌, arith, inl, inr, length-set}
use Rattle.std.specs.List.{AllByRecursion}
use Rattle.std.specs.Prelude.{nat_eq}
use Rattle.std.specs.declared.cmp.Ordering.TheVariants.{Less, Equal, Greater}
use Rattle.std.proofs.lemmas.Bool.{cases_eq, cases_lt, cond-true, eq-eqb}
use Rattle.std.proofs.lemmas.List.{get_or-set_same, get_or-set_other, get_or-replicate, get_or_past, length-replicate, length-map}
use Rattle.std.proofs.lemmas.List.FromFn.{fill_by_all, get_or-map-range_with_len, length-map-range_with_len}
use Rattle.vclock.specs.Clock.{IsClock}
use Rattle.vclock.specs.Bytes.{key_fault}
use Rattle.vclock.specs.declared.format.Format.{Format}
use Rattle.vclock.specs.declared.format.Format.TheVariants.{One, Two}
use Rattle.version_set.specs.Kind.{value_fault}
use Rattle.version_set.specs.Order.{place_by}
use Rattle.version_set.specs.Version.{offered, offer_fault}
use Rattle.version_set.specs.declared.version.Version.{Version}
use Rattle.row_bytes.specs.declared.row.Row.{Row}
use Rattle.key_ring.specs.Places.{leaf_at, leaf_bits, range_at}
use Rattle.hash_tree.specs.Leaves.{Bucket, key_cmp, rows_in_leaf, with_offer, versions_in}
use Rattle.hash_tree.specs.Blocks.{nth_leaf, leaf_with_offer}
use Rattle.hash_tree.specs.Texts.{AreTrue}
use Rattle.hash_tree.proofs.KeyLaws.{AscendByKey-with_offer}
use Rattle.hash_tree.proofs.LeafLaws.{rows_at-with_offer, versions_in-rows_at}
use Rattle.hash_tree.proofs.TextLaws.{rows_kept}
use Rattle.hash_tree.proofs.DigestLaws.{true_apart, true_fresh}
use Rattle.tree_nodes.specs.Nodes.{Tree, tree_depth, node_count, kept_digest, is_on_path, dirtied}
use Rattle.tree_nodes.proofs.TreeLaws.{fresh-at, tree_fresh, tree_dirtied}
use Rattle.snapshot.specs.RowMaps.{RowMap, IsRowMap, leaf_in}
use Rattle.snapshot.specs.Snapshots.{leaves_of, map_of, IsSnapshot}
use Rattle.snapshot.proofs.OrderLaws.{bucket_at, leaves_make}
use Rattle.range_tree.specs.Trees.{RangeTree, IsRangeTree, AreLeaves, IsChange, bucket_of, all_dirty, bare, with_rows, offered_to}
use Rattle.range_tree.proofs.RowTextLaws.{rows_offered}

-- ---- leaves

-- no key is of a leaf after the last one
pub leaf_below : (f : Format) (bits : ℕ) (key : List ℕ) → leaf_at f bits key < 2 ^ leaf_bits f
unfolding leaf_at
leaf_below One bits key = omega arith
leaf_below Two bits key = omega arith

-- a tree has as many leaves as a range
pub leaves_of_tree : (f : Format) → 16 ^ tree_depth f ≡ 2 ^ leaf_bits f
leaves_of_tree One = refl
leaves_of_tree Two = refl

-- the leaf of a key is one of the leaves
pub key_within : (m : RowMap) (leaves : List Bucket) (leaf : ℕ) (key : List ℕ) → AreLeaves m leaves → leaf ≡ leaf_in m key → leaf < length leaves
key_within m leaves leaf key are at = omega (arith, are.all, at, leaf_below m.format m.bits key)

-- the leaf of a key, by its index
pub nth_is : (m : RowMap) (leaves : List Bucket) (leaf : ℕ) (key : List ℕ) → AreLeaves m leaves → leaf ≡ leaf_in m key
    → nth_leaf leaves leaf ≡ bucket_of m leaf
nth_is m leaves leaf key are at = are.each leaf (record { format = One; rows = [] }) (omega (arith, at, leaf_below m.format m.bits key))

-- the versions of a key are in its leaf
pub versions_here : (m : RowMap) (leaf : ℕ) (key : List ℕ) (b : Bucket) → IsRowMap m → leaf ≡ leaf_in m key → b ≡ bucket_of m leaf
    → versions_in key b.rows ≡ versions_in key m.rows
versions_here m leaf key b rows at is =
    ap (λ (x : Bucket). versions_in key x.rows) is ∙ ap (λ (n : ℕ). versions_in key (rows_in_leaf (leaf_in m) n m.rows)) at
    ∙ versions_in-rows_at (leaf_in m) key m.rows rows.ascending

-- the leaves are those of the rows
pub leaves_are : (m : RowMap) (leaves : List Bucket) → AreLeaves m leaves → leaves ≡ leaves_of m
unfolding leaves_of
leaves_are m leaves are =
    let none : Bucket = record { format = m.format; rows = [] } in
    fill_by_all (bucket_at m) leaves (2 ^ leaf_bits m.format) none are.all (λ i less. are.each i none less)

-- the rows are those of the leaves
pub map_is : (m : RowMap) (leaves : List Bucket) → IsRowMap m → AreLeaves m leaves → map_of m.format m.bits m.range leaves ≡ m
map_is m leaves rows are = ap (map_of m.format m.bits m.range) (leaves_are m leaves are) ∙ leaves_make m rows.ascending

-- ---- values

-- the tree that fields make
abbrev pub shown : Format → ℕ → ℕ → List Bucket → List (Option (List ℕ)) → RangeTree
shown format bits range leaves marks = record { map = map_of format bits range leaves; marks = marks }

-- fields are right, and make this tree
pub record Makes (t : RangeTree) (format : Format) (bits range : ℕ) (leaves : List Bucket) (marks : Tree) : Type 0 where
  pub right : IsRangeTree (shown format bits range leaves marks.digests)
  pub leaves_are : AreLeaves (map_of format bits range leaves) leaves
  pub format_is : marks.format ≡ format
  pub is : shown format bits range leaves marks.digests ≡ t

-- the leaves and the digests of a tree make it
pub made : (t : RangeTree) (format : Format) (bits range : ℕ) (leaves : List Bucket) (marks : Tree) → IsRangeTree t → AreLeaves t.map leaves
    → format ≡ t.map.format → bits ≡ t.map.bits → range ≡ t.map.range
    → marks ≡ record { format = t.map.format; digests = t.marks } → Makes t format bits range leaves marks
made t format bits range leaves marks ok are f b r same =
    let map : map_of format bits range leaves ≡ t.map = (λ i. map_of (f i) (b i) (r i) leaves) ∙ map_is t.map leaves ok.rows are in
    let back : shown format bits range leaves marks.digests ≡ t = λ i. record { map = map i; marks = (same i).digests } in
    record {
      right = subst IsRangeTree (sym back) ok;
      leaves_are = subst (λ (m : RowMap). AreLeaves m leaves) (sym map) are;
      format_is = ap (λ (x : Tree). x.format) same ∙ sym f;
      is = back;
    }

-- the leaves and the digests of all nodes are a snapshot
pub snapshot_now : (t : RangeTree) (leaves shared : List Bucket) (digests : List (List ℕ)) → IsRangeTree t → AreLeaves t.map leaves → shared ≡ leaves
    → map (λ (d : List ℕ). Some d) digests ≡ t.marks → IsSnapshot t.map shared digests
snapshot_now t leaves shared digests ok are whole marks = record {
  rows = ok.rows;
  leaves_are = whole ∙ leaves_are t.map leaves are;
  all = sym (length-map digests (λ (d : List ℕ). Some d)) ∙ ap (λ (xs : List (Option (List ℕ))). length xs) marks ∙ ok.marks.tree.all;
  right = subst (AreTrue t.map.format (leaf_in t.map) t.map.rows) (sym marks) ok.marks.digests;
}

-- ---- a tree without rows

pub bare_right : (f : Format) (bits range : ℕ) → bits ≤ 8 → range < 2 ^ bits → IsRangeTree (bare f bits range)
unfolding all_dirty
bare_right f bits range few small = record {
  rows = record { few = few; range = small; ascending = tt; each = tt; here = tt };
  marks = record { tree = tree_fresh f; digests = true_fresh f (λ key. leaf_at f bits key) [] (node_count f) };
}

-- no node of it has a digest
pub all_dirty-at : (format : Format) (place : ℕ) → kept_digest (all_dirty format) place ≡ None
unfolding all_dirty
all_dirty-at format place = elim (cases_lt place (node_count format)) [
  | inl within ↦ get_or-replicate (node_count format) place None None within
  | inr past ↦ get_or_past (replicate (node_count format) None) place None (omega (arith, past, length-replicate (node_count format) none))
]
  where
    none : Option (List ℕ)
    none = None

pub bare_leaves : (f : Format) (bits range : ℕ) (leaves : List Bucket) → leaves ≡ replicate (16 ^ tree_depth f) (record { format = f; rows = [] })
    → AreLeaves (bare f bits range).map leaves
bare_leaves f bits range leaves is =
    let none : Bucket = record { format = f; rows = [] } in
    record {
      all = ap length is ∙ length-replicate (16 ^ tree_depth f) none ∙ leaves_of_tree f;
      each = λ i d less. ap (λ (xs : List Bucket). get_or xs i d) is
          ∙ get_or-replicate (16 ^ tree_depth f) i none d (omega (arith, less, leaves_of_tree f));
    }

-- where no node is clean, none is after a change of a leaf
pub still_dirty : (f : Format) (leaf : ℕ) → dirtied f leaf (all_dirty f) ≡ all_dirty f
unfolding all_dirty dirtied
still_dirty f leaf =
    let none : Option (List ℕ) = None in
    let xs : List (Option (List ℕ)) = replicate (node_count f) none in
    let each : (place : ℕ) → kept_digest xs place ≡ cond (is_on_path f leaf place) none (kept_digest xs place) = λ place. elim
    (is_on_path f leaf place) as
    (λ b. kept_digest xs place ≡ cond b none (kept_digest xs place)) [ true ↦ fresh-at (node_count f) place | false ↦ refl ] in
    sym (fill_by_all (λ place. cond (is_on_path f leaf place) none (kept_digest xs place)) xs (length xs) none refl (λ place less. each place))

-- ---- another leaf

-- a tree after the change of a leaf
pub changed_right : (t : RangeTree) (leaf : ℕ) (leaves : List Bucket) (m : RowMap) → IsRangeTree t → IsChange t.map leaf leaves m
    → IsRangeTree (with_rows t leaf m)
changed_right t leaf leaves m ok change =
    let f = t.map.format in
    let within : leaf < 16 ^ tree_depth f = omega (arith, change.within, leaves_of_tree f) in
    let here : IsRangeTree (with_rows t leaf (record t.map { rows = m.rows })) = record {
      rows = subst IsRowMap change.same change.rows;
      marks = record {
        tree = tree_dirtied f leaf t.marks within ok.marks.tree;
        digests = true_apart f (leaf_in t.map) t.map.rows m.rows leaf t.marks change.others ok.marks.digests within;
      };
    } in
    subst (λ (x : RowMap). IsRangeTree (with_rows t leaf x)) (sym change.same) here

-- the leaves of a row map are its leaves
leaves_are_of : (m : RowMap) → AreLeaves m (leaves_of m)
unfolding leaves_of
leaves_are_of m = record {
  all = length-map-range_with_len (bucket_at m) 0 (2 ^ leaf_bits m.format);
  each = λ i d less. get_or-map-range_with_len (bucket_at m) 0 (2 ^ leaf_bits m.format) i i d less (omega arith);
}

-- its leaves
pub changed_leaves : (old : RowMap) (leaf : ℕ) (leaves : List Bucket) (m : RowMap) → IsChange old leaf leaves m → AreLeaves m leaves
changed_leaves old leaf leaves m change =
    let new : RowMap = record old { rows = m.rows } in
    let b = bucket_of m leaf in
    let are = leaves_are_of old in
    let each_leaf : (i : ℕ) (d : Bucket) → i < 2 ^ leaf_bits old.format
    → get_or (set (leaves_of old) leaf b) i d ≡ bucket_of new i = λ i d less. elim (cases_eq i leaf) [
      | inl same ↦
          subst (λ (j : ℕ). get_or (set (leaves_of old) leaf b) j d ≡ bucket_of new j) (sym same)
          (get_or-set_same (leaves_of old) leaf b d (omega (arith, are.all, change.within)) ∙ ap (λ (x : RowMap). bucket_of x leaf) change.same)
      | inr other ↦
          get_or-set_other (leaves_of old) leaf i b d other ∙ are.each i d less
          ∙ ap (λ (rows : List Row). record { format = old.format; rows = rows }) (sym (change.others i other))
    ] in
    subst (λ (xs : List Bucket). AreLeaves m xs) (sym change.are)
    (subst (λ (x : RowMap). AreLeaves x (set (leaves_of old) leaf b)) (sym change.same)
    (record { all = length-set (leaves_of old) leaf b ∙ are.all; each = each_leaf }))

-- ---- an offer

keys_offered : (P : List ℕ → Type 0) (k : List ℕ) (v : Version) (rows : List Row) → P k → AllByRecursion (λ (r : Row). P r.key) rows
    → AllByRecursion (λ (r : Row). P r.key) (with_offer k v rows)
keys_offered P k v [] here all = (here, tt)
keys_offered P k v (r ∷ rows) here all =
    elim (key_cmp k r.key) as
    (λ o. AllByRecursion (λ (x : Row). P x.key)
    (place_by o (record { key = k; versions = offered v [] } ∷ r ∷ rows) (record { key = r.key; versions = offered v r.versions } ∷ rows)
    (r ∷ with_offer k v rows))) [
      | Less ↦ (here, all)
      | Equal ↦ all
      | Greater ↦ (all.0, keys_offered P k v rows here all.1)
    ]

-- a version that is offered to a key of the range, whose rows have room for it
pub record IsOffer (m : RowMap) (k : List ℕ) (v : Version) : Type 0 where
  pub here : range_at m.bits k ≡ m.range
  pub key : key_fault k ≡ None
  pub value : value_fault m.format v.kind v.value ≡ None
  pub clock : IsClock v.clock
  pub room : offer_fault v (versions_in k m.rows) ≡ None

-- rows after an offer differ in the leaf of its key
pub offer_changes : (m : RowMap) (leaf : ℕ) (key : List ℕ) (v : Version) → IsRowMap m → leaf ≡ leaf_in m key → IsOffer m key v
    → IsChange m leaf (set (leaves_of m) leaf (leaf_with_offer key v (bucket_of m leaf))) (record m { rows = with_offer key v m.rows })
offer_changes m leaf key v ok at offer = record {
  rows = record {
    few = ok.few;
    range = ok.range;
    ascending = AscendByKey-with_offer key v m.rows ok.ascending;
    each = rows_offered m.format key v m.rows offer.key offer.value offer.clock offer.room ok.each;
    here = keys_offered (λ (x : List ℕ). range_at m.bits x ≡ m.range) key v m.rows offer.here ok.here;
  };
  same = refl;
  within = omega (arith, at, leaf_below m.format m.bits key);
  others = λ i other. rows_kept (leaf_in m) i key v m.rows ok.ascending (λ e. other (e ∙ sym at));
  are =
      ap (λ (rows : List Row). set (leaves_of m) leaf (record { format = m.format; rows = rows }))
      (sym (rows_at-with_offer (leaf_in m) leaf key v m.rows ok.ascending
      ∙ cond-true (nat_eq (leaf_in m key) leaf) _ _ (eq-eqb (leaf_in m key) leaf (sym at))));
}

-- a tree after an offer
pub offered_right : (t : RangeTree) (key : List ℕ) (v : Version) → IsRangeTree t → range_at t.map.bits key ≡ t.map.range → key_fault key ≡ None
    → value_fault t.map.format v.kind v.value ≡ None → IsClock v.clock → offer_fault v (versions_in key t.map.rows) ≡ None
    → IsRangeTree (offered_to t key v)
offered_right t key v ok here k value clock room =
    let leaf = leaf_in t.map key in
    changed_right t leaf (set (leaves_of t.map) leaf (leaf_with_offer key v (bucket_of t.map leaf)))
    (record t.map { rows = with_offer key v t.map.rows }) ok
    (offer_changes t.map leaf key v ok.rows refl (record { here = here; key = k; value = value; clock = clock; room = room }))

-- ---- fields after a change

-- the fields of a tree are right
pub record AreFields (now : RangeTree) (format : Format) (bits range : ℕ) (leaves : List Bucket) (marks : Tree) : Type 0 where
  pub view : shown format bits range leaves marks.digests ≡ now
  pub right : IsRangeTree (shown format bits range leaves marks.digests)
  pub leaves_are : AreLeaves (map_of format bits range leaves) leaves
  pub format_is : marks.format ≡ format

-- fields after the change of a leaf
pub change_makes : (now : RangeTree) (format : Format) (bits range : ℕ) (leaves : List Bucket) (marks : Tree) (leaf : ℕ) (m : RowMap)
    (others : List Bucket) (dirty : Tree) → AreFields now format bits range leaves marks → IsChange now.map leaf others m
    → dirty ≡ record { format = marks.format; digests = dirtied marks.format leaf marks.digests }
    → Makes (with_rows now leaf m) format bits range others dirty
change_makes now format bits range leaves marks leaf m others dirty fields change path =
    let s = shown format bits range leaves marks.digests in
    let here : IsChange s.map leaf others m = subst (λ (t : RangeTree). IsChange t.map leaf others m) (sym fields.view) change in
    let same = sym here.same in
    let made_here : Makes (with_rows s leaf m) format bits range others dirty =
    made (with_rows s leaf m) format bits range others dirty (changed_right s leaf others m fields.right here)
    (changed_leaves s.map leaf others m here)
    (ap (λ (x : RowMap). x.format) same) (ap (λ (x : RowMap). x.bits) same) (ap (λ (x : RowMap). x.range) same)
    (path ∙ (λ i. record { format = fields.format_is i; digests = dirtied (fields.format_is i) leaf marks.digests })
    ∙ ap (λ (x : RowMap). record { format = x.format; digests = dirtied format leaf marks.digests }) same) in
    subst (λ (t : RangeTree). Makes (with_rows t leaf m) format bits range others dirty) fields.view made_here

-- fields after an offer
pub offer_makes : (now : RangeTree) (format : Format) (bits range : ℕ) (leaves : List Bucket) (marks : Tree) (leaf : ℕ) (key : List ℕ) (v : Version)
    (others : List Bucket) (dirty : Tree) → AreFields now format bits range leaves marks → leaf ≡ leaf_in now.map key
    → IsOffer now.map key v → others ≡ set leaves leaf (leaf_with_offer key v (nth_leaf leaves leaf))
    → dirty ≡ record { format = marks.format; digests = dirtied marks.format leaf marks.digests }
    → Makes (offered_to now key v) format bits range others dirty
offer_makes now format bits range leaves marks leaf key v others dirty fields at offer all path =
    let ok = subst IsRangeTree fields.view fields.right in
    let are = subst (λ (t : RangeTree). AreLeaves t.map leaves) fields.view fields.leaves_are in
    let m : RowMap = record now.map { rows = with_offer key v now.map.rows } in
    let is : others ≡ set (leaves_of now.map) leaf (leaf_with_offer key v (bucket_of now.map leaf)) =
    all ∙ (λ i. set (leaves_are now.map leaves are i) leaf (leaf_with_offer key v (nth_is now.map leaves leaf key are at i))) in
    let change : IsChange now.map leaf others m = subst (λ (xs : List Bucket). IsChange now.map leaf xs m) (sym is)
    (offer_changes now.map leaf key v ok.rows at offer) in
    subst (λ (n : ℕ). Makes (with_rows now n m) format bits range others dirty) at
    (change_makes now format bits range leaves marks leaf m others dirty fields change path)

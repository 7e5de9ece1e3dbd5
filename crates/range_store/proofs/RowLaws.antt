-- What one more entry changes in the rows, and what the rows have.
use Rattle.std.proofs.Common.{◌≡◌, ℕ, Bool, true, false, cond, List, [], ◌∷◌, ◌++◌, map, refl, ap, sym, subst, ◌∙◌, ◌||◌, ◌⊎◌, ◌↔◌, inl, inr, arith}
use Rattle.std.proofs.Common.{Any, Contains}
use Rattle.std.proofs.lemmas.Bool.{or_parts}
use Rattle.std.proofs.lemmas.Bool.Decides.{nat_tests}
use Rattle.std.proofs.lemmas.Cmp.{nat_list_cmp_total}
use Rattle.std.specs.Prelude.{nat_eq}
use Rattle.std.specs.List.{list_any, AllByRecursion}
use Rattle.std.specs.declared.cmp.Ordering.TheVariants.{Less, Equal, Greater}
use Rattle.std.specs.Cmp.Lexicographic.{pointwise, texts_ties}
use Rattle.version_set.specs.declared.version.Version.{Version}
use Rattle.version_set.specs.Order.{place_by, Pairwise}
use Rattle.version_set.specs.Version.{offered, maximal, set_from}
use Rattle.version_set.proofs.ListLaws.{less_all, ascends-inserted}
use Rattle.range_journal.specs.declared.journal.Entry.{Entry}
use Rattle.range_journal.specs.Journal.{held, versions_of}
use Rattle.range_journal.proofs.JournalLaws.{held-push, contains_cons, contains_later, any_cons, any_later}
use Rattle.row_bytes.specs.declared.row.Row.{Row}
use Rattle.hash_tree.specs.Leaves.{key_cmp, AscendByKey, rows_in_leaf, with_offer, versions_in}
use Rattle.hash_tree.proofs.KeyLaws.{key_exact, turned}
use Rattle.hash_tree.proofs.LeafLaws.{rows_at-with_offer, versions_in-rows_at}
use Rattle.range_store.specs.Rows.{with_key, keys_from, rows_of}

-- ---- keys in order

abbrev pub KeysAscend : List (List ℕ) → Type 0
KeysAscend ks = Pairwise (λ x y. key_cmp x y ≡ Less) ks

KeysAscend-keys_from : (ks : List (List ℕ)) (es : List Entry) → KeysAscend ks → KeysAscend (keys_from ks es)
KeysAscend-keys_from ks [] a = a
KeysAscend-keys_from ks (e ∷ es) a = KeysAscend-keys_from (with_key e.key ks) es (ascends-inserted key_cmp nat_list_cmp_total e.key ks a)

keys_from-push : (ks : List (List ℕ)) (es : List Entry) (e : Entry) → keys_from ks (es ++ e ∷ []) ≡ with_key e.key (keys_from ks es)
keys_from-push ks [] e = refl
keys_from-push ks (x ∷ es) e = keys_from-push (with_key x.key ks) es e

any-with_key : (p : List ℕ → Bool) (k : List ℕ) (ks : List (List ℕ)) → list_any p (with_key k ks) ≡ false → (p k ≡ false) × (list_any p ks ≡ false)
any-with_key p k [] h = ((or_parts _ _ h).0, refl)
any-with_key p k (x ∷ ks) h =
    elim (key_cmp k x) as (λ o. key_cmp k x ≡ o → list_any p (place_by o (k ∷ x ∷ ks) (x ∷ ks) (x ∷ with_key k ks)) ≡ false
    → (p k ≡ false) × (list_any p (x ∷ ks) ≡ false)) [
      | Less ↦ λ o f. or_parts _ _ f
      | Equal ↦ λ o f. (ap p (key_exact k x o) ∙ (or_parts _ _ f).0, f)
      | Greater ↦ λ o f.
          let rest = any-with_key p k ks (or_parts _ _ f).1 in
          (rest.0, ap (λ b. b || list_any p ks) (or_parts _ _ f).0 ∙ rest.1)
    ] refl h

-- a key without an entry
absent : (k : List ℕ) (ks : List (List ℕ)) (es : List Entry) → list_any (λ x. pointwise nat_eq x k) (keys_from ks es) ≡ false
    → (list_any (λ x. pointwise nat_eq x k) ks ≡ false) × (versions_of es k ≡ [])
absent k ks [] h = (h, refl)
absent k ks (e ∷ es) h =
    let rest = absent k (with_key e.key ks) es h in
    let here = any-with_key (λ x. pointwise nat_eq x k) e.key ks rest.0 in
    (here.1, rw here.0 rest.1)

-- ---- rows

abbrev row_by : (List ℕ → List Version) → List ℕ → Row
row_by f k = record { key = k; versions = f k }

less_absent : (k : List ℕ) (ks : List (List ℕ)) → AllByRecursion (λ y. key_cmp k y ≡ Less) ks → list_any (λ x. pointwise nat_eq x k) ks ≡ false
less_absent k [] all = refl
less_absent k (x ∷ ks) all = rw (texts_ties x k, turned k x Less all.0) (less_absent k ks all.1)

abbrev Grows : List ℕ → Version → (List ℕ → List Version) → (List ℕ → List Version) → Type 0
Grows k v f g = (x : List ℕ) → g x ≡ cond (pointwise nat_eq k x) (offered v (f x)) (f x)

map_same : (k : List ℕ) (v : Version) (f g : List ℕ → List Version) (ks : List (List ℕ)) → Grows k v f g → AllByRecursion (λ y. key_cmp k y ≡ Less) ks
    → map (row_by g) ks ≡ map (row_by f) ks
map_same k v f g [] h all = refl
map_same k v f g (x ∷ ks) h all =
    let same : g x ≡ f x = h x ∙ rw (texts_ties k x, all.0) refl in
    rw (same, map_same k v f g ks h all.1) refl

itself : (k : List ℕ) → pointwise nat_eq k k ≡ true
itself [] = refl
itself (x ∷ k) = grind (arith, nat_tests, itself k)

map_offer : (k : List ℕ) (v : Version) (f g : List ℕ → List Version) (ks : List (List ℕ)) → Grows k v f g → KeysAscend ks
    → (list_any (λ x. pointwise nat_eq x k) ks ≡ false → f k ≡ [])
    → map (row_by g) (with_key k ks) ≡ with_offer k v (map (row_by f) ks)
map_offer k v f g [] h a none =
    let here : g k ≡ offered v [] = h k ∙ rw (itself k, none refl) refl in
    rw here refl
map_offer k v f g (x ∷ ks) h a none =
    elim (key_cmp k x) as (λ o. key_cmp k x ≡ o
    → map (row_by g) (place_by o (k ∷ x ∷ ks) (x ∷ ks) (x ∷ with_key k ks)) ≡ place_by o
    (record { key = k; versions = offered v [] } ∷ row_by f x ∷ map (row_by f) ks)
    (record { key = x; versions = offered v (f x) } ∷ map (row_by f) ks) (row_by f x ∷ with_offer k v (map (row_by f) ks))) [
      | Less ↦ λ o.
          let all : AllByRecursion (λ y. key_cmp k y ≡ Less) (x ∷ ks) = (o, less_all key_cmp nat_list_cmp_total k x ks o a.0) in
          let here : g k ≡ offered v [] = h k ∙ rw (itself k, none (less_absent k (x ∷ ks) all)) refl in
          rw (here, map_same k v f g (x ∷ ks) h all) refl
      | Equal ↦ λ o.
          let here : g x ≡ offered v (f x) = h x ∙ rw (texts_ties k x, o) refl in
          let all = subst (λ (y : List ℕ). AllByRecursion (λ z. key_cmp y z ≡ Less) ks) (sym (key_exact k x o)) a.0 in
          rw (here, map_same k v f g ks h all) refl
      | Greater ↦ λ o.
          let same : g x ≡ f x = h x ∙ rw (texts_ties k x, o) refl in
          let apart : pointwise nat_eq x k ≡ false = rw (texts_ties x k, turned k x Greater o) refl in
          let rest = map_offer k v f g ks h a.1 (λ n. none (rw apart n)) in
          rw (same, rest) refl
    ] refl

-- One more entry is an offer to the row of its key.
pub rows_of-push : (es : List Entry) (e : Entry) → rows_of (es ++ e ∷ []) ≡ with_offer e.key e.version (rows_of es)
unfolding rows_of
rows_of-push es e =
    ap (map (row_by (held (es ++ e ∷ [])))) (keys_from-push [] es e)
    ∙ map_offer e.key e.version (held es) (held (es ++ e ∷ [])) (keys_from [] es) (held-push es e) (KeysAscend-keys_from [] es tt)
    (λ n. ap (λ vs. maximal (set_from [] vs)) (absent e.key [] es n).1)

all_rows : (k : List ℕ) (f : List ℕ → List Version) (ks : List (List ℕ)) → AllByRecursion (λ y. key_cmp k y ≡ Less) ks
    → AllByRecursion (λ (x : Row). key_cmp k x.key ≡ Less) (map (row_by f) ks)
all_rows k f [] h = tt
all_rows k f (x ∷ ks) h = (h.0, all_rows k f ks h.1)

AscendByKey-map : (f : List ℕ → List Version) (ks : List (List ℕ)) → KeysAscend ks → AscendByKey (map (row_by f) ks)
AscendByKey-map f [] a = tt
AscendByKey-map f (x ∷ ks) a = (all_rows x f ks a.0, AscendByKey-map f ks a.1)

pub rows_of-ascend : (es : List Entry) → AscendByKey (rows_of es)
unfolding rows_of
rows_of-ascend es = AscendByKey-map (held es) (keys_from [] es) (KeysAscend-keys_from [] es tt)

versions_in-map : (f : List ℕ → List Version) (k : List ℕ) (ks : List (List ℕ)) → KeysAscend ks
    → (list_any (λ x. pointwise nat_eq x k) ks ≡ false → f k ≡ []) → versions_in k (map (row_by f) ks) ≡ f k
versions_in-map f k [] a none = sym (none refl)
versions_in-map f k (x ∷ ks) a none =
    elim (key_cmp k x) as (λ o. key_cmp k x ≡ o → place_by o [] (f x) (versions_in k (map (row_by f) ks)) ≡ f k) [
      | Less ↦ λ o. sym (none (less_absent k (x ∷ ks) (o, less_all key_cmp nat_list_cmp_total k x ks o a.0)))
      | Equal ↦ λ o. ap f (sym (key_exact k x o))
      | Greater ↦ λ o.
          let apart : pointwise nat_eq x k ≡ false = rw (texts_ties x k, turned k x Greater o) refl in
          versions_in-map f k ks a.1 (λ n. none (rw apart n))
    ] refl

-- What the rows have for a key is what is held for it.
pub versions_in-rows_of : (es : List Entry) (k : List ℕ) → versions_in k (rows_of es) ≡ held es k
unfolding rows_of
versions_in-rows_of es k =
    versions_in-map (held es) k (keys_from [] es) (KeysAscend-keys_from [] es tt) (λ n. ap (λ vs. maximal (set_from [] vs)) (absent k [] es n).1)

-- ---- the rows of one leaf

-- What the leaf of a key has for it is what is held for it.
pub leaf_holds : (leaf : List ℕ → ℕ) (es : List Entry) (k : List ℕ) → versions_in k (rows_in_leaf leaf (leaf k) (rows_of es)) ≡ held es k
leaf_holds leaf es k = versions_in-rows_at leaf k (rows_of es) (rows_of-ascend es) ∙ versions_in-rows_of es k

-- one more entry, in a leaf
pub leaf-push : (leaf : List ℕ → ℕ) (es : List Entry) (e : Entry) (i : ℕ)
    → rows_in_leaf leaf i (rows_of (es ++ e ∷ [])) ≡ cond (nat_eq (leaf e.key) i) (with_offer e.key e.version (rows_in_leaf leaf i (rows_of es)))
    (rows_in_leaf leaf i (rows_of es))
leaf-push leaf es e i = ap (rows_in_leaf leaf i) (rows_of-push es e) ∙ rows_at-with_offer leaf i e.key e.version (rows_of es) (rows_of-ascend es)

-- ---- which rows there are

from_with_key : (k : List ℕ) (ks : List (List ℕ)) (x : List ℕ) → Contains (with_key k ks) x → (k ≡ x) ⊎ Contains ks x
from_with_key k [] x c = contains_cons k [] x c
from_with_key k (y ∷ ks) x c =
    elim (key_cmp k y) as (λ o. Contains (place_by o (k ∷ y ∷ ks) (y ∷ ks) (y ∷ with_key k ks)) x → (k ≡ x) ⊎ Contains (y ∷ ks) x) [
      | Less ↦ λ d. contains_cons k (y ∷ ks) x d
      | Equal ↦ λ d. inr d
      | Greater ↦ λ d. elim (contains_cons y (with_key k ks) x d) [
        | inl e ↦ inr (0, omega arith, e)
        | inr later ↦ elim (from_with_key k ks x later) [ inl e ↦ inl e | inr rest ↦ inr (contains_later y ks x rest) ]
      ]
    ] c

to_with_key : (k : List ℕ) (ks : List (List ℕ)) (x : List ℕ) → (k ≡ x) ⊎ Contains ks x → Contains (with_key k ks) x
to_with_key k [] x h = elim h [ inl e ↦ (0, omega arith, e) | inr c ↦ absurd (omega (arith, c.1)) ]
to_with_key k (y ∷ ks) x h =
    elim (key_cmp k y) as (λ o. key_cmp k y ≡ o → Contains (place_by o (k ∷ y ∷ ks) (y ∷ ks) (y ∷ with_key k ks)) x) [
      | Less ↦ λ o. elim h [ inl e ↦ (0, omega arith, e) | inr c ↦ contains_later k (y ∷ ks) x c ]
      | Equal ↦ λ o. elim h [ inl e ↦ (0, omega arith, sym (key_exact k y o) ∙ e) | inr c ↦ c ]
      | Greater ↦ λ o. elim h [
        | inl e ↦ contains_later y (with_key k ks) x (to_with_key k ks x (inl e))
        | inr c ↦ elim (contains_cons y ks x c) [
          | inl e ↦ (0, omega arith, e)
          | inr rest ↦ contains_later y (with_key k ks) x
              (to_with_key k ks x (inr rest))
        ]
      ]
    ] refl

from_keys : (ks : List (List ℕ)) (es : List Entry) (x : List ℕ) → Contains (keys_from ks es) x → Contains ks x ⊎ Any (λ (e : Entry). e.key ≡ x) es
from_keys ks [] x c = inl c
from_keys ks (e ∷ es) x c = elim (from_keys (with_key e.key ks) es x c) [
  | inl now ↦ elim (from_with_key e.key ks x now) [ inl same ↦ inr (0, e, omega arith, refl, same) | inr before ↦ inl before ]
  | inr later ↦ inr (any_later (λ (y : Entry). y.key ≡ x) e es later)
]

to_keys : (ks : List (List ℕ)) (es : List Entry) (x : List ℕ) → Contains ks x ⊎ Any (λ (e : Entry). e.key ≡ x) es → Contains (keys_from ks es) x
to_keys ks [] x h = elim h [ inl c ↦ c | inr a ↦ absurd (omega (arith, a.2)) ]
to_keys ks (e ∷ es) x h = elim h [
  | inl c ↦ to_keys (with_key e.key ks) es x (inl (to_with_key e.key ks x (inr c)))
  | inr a ↦ elim (any_cons (λ (y : Entry). y.key ≡ x) e es a) [
    | inl same ↦ to_keys (with_key e.key ks) es x (inl (to_with_key e.key ks x (inl same)))
    | inr later ↦ to_keys (with_key e.key ks) es x (inr later)
  ]
]

from_map : (f : List ℕ → List Version) (ks : List (List ℕ)) (row : Row) → Contains (map (row_by f) ks) row
    → Contains ks row.key × (row.versions ≡ f row.key)
from_map f [] row c = absurd (omega (arith, c.1))
from_map f (k ∷ ks) row c = elim (contains_cons (row_by f k) (map (row_by f) ks) row c) [
  | inl e ↦ ((0, omega arith, ap (λ (r : Row). r.key) e), ap (λ (r : Row). r.versions) (sym e) ∙ ap (λ (r : Row). f r.key) e)
  | inr later ↦ let rest = from_map f ks row later in (contains_later k ks row.key rest.0, rest.1)
]

to_map : (f : List ℕ → List Version) (ks : List (List ℕ)) (row : Row) → Contains ks row.key → row.versions ≡ f row.key
    → Contains (map (row_by f) ks) row
to_map f [] row c e = absurd (omega (arith, c.1))
to_map f (k ∷ ks) row c e = elim (contains_cons k ks row.key c) [
  | inl same ↦ let versions : f k ≡ row.versions = ap f same ∙ sym e in (0, omega arith, λ i. record { key = same i; versions = versions i })
  | inr later ↦ contains_later (row_by f k) (map (row_by f) ks) row (to_map f ks row later e)
]

-- The rows have each key that has an entry, and no other one, each with what is held for it.
pub rows_of-entries : (es : List Entry) (row : Row)
    → Contains (rows_of es) row ↔ (Any (λ (e : Entry). e.key ≡ row.key) es × (row.versions ≡ held es row.key))
unfolding rows_of
rows_of-entries es row = (
  (λ c. let parts = from_map (held es) (keys_from [] es) row c in
      (elim (from_keys [] es row.key parts.0) [ inl none ↦ absurd (omega (arith, none.1)) | inr any ↦ any ], parts.1)),
  (λ h. to_map (held es) (keys_from [] es) row (to_keys [] es row.key (inr h.0)) h.1),
)

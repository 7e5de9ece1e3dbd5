-- Replicas: which of them is a node's, and what a loop over them does.
use mir.Val.{bool_byte}
use Rattle.std.proofs.Common.{◌≡◌, ℕ, zero, suc, ◌+◌, ◌<◌, ◌≤◌, Bool, true, false, cond, set, List, [], ◌∷◌, ◌++◌, length, map, filter, take, drop}
use Rattle.std.proofs.Common.{get_or, refl, ap, sym, subst, ◌∙◌, arith, Some, add-one, drop-cons}
use Rattle.std.specs.Prelude.{nat_eq, slice_get, option_map, IsTrue, ◌%◌}
use Rattle.std.specs.List.{list_all, range_with_len}
use Rattle.std.proofs.lemmas.List.{length-map, map_push}
use Rattle.std.proofs.lemmas.List.FromFn.{length-range_with_len}
use Rattle.std.proofs.lemmas.Bool.{and_parts}
use Rattle.std.proofs.lemmas.Bool.Decides.{nat_tests}
use Rattle.version_set.proofs.ListLaws.{all-append}
use Rattle.key_ring.specs.Ring.{Places, is_ring, is_node_number, preference_list}
use Rattle.hash_tree.proofs.ChunkLaws.{all-drop, all-set, all-take}
use Rattle.hash_tree.proofs.KeyLaws.{all_get}
use Rattle.range_store.specs.Config.{Config}
use Rattle.outage_cluster.specs.Homes.{AreOf, IsHome}
use Rattle.snapshot.specs.RowMaps.{RowMap}
use Rattle.range_store.specs.Store as range
use Rattle.range_state.specs.Syncs.{IsOfRange}
use Rattle.outage_cluster.specs.State.{Replica, empty_range, home, keeping, replica_at, at_node}
use Rattle.outage_cluster.specs.Syncs.{synced_with}

-- ---- the replica of a node

-- a loop up to i has not found it
pub record NotYet (n : ℕ) (reps : List Replica) (i : ℕ) : Type 0 where
  pub within : i ≤ length reps
  pub changes : (f : Replica → Replica) → at_node n f reps ≡ take i reps ++ at_node n f (drop i reps)
  pub is : replica_at n (drop i reps) ≡ replica_at n reps

is_it : (r : Replica) (n : ℕ) → r.node ≡ n → nat_eq r.node n ≡ true
is_it r n e = grind (arith, nat_tests, e)

changes_here : (reps : List Replica) (i n : ℕ) (f : Replica → Replica) (d : Replica) → i < length reps → (get_or reps i d).node ≡ n
    → take i reps ++ at_node n f (drop i reps) ≡ set reps i (f (get_or reps i d))
changes_here [] i n f d lt e = absurd (omega arith)
changes_here (r ∷ reps) zero n f d lt e = rw (is_it r n e) refl
changes_here (r ∷ reps) (suc i) n f d lt e = ap (λ t. r ∷ t) (changes_here reps i n f d (omega arith) e)

is_here : (reps : List Replica) (i n : ℕ) (d : Replica) → i < length reps → (get_or reps i d).node ≡ n
    → replica_at n (drop i reps) ≡ Some (get_or reps i d)
is_here [] i n d lt e = absurd (omega arith)
is_here (r ∷ reps) zero n d lt e = rw (is_it r n e) refl
is_here (r ∷ reps) (suc i) n d lt e = is_here reps i n d (omega arith) e

same_default : (reps : List Replica) (i : ℕ) (d e : Replica) → i < length reps → get_or reps i d ≡ get_or reps i e
same_default [] i d e h = absurd (omega arith)
same_default (r ∷ reps) zero d e h = refl
same_default (r ∷ reps) (suc i) d e h = same_default reps i d e (omega arith)

-- it is found at i
pub found_here : (reps : List Replica) (i n : ℕ) (r : Replica) → i < length reps → r ≡ get_or reps i r → r.node ≡ n → NotYet n reps i
    → IsHome n reps i
found_here reps i n r lt there e so =
    let node : (d : Replica) → (get_or reps i d).node ≡ n = λ d. subst (λ (x : Replica). x.node ≡ n) (there ∙ same_default reps i r d lt) e in
    let is : (d : Replica) → replica_at n reps ≡ Some (get_or reps i d) = λ d. sym so.is ∙ is_here reps i n d lt (node d) in
    let changes : (f : Replica → Replica) (d : Replica) → at_node n f reps ≡ set reps i (f (get_or reps i d)) = λ f d. so.changes f
    ∙ changes_here reps i n f d lt (node d) in
    record {
      within = lt;
      node = node;
      is = is;
      holds = λ d. ap (option_map (λ (x : Replica). x.range)) (is d);
      keeps = λ h d. changes (keeping h) d;
      syncs = λ other d. changes (synced_with other) d;
    }

-- it is not at i
pub not_here : (reps : List Replica) (i n : ℕ) (r : Replica) → i < length reps → r ≡ get_or reps i r → nat_eq r.node n ≡ false → NotYet n reps i
    → NotYet n reps (i + 1)
not_here reps i n r lt is other so =
    let here : drop i reps ≡ r ∷ drop (suc i) reps = drop-cons reps i r lt ∙ ap (λ x. x ∷ drop (suc i) reps) (sym is) in
    rw (add-one) (record {
      within = omega arith;
      changes = λ f. so.changes f ∙ ap (λ (t : List Replica). take i reps ++ at_node n f t) here ∙ passes f;
      is = sym (ap (replica_at n) here ∙ rw other refl) ∙ so.is;
    })
  where
    kept : (xs : List Replica) (j : ℕ) (f : Replica → Replica) → j < length xs
        → take j xs ++ (get_or xs j r ∷ at_node n f (drop (suc j) xs)) ≡ take (suc j) xs ++ at_node n f (drop (suc j) xs)
    kept [] j f l = absurd (omega arith)
    kept (x ∷ xs) zero f l = refl
    kept (x ∷ xs) (suc j) f l = ap (λ t. x ∷ t) (kept xs j f (omega arith))

    passes : (f : Replica → Replica) → take i reps ++ at_node n f (r ∷ drop (suc i) reps) ≡ take (suc i) reps ++ at_node n f (drop (suc i) reps)
    passes f = ap (λ (t : List Replica). take i reps ++ t) (rw other refl)
        ∙ ap (λ (x : Replica). take i reps ++ (x ∷ at_node n f (drop (suc i) reps))) is ∙ kept reps i f lt

-- ---- replicas of one range

-- one that is of the same range as before is put in its place
pub of_set : (c : Config) (reps : List Replica) (i : ℕ) (new d : Replica) → AreOf c reps → i < length reps
    → new.range.config ≡ (get_or reps i d).range.config → AreOf c (set reps i new)
of_set c reps i new d are lt same =
    all-set (λ (r : Replica). r.range.config ≡ c) reps i new (same ∙ all_get (λ (r : Replica). r.range.config ≡ c) reps i d are lt) are

-- what a node keeps is of that range
pub home_of : (c : Config) (reps : List Replica) (n : ℕ) (h : range.Store) → AreOf c reps → home n reps ≡ Some h → h.config ≡ c
home_of c [] n h are e = cc
home_of c (r ∷ reps) n h are e = by_case (nat_eq r.node n) (home_of c reps n h are.1) e
  where
    by_case : (b : Bool) → (home n reps ≡ Some h → h.config ≡ c)
        → option_map (λ (x : Replica). x.range) (cond b (Some r) (replica_at n reps)) ≡ Some h → h.config ≡ c
    by_case true rest found = let same : r.range ≡ h = cc in sym (ap (λ (x : range.Store). x.config) same) ∙ are.0
    by_case false rest found = rest found

-- so are the rows that it offers
pub of_range : (h : range.Store) (c : Config) (m : RowMap) → m ≡ range.rows_now h → h.config ≡ c → IsOfRange c m
of_range h c m rows same = record {
  format = ap (λ (x : RowMap). x.format) rows ∙ ap (λ (x : Config). x.format) same;
  bits = ap (λ (x : RowMap). x.bits) rows ∙ ap (λ (x : Config). x.bits) same;
  range = ap (λ (x : RowMap). x.range) rows ∙ ap (λ (x : Config). x.range) same;
}

-- those that have accepted nothing are
pub of_made : (c : Config) (nodes : List ℕ) → AreOf c (map (λ n. record { node = n; range = empty_range c c.range; sessions = [] }) nodes)
of_made c [] = tt
of_made c (n ∷ nodes) = (refl, of_made c nodes)

-- so are those that a part of all was sent to
pub of_sent : (c : Config) (sent all : List Replica) (k : ℕ) → AreOf c sent → AreOf c all → AreOf c (take k (sent ++ drop (length sent) all))
of_sent c sent all k are rest =
    let is = λ (r : Replica). r.range.config ≡ c in
    all-take is (sent ++ drop (length sent) all) k (all-append is sent (drop (length sent) all) are (all-drop is all (length sent) rest))

-- ---- a loop that changes each element

-- the elements below i are changed
abbrev pub changed : {X : Type 0} → (X → X) → ℕ → List X → List X
changed f i xs = map f (take i xs) ++ drop i xs

pub changed_get : {X : Type 0} (f : X → X) (xs : List X) (i : ℕ) (d : X) → i < length xs → get_or (changed f i xs) i d ≡ get_or xs i d
changed_get f [] i d h = absurd (omega arith)
changed_get f (x ∷ xs) zero d h = refl
changed_get f (x ∷ xs) (suc i) d h = changed_get f xs i d (omega arith)

changed_suc : {X : Type 0} (f : X → X) (xs : List X) (i : ℕ) (y d : X) → i < length xs → y ≡ f (get_or xs i d)
    → set (changed f i xs) i y ≡ changed f (suc i) xs
changed_suc f [] i y d h e = absurd (omega arith)
changed_suc f (x ∷ xs) zero y d h e = ap (λ t. t ∷ xs) e
changed_suc f (x ∷ xs) (suc i) y d h e = ap (λ t. f x ∷ t) (changed_suc f xs i y d (omega arith) e)

pub changed_next : {X : Type 0} (f : X → X) (xs : List X) (i : ℕ) (y d : X) → i < length xs → y ≡ f (get_or xs i d)
    → set (changed f i xs) i y ≡ changed f (i + 1) xs
changed_next f xs i y d h e = rw (add-one) (changed_suc f xs i y d h e)

pub changed_length : {X : Type 0} (f : X → X) (xs : List X) (i : ℕ) → length (changed f i xs) ≡ length xs
changed_length f [] zero = refl
changed_length f [] (suc i) = refl
changed_length f (x ∷ xs) zero = refl
changed_length f (x ∷ xs) (suc i) = ap suc (changed_length f xs i)

-- ---- a loop that counts

one_more : {X : Type 0} (b : Bool) (x : X) (ys zs : List X) (n : ℕ) → length ys ≡ length zs + n
    → length (cond b (x ∷ ys) ys) ≡ length (cond b (x ∷ zs) zs) + n
one_more true x ys zs n e = omega (arith, e)
one_more false x ys zs n e = e

first_one : {X : Type 0} (b : Bool) (x : X) (none : List X) → none ≡ [] → length (cond b (x ∷ none) none) ≡ cond b 1 0
first_one true x none e = ap (λ t. suc (length t)) e
first_one false x none e = ap length e

counted_suc : {X : Type 0} (p : X → Bool) (xs : List X) (i : ℕ) (d : X) → i < length xs
    → length (filter p (take (suc i) xs)) ≡ length (filter p (take i xs)) + cond (p (get_or xs i d)) 1 0
counted_suc p [] i d h = absurd (omega arith)
counted_suc p (x ∷ xs) zero d h = omega (arith, first_one (p x) x [] refl)
counted_suc p (x ∷ xs) (suc i) d h = one_more (p x) x _ _ _ (counted_suc p xs i d (omega arith))

pub counted_more : {X : Type 0} (p : X → Bool) (xs : List X) (i : ℕ) (d : X) → i < length xs
    → length (filter p (take (i + 1) xs)) ≡ length (filter p (take i xs)) + cond (p (get_or xs i d)) 1 0
counted_more p xs i d h = rw (add-one) (counted_suc p xs i d h)

-- ---- the nodes of a preference list

all_append : {X : Type 0} (p : X → Bool) (xs ys : List X) → list_all p xs ≡ true → list_all p ys ≡ true → list_all p (xs ++ ys) ≡ true
all_append p [] ys a b = b
all_append p (x ∷ xs) ys a b = let parts = and_parts (p x) (list_all p xs) a in rw (parts.0) (all_append p xs ys parts.1 b)

all_take : {X : Type 0} (p : X → Bool) (k : ℕ) (xs : List X) → list_all p xs ≡ true → list_all p (take k xs) ≡ true
all_take p zero xs a = refl
all_take p (suc k) [] a = refl
all_take p (suc k) (x ∷ xs) a = let parts = and_parts (p x) (list_all p xs) a in rw (parts.0) (all_take p k xs parts.1)

all_drop : {X : Type 0} (p : X → Bool) (k : ℕ) (xs : List X) → list_all p xs ≡ true → list_all p (drop k xs) ≡ true
all_drop p zero xs a = a
all_drop p (suc k) [] a = refl
all_drop p (suc k) (x ∷ xs) a = all_drop p k xs (and_parts (p x) (list_all p xs) a).1

all_at : {X : Type 0} (p : X → Bool) (xs : List X) (i : ℕ) (x : X) → list_all p xs ≡ true → slice_get xs i ≡ Some x → p x ≡ true
all_at p [] i x a e = cc
all_at p (y ∷ xs) zero x a e = let same : y ≡ x = cc in subst (λ z. p z ≡ true) same (and_parts (p y) (list_all p xs) a).0
all_at p (y ∷ xs) (suc i) x a e = all_at p xs i x (and_parts (p y) (list_all p xs) a).1 e

-- the nodes of a ring are nodes
are_nodes : (ring : Places) → IsTrue (is_ring ring) → list_all is_node_number ring.nodes ≡ true
are_nodes ring valid = grind (arith, nat_tests, valid)

-- a node of a preference list is at least 1
pub node_some : (ring : Places) (r i n : ℕ) → IsTrue (is_ring ring) → slice_get (preference_list ring.nodes r) i ≡ Some n → 1 ≤ n
node_some ring r i n valid e =
    let nodes = are_nodes ring valid in
    let k = r % length ring.nodes in
    let all = all_append is_node_number (drop k ring.nodes) (take k ring.nodes) (all_drop is_node_number k ring.nodes nodes)
    (all_take is_node_number k ring.nodes nodes) in
    let here : is_node_number n ≡ true = all_at is_node_number (preference_list ring.nodes r) i n all e in
    grind (arith, nat_tests, here)

-- one more of the list was mapped
mapped_suc : {X : Type 0} (f : ℕ → X) (xs : List ℕ) (i x : ℕ) → slice_get xs i ≡ Some x → map f (take i xs) ++ f x ∷ [] ≡ map f (take (suc i) xs)
mapped_suc f [] i x e = cc
mapped_suc f (y ∷ xs) zero x e = let same : y ≡ x = cc in ap (λ z. f z ∷ []) (sym same)
mapped_suc f (y ∷ xs) (suc i) x e = ap (λ t. f y ∷ t) (mapped_suc f xs i x e)

pub mapped_next : {X : Type 0} (f : ℕ → X) (xs : List ℕ) (i x : ℕ) → slice_get xs i ≡ Some x → map f (take i xs) ++ f x ∷ [] ≡ map f (take (i + 1) xs)
mapped_next f xs i x e = rw (add-one) (mapped_suc f xs i x e)

pub made_length : {X : Type 0} (f : ℕ → X) (n : ℕ) → length (map f (range_with_len 0 n)) ≡ n
made_length f n = length-map (range_with_len 0 n) f ∙ length-range_with_len 0 n

-- the numbers up to n, and then n
one_suc : (a n j : ℕ) → a + n ≡ j → range_with_len a (suc n) ≡ range_with_len a n ++ j ∷ []
one_suc a zero j e = let same : a ≡ j = omega (arith, e) in ap (λ k. k ∷ []) same
one_suc a (suc n) j e = ap (λ l. a ∷ l) (one_suc (a + 1) n j (omega (arith, e)))

pub made_next : {X : Type 0} (f : ℕ → X) (n : ℕ) → map f (range_with_len 0 n) ++ f n ∷ [] ≡ map f (range_with_len 0 (n + 1))
made_next f n = rw (add-one) (sym (ap (map f) (one_suc 0 n n (omega arith)) ∙ map_push f (range_with_len 0 n) n))

-- a test as a number
pub byte_is : (b : Bool) → bool_byte b ≡ cond b 1 0
byte_is true = refl
byte_is false = refl

pub byte-le : (b : Bool) → bool_byte b ≤ 1
byte-le true = omega arith
byte-le false = omega arith

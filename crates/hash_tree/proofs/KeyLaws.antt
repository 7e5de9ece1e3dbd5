-- The order of keys, and rows that ascend by it.
use Rattle.std.proofs.Common.{◌≡◌, ℕ, zero, suc, ◌<◌, List, [], ◌∷◌, length, get_or, refl, ap, ◌∙◌, arith}
use Rattle.std.specs.List.{AllByRecursion}
use Rattle.std.specs.declared.cmp.Ordering.{Ordering}
use Rattle.std.specs.declared.cmp.Ordering.TheVariants.{Less, Equal, Greater}
use Rattle.std.specs.Ordering.{ordering_reverse}
use Rattle.std.specs.FinMap.{slice_cmp-IsAntisymmetric, nat_cmp-IsAntisymmetric}
use Rattle.std.proofs.lemmas.Cmp.{nat_list_cmp_total}
use Rattle.version_set.specs.declared.version.Version.{Version}
use Rattle.version_set.specs.Order.{place_by}
use Rattle.version_set.specs.Version.{offered}
use Rattle.row_bytes.specs.declared.row.Row.{Row}
use Rattle.hash_tree.specs.Leaves.{key_cmp, AscendByKey, with_offer}

pub key_exact : (a b : List ℕ) → key_cmp a b ≡ Equal → a ≡ b
key_exact a b e = slice_cmp-IsAntisymmetric nat_cmp-IsAntisymmetric a b e

-- the other way round
pub turned : (a b : List ℕ) (o : Ordering) → key_cmp a b ≡ o → key_cmp b a ≡ ordering_reverse o
turned a b o e = nat_list_cmp_total.antisymm b a ∙ ap ordering_reverse e

pub same_key : (k : List ℕ) → key_cmp k k ≡ Equal
same_key k = fixed (key_cmp k k) (nat_list_cmp_total.antisymm k k)
  where
    fixed : (o : Ordering) → o ≡ ordering_reverse o → o ≡ Equal
    fixed Less e = absurd (cc)
    fixed Equal e = refl
    fixed Greater e = absurd (cc)

pub less_trans : (a b c : List ℕ) → key_cmp a b ≡ Less → key_cmp b c ≡ Less → key_cmp a c ≡ Less
less_trans a b c = nat_list_cmp_total.trans a b c

pub all_get : {X : Type 0} (P : X → Type 0) (xs : List X) (i : ℕ) (d : X) → AllByRecursion P xs → i < length xs → P (get_or xs i d)
all_get P [] i d all h = absurd (omega arith)
all_get P (x ∷ xs) zero d all h = all.0
all_get P (x ∷ xs) (suc i) d all h = all_get P xs i d all.1 (omega arith)

-- what is greater than b is greater than what is less than b
pub less_rows : (k x : List ℕ) (rows : List Row) → key_cmp k x ≡ Less → AllByRecursion (λ (y : Row). key_cmp x y.key ≡ Less) rows
    → AllByRecursion (λ (y : Row). key_cmp k y.key ≡ Less) rows
less_rows k x [] h all = tt
less_rows k x (y ∷ rows) h all = (less_trans k x y.key h all.0, less_rows k x rows h all.1)

-- of two rows the earlier one has the lesser key
pub ascend_pair : (rows : List Row) (i j : ℕ) (d : Row) → AscendByKey rows → i < j → j < length rows
    → key_cmp (get_or rows i d).key (get_or rows j d).key ≡ Less
ascend_pair [] i j d a less within = absurd (omega arith)
ascend_pair (r ∷ rows) i zero d a less within = absurd (omega arith)
ascend_pair (r ∷ rows) zero (suc j) d a less within = all_get (λ (x : Row). key_cmp r.key x.key ≡ Less) rows j d a.0 (omega arith)
ascend_pair (r ∷ rows) (suc i) (suc j) d a less within = ascend_pair rows i j d a.1 (omega arith) (omega arith)

-- rows with keys over x keep them at an offer of such a key
all_offered : (x k : List ℕ) (v : Version) (rows : List Row) → key_cmp x k ≡ Less → AllByRecursion (λ (y : Row). key_cmp x y.key ≡ Less) rows
    → AllByRecursion (λ (y : Row). key_cmp x y.key ≡ Less) (with_offer k v rows)
all_offered x k v [] h all = (h, tt)
all_offered x k v (r ∷ rows) h all =
    elim (key_cmp k r.key) as
    (λ o. AllByRecursion (λ (y : Row). key_cmp x y.key ≡ Less)
    (place_by o (record { key = k; versions = offered v [] } ∷ r ∷ rows) (record { key = r.key; versions = offered v r.versions } ∷ rows)
    (r ∷ with_offer k v rows))) [
      | Less ↦ (h, all)
      | Equal ↦ all
      | Greater ↦ (all.0, all_offered x k v rows h all.1)
    ]

-- Rows still ascend after an offer.
pub AscendByKey-with_offer : (k : List ℕ) (v : Version) (rows : List Row) → AscendByKey rows → AscendByKey (with_offer k v rows)
AscendByKey-with_offer k v [] a = (tt, tt)
AscendByKey-with_offer k v (r ∷ rows) a =
    elim (key_cmp k r.key) as
    (λ o. key_cmp k r.key ≡ o
    → AscendByKey (place_by o (record { key = k; versions = offered v [] } ∷ r ∷ rows)
    (record { key = r.key; versions = offered v r.versions } ∷ rows) (r ∷ with_offer k v rows))) [
      | Less ↦ λ o. ((o, less_rows k r.key rows o a.0), a)
      | Equal ↦ λ o. a
      | Greater ↦ λ o. (all_offered r.key k v rows (turned k r.key Greater o) a.0, AscendByKey-with_offer k v rows a.1)
    ] refl

-- What is held of entries, key by key, and what rows have of it.
use Rattle.std.proofs.Common.{◌≡◌, ℕ, Bool, true, false, cond, List, [], ◌∷◌, ◌++◌, refl, sym, ap, ◌∙◌, ◌||◌}
use Rattle.std.specs.Prelude.{nat_eq}
use Rattle.std.specs.List.{AllByRecursion}
use Rattle.std.specs.Cmp.Lexicographic.{pointwise}
use Rattle.std.proofs.lemmas.Bool.{or_left}
use Rattle.std.proofs.lemmas.List.Folds.{list_any-append}
use Rattle.version_set.specs.declared.version.Version.{Version}
use Rattle.version_set.specs.Version.{covered, is_same, is_below}
use Rattle.range_journal.specs.declared.journal.Entry.{Entry}
use Rattle.range_journal.specs.Journal.{held, versions_of}
use Rattle.range_journal.proofs.JournalLaws.{covered-held}
use Rattle.std.proofs.Common.{◌≡◌, ℕ, Bool, true, false, List, [], ◌∷◌, ◌++◌, map, refl, sym, ap, subst, ◌∙◌, arith}
use Rattle.std.specs.Prelude.{◌||◌}
use Rattle.std.specs.List.{AllByRecursion}
use Rattle.std.specs.Ordering.{is_eq}
use Rattle.std.proofs.lemmas.Bool.{or_left, or_right, both_ways}
use Rattle.std.proofs.lemmas.Cmp.{tied_itself}
use Rattle.version_set.specs.Version.{covered, is_same}
use Rattle.version_set.proofs.SetLaws.{version_total}
use Rattle.range_journal.specs.Journal.{held}
use Rattle.std.proofs.Common.{◌≡◌, ℕ, arith, Bool, true, false, cond, not, Decides, List, [], ◌∷◌, ◌++◌, map, refl, ap, sym, subst, ◌∙◌, ◌||◌, ◌&&◌}
use Rattle.std.proofs.lemmas.Bool.{both_ways, or_left, eqb-true}
use Rattle.std.proofs.lemmas.Bool.Decides.{nat_tests}
use Rattle.std.proofs.lemmas.Slice.Eq.{bytes_eq-Decides}
use Rattle.std.specs.List.{list_any, AllByRecursion}
use Rattle.std.specs.Cmp.Lexicographic.{pointwise, texts_ties}
use Rattle.std.specs.Ordering.{ordering_reverse}
use Rattle.std.specs.declared.cmp.Ordering.TheVariants.{Less, Equal, Greater}
use Rattle.version_set.specs.Order.{place_by}
use Rattle.version_set.specs.Version.{covered, maximal, is_same, version_cmp, set_from, Ascends}
use Rattle.version_set.proofs.SetLaws.{version_total, version_exact, maximal-maximal, any-set_from}
use Rattle.version_set.proofs.ListLaws.{less_all, Pairwise-filter}
use Rattle.range_journal.specs.Journal.{held, accepted, versions_of}
use Rattle.range_journal.proofs.JournalLaws.{Ascends-set_from}
use Rattle.row_bytes.specs.declared.row.Row.{Row}
use Rattle.hash_tree.specs.Leaves.{key_cmp, AscendByKey, rows_in_leaf, versions_in}
use Rattle.hash_tree.proofs.KeyLaws.{key_exact, turned, less_rows}
use Rattle.range_store.specs.Offers.{offers_in, offers_of}
use Rattle.range_store.proofs.BatchLaws.{Offers}

-- ---- lists

-- what holds of each element, and what follows from it
pub All-weaker : {X : Type 0} (P Q : X → Type 0) (xs : List X) → ((x : X) → P x → Q x) → AllByRecursion P xs → AllByRecursion Q xs
All-weaker P Q [] f all = tt
All-weaker P Q (x ∷ xs) f all = (f x all.0, All-weaker P Q xs f all.1)

-- ---- what is covered stays so

versions_of-append : (es fs : List Entry) (key : List ℕ) → versions_of (es ++ fs) key ≡ versions_of es key ++ versions_of fs key
versions_of-append [] fs key = refl
versions_of-append (e ∷ es) fs key = by_key (pointwise nat_eq e.key key) e.version _ _ _ (versions_of-append es fs key)
  where
    by_key : (b : Bool) (v : Version) (xs ys zs : List Version) → xs ≡ ys ++ zs → cond b (v ∷ xs) xs ≡ cond b (v ∷ ys) ys ++ zs
    by_key true v xs ys zs e = ap (λ (t : List Version). v ∷ t) e
    by_key false v xs ys zs e = e

-- what is covered stays so, whatever is accepted later
pub grows : (es fs : List Entry) (v : Version) (key : List ℕ) → covered v (held es key) ≡ true → covered v (held (es ++ fs) key) ≡ true
grows es fs v key h =
    let before : covered v (versions_of es key) ≡ true = sym (covered-held v es key) ∙ h in
    covered-held v (es ++ fs) key ∙ ap (covered v) (versions_of-append es fs key)
    ∙ list_any-append (λ (w : Version). is_same v w || is_below v w) (versions_of es key) (versions_of fs key)
    ∙ or_left (covered v (versions_of es key)) (covered v (versions_of fs key)) before

-- ---- what is held covers itself

pub covered-itself : (v : Version) → is_same v v ≡ true
covered-itself v = ap is_eq (tied_itself version_total v)

pub itself : (S : List Version) → AllByRecursion (λ v. covered v S ≡ true) S
itself [] = tt
itself (v ∷ S) = (
  or_left _ _ (or_left _ _ (covered-itself v)),
  All-weaker (λ w. covered w S ≡ true) (λ w. covered w (v ∷ S) ≡ true) S (λ w h. or_right _ _ h) (itself S),
)

-- ---- ascending sets are known by their members

no_same : (v : Version) (S : List Version) → AllByRecursion (λ w. version_cmp v w ≡ Less) S → list_any (is_same v) S ≡ false
no_same v [] all = refl
no_same v (w ∷ S) all = rw all.0 (no_same v S all.1)

pub has_first : (v : Version) (S : List Version) → list_any (is_same v) (v ∷ S) ≡ true
has_first v S = or_left (is_same v v) (list_any (is_same v) S) (covered-itself v)

-- a test that passes over one version
abbrev but : (Version → Bool) → Version → Version → Bool
but p v w = p w && not (is_same v w)

but_none : (p : Version → Bool) (v : Version) (S : List Version) → AllByRecursion (λ w. version_cmp v w ≡ Less) S
    → list_any (but p v) S ≡ list_any p S
but_none p v [] all = refl
but_none p v (w ∷ S) all = rw (all.0, but_none p v S all.1) (ap (λ b. b || list_any p S) (and_true (p w)))
  where
    and_true : (b : Bool) → (b && true) ≡ b
    and_true true = refl
    and_true false = refl

but_first : (p : Version → Bool) (v : Version) (S : List Version) → list_any (but p v) (v ∷ S) ≡ list_any (but p v) S
but_first p v S = ap (λ b. b || list_any (but p v) S) (no_more (p v) (is_same v v) (covered-itself v))
  where
    no_more : (a b : Bool) → b ≡ true → (a && not b) ≡ false
    no_more true true e = refl
    no_more true false e = cc
    no_more false b e = refl

-- Two ascending sets with the same members are equal.
pub same_sets : (S T : List Version) → Ascends S → Ascends T → ((p : Version → Bool) → list_any p S ≡ list_any p T) → S ≡ T
same_sets [] [] a b h = refl
same_sets [] (w ∷ T) a b h = absurd (let clash : false ≡ true = h (λ x. true) in cc)
same_sets (v ∷ S) [] a b h = absurd (let clash : true ≡ false = h (λ x. true) in cc)
same_sets (v ∷ S) (w ∷ T) a b h =
    elim (version_cmp v w) as (λ o. version_cmp v w ≡ o → v ∷ S ≡ w ∷ T) [
      | Less ↦ λ o. absurd (both_ways (list_any (is_same v) (w ∷ T)) (no_same v (w ∷ T) (o, less_all version_cmp version_total v w T o b.0))
          (sym (h (is_same v)) ∙ has_first v S))
      | Equal ↦ λ o.
          let same : v ≡ w = version_exact v w o in
          let above = subst (λ (x : Version). AllByRecursion (λ y. version_cmp x y ≡ Less) T) (sym same) b.0 in
          let tails = λ (p : Version → Bool).
          sym (but_none p v S a.0)
          ∙ sym (but_first p v S)
          ∙ (h (but p v) ∙ ap (λ (x : Version). list_any (but p v) (x ∷ T)) (sym same))
          ∙ but_first p v T
          ∙ but_none p v T above in
          λ i. same i ∷ same_sets S T a.1 b.1 tails i
      | Greater ↦ λ o.
          let less : version_cmp w v ≡ Less = version_total.antisymm w v ∙ ap ordering_reverse o in
          absurd (both_ways (list_any (is_same w) (v ∷ S)) (no_same w (v ∷ S) (less, less_all version_cmp version_total w v S less a.0))
          (h (is_same w) ∙ has_first w T))
    ] refl

-- ---- unions

pub or_swap : (a b : Bool) → (a || b) ≡ (b || a)
or_swap true true = refl
or_swap true false = refl
or_swap false true = refl
or_swap false false = refl

pub any_listed : (p : Version → Bool) (vs : List Version) → list_any p (set_from [] vs) ≡ list_any p vs
any_listed p vs = any-set_from p [] vs ∙ or_swap (list_any p vs) false

pub held-Ascends : (es : List Entry) (key : List ℕ) → Ascends (held es key)
held-Ascends es key = Pairwise-filter (λ v w. version_cmp v w ≡ Less) _ (accepted es key) (Ascends-set_from [] (versions_of es key) tt)

pub held_own : (es : List Entry) (key : List ℕ) → maximal (held es key) ≡ held es key
held_own es key = maximal-maximal (accepted es key)

-- ---- offers of one key

-- the versions that are offered for a key
abbrev pub offers_for : List ℕ → Offers → List Version
offers_for key [] = []
offers_for key (o ∷ offers) = cond (pointwise nat_eq o.0 key) (o.1 ∷ offers_for key offers) (offers_for key offers)

-- ---- the offers of rows

pub offers_for-append : (key : List ℕ) (xs ys : Offers) → offers_for key (xs ++ ys) ≡ offers_for key xs ++ offers_for key ys
offers_for-append key [] ys = refl
offers_for-append key (x ∷ xs) ys = by_key (pointwise nat_eq x.0 key) (offers_for-append key xs ys)
  where
    by_key : (b : Bool) → offers_for key (xs ++ ys) ≡ offers_for key xs ++ offers_for key ys
        → cond b (x.1 ∷ offers_for key (xs ++ ys)) (offers_for key (xs ++ ys)) ≡ cond b (x.1 ∷ offers_for key xs)
        (offers_for key xs) ++ offers_for key ys
    by_key true e = ap (λ (vs : List Version). x.1 ∷ vs) e
    by_key false e = e

of_key : (key k : List ℕ) (vs : List Version) → pointwise nat_eq k key ≡ true → offers_for key (map (λ (v : Version). (k, v)) vs) ≡ vs
of_key key k [] is = refl
of_key key k (v ∷ vs) is = rw is (ap (λ (ws : List Version). v ∷ ws) (of_key key k vs is))

of_other : (key k : List ℕ) (vs : List Version) → pointwise nat_eq k key ≡ false → offers_for key (map (λ (v : Version). (k, v)) vs) ≡ []
of_other key k [] is = refl
of_other key k (v ∷ vs) is = rw is (of_other key k vs is)

pub none_of : (key : List ℕ) (rows : List Row) → AllByRecursion (λ (r : Row). pointwise nat_eq r.key key ≡ false) rows
    → offers_for key (offers_of rows) ≡ []
none_of key [] all = refl
none_of key (r ∷ rows) all =
    offers_for-append key (offers_in r) (offers_of rows)
    ∙ (λ i. of_other key r.key r.versions all.0 i ++ none_of key rows all.1 i)

less_apart : (key k : List ℕ) → key_cmp key k ≡ Less → pointwise nat_eq k key ≡ false
less_apart key k h = rw (texts_ties k key, turned key k Less h) refl

all_apart : (key : List ℕ) (rows : List Row) → AllByRecursion (λ (r : Row). key_cmp key r.key ≡ Less) rows
    → AllByRecursion (λ (r : Row). pointwise nat_eq r.key key ≡ false) rows
all_apart key [] all = tt
all_apart key (r ∷ rows) all = (less_apart key r.key all.0, all_apart key rows all.1)

append_none : (vs : List Version) → vs ++ [] ≡ vs
append_none [] = refl
append_none (v ∷ vs) = ap (λ (ws : List Version). v ∷ ws) (append_none vs)

-- the offers that rows make for a key are the versions that they have for it
pub for_rows : (key : List ℕ) (rows : List Row) → AscendByKey rows → offers_for key (offers_of rows) ≡ versions_in key rows
for_rows key [] a = refl
for_rows key (r ∷ rows) a =
    offers_for-append key (offers_in r) (offers_of rows)
    ∙ elim (key_cmp key r.key) as
    (λ o. key_cmp key r.key ≡ o
    → offers_for key (offers_in r) ++ offers_for key (offers_of rows) ≡ place_by o [] r.versions (versions_in key rows)) [
      | Less ↦ λ o. (λ i. of_other key r.key r.versions (less_apart key r.key o) i ++ none_of key rows
          (all_apart key rows (less_rows key r.key rows o a.0)) i)
      | Equal ↦ λ o.
          let same : key ≡ r.key = key_exact key r.key o in
          let above = subst (λ (k : List ℕ). AllByRecursion (λ (x : Row). key_cmp k x.key ≡ Less) rows) (sym same) a.0 in
          let here : pointwise nat_eq r.key key ≡ true = (bytes_eq-Decides r.key key).1 (sym same) in
          (λ i. of_key key r.key r.versions here i ++ none_of key rows (all_apart key rows above) i) ∙ append_none r.versions
      | Greater ↦ λ o.
          let apart : pointwise nat_eq r.key key ≡ false = rw (texts_ties r.key key, turned key r.key Greater o) refl in
          (λ i. of_other key r.key r.versions apart i ++ for_rows key rows a.1 i)
    ] refl

-- a leaf that is not the key's offers nothing for it
pub other_leaf : (leaf : List ℕ → ℕ) (i : ℕ) (key : List ℕ) (rows : List Row) → nat_eq i (leaf key) ≡ false
    → AllByRecursion (λ (r : Row). pointwise nat_eq r.key key ≡ false) (rows_in_leaf leaf i rows)
other_leaf leaf i key [] away = tt
other_leaf leaf i key (r ∷ rows) away = by_leaf (nat_eq (leaf r.key) i) refl (other_leaf leaf i key rows away)
  where
    apart : nat_eq (leaf r.key) i ≡ true → (b : Bool) → Decides b (r.key ≡ key) → b ≡ false
    apart here true is = absurd
        (both_ways (nat_eq i (leaf key)) away (ap (λ (n : ℕ). nat_eq n (leaf key)) (sym (eqb-true (leaf r.key) i here))
        ∙ ap (λ (k : List ℕ). nat_eq (leaf r.key) (leaf k)) (sym (is.0 refl)) ∙ itself (leaf r.key)))
      where
        itself : (n : ℕ) → nat_eq n n ≡ true
        itself n = grind (arith, nat_tests)
    apart here false is = refl

    by_leaf : (b : Bool) → nat_eq (leaf r.key) i ≡ b → AllByRecursion (λ (x : Row). pointwise nat_eq x.key key ≡ false) (rows_in_leaf leaf i rows)
        → AllByRecursion (λ (x : Row). pointwise nat_eq x.key key ≡ false) (cond b (r ∷ rows_in_leaf leaf i rows) (rows_in_leaf leaf i rows))
    by_leaf true here all = (apart here (pointwise nat_eq r.key key) (bytes_eq-Decides r.key key), all)
    by_leaf false there all = all

-- Ranges that begin with the versions that others hold.
use Rattle.std.proofs.Common.{◌≡◌, ℕ, zero, suc, ◌+◌, ◌-◌, ◌<◌, ◌≤◌, Bool, true, false, cond, not, Some, None, List, [], ◌∷◌, ◌++◌, length, map}
use Rattle.std.proofs.Common.{take, refl, sym, ap, subst, ◌∙◌, arith, inl, inr, append_assoc, append-nil}
use Rattle.std.specs.Prelude.{nat_eq, min, IsTrue}
use Rattle.std.specs.List.{filter, flat_map, list_any, range_with_len, AllByRecursion}
use Rattle.std.specs.Cmp.Lexicographic.{pointwise}
use Rattle.std.specs.Ordering.{ordering_reverse, is_eq}
use Rattle.std.specs.declared.cmp.Ordering.TheVariants.{Less, Equal, Greater}
use Rattle.std.proofs.lemmas.Bool.{cases_eq, cases_lt, cases_Bool, or_parts, and_parts, eqb-true, leb-true}
use Rattle.std.proofs.lemmas.Bool.Decides.{nat_tests}
use Rattle.std.proofs.lemmas.Grind.{flat_map-append}
use Rattle.std.proofs.lemmas.List.{length-append, length-map, length-take, take_all, take-take}
use Rattle.std.proofs.lemmas.List.Folds.{list_any-append}
use Rattle.std.proofs.lemmas.Slice.Eq.{bytes_eq-Decides}
use Rattle.vclock.specs.Bytes.{key_fault}
use Rattle.vclock.specs.declared.refusal.Refusal.TheVariants.{BadRing}
use Rattle.version_set.specs.Kind.{value_fault}
use Rattle.version_set.specs.Order.{place_by}
use Rattle.version_set.specs.Version.{covered, is_below, is_same, offered, maximal, set_from, version_cmp, with_version, Ascends}
use Rattle.version_set.specs.declared.version.Version.{Version}
use Rattle.version_set.proofs.ListLaws.{all-append, all-filter, all-inner, Pairwise-filter}
use Rattle.version_set.proofs.SetLaws.{version_total, length-with_version}
use Rattle.range_journal.specs.declared.journal.Entry.{Entry}
use Rattle.range_journal.specs.declared.journal.Source.TheVariants.{Copy}
use Rattle.range_journal.specs.Journal.{held, versions_of, AreNews, AreNewsAfter, NeverCrowded}
use Rattle.range_journal.specs.Log.{Log}
use Rattle.range_journal.proofs.JournalLaws.{Ascends-set_from, versions_of-push}
use Rattle.key_ring.specs.Places.{range_at, leaf_at}
use Rattle.row_bytes.specs.Rows.{IsRow}
use Rattle.row_bytes.specs.declared.row.Row.{Row}
use Rattle.row_bytes.proofs.RowSetLaws.{row_fits}
use Rattle.hash_tree.specs.Leaves.{key_cmp, AscendByKey, rows_in_leaf, versions_in, with_offer}
use Rattle.hash_tree.specs.Texts.{IsTreeFor}
use Rattle.hash_tree.proofs.ChunkLaws.{all-take}
use Rattle.hash_tree.proofs.LeafLaws.{versions_in-rows_at}
use Rattle.snapshot.specs.RowMaps.{RowMap}
use Rattle.range_tree.specs.Trees.{RangeTree, IsRangeTree}
use Rattle.range_tree.specs.Trees as trees
use Rattle.range_store.specs.Config.{Config, is_config}
use Rattle.range_store.specs.Rows.{rows_of}
use Rattle.range_store.specs.Store.{Store, leaf_in, leaf_count, rows_now, tree_in, tree_of, IsOwn, IsSound}
use Rattle.range_store.specs.Offers.{offers_in, offers_of}
use Rattle.range_store.specs.Renewals.{IsOfConfig, copies_from, by_leaf, offers_by_leaf, held_offers, config_to, renewed_by, short_fault}
use Rattle.range_store.specs.Renewals.{renew_fault, with_copies, limit_fault, Basis, IsBasis, begun_by, basis_fault}
use Rattle.range_store.proofs.BatchLaws.{Offers}
use Rattle.range_store.proofs.OfferLaws.{row_map_now}
use Rattle.range_store.proofs.SameRowLaws.{same_rows}
use Rattle.range_store.proofs.RowLaws.{rows_of-ascend, rows_of-push, versions_in-rows_of}
use Rattle.range_store.proofs.StoreLaws.{leaf_below}
use Rattle.range_store.proofs.HeldLaws.{same_sets, any_listed, held-Ascends, held_own, offers_for, offers_for-append, none_of, for_rows, other_leaf}

-- ---- copies

-- a copy of a key and version
abbrev copy : ℕ → ℕ → List ℕ × Version → Entry
copy n seat o = record { number = n; seat = seat; source = Copy; key = o.0; version = o.1 }

pub copies-append : (n seat : ℕ) (xs ys : Offers) → copies_from n seat (xs ++ ys) ≡ copies_from n seat xs ++ copies_from (n + length xs) seat ys
copies-append n seat [] ys = let same : n ≡ n + 0 = omega arith in ap (λ m. copies_from m seat ys) same
copies-append n seat (x ∷ xs) ys =
    let same : n + 1 + length xs ≡ n + length (x ∷ xs) = omega arith in
    ap (λ es. copy n seat x ∷ es) (copies-append (n + 1) seat xs ys ∙ ap (λ m. copies_from (n + 1) seat xs ++ copies_from m seat ys) same)

pub length-copies : (n seat : ℕ) (os : Offers) → length (copies_from n seat os) ≡ length os
length-copies n seat [] = refl
length-copies n seat (o ∷ os) = ap suc (length-copies (n + 1) seat os)

copies_take : (n seat k : ℕ) (os : Offers) → take k (copies_from n seat os) ≡ copies_from n seat (take k os)
copies_take n seat zero os = refl
copies_take n seat (suc k) [] = refl
copies_take n seat (suc k) (o ∷ os) = ap (λ es. copy n seat o ∷ es) (copies_take (n + 1) seat k os)

-- the versions of a key among copies are those that were offered for it
copies_of : (n seat : ℕ) (os : Offers) (key : List ℕ) → versions_of (copies_from n seat os) key ≡ offers_for key os
copies_of n seat [] key = refl
copies_of n seat (o ∷ os) key = ap (λ (vs : List Version). cond (pointwise nat_eq o.0 key) (o.1 ∷ vs) vs) (copies_of (n + 1) seat os key)

-- ---- journals

pub with_copies_of : (log : Log) (seat : ℕ) (xs ys all : Offers) → all ≡ xs ++ ys
    → with_copies (with_copies log seat xs) seat ys ≡ with_copies log seat all
with_copies_of log seat xs ys all is =
    let n = length log.entries in
    let long : length (log.entries ++ copies_from n seat xs) ≡ n + length xs = omega
    (arith, length-append log.entries (copies_from n seat xs), length-copies n seat xs) in
    let entries : (log.entries ++ copies_from n seat xs) ++ copies_from
    (length (log.entries ++ copies_from n seat xs)) seat ys ≡ log.entries ++ copies_from n seat (xs ++ ys) =
    ap (λ m. (log.entries ++ copies_from n seat xs) ++ copies_from m seat ys) long
    ∙ append_assoc log.entries (copies_from n seat xs) (copies_from (n + length xs) seat ys)
    ∙ ap (λ (es : List Entry). log.entries ++ es) (sym (copies-append n seat xs ys)) in
    let room : (log.room - length xs) - length ys ≡ log.room - length (xs ++ ys) = omega (arith, length-append xs ys) in
    (λ i. record { entries = entries i; limit = log.limit; room = room i }) ∙ ap (with_copies log seat) (sym is)

pub with_none : (log : Log) (seat : ℕ) → with_copies log seat [] ≡ log
with_none log seat =
    let room : log.room - 0 ≡ log.room = omega arith in
    λ i. record { entries = append-nil log.entries i; limit = log.limit; room = room i }

-- ---- leaves

-- the rows of the leaves from a number on
abbrev pub leaves_from : (List ℕ → ℕ) → List Row → ℕ → ℕ → List Row
leaves_from leaf rows from n = flat_map (λ i. rows_in_leaf leaf i rows) (range_with_len from n)

pub offers-append : (xs ys : List Row) → offers_of (xs ++ ys) ≡ offers_of xs ++ offers_of ys
offers-append xs ys = flat_map-append offers_in xs ys

-- the rows of a leaf have it
pub leaf_filter : (leaf : List ℕ → ℕ) (i : ℕ) (rows : List Row) → AllByRecursion (λ (r : Row). leaf r.key ≡ i) (rows_in_leaf leaf i rows)
leaf_filter leaf i [] = tt
leaf_filter leaf i (r ∷ rows) = by_test (nat_eq (leaf r.key) i) refl (leaf_filter leaf i rows)
  where
    by_test : (b : Bool) → nat_eq (leaf r.key) i ≡ b → AllByRecursion (λ (x : Row). leaf x.key ≡ i) (rows_in_leaf leaf i rows)
        → AllByRecursion (λ (x : Row). leaf x.key ≡ i) (cond b (r ∷ rows_in_leaf leaf i rows) (rows_in_leaf leaf i rows))
    by_test true e rest = (eqb-true (leaf r.key) i e, rest)
    by_test false e rest = rest

-- a leaf that is not the key's
none_here : (leaf : List ℕ → ℕ) (key : List ℕ) (rows : List Row) (i : ℕ) → (i ≡ leaf key → ⊥)
    → offers_for key (offers_of (rows_in_leaf leaf i rows)) ≡ []
none_here leaf key rows i apart = none_of key (rows_in_leaf leaf i rows) (other_leaf leaf i key rows (away i (leaf key) apart))
  where
    away : (m n : ℕ) → (m ≡ n → ⊥) → nat_eq m n ≡ false
    away m n ne = elim (cases_Bool (nat_eq m n)) [ inl e ↦ absurd (ne (eqb-true m n e)) | inr f ↦ f ]

-- leaves after the key's offer nothing for it
none_after : (leaf : List ℕ → ℕ) (key : List ℕ) (rows : List Row) (from n : ℕ) → leaf key < from
    → offers_for key (offers_of (leaves_from leaf rows from n)) ≡ []
none_after leaf key rows from zero later = refl
none_after leaf key rows from (suc n) later =
    ap (offers_for key) (offers-append (rows_in_leaf leaf from rows) (leaves_from leaf rows (from + 1) n))
    ∙ offers_for-append key (offers_of (rows_in_leaf leaf from rows)) (offers_of (leaves_from leaf rows (from + 1) n))
    ∙ (λ i. none_here leaf key rows from (λ e. absurd (omega (arith, e, later))) i ++ none_after leaf key rows (from + 1) n (omega (arith, later)) i)

-- leaves with the key's among them offer for it what the rows have
all_within : (leaf : List ℕ → ℕ) (key : List ℕ) (rows : List Row) (from n : ℕ) → AscendByKey rows → from ≤ leaf key → leaf key < from + n
    → offers_for key (offers_of (leaves_from leaf rows from n)) ≡ versions_in key rows
all_within leaf key rows from zero a low high = absurd (omega (arith, low, high))
all_within leaf key rows from (suc n) a low high =
    ap (offers_for key) (offers-append (rows_in_leaf leaf from rows) (leaves_from leaf rows (from + 1) n))
    ∙ offers_for-append key (offers_of (rows_in_leaf leaf from rows)) (offers_of (leaves_from leaf rows (from + 1) n))
    ∙ elim (cases_eq from (leaf key)) [
      | inl here ↦
          let first : offers_for key (offers_of (rows_in_leaf leaf from rows)) ≡ versions_in key rows =
          for_rows key (rows_in_leaf leaf from rows) (Pairwise-filter (λ (r x : Row). key_cmp r.key x.key ≡ Less) _ rows a)
          ∙ ap (λ (i : ℕ). versions_in key (rows_in_leaf leaf i rows)) here
          ∙ versions_in-rows_at leaf key rows a in
          (λ i. first i ++ none_after leaf key rows (from + 1) n (omega (arith, here)) i) ∙ append-nil (versions_in key rows)
      | inr apart ↦
          (λ i. none_here leaf key rows from apart i ++ all_within leaf key rows (from + 1) n a (after apart) (omega (arith, high)) i)
    ]
  where
    after : (from ≡ leaf key → ⊥) → from + 1 ≤ leaf key
    after apart = elim (cases_lt from (leaf key)) [ inl less ↦ omega (arith, less) | inr more ↦ absurd (apart (omega (arith, low, more))) ]

-- ---- what is held

-- what is offered for a key is what is held for it
pub listed_held : (s : Store) (key : List ℕ) → offers_for key (held_offers s) ≡ held s.entries key
listed_held s key =
    all_within (leaf_in s.config) key (rows_of s.entries) 0 (leaf_count s.config) (rows_of-ascend s.entries) (omega arith)
    (omega (arith, leaf_below s.config key))
    ∙ versions_in-rows_of s.entries key

-- an ascending set is in order
listed_itself : (S : List Version) → Ascends S → set_from [] S ≡ S
listed_itself S a = same_sets (set_from [] S) S (Ascends-set_from [] S tt) a (λ p. any_listed p S)

-- A renewed range holds what the old one holds.
pub renewed_holds : (s : Store) (seat : ℕ) (key : List ℕ) → held (copies_from 0 seat (held_offers s)) key ≡ held s.entries key
renewed_holds s seat key =
    ap (λ (vs : List Version). maximal (set_from [] vs)) (copies_of 0 seat (held_offers s) key ∙ listed_held s key)
    ∙ ap maximal (listed_itself (held s.entries key) (held-Ascends s.entries key))
    ∙ held_own s.entries key

-- and has the same rows
pub renewed_rows : (s : Store) (seat : ℕ) → rows_of (copies_from 0 seat (held_offers s)) ≡ rows_of s.entries
renewed_rows s seat = same_rows (copies_from 0 seat (held_offers s)) s.entries (renewed_holds s seat)

-- ---- news

-- a set in order, none of whose members is below another
record IsApart (S : List Version) : Type 0 where
  ascending : Ascends S
  own : maximal S ≡ S

filter_passes : {X : Type 0} (p : X → Bool) (xs : List X) → AllByRecursion (λ x. p x ≡ true) (filter p xs)
filter_passes p [] = tt
filter_passes p (x ∷ xs) = by_test (p x) refl (filter_passes p xs)
  where
    by_test : (b : Bool) → p x ≡ b → AllByRecursion (λ y. p y ≡ true) (filter p xs)
        → AllByRecursion (λ y. p y ≡ true) (cond b (x ∷ filter p xs) (filter p xs))
    by_test true e rest = (e, rest)
    by_test false e rest = rest

-- no member of a set that is its own maximum is below a member
none_above : (xs : List Version) (v : Version) (vs : List Version) → maximal (xs ++ v ∷ vs) ≡ xs ++ v ∷ vs
    → list_any (is_below v) (xs ++ v ∷ vs) ≡ false
none_above xs v vs own =
    let S = xs ++ v ∷ vs in
    let top = λ (w : Version). not (list_any (is_below w) S) in
    off (list_any (is_below v) S)
    (all-inner (λ (w : Version). top w ≡ true) xs v vs (subst (AllByRecursion (λ (w : Version). top w ≡ true)) own (filter_passes top S)))
  where
    off : (b : Bool) → not b ≡ true → b ≡ false
    off true e = sym e
    off false e = refl

-- a member is not covered by those before it
uncovered : (v : Version) (xs vs : List Version) → Ascends (xs ++ v ∷ vs) → list_any (is_below v) xs ≡ false → covered v xs ≡ false
uncovered v [] vs a none = refl
uncovered v (x ∷ xs) vs a none =
    let parts = or_parts (is_below v x) (list_any (is_below v) xs) none in
    let less : version_cmp x v ≡ Less = all-inner (λ w. version_cmp x w ≡ Less) xs v vs a.0 in
    let more : version_cmp v x ≡ Greater = version_total.antisymm v x ∙ ap ordering_reverse less in
    let apart : is_same v x ≡ false = ap is_eq more in
    rw (apart, parts.0) (uncovered v xs vs a.1 parts.1)

member_news : (v : Version) (xs vs : List Version) → IsApart (xs ++ v ∷ vs) → covered v xs ≡ false
member_news v xs vs set =
    let none = sym (list_any-append (is_below v) xs (v ∷ vs)) ∙ none_above xs v vs set.own in
    uncovered v xs vs set.ascending (or_parts (list_any (is_below v) xs) (list_any (is_below v) (v ∷ vs)) none).0

-- where the versions of each key are apart, each copy is news
copies_news : (before : List Entry) (n seat : ℕ) (os : Offers) → ((key : List ℕ) → IsApart (versions_of before key ++ offers_for key os))
    → AreNewsAfter before (copies_from n seat os)
copies_news before n seat [] apart = tt
copies_news before n seat (o ∷ os) apart =
    (here, copies_news (before ++ copy n seat o ∷ []) (n + 1) seat os (λ key. subst IsApart (next key) (apart key)))
  where
    same : pointwise nat_eq o.0 o.0 ≡ true
    same = (bytes_eq-Decides o.0 o.0).1 refl

    here : covered o.1 (versions_of before o.0) ≡ false
    here = member_news o.1 (versions_of before o.0) (offers_for o.0 os)
        (subst (λ (b : Bool). IsApart (versions_of before o.0 ++ cond b (o.1 ∷ offers_for o.0 os) (offers_for o.0 os))) same (apart o.0))

    by_key : (b : Bool) (vs ws : List Version) → vs ++ cond b (o.1 ∷ ws) ws ≡ cond b (vs ++ o.1 ∷ []) vs ++ ws
    by_key true vs ws = sym (append_assoc vs (o.1 ∷ []) ws)
    by_key false vs ws = refl

    next : (key : List ℕ) → versions_of before key ++ offers_for key (o ∷ os) ≡ versions_of (before ++ copy n seat o ∷ []) key ++ offers_for key os
    next key = by_key (pointwise nat_eq o.0 key) (versions_of before key) (offers_for key os)
        ∙ ap (λ (vs : List Version). vs ++ offers_for key os) (sym (versions_of-push before (copy n seat o) key))

renewed_news : (s : Store) (seat : ℕ) → AreNews (copies_from 0 seat (held_offers s))
renewed_news s seat = copies_news [] 0 seat (held_offers s)
    (λ key. subst IsApart (sym (listed_held s key)) (record { ascending = held-Ascends s.entries key; own = held_own s.entries key }))

-- ---- few versions

filter_few : {X : Type 0} (p : X → Bool) (xs : List X) → length (filter p xs) ≤ length xs
filter_few p [] = omega arith
filter_few p (x ∷ xs) = elim (p x) as
    (λ b. length (cond b (x ∷ filter p xs) (filter p xs)) ≤ length (x ∷ xs)) [
      | true ↦ omega (arith, filter_few p xs)
      | false ↦ omega
          (arith, filter_few p xs)
    ]

maximal_few : (S : List Version) → length (maximal S) ≤ length S
maximal_few S = filter_few (λ v. not (list_any (is_below v) S)) S

set_few : (S vs : List Version) → length (set_from S vs) ≤ length S + length vs
set_few S [] = omega arith
set_few S (v ∷ vs) = omega (arith, set_few (with_version v S) vs, length-with_version v S)

held_few : (es : List Entry) (key : List ℕ) → length (held es key) ≤ length (versions_of es key)
held_few es key = omega (arith, maximal_few (set_from [] (versions_of es key)), set_few [] (versions_of es key))

offers_few : (key : List ℕ) (k : ℕ) (os : Offers) → length (offers_for key (take k os)) ≤ length (offers_for key os)
offers_few key zero os = omega arith
offers_few key (suc k) [] = omega arith
offers_few key (suc k) (o ∷ os) = by_key (pointwise nat_eq o.0 key) (offers_for key (take k os)) (offers_for key os) (offers_few key k os)
  where
    by_key : (b : Bool) (vs ws : List Version) → length vs ≤ length ws → length (cond b (o.1 ∷ vs) vs) ≤ length (cond b (o.1 ∷ ws) ws)
    by_key true vs ws le = omega (arith, le)
    by_key false vs ws le = le

renewed_short : (s : Store) (seat : ℕ) → IsSound s → (key : List ℕ) → NeverCrowded (copies_from 0 seat (held_offers s)) key
renewed_short s seat ok key n =
    let os = held_offers s in
    let taken : versions_of (take n (copies_from 0 seat os)) key ≡ offers_for key (take n os) = ap (λ (es : List Entry). versions_of es key)
    (copies_take 0 seat n os) ∙ copies_of 0 seat (take n os) key in
    let few : length (held s.entries key) ≤ 64 = subst (λ (xs : List Entry). length (held xs key) ≤ 64)
    (take_all (length s.entries) s.entries (omega arith)) (ok.short key (length s.entries)) in
    omega (arith, held_few (take n (copies_from 0 seat os)) key, ap length taken, offers_few key n os, ap length (listed_held s key), few)

-- ---- limits

-- a row whose versions have their place in a range
record IsOwnRow (c : Config) (r : Row) : Type 0 where
  key : key_fault r.key ≡ None
  each : AllByRecursion (λ (v : Version). value_fault c.format v.kind v.value ≡ None) r.versions
  here : range_at c.bits r.key ≡ c.range

abbrev IsOwnOffer : Config → List ℕ × Version → Type 0
IsOwnOffer c o = IsOwn c (copy 0 0 o)

rows_own : (c : Config) (rows : List Row) → AllByRecursion (IsRow c.format) rows → AllByRecursion (λ (r : Row). range_at c.bits r.key ≡ c.range) rows
    → AllByRecursion (IsOwnRow c) rows
rows_own c [] are here = tt
rows_own c (r ∷ rows) are here =
    let fits = row_fits c.format r are.0 in
    (record { key = fits.key; each = fits.each; here = here.0 }, rows_own c rows are.1 here.1)

leaves_own : (P : Row → Type 0) (leaf : List ℕ → ℕ) (rows : List Row) (ns : List ℕ) → AllByRecursion P rows
    → AllByRecursion P (flat_map (λ i. rows_in_leaf leaf i rows) ns)
leaves_own P leaf rows [] all = tt
leaves_own P leaf rows (n ∷ ns) all =
    all-append P (rows_in_leaf leaf n rows) (flat_map (λ i. rows_in_leaf leaf i rows) ns) (all-filter P (λ (r : Row). nat_eq (leaf r.key) n) rows all)
    (leaves_own P leaf rows ns all)

versions_own : (c : Config) (key : List ℕ) (vs : List Version) → key_fault key ≡ None → range_at c.bits key ≡ c.range
    → AllByRecursion (λ (v : Version). value_fault c.format v.kind v.value ≡ None) vs
    → AllByRecursion (IsOwnOffer c) (map (λ (v : Version). (key, v)) vs)
versions_own c key [] k here all = tt
versions_own c key (v ∷ vs) k here all = (record { key = k; value = all.0; here = here }, versions_own c key vs k here all.1)

offers_own : (c : Config) (rows : List Row) → AllByRecursion (IsOwnRow c) rows → AllByRecursion (IsOwnOffer c) (offers_of rows)
offers_own c [] all = tt
offers_own c (r ∷ rows) all =
    all-append (IsOwnOffer c) (offers_in r) (offers_of rows) (versions_own c r.key r.versions all.0.key all.0.here all.0.each)
    (offers_own c rows all.1)

copies_own : (c : Config) (limit n seat : ℕ) (os : Offers) → AllByRecursion (IsOwnOffer c) os
    → AllByRecursion (IsOwn (config_to c limit)) (copies_from n seat os)
copies_own c limit n seat [] all = tt
copies_own c limit n seat (o ∷ os) all =
    (record { key = all.0.key; value = all.0.value; here = all.0.here }, copies_own c limit (n + 1) seat os all.1)

renewed_own : (s : Store) (seat limit : ℕ) → IsSound s → AllByRecursion (IsOwn (config_to s.config limit)) (copies_from 0 seat (held_offers s))
renewed_own s seat limit ok =
    let rows = rows_own s.config (rows_of s.entries) ok.rows (row_map_now s ok).here in
    copies_own s.config limit 0 seat (held_offers s)
    (offers_own s.config (by_leaf s.config (rows_of s.entries))
    (leaves_own (IsOwnRow s.config) (leaf_in s.config) (rows_of s.entries) (range_with_len 0 (leaf_count s.config)) rows))

-- ---- the state

-- A range that begins with what a right range holds is right.
pub renewed_right : (s : Store) (seat limit : ℕ) → IsSound s → IsTrue (is_config (config_to s.config limit)) → IsSound (renewed_by s seat limit)
renewed_right s seat limit ok config = record {
  config = config;
  own = renewed_own s seat limit ok;
  news = renewed_news s seat;
  short = renewed_short s seat ok;
  rows = subst (AllByRecursion (IsRow s.config.format)) (sym (renewed_rows s seat)) ok.rows;
  marks = subst (λ (rows : List Row). IsTreeFor (leaf_in s.config) rows (tree_of s)) (sym (renewed_rows s seat)) ok.marks;
}

-- a limit that is not refused
pub limit_fits : (s : Store) (limit : ℕ) → renew_fault s limit ≡ None → IsTrue (is_config (config_to s.config limit))
limit_fits s limit none = by_config (is_config (config_to s.config limit)) none
  where
    by_config : (b : Bool) → cond b (short_fault s limit) (Some BadRing) ≡ None → b ≡ true
    by_config true e = refl
    by_config false e = absurd (let no : Some BadRing ≡ None = e in cc)

-- A range that is renewed once more in the same way is unchanged.
pub renewed_again : (s : Store) (seat limit : ℕ) → renewed_by (renewed_by s seat limit) seat limit ≡ renewed_by s seat limit
renewed_again s seat limit =
    ap (λ (rows : List Row). record {
      config = config_to s.config limit;
      entries = copies_from 0 seat (offers_of (by_leaf s.config rows));
      marks = s.marks;
    }) (renewed_rows s seat)

-- ---- how many versions are held

pub count-append : (xs ys : List Row) → length (offers_of (xs ++ ys)) ≡ length (offers_of xs) + length (offers_of ys)
count-append xs ys = ap length (offers-append xs ys) ∙ length-append (offers_of xs) (offers_of ys)

pub row_count : (r : Row) → length (offers_in r) ≡ length r.versions
row_count r = length-map r.versions (λ (v : Version). (r.key, v))

count_first : (r : Row) (rows : List Row) → length (offers_of (r ∷ rows)) ≡ length r.versions + length (offers_of rows)
count_first r rows = omega (arith, length-append (offers_in r) (offers_of rows), row_count r)

offered_few : (v : Version) (S : List Version) → length (offered v S) ≤ length S + 1
offered_few v S = elim (covered v S) as (λ b. length (cond b S (maximal (with_version v S))) ≤ length S + 1) [
  | true ↦ omega arith
  | false ↦ omega (arith, maximal_few (with_version v S), length-with_version v S)
]

-- an offer makes one version more at most
offer_counts : (k : List ℕ) (v : Version) (rows : List Row) → length (offers_of (with_offer k v rows)) ≤ length (offers_of rows) + 1
offer_counts k v [] = omega (arith, count_first (record { key = k; versions = offered v [] }) [], offered_few v [])
offer_counts k v (r ∷ rows) =
    elim (key_cmp k r.key) as
    (λ o. length (offers_of (place_by o (record { key = k; versions = offered v [] } ∷ r ∷ rows)
    (record { key = r.key; versions = offered v r.versions } ∷ rows) (r ∷ with_offer k v rows))) ≤ length (offers_of (r ∷ rows)) + 1) [
      | Less ↦ omega (arith, count_first (record { key = k; versions = offered v [] }) (r ∷ rows), offered_few v [])
      | Equal ↦ omega (
        arith,
        count_first (record { key = r.key; versions = offered v r.versions }) rows,
        count_first r rows,
        offered_few v r.versions,
      )
      | Greater ↦ omega (arith, count_first r (with_offer k v rows), count_first r rows, offer_counts k v rows)
    ]

rows_few : (before es : List Entry) → length (offers_of (rows_of before)) ≤ length before
    → length (offers_of (rows_of (before ++ es))) ≤ length (before ++ es)
rows_few before [] h = subst (λ (xs : List Entry). length (offers_of (rows_of xs)) ≤ length xs) (sym (append-nil before)) h
rows_few before (e ∷ es) h =
    let one : length (offers_of (rows_of (before ++ e ∷ []))) ≤ length (before ++ e ∷ []) =
    omega (
      arith,
      h,
      offer_counts e.key e.version (rows_of before),
      ap (λ (rows : List Row). length (offers_of rows)) (rows_of-push before e),
      length-append before (e ∷ []),
    ) in
    subst (λ (xs : List Entry). length (offers_of (rows_of xs)) ≤ length xs) (append_assoc before (e ∷ []) es) (rows_few (before ++ e ∷ []) es one)

none_few : length (offers_of (rows_of [])) ≤ 0
unfolding rows_of
none_few = omega arith

-- a row is in no leaf after its own
count_after : (leaf : List ℕ → ℕ) (r : Row) (rows : List Row) (from n : ℕ) → leaf r.key < from
    → leaves_from leaf (r ∷ rows) from n ≡ leaves_from leaf rows from n
count_after leaf r rows from zero later = refl
count_after leaf r rows from (suc n) later =
    let off : rows_in_leaf leaf from (r ∷ rows) ≡ rows_in_leaf leaf from rows = ap
    (λ b. cond b (r ∷ rows_in_leaf leaf from rows) (rows_in_leaf leaf from rows)) (apart (leaf r.key) from later) in
    let rest = count_after leaf r rows (from + 1) n (omega (arith, later)) in
    λ i. off i ++ rest i
  where
    apart : (m k : ℕ) → m < k → nat_eq m k ≡ false
    apart m k lt = grind (arith, nat_tests)

-- and in one leaf at most
count_one : (leaf : List ℕ → ℕ) (r : Row) (rows : List Row) (from n : ℕ)
    → length (offers_of (leaves_from leaf (r ∷ rows) from n)) ≤ length r.versions + length (offers_of (leaves_from leaf rows from n))
count_one leaf r rows from zero = omega arith
count_one leaf r rows from (suc n) = elim (cases_Bool (nat_eq (leaf r.key) from)) [
  | inl here ↦
      let first : rows_in_leaf leaf from (r ∷ rows) ≡ r ∷ rows_in_leaf leaf from rows = ap
      (λ b. cond b (r ∷ rows_in_leaf leaf from rows) (rows_in_leaf leaf from rows)) here in
      let rest = count_after leaf r rows (from + 1) n (omega (arith, eqb-true (leaf r.key) from here)) in
      let whole : leaves_from leaf (r ∷ rows) from (suc n) ≡ r ∷ leaves_from leaf rows from (suc n) = λ i. first i ++ rest i in
      omega (arith, ap (λ (xs : List Row). length (offers_of xs)) whole, count_first r (leaves_from leaf rows from (suc n)))
  | inr off ↦
      let first : rows_in_leaf leaf from (r ∷ rows) ≡ rows_in_leaf leaf from rows = ap
      (λ b. cond b (r ∷ rows_in_leaf leaf from rows) (rows_in_leaf leaf from rows)) off in
      let new = ap (λ (xs : List Row). length (offers_of (xs ++ leaves_from leaf (r ∷ rows) (from + 1) n))) first
      ∙ count-append (rows_in_leaf leaf from rows) (leaves_from leaf (r ∷ rows) (from + 1) n) in
      omega (arith, new, count-append (rows_in_leaf leaf from rows) (leaves_from leaf rows (from + 1) n), count_one leaf r rows (from + 1) n)
]

no_leaves : (leaf : List ℕ → ℕ) (from n : ℕ) → leaves_from leaf [] from n ≡ []
no_leaves leaf from zero = refl
no_leaves leaf from (suc n) = no_leaves leaf (from + 1) n

leaves_few : (leaf : List ℕ → ℕ) (rows : List Row) (from n : ℕ) → length (offers_of (leaves_from leaf rows from n)) ≤ length (offers_of rows)
leaves_few leaf [] from n = rw (no_leaves leaf from n) (omega arith)
leaves_few leaf (r ∷ rows) from n = omega (arith, count_one leaf r rows from n, leaves_few leaf rows from n, count_first r rows)

-- No more versions are held than there are entries.
pub held_within : (s : Store) → length (held_offers s) ≤ length s.entries
held_within s = omega (arith, leaves_few (leaf_in s.config) (rows_of s.entries) 0 (leaf_count s.config), rows_few [] s.entries none_few)

-- a journal within its limit has at most 1,000,000 entries
pub few_entries : (s : Store) → IsTrue (is_config s.config) → length s.entries ≤ s.config.limit → length s.entries ≤ 1000000
few_entries s config within = omega (arith, within, leb-true s.config.limit 1000000 (and_parts _ _ config).1)

pub held_bounded : (s : Store) → IsTrue (is_config s.config) → length s.entries ≤ s.config.limit → length (held_offers s) ≤ 1000000
held_bounded s config within = omega (arith, held_within s, few_entries s config within)

pub basis_bounded : (b : Basis) → IsBasis b → length (offers_by_leaf b.config b.rows) ≤ 1000000
basis_bounded b is =
    let same = ap (λ (rs : List Row). length (offers_by_leaf b.config rs)) is.rows in
    omega (arith, same, held_within (record { config = b.config; entries = is.entries; marks = b.marks }), is.few)

pub renewed_fewer : (s : Store) (seat limit : ℕ) → length (renewed_by s seat limit).entries ≤ length s.entries
renewed_fewer s seat limit = omega (arith, length-copies 0 seat (held_offers s), held_within s)

-- ---- leaf by leaf

range_more : (from n last : ℕ) → from + n ≡ last → range_with_len from (suc n) ≡ range_with_len from n ++ last ∷ []
range_more from zero last is = let same : from ≡ last = omega (arith, is) in ap (λ (k : ℕ). k ∷ []) same
range_more from (suc n) last is = ap (λ (ks : List ℕ). from ∷ ks) (range_more (from + 1) n last (omega (arith, is)))

-- one leaf more
pub rows_more : (leaf : List ℕ → ℕ) (rows : List Row) (n : ℕ)
    → leaves_from leaf rows 0 (n + 1) ≡ leaves_from leaf rows 0 n ++ rows_in_leaf leaf n rows
rows_more leaf rows n =
    let f = λ (i : ℕ). rows_in_leaf leaf i rows in
    let more : n + 1 ≡ suc n = omega arith in
    ap (λ (k : ℕ). leaves_from leaf rows 0 k) more
    ∙ ap (λ (ks : List ℕ). flat_map f ks) (range_more 0 n n (omega arith))
    ∙ flat_map-append f (range_with_len 0 n) (n ∷ [])
    ∙ ap (λ (xs : List Row). leaves_from leaf rows 0 n ++ xs) (append-nil (f n))

pub leaves_more : (leaf : List ℕ → ℕ) (rows : List Row) (n : ℕ)
    → offers_of (leaves_from leaf rows 0 (n + 1)) ≡ offers_of (leaves_from leaf rows 0 n) ++ offers_of (rows_in_leaf leaf n rows)
leaves_more leaf rows n = ap offers_of (rows_more leaf rows n) ∙ offers-append (leaves_from leaf rows 0 n) (rows_in_leaf leaf n rows)

-- the first leaves have no more versions than more of them
pub leaves_part : (leaf : List ℕ → ℕ) (rows : List Row) (m n : ℕ) → m ≤ n
    → length (offers_of (leaves_from leaf rows 0 m)) ≤ length (offers_of (leaves_from leaf rows 0 n))
leaves_part leaf rows m zero le = let none : m ≡ 0 = omega (arith, le) in rw none (omega arith)
leaves_part leaf rows m (suc n) le = elim (cases_lt n m) [
  | inl last ↦ let all : m ≡ suc n = omega (arith, le, last) in rw all (omega arith)
  | inr part ↦
      let more : n + 1 ≡ suc n = omega arith in
      let next = ap (λ (k : ℕ). length (offers_of (leaves_from leaf rows 0 k))) (sym more) ∙ ap length (leaves_more leaf rows n)
      ∙ length-append (offers_of (leaves_from leaf rows 0 n)) (offers_of (rows_in_leaf leaf n rows)) in
      omega (arith, leaves_part leaf rows m n part, next)
]

-- a leaf and those before it have no more versions than all
pub leaf_part : (c : Config) (rows : List Row) (leaf : ℕ) → leaf < leaf_count c
    → length (offers_of (leaves_from (leaf_in c) rows 0 leaf)) + length (offers_of (rows_in_leaf (leaf_in c) leaf rows)) ≤ length
    (offers_by_leaf c rows)
leaf_part c rows leaf within =
    let f = leaf_in c in
    let next = ap (λ (os : Offers). length os) (leaves_more f rows leaf)
    ∙ length-append (offers_of (leaves_from f rows 0 leaf)) (offers_of (rows_in_leaf f leaf rows)) in
    omega (arith, leaves_part f rows (leaf + 1) (leaf_count c) (omega (arith, within)), next)

-- the rows of a leaf of a tree
pub rows_here : (c : Config) (m : RowMap) (leaf : ℕ) → IsOfConfig c m → (trees.bucket_of m leaf).rows ≡ rows_in_leaf (leaf_in c) leaf m.rows
rows_here c m leaf of = λ i. rows_in_leaf (leaf_at (of.format i) (of.bits i)) leaf m.rows

-- ---- a new range

-- what a renewed range has
pub renewed_range : (s : Store) (seat limit : ℕ) (config : Config) (entries : List Entry) (tree : RangeTree) → IsSound s → tree ≡ tree_in s
    → renew_fault s limit ≡ None → config ≡ config_to s.config limit → entries ≡ copies_from 0 seat (held_offers s)
    → IsSound (record { config = config; entries = entries; marks = tree.marks })
    × (tree.map ≡ rows_now (record { config = config; entries = entries; marks = tree.marks }))
    × (record { config = config; entries = entries; marks = tree.marks } ≡ renewed_by s seat limit)
renewed_range s seat limit config entries tree ok same fits limited copies =
    let back : record { config = config; entries = entries; marks = tree.marks } ≡ renewed_by s seat limit = λ i. record {
      config = limited i;
      entries = copies i;
      marks = (same i).marks;
    } in
    let rows : rows_now s ≡ rows_now (renewed_by s seat limit) = ap
    (λ (rs : List Row). record { format = s.config.format; bits = s.config.bits; range = s.config.range; rows = rs })
    (sym (renewed_rows s seat)) in (
      subst IsSound (sym back) (renewed_right s seat limit ok (limit_fits s limit fits)),
      ap (λ (t : RangeTree). t.map) same ∙ rows ∙ ap rows_now (sym back),
      back,
    )

-- ---- a new range that begins with the rows of a basis

news_first : (n : ℕ) (before es : List Entry) → AreNewsAfter before es → AreNewsAfter before (take n es)
news_first zero before es news = tt
news_first (suc n) before [] news = tt
news_first (suc n) before (e ∷ es) news = (news.0, news_first n (before ++ e ∷ []) es news.1)

both : {X : Type 0} (m n : ℕ) (xs : List X) → take m (take n xs) ≡ take (min m n) xs
both m n xs = elim (cases_lt m n) [
  | inl less ↦ let one : min m n ≡ m = omega (arith, less) in take-take m n xs (omega (arith, less)) ∙ ap (λ k. take k xs) (sym one)
  | inr more ↦ let one : min m n ≡ n = omega (arith, more) in take_all m (take n xs) (omega (arith, more, length-take n xs))
      ∙ ap (λ k. take k xs) (sym one)
]

-- the rows of a tree that the first entries made are a basis
pub basis_right : (s : Store) (front : ℕ) (t : RangeTree) → IsSound s → length s.entries ≤ 1000000 → IsRangeTree t
    → t.map ≡ rows_now (record s { entries = take front s.entries })
    → IsBasis (record { config = s.config; rows = t.map.rows; marks = t.marks })
basis_right s front t ok few right is = record {
  entries = take front s.entries;
  sound = record {
    config = ok.config;
    own = all-take (IsOwn s.config) s.entries front ok.own;
    news = news_first front [] s.entries ok.news;
    short = λ key. short_first key;
    rows = subst (λ (m : RowMap). AllByRecursion (IsRow m.format) m.rows) is right.rows.each;
    marks = subst (λ (m : RowMap). IsTreeFor (leaf_at m.format m.bits) m.rows (record { format = m.format; digests = t.marks })) is right.marks;
  };
  rows = ap (λ (m : RowMap). m.rows) is;
  few = omega (arith, length-take front s.entries, few);
}
  where
    short_first : (key : List ℕ) → NeverCrowded (take front s.entries) key
    short_first key n = subst (λ (es : List Entry). length (held es key) ≤ 64) (sym (both n front s.entries)) (ok.short key (min n front))

-- what a range that begins with the rows of a basis has
pub begun_range : (b : Basis) (seat limit : ℕ) (config : Config) (entries : List Entry) (tree : RangeTree) → IsBasis b → basis_fault b limit ≡ None
    → config ≡ config_to b.config limit → entries ≡ copies_from 0 seat (offers_by_leaf b.config b.rows)
    → tree.map ≡ record { format = b.config.format; bits = b.config.bits; range = b.config.range; rows = b.rows } → tree.marks ≡ b.marks
    → IsSound (record { config = config; entries = entries; marks = tree.marks })
    × (tree.map ≡ rows_now (record { config = config; entries = entries; marks = tree.marks }))
    × (record { config = config; entries = entries; marks = tree.marks } ≡ begun_by b seat limit)
begun_range b seat limit config entries tree is fits limited copies map marks =
    let s : Store = record { config = b.config; entries = is.entries; marks = b.marks } in
    let rows_s : tree.map ≡ rows_now s = map
    ∙ ap (λ (rs : List Row). record { format = b.config.format; bits = b.config.bits; range = b.config.range; rows = rs }) is.rows in
    let same : tree ≡ tree_in s = λ i. record { map = rows_s i; marks = marks i } in
    let range = renewed_range s seat limit config entries tree is.sound same
    (ap (λ (rs : List Row). limit_fault b.config rs limit) (sym is.rows) ∙ fits) limited
    (copies ∙ ap (λ (rs : List Row). copies_from 0 seat (offers_by_leaf b.config rs)) is.rows) in
    (range.0, range.1, range.2 ∙ ap (λ (rs : List Row). begun_by (record { config = b.config; rows = rs; marks = b.marks }) seat limit) (sym is.rows))

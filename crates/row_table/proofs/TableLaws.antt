-- Where a table finds its rows.
use Rattle.std.proofs.Common.{◌≡◌, ◌≢◌, ℕ, zero, suc, ◌+◌, ◌-◌, ◌%◌, ◌<◌, ◌≤◌, Bool, true, false, cond, List, [], ◌∷◌, ◌++◌, length, Option, Some}
use Rattle.std.proofs.Common.{None, refl, sym, ap, subst, arith, ◌∙◌, inl, inr, slice_get, slice_set, slice_index_or, replicate, eq-eqb, eqb-true}
use Rattle.std.proofs.Common.{true≢false, add-one}
use Rattle.std.specs.Prelude.{bytes_eq, nat_eq, unwrap_or, option_map}
use Rattle.std.specs.List.{AllByRecursion, list_any}
use Rattle.std.specs.Option.{IfSome}
use Rattle.std.proofs.lemmas.Bool.{cases_lt, cases_Bool}
use Rattle.std.proofs.lemmas.List.{length-append, length-set, length-replicate, get_or-replicate}
use Rattle.std.proofs.lemmas.Nat.{mod_below}
use Rattle.std.proofs.lemmas.Option.{slice_get_within, slice_get_past, slice_get-get_or, unwrap_or-slice_get, get_or_from_slice_get}
use Rattle.std.proofs.lemmas.Slice.Eq.{bytes_eq-Decides}
use Rattle.row_table.specs.declared.seed.Seed.{Seed}
use Rattle.row_table.specs.declared.table.TableRow.{TableRow}
use Rattle.row_table.specs.Hashes.{key_hash}
use Rattle.version_set.specs.declared.version.Version.{Version}
use Rattle.row_table.specs.Tables.{Table, is_with, last_with, before, is_of, bucket_of, is_in, at_place, place_of, set_at, set_in, put_in, with_put}
use Rattle.row_table.specs.Tables.{with_all, IsIndex}

-- ---- places of a list

got_left : {X : Type 0} → (xs ys : List X) (i : ℕ) → i < length xs → slice_get (xs ++ ys) i ≡ slice_get xs i
got_left [] ys i below = absurd (omega arith)
got_left (x ∷ xs) ys zero below = refl
got_left (x ∷ xs) ys (suc i) below = got_left xs ys i (omega arith)

got_right : {X : Type 0} → (xs ys : List X) (i : ℕ) → length xs ≤ i → slice_get (xs ++ ys) i ≡ slice_get ys (i - length xs)
got_right [] ys i past = let same : i ≡ i - 0 = omega arith in ap (slice_get ys) same
got_right (x ∷ xs) ys zero past = absurd (omega (arith, past))
got_right (x ∷ xs) ys (suc i) past = let same : i - length xs ≡ suc i - suc (length xs) = omega arith in got_right xs ys i (omega (arith, past))
    ∙ ap (slice_get ys) same

got_last : {X : Type 0} → (xs : List X) (y : X) → slice_get (xs ++ y ∷ []) (length xs) ≡ Some y
got_last [] y = refl
got_last (x ∷ xs) y = got_last xs y

got_set : {X : Type 0} → (xs : List X) (i : ℕ) (x new : X) → slice_get xs i ≡ Some x → slice_get (slice_set xs i new) i ≡ Some new
got_set [] i x new at = absurd (let no : None ≡ Some x = at in cc)
got_set (y ∷ xs) zero x new at = refl
got_set (y ∷ xs) (suc i) x new at = got_set xs i x new at

got_other : {X : Type 0} → (xs : List X) (i j : ℕ) (new : X) → i ≢ j → slice_get (slice_set xs i new) j ≡ slice_get xs j
got_other [] i j new apart = refl
got_other (y ∷ xs) zero zero new apart = absurd (apart refl)
got_other (y ∷ xs) zero (suc j) new apart = refl
got_other (y ∷ xs) (suc i) zero new apart = refl
got_other (y ∷ xs) (suc i) (suc j) new apart = got_other xs i j new (λ same. apart (ap suc same))

-- ---- the last row with a property

last_of_more : (test : TableRow → Bool) (rs ts : List TableRow) (n : ℕ) → n ≤ length rs → last_with test (rs ++ ts) n ≡ last_with test rs n
last_of_more test rs ts zero within = refl
last_of_more test rs ts (suc n) within =
    let same = got_left rs ts n (omega arith) in
    let rest = last_of_more test rs ts n (omega arith) in
    λ i. cond (is_with test (same i)) (suc n) (rest i)

pub last_within : (test : TableRow → Bool) (rs : List TableRow) (n : ℕ) → last_with test rs n ≤ n
last_within test rs zero = omega arith
last_within test rs (suc n) =
    let rest = last_within test rs n in
    elim (is_with test (slice_get rs n)) as (λ b. cond b (suc n) (last_with test rs n) ≤ suc n) [ true ↦ omega arith | false ↦ omega arith ]

-- the last row, if there is one, has the property, and is among the first n
last_has : (test : TableRow → Bool) (rs : List TableRow) (n i : ℕ) → last_with test rs n ≡ suc i → (i < n) × (is_with test (slice_get rs i) ≡ true)
last_has test rs zero i h = absurd (let no : 0 ≡ suc i = h in omega arith)
last_has test rs (suc n) i h = by_test (last_has test rs n i) (is_with test (slice_get rs n)) refl h
  where
    by_test : (last_with test rs n ≡ suc i → (i < n) × (is_with test (slice_get rs i) ≡ true)) → (b : Bool) → is_with test (slice_get rs n) ≡ b
        → cond b (suc n) (last_with test rs n) ≡ suc i
        → (i < suc n) × (is_with test (slice_get rs i) ≡ true)
    by_test rest true is e = let same : n ≡ i = omega arith in (omega arith, subst (λ j. is_with test (slice_get rs j) ≡ true) same is)
    by_test rest false is e = let known = rest e in (omega (arith, known.0), known.1)

-- a row of the key is in the bucket of the key
of_bucket : (seed : Seed) (size : ℕ) (key : List ℕ) (o : Option TableRow) → is_with (is_in seed size (bucket_of seed size key)) o ≡ false
    → is_with (is_of key) o ≡ false
of_bucket seed size key None apart = refl
of_bucket seed size key (Some r) apart = elim (cases_Bool (bytes_eq r.key key)) [
  | inl same ↦ absurd (true≢false
      (sym (eq-eqb (bucket_of seed size r.key) (bucket_of seed size key) (ap (bucket_of seed size) ((bytes_eq-Decides r.key key).0 same))) ∙ apart))
  | inr differ ↦ differ
]

-- the last row of a key among the first n is the last one up to the last row of its bucket among them
by_bucket : (seed : Seed) (size : ℕ) (key : List ℕ) (rs : List TableRow) (n : ℕ)
    → last_with (is_of key) rs (last_with (is_in seed size (bucket_of seed size key)) rs n) ≡ last_with (is_of key) rs n
by_bucket seed size key rs zero = refl
by_bucket seed size key rs (suc n) =
    by_test (by_bucket seed size key rs n) (is_with (is_in seed size (bucket_of seed size key)) (slice_get rs n)) refl
  where
    test : TableRow → Bool
    test = is_in seed size (bucket_of seed size key)

    by_test : last_with (is_of key) rs (last_with test rs n) ≡ last_with (is_of key) rs n → (b : Bool) → is_with test (slice_get rs n) ≡ b
        → last_with (is_of key) rs (cond b (suc n) (last_with test rs n)) ≡ cond (is_with (is_of key) (slice_get rs n)) (suc n)
        (last_with (is_of key) rs n)
    by_test rest true is = refl
    by_test rest false is = rest ∙ ap (λ b. cond b (suc n) (last_with (is_of key) rs n)) (sym (of_bucket seed size key (slice_get rs n) is))

-- ---- a search back through the rows of a bucket

-- The next row to be looked at, or 0: the last row of the bucket among the first `from`, which have the key's last row.
pub record IsSearched (seed : Seed) (size : ℕ) (rs : List TableRow) (key : List ℕ) (next : ℕ) : Type 0 where
  pub from : ℕ
  pub within : from ≤ length rs
  pub next_is : next ≡ last_with (is_in seed size (bucket_of seed size key)) rs from
  pub among : last_with (is_of key) rs (length rs) ≡ last_with (is_of key) rs from

pub search_begins : (seed : Seed) (rs : List TableRow) (size : ℕ) (last earlier : List ℕ) (key : List ℕ) (next : ℕ)
    → IsIndex seed rs size last earlier → length earlier ≡ length rs
    → next ≡ slice_index_or last (bucket_of seed size key) 0 → IsSearched seed size rs key next
search_begins seed rs size last earlier key next is all first = record {
  from = length rs;
  within = omega arith;
  next_is = first ∙ sym (unwrap_or-slice_get last bucket 0) ∙ elim (cases_lt bucket (length last)) [
    | inl lt ↦ ap (λ o. unwrap_or o 0) (is.last_is bucket lt) ∙ ap (last_with (is_in seed size bucket) rs) all
    | inr ge ↦
        let none : slice_get last bucket ≡ None = slice_get_past last bucket ge in
        let no_rows : length rs ≡ 0 = empty (length earlier) refl ge in
        ap (λ o. unwrap_or o 0) none ∙ ap (last_with (is_in seed size bucket) rs) (sym no_rows)
  ];
  among = refl;
}
  where
    bucket : ℕ
    bucket = bucket_of seed size key

    empty : (n : ℕ) → length earlier ≡ n → length last ≤ bucket → length rs ≡ 0
    empty zero none ge = sym all ∙ none
    empty (suc n) some ge =
        let whole : length last ≡ size = is.whole (omega (arith, some)) in
        absurd (omega (arith, whole, ge, mod_below (key_hash seed key % 4294967296) size is.some))

-- the next row is among the rows
pub search_within : (seed : Seed) (size : ℕ) (rs : List TableRow) (key : List ℕ) (next : ℕ) → IsSearched seed size rs key next → next ≤ length rs
search_within seed size rs key next s = omega (arith, s.next_is, s.within, last_within (is_in seed size (bucket_of seed size key)) rs s.from)

-- the last row of the key is the last one up to the next row
up_to_next : (seed : Seed) (size : ℕ) (rs : List TableRow) (key : List ℕ) (next : ℕ) → IsSearched seed size rs key next
    → last_with (is_of key) rs (length rs) ≡ last_with (is_of key) rs next
up_to_next seed size rs key next s = s.among ∙ sym (by_bucket seed size key rs s.from) ∙ ap (last_with (is_of key) rs) (sym s.next_is)

-- no row is left
pub search_ends : (seed : Seed) (size : ℕ) (rs : List TableRow) (key : List ℕ) (next : ℕ) → IsSearched seed size rs key next → next ≡ 0
    → place_of rs key ≡ None
search_ends seed size rs key next s none = ap before (up_to_next seed size rs key next s ∙ ap (last_with (is_of key) rs) none)

-- the next row is of the key
pub search_finds : (seed : Seed) (size : ℕ) (rs : List TableRow) (key : List ℕ) (next place : ℕ) (r : TableRow) → IsSearched seed size rs key next
    → next ≡ suc place → slice_get rs place ≡ Some r → bytes_eq r.key key ≡ true
    → place_of rs key ≡ Some place
search_finds seed size rs key next place r s one at same = ap before (
    up_to_next seed size rs key next s ∙ ap (last_with (is_of key) rs) one
    ∙ ap (λ b. cond b (suc place) (last_with (is_of key) rs place)) (ap (is_with (is_of key)) at ∙ same)
    )

-- the next row of a search, which is of another key, and the row that its link leads to
pub record IsPassed (rs : List TableRow) (earlier : List ℕ) (key : List ℕ) (next new : ℕ) : Type 0 where
  pub place : ℕ
  pub row : TableRow
  pub one : next ≡ suc place
  pub at : slice_get rs place ≡ Some row
  pub differs : bytes_eq row.key key ≡ false
  pub linked : slice_get earlier place ≡ Some new

-- the next row is of another key
pub search_goes_on : (seed : Seed) (rs : List TableRow) (size : ℕ) (last earlier : List ℕ) (key : List ℕ) (next new : ℕ)
    → IsIndex seed rs size last earlier → length earlier ≡ length rs
    → IsSearched seed size rs key next → IsPassed rs earlier key next new → IsSearched seed size rs key new × (new < next)
search_goes_on seed rs size last earlier key next new is all s passed =
    let bucket = bucket_of seed size key in
    let place = passed.place in
    let r = passed.row in
    let one = passed.one in
    let at = passed.at in
    let here = last_has (is_in seed size bucket) rs s.from place (sym s.next_is ∙ one) in
    let of_bucket : bucket_of seed size r.key ≡ bucket = eqb-true (bucket_of seed size r.key) bucket
    (ap (is_with (is_in seed size bucket)) (sym at) ∙ here.1) in
    let below = slice_get_within rs place r at in
    let known : Some new ≡ Some (last_with (is_in seed size (bucket_of seed size r.key)) rs place) = sym passed.linked
    ∙ is.earlier_is place r (omega (arith, below, all)) at in
    let same : new ≡ last_with (is_in seed size (bucket_of seed size r.key)) rs place = cc in
    let next_is : new ≡ last_with (is_in seed size bucket) rs place = same ∙ ap (λ b. last_with (is_in seed size b) rs place) of_bucket in (
      record {
        from = place;
        within = omega (arith, below);
        next_is = next_is;
        among = up_to_next seed size rs key next s ∙ ap (last_with (is_of key) rs) one
            ∙ ap (λ b. cond b (suc place) (last_with (is_of key) rs place)) (ap (is_with (is_of key)) at ∙ passed.differs);
      },
      omega (arith, next_is, one, last_within (is_in seed size bucket) rs place),
    )

-- ---- an index that grows

-- a row is added that is in the list
pub added : (seed : Seed) (rs : List TableRow) (size : ℕ) (last earlier : List ℕ) (r : TableRow) (now then : List ℕ)
    → IsIndex seed rs size last earlier → length last ≡ size → slice_get rs (length earlier) ≡ Some r
    → now ≡ slice_set last (bucket_of seed size r.key) (length earlier + 1) → then ≡ earlier ++ slice_index_or last (bucket_of seed size r.key) 0 ∷ []
    → IsIndex seed rs size now then
added seed rs size last earlier r now then is whole at sets links =
    subst (λ (ns : List ℕ). IsIndex seed rs size ns then) (sym sets)
    (subst (λ (ns : List ℕ). IsIndex seed rs size (slice_set last bucket (length earlier + 1)) ns) (sym links) (record {
      some = is.some;
      last_is = λ b below. elim (cases_Bool (nat_eq bucket b)) [
        | inl eq ↦
            let same : bucket ≡ b = eqb-true bucket b eq in
            ap (slice_get (slice_set last bucket (length earlier + 1))) (sym same)
            ∙ got_set last bucket known (length earlier + 1) there
            ∙ ap Some (add-one (length earlier)
            ∙ (λ i. cond (sym (ap (is_with (is_in seed size b)) at ∙ eq) i) (suc (length earlier))
            (last_with (is_in seed size b) rs (length earlier))) ∙ ap (last_with (is_in seed size b) rs) (sym more))
        | inr apart ↦
            got_other last bucket b (length earlier + 1) (λ same. true≢false (sym (eq-eqb bucket b same) ∙ apart))
            ∙ is.last_is b (omega (arith, below, long))
            ∙ ap Some ((λ i. cond (sym (ap (is_with (is_in seed size b)) at ∙ apart) i) (suc (length earlier))
            (last_with (is_in seed size b) rs (length earlier))) ∙ ap (last_with (is_in seed size b) rs) (sym more))
      ];
      earlier_is = λ i x below here. elim (cases_lt i (length earlier)) [
        | inl lt ↦ got_left earlier _ i lt ∙ is.earlier_is i x lt here
        | inr ge ↦
            let end : i ≡ length earlier = omega (arith, below, ge, more) in
            let own : Some r ≡ Some x = sym at ∙ ap (slice_get rs) (sym end) ∙ here in
            let one : r ≡ x = cc in
            ap (slice_get (earlier ++ slice_index_or last bucket 0 ∷ [])) end
            ∙ got_last earlier (slice_index_or last bucket 0)
            ∙ ap Some value
            ∙ (λ j. Some (last_with (is_in seed size (bucket_of seed size (one j).key)) rs (sym end j)))
      ];
      few = omega (arith, long, is.few);
      within = omega (arith, more, slice_get_within rs (length earlier) r at);
      whole = λ some. long ∙ whole;
    }))
  where
    bucket : ℕ
    bucket = bucket_of seed size r.key

    known : ℕ
    known = last_with (is_in seed size bucket) rs (length earlier)

    there : slice_get last bucket ≡ Some known
    there = is.last_is bucket (omega (arith, whole, mod_below (key_hash seed r.key % 4294967296) size is.some))

    value : slice_index_or last bucket 0 ≡ known
    value = get_or_from_slice_get last bucket known 0 there

    long : length (slice_set last bucket (length earlier + 1)) ≡ length last
    long = length-set last bucket (length earlier + 1)

    more : length (earlier ++ slice_index_or last bucket 0 ∷ []) ≡ suc (length earlier)
    more = let both = length-append earlier (slice_index_or last bucket 0 ∷ []) in omega (arith, both)

-- the list has more rows
pub of_more : (seed : Seed) (rs ts : List TableRow) (size : ℕ) (last earlier : List ℕ) → IsIndex seed rs size last earlier
    → IsIndex seed (rs ++ ts) size last earlier
of_more seed rs ts size last earlier is = record {
  some = is.some;
  last_is = λ b below. is.last_is b below ∙ ap Some (sym (last_of_more (is_in seed size b) rs ts (length earlier) is.within));
  earlier_is = λ i x below here.
      is.earlier_is i x below (sym (got_left rs ts i (omega (arith, below, is.within))) ∙ here)
      ∙ ap Some (sym (last_of_more (is_in seed size (bucket_of seed size x.key)) rs ts i (omega (arith, below, is.within))));
  few = is.few;
  within = omega (arith, is.within, length-append rs ts);
  whole = is.whole;
}

-- an index without buckets and rows
pub begun : (seed : Seed) (rs : List TableRow) (size : ℕ) → 0 < size → IsIndex seed rs size [] []
begun seed rs size some = record {
  some = some;
  last_is = λ b below. absurd (omega (arith, below));
  earlier_is = λ i x below here. absurd (omega (arith, below));
  few = omega arith;
  within = omega arith;
  whole = λ rows. absurd (omega (arith, rows));
}

-- an index that hasn't all buckets has no rows
pub no_rows : (seed : Seed) (rs : List TableRow) (size : ℕ) (last earlier : List ℕ) → IsIndex seed rs size last earlier
    → nat_eq (length last) size ≡ false → length earlier ≡ 0
no_rows seed rs size last earlier is partly = elim (cases_lt 0 (length earlier)) [
  | inl some ↦ absurd (true≢false (sym (eq-eqb (length last) size (is.whole some)) ∙ partly))
  | inr none ↦ omega (arith, none)
]

-- an index without rows has more buckets
pub widened : (seed : Seed) (rs : List TableRow) (size : ℕ) (last earlier : List ℕ) (n : ℕ) (now : List ℕ) → IsIndex seed rs size last earlier
    → length earlier ≡ 0 → length last + n ≤ size → now ≡ last ++ replicate n 0
    → IsIndex seed rs size now earlier
widened seed rs size last earlier n now is none few more = subst (λ (ns : List ℕ). IsIndex seed rs size ns earlier) (sym more) (record {
  some = is.some;
  last_is = λ b below. elim (cases_lt b (length last)) [
    | inl lt ↦ got_left last zeros b lt ∙ is.last_is b lt
    | inr ge ↦
        let in_zeros : b - length last < length zeros = omega (arith, below, ge, both) in
        got_right last zeros b ge
        ∙ slice_get-get_or zeros (b - length last) 0 in_zeros
        ∙ ap Some (get_or-replicate n (b - length last) 0 0 (omega (arith, in_zeros, long)) ∙ ap (last_with (is_in seed size b) rs) (sym none))
  ];
  earlier_is = is.earlier_is;
  few = omega (arith, few, both, long);
  within = is.within;
  whole = λ some. absurd (omega (arith, some, none));
})
  where
    zeros : List ℕ
    zeros = replicate n 0

    long : length zeros ≡ n
    long = let no_row : ℕ = 0 in length-replicate n no_row

    both : length (last ++ zeros) ≡ length last + length zeros
    both = length-append last zeros

-- ---- other versions in a row

-- a row of the same key in its place
kept : (test : TableRow → Bool) (rs : List TableRow) (place : ℕ) (r new : TableRow) → slice_get rs place ≡ Some r → test new ≡ test r → (n : ℕ)
    → is_with test (slice_get (slice_set rs place new) n) ≡ is_with test (slice_get rs n)
kept test [] place r new at same n = refl
kept test (x ∷ rs) zero r new at same zero = let one : x ≡ r = cc in same ∙ ap test (sym one)
kept test (x ∷ rs) zero r new at same (suc n) = refl
kept test (x ∷ rs) (suc place) r new at same zero = refl
kept test (x ∷ rs) (suc place) r new at same (suc n) = kept test rs place r new at same n

last_kept : (test : TableRow → Bool) (rs : List TableRow) (place : ℕ) (r new : TableRow) → slice_get rs place ≡ Some r → test new ≡ test r → (n : ℕ)
    → last_with test (slice_set rs place new) n ≡ last_with test rs n
last_kept test rs place r new at same zero = refl
last_kept test rs place r new at same (suc n) =
    let here = kept test rs place r new at same n in
    let rest = last_kept test rs place r new at same n in
    λ i. cond (here i) (suc n) (rest i)

was : (rs : List TableRow) (place : ℕ) (r new : TableRow) (i : ℕ) (x : TableRow) → slice_get rs place ≡ Some r → new.key ≡ r.key
    → slice_get (slice_set rs place new) i ≡ Some x
    → (y : TableRow) × (slice_get rs i ≡ Some y) × (x.key ≡ y.key)
was [] place r new i x at same there = absurd (let no : None ≡ Some r = at in cc)
was (z ∷ rs) zero r new zero x at same there = let one : new ≡ x = cc in (r, at, ap (λ (y : TableRow). y.key) (sym one) ∙ same)
was (z ∷ rs) zero r new (suc i) x at same there = (x, there, refl)
was (z ∷ rs) (suc place) r new zero x at same there = (x, there, refl)
was (z ∷ rs) (suc place) r new (suc i) x at same there = was rs place r new i x at same there

pub replaced : (seed : Seed) (rs : List TableRow) (size : ℕ) (last earlier : List ℕ) (place : ℕ) (r new : TableRow)
    → IsIndex seed rs size last earlier → slice_get rs place ≡ Some r → new.key ≡ r.key
    → IsIndex seed (slice_set rs place new) size last earlier
replaced seed rs size last earlier place r new is at same =
    let tests : (b : ℕ) → is_in seed size b new ≡ is_in seed size b r = λ b. ap (λ k. nat_eq (bucket_of seed size k) b) same in
    record {
      some = is.some;
      last_is = λ b below. is.last_is b below ∙ ap Some (sym (last_kept (is_in seed size b) rs place r new at (tests b) (length earlier)));
      earlier_is = λ i x below there.
          let old = was rs place r new i x at same there in
          is.earlier_is i old.0 below old.1
          ∙ ap (λ k. Some (last_with (is_in seed size (bucket_of seed size k)) rs i)) (sym old.2)
          ∙ ap Some (sym (last_kept (is_in seed size (bucket_of seed size x.key)) rs place r new at (tests (bucket_of seed size x.key)) i));
      few = is.few;
      within = omega (arith, is.within, length-set rs place new);
      whole = is.whole;
    }

-- ---- the last row of a key

-- a row that is found is of the key
pub record IsFound (rs : List TableRow) (key : List ℕ) (place : ℕ) : Type 0 where
  pub row : TableRow
  pub at : slice_get rs place ≡ Some row
  pub key_is : row.key ≡ key

some_row : (key : List ℕ) (rs : List TableRow) (place : ℕ) (o : Option TableRow) → slice_get rs place ≡ o → is_with (is_of key) o ≡ true
    → IsFound rs key place
some_row key rs place None at is = absurd (true≢false (sym is))
some_row key rs place (Some r) at is = record { row = r; at = at; key_is = (bytes_eq-Decides r.key key).0 is }

pub found : (rs : List TableRow) (key : List ℕ) (place : ℕ) → place_of rs key ≡ Some place → IsFound rs key place
found rs key place is = some_row key rs place (slice_get rs place) refl
    (last_has (is_of key) rs (length rs) place (at_before (last_with (is_of key) rs (length rs)) is)).1
  where
    at_before : (n : ℕ) → before n ≡ Some place → n ≡ suc place
    at_before zero h = absurd (let no : None ≡ Some place = h in cc)
    at_before (suc n) h = let same : n ≡ place = cc in ap suc same

-- the place of a key's row is a place of the list
pub place_within : (rs : List TableRow) (key : List ℕ) (place : Option ℕ) → place ≡ place_of rs key → IfSome place (λ p. p < length rs)
place_within rs key None is = tt
place_within rs key (Some p) is = let f = found rs key p (sym is) in slice_get_within rs p f.row f.at

-- a row that is found is the one at its place
pub found_is : (rs : List TableRow) (key : List ℕ) (place : ℕ) (r : TableRow) → place_of rs key ≡ Some place → slice_get rs place ≡ Some r
    → r.key ≡ key
found_is rs key place r is at =
    let f = found rs key place is in
    let own : Some f.row ≡ Some r = sym f.at ∙ at in
    let same : f.row ≡ r = cc in
    sym (ap (λ (x : TableRow). x.key) same) ∙ f.key_is

-- ---- a row in the place of the last row of its key

at_more : (rs ts : List TableRow) (n : ℕ) → n ≤ length rs → at_place (rs ++ ts) (before n) ≡ at_place rs (before n)
at_more rs ts zero h = refl
at_more rs ts (suc n) h = got_left rs ts n (omega arith)

-- what a row at the end changes
pub row_set : (rs : List TableRow) (r : TableRow) (key : List ℕ) → set_in (rs ++ r ∷ []) key ≡ cond (bytes_eq r.key key) r.set (set_in rs key)
row_set rs r key =
    let long = length-append rs (r ∷ []) in
    let size : length (rs ++ r ∷ []) ≡ suc (length rs) = omega (arith, long) in
    let place : last_with (is_of key) (rs ++ r ∷ []) (length (rs ++ r ∷ [])) ≡ cond (bytes_eq r.key key) (suc (length rs))
    (last_with (is_of key) rs (length rs)) =
    ap (last_with (is_of key) (rs ++ r ∷ [])) size
    ∙ (λ i. cond (is_with (is_of key) (got_last rs r i)) (suc (length rs)) (last_of_more (is_of key) rs (r ∷ []) (length rs) (omega arith) i)) in
    ap (λ n. set_at (rs ++ r ∷ []) (before n)) place ∙ by_key (bytes_eq r.key key)
  where
    by_key : (b : Bool) → set_at (rs ++ r ∷ []) (before (cond b (suc (length rs)) (last_with (is_of key) rs (length rs)))) ≡ cond b r.set
        (set_in rs key)
    by_key true = ap (λ (o : Option TableRow). unwrap_or (option_map (λ (x : TableRow). x.set) o) []) (got_last rs r)
    by_key false = ap (λ (o : Option TableRow). unwrap_or (option_map (λ (x : TableRow). x.set) o) [])
        (at_more rs (r ∷ []) (last_with (is_of key) rs (length rs)) (last_within (is_of key) rs (length rs)))

-- the row of another key is at another place
other_place : (rs : List TableRow) (place q : ℕ) (x y : TableRow) (key : List ℕ) → slice_get rs place ≡ Some x → slice_get rs q ≡ Some y → y.key ≡ key
    → bytes_eq x.key key ≡ false → place ≢ q
other_place rs place q x y key at there same apart = λ one.
    let own : Some x ≡ Some y = sym at ∙ ap (slice_get rs) one ∙ there in
    let row : x ≡ y = cc in
    true≢false (sym ((bytes_eq-Decides x.key key).1 (ap (λ (z : TableRow). z.key) row ∙ same)) ∙ apart)

-- what a row in the place of another of its key changes
set_set : (rs : List TableRow) (place : ℕ) (r : TableRow) (key : List ℕ) → place_of rs r.key ≡ Some place
    → set_in (slice_set rs place r) key ≡ cond (bytes_eq r.key key) r.set (set_in rs key)
set_set rs place r key is =
    let f = found rs r.key place is in
    let tests : is_of key r ≡ is_of key f.row = ap (λ k. bytes_eq k key) (sym f.key_is) in
    let same : place_of (slice_set rs place r) key ≡ place_of rs key = ap before
    (ap (last_with (is_of key) (slice_set rs place r)) (length-set rs place r) ∙ last_kept (is_of key) rs place f.row r f.at tests (length rs)) in
    ap (set_at (slice_set rs place r)) same ∙ by_key f (bytes_eq r.key key) refl
  where
    at_other : IsFound rs r.key place → bytes_eq r.key key ≡ false → (o : Option ℕ) → place_of rs key ≡ o
        → set_at (slice_set rs place r) o ≡ set_at rs o
    at_other f apart None at = refl
    at_other f apart (Some q) at =
        let g = found rs key q at in
        ap (λ (o : Option TableRow). unwrap_or (option_map (λ (x : TableRow). x.set) o) [])
        (got_other rs place q r (other_place rs place q f.row g.row key f.at g.at g.key_is (ap (λ k. bytes_eq k key) f.key_is ∙ apart)))

    by_key : IsFound rs r.key place → (b : Bool) → bytes_eq r.key key ≡ b
        → set_at (slice_set rs place r) (place_of rs key) ≡ cond b r.set (set_in rs key)
    by_key f true eq =
        let one : place_of rs key ≡ Some place = ap (place_of rs) (sym ((bytes_eq-Decides r.key key).0 eq)) ∙ is in
        ap (set_at (slice_set rs place r)) one
        ∙ ap (λ (o : Option TableRow). unwrap_or (option_map (λ (x : TableRow). x.set) o) []) (got_set rs place f.row r f.at)
    by_key f false eq = at_other f eq (place_of rs key) refl

-- A put changes what the table has for its key alone.
pub put_set : (t : Table) (r : TableRow) (key : List ℕ) → set_in (with_put t r).rows key ≡ cond (bytes_eq r.key key) r.set (set_in t.rows key)
put_set t r key = by_place (place_of t.rows r.key) refl
  where
    by_place : (o : Option ℕ) → place_of t.rows r.key ≡ o → set_in (put_in t o r).rows key ≡ cond (bytes_eq r.key key) r.set (set_in t.rows key)
    by_place None is = row_set t.rows r key
    by_place (Some place) is = set_set t.rows place r key is

-- what holds of each row, and of the row that is put, holds of each row then
all_end : (P : TableRow → Type 0) (rs : List TableRow) (r : TableRow) → AllByRecursion P rs → P r → AllByRecursion P (rs ++ r ∷ [])
all_end P [] r all p = (p, tt)
all_end P (x ∷ rs) r all p = (all.0, all_end P rs r all.1 p)

all_set : (P : TableRow → Type 0) (rs : List TableRow) (i : ℕ) (r : TableRow) → AllByRecursion P rs → P r → AllByRecursion P (slice_set rs i r)
all_set P [] i r all p = tt
all_set P (x ∷ rs) zero r all p = (p, all.1)
all_set P (x ∷ rs) (suc i) r all p = (all.0, all_set P rs i r all.1 p)

pub put_each : (P : TableRow → Type 0) (t : Table) (r : TableRow) → AllByRecursion P t.rows → P r → AllByRecursion P (with_put t r).rows
put_each P t r all p = by_place (place_of t.rows r.key)
  where
    by_place : (o : Option ℕ) → AllByRecursion P (put_in t o r).rows
    by_place None = all_end P t.rows r all p
    by_place (Some place) = all_set P t.rows place r all p

-- the room that a put leaves
pub put_room : (t : Table) (o : Option ℕ) (r : TableRow) → t.room ≤ (put_in t o r).room + 1
put_room t None r = omega arith
put_room t (Some place) r = omega arith

-- ---- many rows

-- the last row is put first
pub all_push : (t : Table) (rows : List TableRow) (r : TableRow) → with_all t (rows ++ r ∷ []) ≡ with_all (with_put t r) rows
all_push t [] r = refl
all_push t (x ∷ rows) r = ap (λ (u : Table). with_put u x) (all_push t rows r)

-- rows that have the right versions are put: each key has its right versions then, if each other key had them before
pub all_sets : (right : List ℕ → List Version) (t : Table) (rows : List TableRow) (key : List ℕ)
    → AllByRecursion (λ (r : TableRow). r.set ≡ right r.key) rows → (list_any (is_of key) rows ≡ false → set_in t.rows key ≡ right key)
    → set_in (with_all t rows).rows key ≡ right key
all_sets right t [] key each others = others refl
all_sets right t (r ∷ rows) key each others = put_set (with_all t rows) r key ∙ by_key (bytes_eq r.key key) refl (all_sets right t rows key each.1)
  where
    by_key : (b : Bool) → bytes_eq r.key key ≡ b
        → ((list_any (is_of key) rows ≡ false → set_in t.rows key ≡ right key) → set_in (with_all t rows).rows key ≡ right key)
        → cond b r.set (set_in (with_all t rows).rows key) ≡ right key
    by_key true eq rest = each.0 ∙ ap right ((bytes_eq-Decides r.key key).0 eq)
    by_key false eq rest = rest (λ none. others (rw eq none))

-- what holds of each row before, and of the rows that are put, holds of each row then
pub all_each : (P : TableRow → Type 0) (t : Table) (rows : List TableRow) → AllByRecursion P t.rows → AllByRecursion P rows
    → AllByRecursion P (with_all t rows).rows
all_each P t [] before new = before
all_each P t (r ∷ rows) before new = put_each P (with_all t rows) r (all_each P t rows before new.1) new.0

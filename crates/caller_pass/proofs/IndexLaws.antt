-- Where a pass has its receipts of each key.
use Rattle.std.proofs.Common.{◌≡◌, ℕ, zero, suc, ◌+◌, ◌<◌, ◌≤◌, Bool, true, false, cond, List, [], ◌∷◌, ◌++◌, length, take, drop, Option, Some, None}
use Rattle.std.proofs.Common.{refl, sym, ap, subst, arith, ◌∙◌, ◌-◌, add-one, inl, inr, eq-eqb, eqb-true, true≢false}
use Rattle.std.specs.Prelude.{slice_get, option_map, bytes_eq, nat_eq}
use Rattle.std.proofs.lemmas.Bool.{cases_lt, cases_Bool}
use Rattle.std.proofs.lemmas.List.{length-append, length-drop, take_all}
use Rattle.std.proofs.lemmas.Option.{slice_get_within}
use Rattle.std.proofs.lemmas.Slice.Eq.{bytes_eq-Decides}
use Rattle.key_ring.specs.Hashes.{key_hash}
use Rattle.version_set.specs.declared.version.Version.{Version}
use Rattle.range_journal.specs.declared.journal.Entry.{Entry}
use Rattle.caller_pass.specs.declared.receipt_index.ByKey.{ByKey}
use Rattle.caller_pass.specs.Locks.{is_missing, first_missing}
use Rattle.caller_pass.specs.Indexes.{hash_at, is_entry_of, last_of, found_in, IsIndex}

-- ---- places of a list

got_left : {X : Type 0} → (xs ys : List X) (i : ℕ) → i < length xs → slice_get (xs ++ ys) i ≡ slice_get xs i
got_left [] ys i below = absurd (omega arith)
got_left (x ∷ xs) ys zero below = refl
got_left (x ∷ xs) ys (suc i) below = got_left xs ys i (omega arith)

got_last : {X : Type 0} → (xs : List X) (y : X) → slice_get (xs ++ y ∷ []) (length xs) ≡ Some y
got_last [] y = refl
got_last (x ∷ xs) y = got_last xs y

got : {X : Type 0} → (xs : List X) (i : ℕ) → i < length xs → (x : X) × (slice_get xs i ≡ Some x)
got [] i below = absurd (omega arith)
got (x ∷ xs) zero below = (x, refl)
got (x ∷ xs) (suc i) below = got xs i (omega arith)

drop_at : {X : Type 0} → (xs : List X) (i : ℕ) (x : X) → slice_get xs i ≡ Some x → drop i xs ≡ x ∷ drop (suc i) xs
drop_at [] i x at = absurd (let no : None ≡ Some x = at in cc)
drop_at (y ∷ xs) zero x at = let same : y ≡ x = cc in ap (λ z. z ∷ xs) same
drop_at (y ∷ xs) (suc i) x at = drop_at xs i x at

-- ---- the last entry of a hash

last_of_more : (es fs : List Entry) (hash : ℕ) (n : ℕ) → n ≤ length es → last_of (es ++ fs) hash n ≡ last_of es hash n
last_of_more es fs hash zero within = refl
last_of_more es fs hash (suc n) within =
    let same = got_left es fs n (omega arith) in
    let before = last_of_more es fs hash n (omega arith) in
    λ i. cond (is_entry_of (same i) hash) (suc n) (before i)

-- where there is a last entry of a hash, it is of the hash
last_is_of : (es : List Entry) (hash : ℕ) (n i : ℕ) → last_of es hash n ≡ suc i → (i < n) × (is_entry_of (slice_get es i) hash ≡ true)
last_is_of es hash zero i h = absurd (let no : 0 ≡ suc i = h in omega arith)
last_is_of es hash (suc n) i h = by_test (last_is_of es hash n i) (is_entry_of (slice_get es n) hash) refl h
  where
    by_test : (last_of es hash n ≡ suc i → (i < n) × (is_entry_of (slice_get es i) hash ≡ true)) → (b : Bool) → is_entry_of (slice_get es n) hash ≡ b
        → cond b (suc n) (last_of es hash n) ≡ suc i
        → (i < suc n) × (is_entry_of (slice_get es i) hash ≡ true)
    by_test before true is e = let same : n ≡ i = omega arith in (omega arith, subst (λ j. is_entry_of (slice_get es j) hash ≡ true) same is)
    by_test before false is e = let known = before e in (omega (arith, known.0), known.1)

last_of_within : (es : List Entry) (hash : ℕ) (n : ℕ) → last_of es hash n ≤ n
last_of_within es hash zero = omega arith
last_of_within es hash (suc n) =
    let before = last_of_within es hash n in
    elim (is_entry_of (slice_get es n) hash) as (λ b. cond b (suc n) (last_of es hash n) ≤ suc n) [ true ↦ omega arith | false ↦ omega arith ]

-- keys of two hashes are two keys
other_key : (key other : List ℕ) → nat_eq (key_hash key) (key_hash other) ≡ false → bytes_eq key other ≡ false
other_key key other apart = elim (cases_Bool (bytes_eq key other)) [
  | inl same ↦ absurd (true≢false (sym (eq-eqb (key_hash key) (key_hash other) (ap key_hash ((bytes_eq-Decides key other).0 same))) ∙ apart))
  | inr differ ↦ differ
]

of_other_front : (e : Entry) (es : List Entry) (key : List ℕ) (vs : List Version) → nat_eq (key_hash e.key) (key_hash key) ≡ false
    → first_missing (e ∷ es) key vs ≡ first_missing es key vs
unfolding is_missing
of_other_front e es key vs apart = rw (other_key e.key key apart)

-- the first missing entry after the last one of a key's hash among the first n is the first missing one after those n
first_from_last : (es : List Entry) (key : List ℕ) (vs : List Version) (n : ℕ) → n ≤ length es
    → first_missing (drop (last_of es (key_hash key) n) es) key vs ≡ first_missing (drop n es) key vs
first_from_last es key vs zero within = refl
first_from_last es key vs (suc n) within =
    let entry = got es n (omega arith) in
    by_test entry.0 entry.1 (first_from_last es key vs n (omega arith)) (nat_eq (key_hash entry.0.key) (key_hash key))
    (ap (λ o. is_entry_of o (key_hash key)) entry.1)
  where
    by_test : (e : Entry) → slice_get es n ≡ Some e → first_missing (drop (last_of es (key_hash key) n) es) key vs ≡ first_missing (drop n es) key vs
        → (b : Bool) → is_entry_of (slice_get es n) (key_hash key) ≡ b
        → first_missing (drop (last_of es (key_hash key) (suc n)) es) key vs ≡ first_missing (drop (suc n) es) key vs
    by_test e at before true is = ap (λ b. first_missing (drop (cond b (suc n) (last_of es (key_hash key) n)) es) key vs) is
    by_test e at before false is =
        ap (λ b. first_missing (drop (cond b (suc n) (last_of es (key_hash key) n)) es) key vs) is
        ∙ before
        ∙ ap (λ xs. first_missing xs key vs) (drop_at es n e at)
        ∙ of_other_front e (drop (suc n) es) key vs (sym (ap (λ o. is_entry_of o (key_hash key)) at) ∙ is)

-- ---- an index

-- an index of some entries is one of these and more
pub grown : (es fs ns : List Entry) (index : ByKey) → IsIndex es index → ns ≡ es ++ fs → IsIndex ns index
grown es fs ns index is are = subst (λ (xs : List Entry). IsIndex xs index) (sym are) (record {
  last = λ hash. is.last hash ∙ sym (last_of_more es fs hash (length index.earlier.items) (omega (arith, is.known, is.within)));
  earlier = λ i e below at.
      let within : i < length es = omega (arith, is.known, is.within) in
      is.earlier i e below (sym (got_left es fs i within) ∙ at) ∙ ap Some (sym (last_of_more es fs (key_hash e.key) i (omega arith)));
  known = is.known;
  within = omega (arith, is.within, length-append es fs);
  hashes = λ i below. is.hashes i below ∙ ap (option_map (λ (e : Entry). key_hash e.key)) (sym (got_left es fs i (omega (arith, is.within))));
})

-- the hash of the last entry
pub last_hash : (es ns : List Entry) (e : Entry) (key : List ℕ) (hash : ℕ) → ns ≡ es ++ e ∷ [] → e.key ≡ key → hash ≡ key_hash key
    → hash_at ns (length ns - 1) ≡ Some hash
last_hash es ns e key hash are of_key is =
    let place : length ns - 1 ≡ length es = omega (arith, ap length are, length-append es (e ∷ [])) in
    (λ i. hash_at (are i) (place i)) ∙ ap (option_map (λ (x : Entry). key_hash x.key)) (got_last es e) ∙ ap (λ k. Some (key_hash k)) of_key
    ∙ ap Some (sym is)

-- the entry at a place is of its hash
entry_of_hash : (o : Option Entry) (hash q : ℕ) → option_map (λ (e : Entry). key_hash e.key) o ≡ Some hash → is_entry_of o q ≡ nat_eq hash q
entry_of_hash None hash q at = absurd (let no : None ≡ Some hash = at in cc)
entry_of_hash (Some e) hash q at = let same : key_hash e.key ≡ hash = cc in ap (λ f. nat_eq f q) same

-- the index that links one more entry
pub linked : (es : List Entry) (index new : ByKey) (hash : ℕ) → IsIndex es index
    → slice_get index.hashes.items (length index.earlier.items) ≡ Some hash → new.hashes ≡ index.hashes
    → new.earlier.items ≡ index.earlier.items ++ found_in index hash ∷ []
    → ((q : ℕ) → found_in new q ≡ cond (nat_eq hash q) (length index.earlier.items + 1) (found_in index q))
    → IsIndex es new
linked es index new hash is has same items found =
    let n = length index.earlier.items in
    let more : n < length index.hashes.items = slice_get_within index.hashes.items n hash has in
    let at : hash_at es n ≡ Some hash = sym (is.hashes n more) ∙ has in
    let longer : length new.earlier.items ≡ suc n = omega (arith, ap length items, length-append index.earlier.items (found_in index hash ∷ [])) in
    record {
      last = λ q.
          found q
          ∙ (λ i. cond (sym (entry_of_hash (slice_get es n) hash q at) i) (add-one n i) (is.last q i))
          ∙ ap (last_of es q) (sym longer);
      earlier = λ i x below there. ap (λ xs. slice_get xs i) items ∙ elim (cases_lt i n) [
        | inl lt ↦ got_left index.earlier.items (found_in index hash ∷ []) i lt ∙ is.earlier i x lt there
        | inr ge ↦
            let last : i ≡ n = omega arith in
            let own : Some hash ≡ Some (key_hash x.key) = sym at ∙ ap (hash_at es) (sym last)
            ∙ ap (option_map (λ (e : Entry). key_hash e.key)) there in
            let one : hash ≡ key_hash x.key = cc in
            ap (slice_get (index.earlier.items ++ found_in index hash ∷ [])) last
            ∙ got_last index.earlier.items (found_in index hash)
            ∙ ap Some (is.last hash)
            ∙ (λ j. Some (last_of es (one j) (sym last j)))
      ];
      known = omega (arith, ap (λ v. length v.items) same);
      within = omega (arith, is.within, ap (λ v. length v.items) same);
      hashes = λ i below.
          ap (λ v. slice_get v.items i) same ∙ is.hashes i (omega (arith, ap (λ v. length v.items) same));
    }

-- ---- a walk back through the entries of a hash

-- how far it has come: the next entry, and the first missing one of those after it
pub record IsWalked (es : List Entry) (index : ByKey) (key : List ℕ) (vs : List Version) (next : ℕ) (found : Option ℕ) : Type 0 where
  pub from : ℕ
  pub within : from ≤ length es
  pub below : next ≤ length index.earlier.items
  pub next_is : next ≡ last_of es (key_hash key) from
  pub found_is : found ≡ first_missing (drop from es) key vs

-- the walk at its start, where n entries are linked
pub walk_begins : (es : List Entry) (index : ByKey) (key : List ℕ) (vs : List Version) (n next : ℕ) (found : Option ℕ) → IsIndex es index
    → n ≡ length index.earlier.items → next ≡ found_in index (key_hash key)
    → found ≡ first_missing (take (length es - n) (drop n es)) key vs → IsWalked es index key vs next found
walk_begins es index key vs n next found is counted last first = record {
  from = n;
  within = omega (arith, is.known, is.within);
  below = omega (arith, last, is.last (key_hash key), last_of_within es (key_hash key) (length index.earlier.items));
  next_is = last ∙ is.last (key_hash key) ∙ ap (last_of es (key_hash key)) (sym counted);
  found_is = first ∙ ap (λ xs. first_missing xs key vs) (take_all (length es - n) (drop n es) (omega (arith, length-drop n es)));
}

-- the first missing entry of all, once there is no next one
pub walk_ends : (es : List Entry) (index : ByKey) (key : List ℕ) (vs : List Version) (next : ℕ) (found : Option ℕ)
    → IsWalked es index key vs next found → next ≡ 0 → found ≡ first_missing es key vs
walk_ends es index key vs next found w last =
    w.found_is ∙ sym (first_from_last es key vs w.from w.within)
    ∙ ap (λ n. first_missing (drop n es) key vs) (sym w.next_is ∙ last)

-- the entry before one that is of its hash has a lower place
pub falls : (es : List Entry) (index : ByKey) (place : ℕ) (e : Entry) (earlier : ℕ) → IsIndex es index → place < length index.earlier.items
    → slice_get es place ≡ Some e
    → slice_get index.earlier.items place ≡ Some earlier → earlier ≤ place
falls es index place e earlier is below at before =
    let known : Some earlier ≡ Some (last_of es (key_hash e.key) place) = sym before ∙ is.earlier place e below at in
    let same : earlier ≡ last_of es (key_hash e.key) place = cc in
    omega (arith, last_of_within es (key_hash e.key) place)

-- a step of a walk: its next entry, whether that is missing, and the link from it
pub record IsWalkStep (es : List Entry) (index : ByKey) (key : List ℕ) (vs : List Version) (next : ℕ) (found : Option ℕ) (earlier : ℕ)
    (now : Option ℕ) : Type 0 where
  pub entry : Entry
  pub missing : Bool
  pub more : 0 < next
  pub at : slice_get es (next - 1) ≡ Some entry
  pub before : slice_get index.earlier.items (next - 1) ≡ Some earlier
  pub tested : missing ≡ is_missing entry key vs
  pub now_is : now ≡ cond missing (Some entry.number) found

-- the walk after its next entry
pub walk_goes_on : (es : List Entry) (index : ByKey) (key : List ℕ) (vs : List Version) (next : ℕ) (found : Option ℕ) (earlier : ℕ) (now : Option ℕ)
    → IsIndex es index → IsWalked es index key vs next found → IsWalkStep es index key vs next found earlier now
    → IsWalked es index key vs earlier now
walk_goes_on es index key vs next found earlier now is w step =
    let e = step.entry in
    let at = step.at in
    let place = next - 1 in
    let one : next ≡ suc place = omega (arith, step.more) in
    let here = last_is_of es (key_hash key) w.from place (sym w.next_is ∙ one) in
    let below : place < length index.earlier.items = omega (arith, w.below) in
    let of_front : key_hash e.key ≡ key_hash key = eqb-true (key_hash e.key) (key_hash key)
    (ap (λ o. is_entry_of o (key_hash key)) (sym at) ∙ here.1) in
    let known : Some earlier ≡ Some (last_of es (key_hash e.key) place) = sym step.before ∙ is.earlier place e below at in
    let same : earlier ≡ last_of es (key_hash e.key) place = cc in
    let was : found ≡ first_missing (drop (suc place) es) key vs =
    w.found_is ∙ sym (first_from_last es key vs w.from w.within) ∙ ap (λ n. first_missing (drop n es) key vs) (sym w.next_is ∙ one) in
    record {
      from = place;
      within = omega (arith, is.known, is.within);
      below = omega (arith, last_of_within es (key_hash e.key) place);
      next_is = same ∙ ap (λ f. last_of es f place) of_front;
      found_is =
          step.now_is
          ∙ (λ i. cond (step.tested i) (Some e.number) (was i))
          ∙ ap (λ xs. first_missing xs key vs) (sym (drop_at es place e at));
    }

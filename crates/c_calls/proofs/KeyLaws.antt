-- The first key above a key, run by run.
use Rattle.std.proofs.Common.{◌≡◌, ℕ, zero, suc, ◌+◌, ◌-◌, ◌<◌, ◌≤◌, true, false, List, [], ◌∷◌, ◌++◌, length, take, get_or, cond, refl, sym, ap}
use Rattle.std.proofs.Common.{◌∙◌, arith, ⊎_elim}
use Rattle.std.specs.Prelude.{Some, None}
use Rattle.std.specs.declared.cmp.Ordering.{Ordering}
use Rattle.std.specs.declared.cmp.Ordering.TheVariants.{Less, Equal, Greater}
use Rattle.std.specs.Ordering.{is_lt}
use Rattle.std.proofs.lemmas.Bool.{cases_lt}
use Rattle.version_set.proofs.ListLaws.{Pairwise-filter}
use Rattle.row_bytes.specs.declared.row.Row.{Row}
use Rattle.row_bytes.specs.Rows.{is_before}
use Rattle.range_journal.specs.declared.journal.Entry.{Entry}
use Rattle.hash_tree.specs.Leaves.{key_cmp, AscendByKey, rows_in_leaf}
use Rattle.hash_tree.proofs.KeyLaws.{less_trans, ascend_pair}
use Rattle.range_store.specs.Rows.{rows_of}
use Rattle.range_store.proofs.RowLaws.{rows_of-ascend}
use Rattle.c_calls.specs.Keys.{key_after}

pub leaf_ascends : (leaf : List ℕ → ℕ) (i : ℕ) (es : List Entry) → AscendByKey (rows_in_leaf leaf i (rows_of es))
leaf_ascends leaf i es = Pairwise-filter (λ (r x : Row). key_cmp r.key x.key ≡ Less) _ (rows_of es) (rows_of-ascend es)

-- rows that aren't above k are passed
pub passed : (k : List ℕ) (run rest : List Row) (d : Row) → ((i : ℕ) → i < length run → is_before k (get_or run i d).key ≡ false)
    → key_after k (run ++ rest) ≡ key_after k rest
passed k [] rest d none = refl
passed k (r ∷ run) rest d none =
    let here : is_before k r.key ≡ false = none 0 (omega arith) in
    rw here (passed k run rest d (λ i lt. none (suc i) (omega arith)))

-- a row above k ends the search
pub ended : (k : List ℕ) (run rest : List Row) (i : ℕ) (d : Row) → i < length run → is_before k (get_or run i d).key ≡ true
    → key_after k (run ++ rest) ≡ key_after k run
ended k [] rest i d lt above = absurd (omega (arith, lt))
ended k (r ∷ run) rest zero d lt above = let here : is_before k r.key ≡ true = above in rw here refl
ended k (r ∷ run) rest (suc i) d lt above =
    let more = ended k run rest i d (omega arith) above in
    elim (is_before k r.key) as (λ b. cond b (Some r.key) (key_after k (run ++ rest)) ≡ cond b (Some r.key) (key_after k run)) [
      | true ↦ refl
      | false ↦ more
    ]

-- what is less than a key that isn't above k isn't above k
lesser_not_above : (k x y : List ℕ) → key_cmp x y ≡ Less → is_before k y ≡ false → is_before k x ≡ false
lesser_not_above k x y less not = cases (key_cmp k x) refl
  where
    cases : (o : Ordering) → key_cmp k x ≡ o → is_lt o ≡ false
    cases Less e = absurd (cc (ap is_lt (less_trans k x y e less), not))
    cases Equal e = refl
    cases Greater e = refl

-- if the last one of ascending rows isn't above k, none is
pub none_above : (k : List ℕ) (run : List Row) (d : Row) → AscendByKey run → is_before k (get_or run (length run - 1) d).key ≡ false
    → (i : ℕ) → i < length run → is_before k (get_or run i d).key ≡ false
none_above k run d a last i lt =
    ⊎_elim
    (λ (before : i < length run - 1). lesser_not_above k (get_or run i d).key (get_or run (length run - 1) d).key
    (ascend_pair run i (length run - 1) d a before (omega (arith, lt))) last)
    (λ (at : length run - 1 ≤ i).
    let same : i ≡ length run - 1 = omega (arith, at, lt) in
    ap (λ j. is_before k (get_or run j d).key) same ∙ last)
    (cases_lt i (length run - 1))

-- the first row above k, if none before it is
pub found : (k : List ℕ) (rows : List Row) (i : ℕ) (r : Row) → i < length rows → r ≡ get_or rows i r → key_after k (take i rows) ≡ None
    → is_before k r.key ≡ true → Some r.key ≡ key_after k rows
found k [] i r lt at none above = absurd (omega (arith, lt))
found k (x ∷ rows) zero r lt at none above =
    let here : is_before k x.key ≡ true = ap (λ (y : Row). is_before k y.key) (sym at) ∙ above in
    rw here (ap (λ (y : Row). Some y.key) at)
found k (x ∷ rows) (suc i) r lt at none above =
    elim (is_before k x.key) as (λ b. cond b (Some x.key) (key_after k (take i rows)) ≡ None → Some r.key ≡ cond b (Some x.key) (key_after k rows)) [
      | true ↦ λ e. absurd (cc)
      | false ↦ λ e. found k rows i r (omega arith) at e above
    ] none

-- one more row that isn't above k
pub none_yet : (k : List ℕ) (rows : List Row) (i : ℕ) (r : Row) → i < length rows → r ≡ get_or rows i r → key_after k (take i rows) ≡ None
    → is_before k r.key ≡ false → key_after k (take (i + 1) rows) ≡ None
none_yet k [] i r lt at none not = absurd (omega (arith, lt))
none_yet k (x ∷ rows) zero r lt at none not =
    let here : is_before k x.key ≡ false = ap (λ (y : Row). is_before k y.key) (sym at) ∙ not in
    rw here refl
none_yet k (x ∷ rows) (suc i) r lt at none not =
    let more : suc i + 1 ≡ suc (i + 1) = omega arith in
    ap (λ n. key_after k (take n (x ∷ rows))) more ∙
    elim (is_before k x.key) as (λ b. cond b (Some x.key) (key_after k (take i rows)) ≡ None
    → cond b (Some x.key) (key_after k (take (i + 1) rows)) ≡ None) [
      | true ↦ λ e. absurd (cc)
      | false ↦ λ e. none_yet k rows i r (omega arith) at e not
    ] none

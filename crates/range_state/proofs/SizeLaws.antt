-- The size of what sessions keep.
use Rattle.std.proofs.Common.{◌≡◌, ℕ, ◌+◌, ◌-◌, ◌^◌, ◌<◌, ◌≤◌, List, [], ◌∷◌, ◌++◌, length, map, take, drop, get_or, sym, ap, ◌∙◌, arith}
use Rattle.std.specs.Prelude.{min}
use Rattle.std.specs.List.{sum, range_with_len}
use Rattle.std.proofs.lemmas.List.{take_more, drop_more, drop_all}
use Rattle.std.proofs.lemmas.List.FromFn.{sum_by-map-range_with_len_more}
use Rattle.std.proofs.lemmas.List.Sums.{sum_by_push}
use Rattle.version_set.proofs.SizeLaws.{cut_sum}
use Rattle.range_tree.specs.Trees.{RangeTree}
use Rattle.sync_session.specs.Walks.{TakenText}
use Rattle.range_state.specs.declared.«record».Record.{Record}
use Rattle.range_state.specs.Bytes.{sessions_len, session_len, taken_len}

-- the size of one more text
pub next_text : (taken : List TakenText) (i : ℕ) (t : TakenText) (a l sum : ℕ) → i < length taken → t ≡ get_or taken i t
    → a ≡ min (taken_len (take i taken)) (2 ^ 64 - 1) → l ≡ min (length t.text) (2 ^ 64 - 1) → sum ≡ min (a + l) (2 ^ 64 - 1)
    → sum ≡ min (taken_len (take (i + 1) taken)) (2 ^ 64 - 1)
next_text taken i t a l sum within is first second added =
    let more : take (i + 1) taken ≡ take i taken ++ t ∷ [] = take_more taken i t within ∙ ap (λ (x : TakenText). take i taken ++ x ∷ []) (sym is) in
    cut_sum _ a l (taken_len (take i taken)) (length t.text) sum first second added
    ∙ ap (λ n. min n (2 ^ 64 - 1)) (sym (sum_by_push (λ (x : TakenText). length x.text) (take i taken) t) ∙ ap taken_len (sym more))

-- the size of one more leaf
pub next_leaf : (f : ℕ → ℕ) (i a l total : ℕ) → a ≡ min (sum (map f (range_with_len 0 i))) (2 ^ 64 - 1) → l ≡ min (f i) (2 ^ 64 - 1)
    → total ≡ min (a + l) (2 ^ 64 - 1) → total ≡ min (sum (map f (range_with_len 0 (i + 1)))) (2 ^ 64 - 1)
next_leaf f i a l total first second added =
    cut_sum _ a l (sum (map f (range_with_len 0 i))) (f i) total first second added
    ∙ ap (λ n. min n (2 ^ 64 - 1)) (sym (sum_by-map-range_with_len_more (λ x. x) f 0 i i (omega arith)))

-- the size of one more session
pub next_session : (t : RangeTree) (records : List Record) (i : ℕ) (r : Record) (a l sum : ℕ) → i < length records → r ≡ get_or records i r
    → min (a + sessions_len t (drop i records)) (2 ^ 64 - 1) ≡ min (sessions_len t records) (2 ^ 64 - 1)
    → l ≡ min (session_len t r.session (drop (i + 1) records)) (2 ^ 64 - 1) → sum ≡ min (a + l) (2 ^ 64 - 1)
    → min (sum + sessions_len t (drop (i + 1) records)) (2 ^ 64 - 1) ≡ min (sessions_len t records) (2 ^ 64 - 1)
unfolding sessions_len
next_session t records i r a l sum within is first second added =
    let cons : drop i records ≡ r ∷ drop (i + 1) records = drop_more records i r within ∙ ap (λ (x : Record). x ∷ drop (i + 1) records) (sym is) in
    let rest : sessions_len t (drop i records) ≡ session_len t r.session (drop (i + 1) records) + sessions_len t (drop (i + 1) records) = ap
    (sessions_len t) cons in
    omega arith

-- the size when no session is left
pub no_session : (t : RangeTree) (records : List Record) (i a : ℕ) → length records ≤ i → a ≤ 2 ^ 64 - 1
    → min (a + sessions_len t (drop i records)) (2 ^ 64 - 1) ≡ min (sessions_len t records) (2 ^ 64 - 1)
    → a ≡ min (sessions_len t records) (2 ^ 64 - 1)
unfolding sessions_len
no_session t records i a end short all =
    let none : sessions_len t (drop i records) ≡ 0 = ap (sessions_len t) (drop_all i records end) in
    omega arith

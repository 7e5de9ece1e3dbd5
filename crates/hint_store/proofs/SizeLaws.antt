-- The size of a store with one more hint, and of one in which a hint has another fate.
use Rattle.std.proofs.Common.{◌≡◌, ℕ, ◌+◌, ◌-◌, ◌^◌, ◌<◌, List, [], ◌∷◌, ◌++◌, length, get_or, set, sym, ap, ◌∙◌, arith}
use Rattle.std.specs.Prelude.{min}
use Rattle.std.proofs.lemmas.List.Sums.{sum_by_push, sum_by-set}
use Rattle.version_set.proofs.SizeLaws.{cut_sum}
use Rattle.hint_store.specs.declared.hint.Hint.{Hint}
use Rattle.hint_store.specs.declared.hint.Kept.{Kept}
use Rattle.hint_store.specs.Sizes.{hint_len, hints_len}

pub kept_len : (hints pushed : List Kept) (k : Kept) (a b sum : ℕ) → a ≡ min (hints_len hints) (2 ^ 64 - 1) → b ≡ min (hint_len k) (2 ^ 64 - 1)
    → sum ≡ min (a + b) (2 ^ 64 - 1) → pushed ≡ hints ++ k ∷ [] → sum ≡ min (hints_len pushed) (2 ^ 64 - 1)
kept_len hints pushed k a b sum first second is more =
    cut_sum _ a b (hints_len hints) (hint_len k) sum first second is ∙ ap (λ n. min n (2 ^ 64 - 1)) (sym (sum_by_push hint_len hints k))
    ∙ ap (λ (ks : List Kept). min (hints_len ks) (2 ^ 64 - 1)) (sym more)

-- a hint in place of another one that is the same but for its fate
pub closed_len : (hints : List Kept) (i : ℕ) (k d : Kept) → i < length hints → k.hint ≡ (get_or hints i d).hint
    → hints_len (set hints i k) ≡ hints_len hints
closed_len hints i k d within same =
    let one : hint_len k ≡ hint_len (get_or hints i d) = ap (λ (h : Hint). hint_len (record { hint = h; fate = k.fate })) same in
    let sums = sum_by-set hint_len hints i k d within in
    omega arith

-- The size of a journal with more entries, and of one whose entries are told as copies.
use Rattle.std.proofs.Common.{◌≡◌, ℕ, ◌+◌, ◌-◌, ◌^◌, List, [], ◌∷◌, ◌++◌, refl, sym, ap, ◌∙◌}
use Rattle.std.specs.Prelude.{min}
use Rattle.std.proofs.lemmas.List.Sums.{sum_by-cons, sum_by_push, sum_by-append}
use Rattle.version_set.proofs.SizeLaws.{cut_sum}
use Rattle.range_journal.specs.declared.journal.Entry.{Entry}
use Rattle.range_journal.specs.Copies.{as_copy, as_copies}
use Rattle.range_journal.specs.Sizes.{entry_len, entries_len}

-- copies have the bytes that the entries have
pub copies_len : (es : List Entry) → entries_len (as_copies es) ≡ entries_len es
copies_len [] = refl
copies_len (e ∷ es) = sum_by-cons entry_len (as_copy e) (as_copies es) ∙ ap (λ n. entry_len e + n) (copies_len es) ∙ sym (sum_by-cons entry_len e es)

-- the size with an entry more
pub pushed_len : (es : List Entry) (e : Entry) (a b sum : ℕ) → a ≡ min (entries_len es) (2 ^ 64 - 1) → b ≡ min (entry_len e) (2 ^ 64 - 1)
    → sum ≡ min (a + b) (2 ^ 64 - 1) → sum ≡ min (entries_len (es ++ e ∷ [])) (2 ^ 64 - 1)
pushed_len es e a b sum first second is = cut_sum _ a b (entries_len es) (entry_len e) sum first second is
    ∙ ap (λ n. min n (2 ^ 64 - 1)) (sym (sum_by_push entry_len es e))

-- the size with more entries
pub appended_len : (es more : List Entry) (a b sum : ℕ) → a ≡ min (entries_len es) (2 ^ 64 - 1) → b ≡ min (entries_len more) (2 ^ 64 - 1)
    → sum ≡ min (a + b) (2 ^ 64 - 1) → sum ≡ min (entries_len (es ++ more)) (2 ^ 64 - 1)
appended_len es more a b sum first second is = cut_sum _ a b (entries_len es) (entries_len more) sum first second is
    ∙ ap (λ n. min n (2 ^ 64 - 1)) (sym (sum_by-append entry_len es more))

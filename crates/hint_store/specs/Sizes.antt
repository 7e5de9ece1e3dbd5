-- The size of a carrier's hints, in bytes.
use Rattle.std.specs.Prelude.{ℕ, List}
use Rattle.std.specs.List.{sum_by}
use Rattle.version_set.specs.Sizes.{payload_len}
use Rattle.hint_store.specs.declared.hint.Kept.{Kept}

-- the bytes of a hint: its key, and its version's value and clock
abbrev pub hint_len : Kept → ℕ
hint_len k = payload_len k.hint.key k.hint.version

-- the bytes of hints, pending and delivered
abbrev pub hints_len : List Kept → ℕ
hints_len hints = sum_by hint_len hints

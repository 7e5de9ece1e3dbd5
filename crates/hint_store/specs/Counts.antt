-- The counts of a carrier's hints.
use Rattle.std.specs.Prelude.{not, List, length, filter}
use Rattle.hint_store.specs.declared.counts.HintCounts.{HintCounts}
use Rattle.hint_store.specs.declared.hint.Kept.{Kept}
use Rattle.hint_store.specs.Hints.{is_pending, pending_count}

-- the number of pending hints, and of the others
abbrev pub counts_of : List Kept → HintCounts
counts_of hints = record { pending = pending_count hints; delivered = length (filter (λ k. not (is_pending k)) hints) }

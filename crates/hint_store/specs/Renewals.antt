-- Stores whose hints are numbered again from 1.
use Rattle.std.specs.Prelude.{ℕ, ◌+◌, List, [], ◌∷◌, filter}
use Rattle.hint_store.specs.declared.hint.Fate.TheVariants.{Pending}
use Rattle.hint_store.specs.declared.hint.Kept.{Kept}
use Rattle.hint_store.specs.Hints.{is_pending}

-- hints numbered from n on, in order, all pending
abbrev pub numbered_from : ℕ → List Kept → List Kept
numbered_from n [] = []
numbered_from n (k ∷ ks) = record { hint = record k.hint { id = n }; fate = Pending } ∷ numbered_from (n + 1) ks

-- the pending hints of a store, in order, numbered from 1
abbrev pub renewed : List Kept → List Kept
renewed hints = numbered_from 1 (filter is_pending hints)

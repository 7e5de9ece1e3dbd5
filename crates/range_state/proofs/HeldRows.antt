-- The rows of entries are held.
use Rattle.std.proofs.Common.{List, ℕ, map, [], ◌∷◌}
use Rattle.range_journal.specs.declared.journal.Entry.{Entry}
use Rattle.range_journal.specs.Journal.{held}
use Rattle.sync_session.specs.Walks.{Held}
use Rattle.range_store.specs.Rows.{rows_of, keys_from}
use Rattle.range_store.proofs.HeldLaws.{itself}

held_rows : (es : List Entry) (ks : List (List ℕ)) → Held (map (λ k. record { key = k; versions = held es k }) ks) (held es)
held_rows es [] = tt
held_rows es (k ∷ ks) = (itself (held es k), held_rows es ks)

-- the rows of entries are held
pub rows_held : (es : List Entry) → Held (rows_of es) (held es)
unfolding rows_of
rows_held es = held_rows es (keys_from [] es)

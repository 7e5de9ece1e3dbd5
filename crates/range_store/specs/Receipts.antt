-- The receipts of a caller who keeps them in a list.
use Rattle.std.specs.Prelude.{List, [], ◌∷◌, ◌++◌, Result, Ok, Err}
use Rattle.vclock.specs.declared.refusal.Refusal.{Refusal}
use Rattle.range_journal.specs.declared.journal.Entry.{Entry}
use Rattle.range_store.specs.declared.receipt.Accepted.{Accepted}
use Rattle.range_store.specs.declared.receipt.Accepted.TheVariants.{Taken, Known}

-- the receipts after a put: with its receipt at the end, unless it was refused
abbrev pub with_put : List Entry → Result Entry Refusal → List Entry
with_put es (Ok e) = es ++ e ∷ []
with_put es (Err e) = es

-- the receipts after a version of another node: with its receipt at the end if it was accepted
abbrev pub with_sent : List Entry → Result Accepted Refusal → List Entry
with_sent es (Ok (Taken e)) = es ++ e ∷ []
with_sent es (Ok Known) = es
with_sent es (Err e) = es

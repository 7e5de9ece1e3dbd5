use Rattle.std.proofs.Common.{◌≡◌, take}
use Rattle.hint_store.specs.Renewals.{renewed}
use Rattle.hint_store.proofs.store.renewed_from.Given as goal

abbrev pub invariant-loop-kept : goal.invariant-loop-kept
invariant-loop-kept l = l.store ≡ renewed (take l.kept-index l.hints)

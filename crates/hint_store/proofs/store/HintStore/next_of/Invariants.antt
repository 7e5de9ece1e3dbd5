use Rattle.std.proofs.Common.{◌≡◌, take}
use Rattle.std.specs.Option.{option_map}
use Rattle.hint_store.specs.Hints.{next_hint}
use Rattle.hint_store.proofs.store.HintStore.next_of.Given as goal

abbrev pub invariant-loop-owner : goal.invariant-loop-owner
invariant-loop-owner l = l.least ≡ option_map (λ h. h.id) (next_hint (take l.owner-index l.owners) l.after l.self)

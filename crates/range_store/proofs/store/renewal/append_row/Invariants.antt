use Rattle.std.proofs.Common.{◌≡◌, take, map}
use Rattle.version_set.specs.declared.version.Version.{Version}
use Rattle.range_store.specs.Renewals.{with_copies}
use Rattle.range_store.proofs.store.renewal.append_row.Given as goal

abbrev pub invariant-loop-version : goal.invariant-loop-version
invariant-loop-version l =
    l.journal ≡ with_copies l.initial.journal l.seat (map (λ (v : Version). (l.row.key, v)) (take l.version-index l.version-items))

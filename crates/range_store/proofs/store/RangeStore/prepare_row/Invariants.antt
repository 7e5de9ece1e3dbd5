use Rattle.std.proofs.Common.{take, map}
use Rattle.version_set.specs.declared.version.Version.{Version}
use Rattle.range_store.proofs.BatchLaws.{IsGoing}
use Rattle.range_store.proofs.store.RangeStore.prepare_row.Given as goal

abbrev pub invariant-loop-version : goal.invariant-loop-version
invariant-loop-version l =
    IsGoing l.self l.seat l.source l.leaf (map (λ (v : Version). (l.row.key, v)) (take l.version-index l.version-items)) l.initial.batch l.batch

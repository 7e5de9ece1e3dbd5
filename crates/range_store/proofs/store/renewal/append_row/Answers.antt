use Rattle.std.proofs.Common.{ℕ, List, [], ◌∷◌, ◌+◌, map, take, ap, ◌∙◌}
use Rattle.version_set.specs.declared.version.Version.{Version}
use Rattle.range_journal.specs.Log.{Log}
use Rattle.range_store.specs.Renewals.{with_copies}
use Rattle.range_store.proofs.BatchLaws.{map_next}
use Rattle.range_store.proofs.RenewLaws.{with_copies_of}
use Rattle.range_store.proofs.store.renewal.append_row.Goals as goal

pub loop-version-preserved : goal.loop-version-preserved
loop-version-preserved c =
    let start = c.args.journal.now in
    let vs = c.as_slice-version-items.result.now in
    let i = c.loop-version.version-index in
    let v = c.version-item.result in
    let f : Version → List ℕ × Version = λ w. (c.args.row.now.key, w) in
    c.in_ok-append_version.ensures.1
    ∙ ap (λ (log : Log). with_copies log c.args.seat (f v ∷ [])) c.loop-version.invariant
    ∙ with_copies_of start c.args.seat (map f (take i vs)) (f v ∷ []) (map f (take (i + 1) vs))
    (map_next f vs i v c.loop-version-test.true c.version-item.is)

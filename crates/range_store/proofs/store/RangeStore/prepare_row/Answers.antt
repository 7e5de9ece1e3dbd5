use Rattle.std.proofs.Common.{◌≡◌, ℕ, ◌+◌, List, [], ◌∷◌, ◌++◌, map, take, drop, sym, ap, ◌∙◌}
use Rattle.std.proofs.lemmas.Result.{err_from_is_err_and}
use Rattle.version_set.specs.declared.version.Version.{Version}
use Rattle.range_store.specs.Offers.{offers_in}
use Rattle.range_store.proofs.BatchLaws.{Offers, going_err, going_more, map_next, map_split}
use Rattle.range_store.proofs.store.RangeStore.prepare_row.Goals as goal

pub returns-in_err-prepare_version-clause-answers : goal.returns-in_err-prepare_version-clause-answers
returns-in_err-prepare_version-clause-answers c =
    let s = c.args.self.now in
    let key = c.args.row.now.key in
    let vs = c.as_slice-version-items.result.now in
    let i = c.loop-version.version-index in
    let v = c.version-item.result in
    let f : Version → List ℕ × Version = λ w. (key, w) in
    let all : offers_in c.args.row.now ≡ (map f (take i vs) ++ f v ∷ []) ++ map f (drop (i + 1) vs) =
    ap (map f) (sym c.as_slice-version-items.ensures.all) ∙ map_split f vs (i + 1)
    ∙ ap (λ (os : Offers). os ++ map f (drop (i + 1) vs)) (map_next f vs i v c.loop-version-test.true c.version-item.is) in
    let p = err_from_is_err_and c.from_residual.result c.from_residual.ensures.1 in
    rw (p.1, p.2) (going_err s c.args.seat c.args.source c.args.leaf (map f (take i vs)) (f v ∷ []) (map f (drop (i + 1) vs))
    (offers_in c.args.row.now) c.args.batch.now c.loop-version.batch c.in_err-prepare_version.field-0.0 c.loop-version.invariant all
    c.in_err-prepare_version.ensures.answers)

pub loop-version-preserved : goal.loop-version-preserved
loop-version-preserved c =
    let s = c.args.self.now in
    let key = c.args.row.now.key in
    let vs = c.as_slice-version-items.result.now in
    let i = c.loop-version.version-index in
    let v = c.version-item.result in
    let f : Version → List ℕ × Version = λ w. (key, w) in
    going_more s c.args.seat c.args.source c.args.leaf (map f (take i vs)) (f v ∷ [])
    (map f (take (i + 1) vs)) c.args.batch.now c.loop-version.batch c.prepare_version.new.batch c.loop-version.invariant
    (map_next f vs i v c.loop-version-test.true c.version-item.is) c.in_ok-prepare_version.ensures.answers.0 c.in_ok-prepare_version.ensures.ok

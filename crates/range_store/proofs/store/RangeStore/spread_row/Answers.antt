use Rattle.std.proofs.Common.{◌≡◌, ℕ, List, ◌+◌, ◌++◌, ◌∷◌, [], length, take, drop, sym, subst, ap, ◌∙◌, arith, append-nil}
use Rattle.std.proofs.lemmas.List.{length-map}
use Rattle.std.proofs.lemmas.Result.{err_from_is_err_and}
use Rattle.version_set.specs.declared.version.Version.{Version}
use Rattle.range_store.specs.FormatLoads.{IsSpread}
use Rattle.range_store.specs.Offers.{offers_in}
use Rattle.range_store.proofs.BatchLaws.{Offers}
use Rattle.range_store.proofs.SpreadLaws.{offers_at, row_next, row_room, row_split, rows_stop}
use Rattle.range_store.proofs.store.RangeStore.spread_row.Goals as goal

pub loop-version-init : goal.loop-version-init
loop-version-init c = λ offers is. subst (λ (os : Offers). IsSpread c.args.self.now c.args.seat os c.args.spread.now) (sym (append-nil offers)) is

pub spread_version-requires-clause-before : goal.spread_version-requires-clause-before
spread_version-requires-clause-before c =
    let vs = c.as_slice-version-items.result.now in (
      c.requires.before.0 ++ offers_at c.args.row.now.key (take c.loop-version.version-index vs),
      c.loop-version.invariant c.requires.before.0 c.requires.before.1,
    )

pub spread_version-requires-clause-few : goal.spread_version-requires-clause-few
spread_version-requires-clause-few c =
    let key = c.args.row.now.key in
    let vs = c.as_slice-version-items.result.now in
    let before = c.requires.before in
    let room = row_room before.0 key vs c.loop-version.version-index c.loop-version-test.true in
    let now = (c.loop-version.invariant before.0 before.1).count in
    omega (
      arith,
      room,
      now,
      before.1.count,
      c.requires.few,
      ap length c.as_slice-version-items.ensures.all,
      length-map {B = List ℕ × Version} c.args.row.now.versions (λ (v : Version). (key, v)),
    )

pub returns-in_err-spread_version : goal.returns-in_err-spread_version
returns-in_err-spread_version c =
    λ offers is.
    let s = c.args.self.now in
    let key = c.args.row.now.key in
    let vs = c.as_slice-version-items.result.now in
    let i = c.loop-version.version-index in
    let v = c.version-item.result in
    let e = c.in_err-spread_version.field-0.0 in
    let done : Offers = offers ++ offers_at key (take i vs) in
    let all : offers ++ offers_in c.args.row.now ≡ (done ++ (key, v) ∷ []) ++ offers_at key (drop (i + 1) vs) =
    ap (λ (ws : List Version). offers ++ offers_at key ws) (sym c.as_slice-version-items.ensures.all)
    ∙ row_split offers key vs i v c.loop-version-test.true c.version-item.is in
    let p = err_from_is_err_and c.from_residual.result c.from_residual.ensures.1 in
    rw (p.1, p.2) (rows_stop s c.args.seat (done ++ (key, v) ∷ []) (offers_at key (drop (i + 1) vs)) (offers ++ offers_in c.args.row.now) e all
    (c.in_err-spread_version.ensures done (c.loop-version.invariant offers is)))

pub loop-version-preserved : goal.loop-version-preserved
loop-version-preserved c =
    λ offers is.
    let key = c.args.row.now.key in
    let vs = c.as_slice-version-items.result.now in
    let i = c.loop-version.version-index in
    let done : Offers = offers ++ offers_at key (take i vs) in
    subst (λ (os : Offers). IsSpread c.args.self.now c.args.seat os c.spread_version.new.spread)
    (row_next offers key vs i c.version-item.result c.loop-version-test.true c.version-item.is)
    (c.in_ok-spread_version.ensures done (c.loop-version.invariant offers is)).1

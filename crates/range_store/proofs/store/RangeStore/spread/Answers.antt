use Rattle.std.proofs.Common.{rules, ◌≡◌, ◌+◌, ◌++◌, true, length, take, drop, refl, sym, subst, ap, ◌∙◌, arith}
use Rattle.std.proofs.lemmas.List.Elements.{All-from_recursion}
use Rattle.std.proofs.lemmas.List.Folds.{length-flat_map-take}
use Rattle.std.proofs.lemmas.Result.{err_from_is_err_and}
use Rattle.key_ring.specs.Places.{range_at}
use Rattle.row_bytes.specs.Rows.{IsRow}
use Rattle.row_bytes.specs.declared.row.Row.{Row}
use Rattle.range_store.specs.Config.{Config}
use Rattle.range_store.specs.FormatLoads.{are_here, IsSpread}
use Rattle.range_store.specs.Offers.{offers_in, offers_of}
use Rattle.range_store.specs.Store.{Store, tree_in}
use Rattle.range_store.proofs.BatchLaws.{Offers, offers_next, offers_split}
use Rattle.range_store.proofs.SpreadLaws.{here_none, row_here, rows_here, rows_stop, spread_start}
use Rattle.range_store.proofs.store.RangeStore.spread.Goals as goal

pub loop-row-init : goal.loop-row-init
loop-row-init c =
    let s = c.args.self.now in
    let tree : c.in_ok-share.field-0 ≡ tree_in s = c.in_ok-share.ensures.1
    ∙ (λ i. record { map = c.self.invariant.1 i; marks = c.self.inside.tree.marks }) ∙ ap tree_in c.self.view_is in
    spread_start s c.args.seat (record { tree = c.in_ok-share.field-0; entries = c.new.result; known = 0 }) tree c.new.ensures.items refl

pub spread_row-requires-clause-here : goal.spread_row-requires-clause-here
spread_row-requires-clause-here c =
    let s = c.args.self.now in
    let rows = c.args.rows.now in
    let i = c.loop-row.row-index in
    let r = c.row-item.result in
    let all : are_here c.self.inside.config rows ≡ true = search rules in
    let none = here_none s.config rows (subst (λ (x : Config). are_here x rows ≡ true) (ap (λ (u : Store). u.config) c.self.view_is) all) in
    let is = subst (IsRow c.args.format) (sym c.row-item.is)
    (All-from_recursion (IsRow c.args.format) rows c.requires.rows.each i r c.loop-row-test.true) in
    let range = subst (λ (x : Row). range_at s.config.bits x.key ≡ s.config.range) (sym c.row-item.is)
    (All-from_recursion (λ (x : Row). range_at s.config.bits x.key ≡ s.config.range) rows (rows_here s.config rows none) i r c.loop-row-test.true) in
    row_here s.config c.args.format r c.requires.older is range

pub spread_row-requires-clause-few : goal.spread_row-requires-clause-few
spread_row-requires-clause-few c =
    let rows = c.args.rows.now in
    let i = c.loop-row.row-index in
    let r = c.row-item.result in
    let room = length-flat_map-take offers_in rows i r c.loop-row-test.true in
    let here = ap (λ (x : Row). length (offers_in x)) c.row-item.is in
    omega (arith, room, here, c.loop-row.invariant.count, c.requires.few)

pub returns-in_err-spread_row : goal.returns-in_err-spread_row
returns-in_err-spread_row c =
    let s = c.args.self.now in
    let rows = c.args.rows.now in
    let i = c.loop-row.row-index in
    let r = c.row-item.result in
    let e = c.in_err-spread_row.field-0.0 in
    let all : are_here c.self.inside.config rows ≡ true = search rules in
    let none = here_none s.config rows (subst (λ (x : Config). are_here x rows ≡ true) (ap (λ (u : Store). u.config) c.self.view_is) all) in
    let split : offers_of rows ≡ (offers_of (take i rows) ++ offers_in r) ++ offers_of (drop (i + 1) rows) =
    offers_split rows (i + 1) ∙ ap (λ (os : Offers). os ++ offers_of (drop (i + 1) rows)) (offers_next rows i r c.loop-row-test.true c.row-item.is) in
    let p = err_from_is_err_and c.from_residual-in_err-spread_row.result c.from_residual-in_err-spread_row.ensures.1 in
    let stop = rows_stop s c.args.seat (offers_of (take i rows) ++ offers_in r) (offers_of (drop (i + 1) rows)) (offers_of rows) e split
    (c.in_err-spread_row.ensures (offers_of (take i rows)) c.loop-row.invariant) in
    rw (p.1, p.2, none) stop

pub loop-row-preserved : goal.loop-row-preserved
loop-row-preserved c =
    let s = c.args.self.now in
    let rows = c.args.rows.now in
    let i = c.loop-row.row-index in
    subst (λ (os : Offers). IsSpread s c.args.seat os c.spread_row.new.spread)
    (sym (offers_next rows i c.row-item.result c.loop-row-test.true c.row-item.is))
    (c.in_ok-spread_row.ensures (offers_of (take i rows)) c.loop-row.invariant).1

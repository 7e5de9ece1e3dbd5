use Rattle.std.proofs.Common.{[]}
use Rattle.std.proofs.lemmas.Result.{err_from_is_err_and}
use Rattle.row_bytes.specs.Reading.{pairs_at}
use Rattle.row_bytes.proofs.Loops.{pairs_go_on, pairs_end, pairs_done}
use Rattle.row_bytes.proofs.fields.pairs_of.Goals as goal

pub returns-in_err-pair : goal.returns-in_err-pair
returns-in_err-pair c =
    let p = err_from_is_err_and c.from_residual-in_err-pair.result c.from_residual-in_err-pair.ensures.1 in
    rw (p.1, p.2) (pairs_end c.in_err-pair.field-0.0 c.args.count c.pairs.counter c.pairs.above c.pairs.pairs.items c.pairs.rest.now
    (pairs_at c.args.count 0 [] c.args.bytes.now) c.pairs-test.true c.in_err-pair.ensures c.pairs.invariant)

pub pairs-preserved : goal.pairs-preserved
pairs-preserved c =
    rw c.in_ok-push.ensures.ok
    (pairs_go_on c.args.count c.pairs.counter c.pairs.above c.pairs.pairs.items c.pairs.rest.now c.in_ok-pair.pair c.in_ok-pair.after.now
    (pairs_at c.args.count 0 [] c.args.bytes.now) c.pairs-test.true c.in_ok-pair.ensures c.pairs.invariant)

pub returns : goal.returns
returns c = pairs_done c.args.count c.pairs.counter c.pairs.above c.pairs.pairs.items c.pairs.rest.now
    (pairs_at c.args.count 0 [] c.args.bytes.now) c.pairs-test.false c.pairs.invariant

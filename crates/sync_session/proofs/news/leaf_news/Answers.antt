use Rattle.std.proofs.lemmas.Result.{err_from_is_err_and}
use Rattle.sync_session.proofs.NewsLaws.{read_done, read_fault}
use Rattle.sync_session.proofs.news.leaf_news.Goals as goal

pub returns-in_err-row : goal.returns-in_err-row
returns-in_err-row c =
    λ text read.
    let p = err_from_is_err_and c.from_residual.result c.from_residual.ensures.1 in
    rw (p.1, p.2) (read_fault c.args.own.now c.args.node text c.in_err-row.field-0.0
    (c.in_err-row.ensures text c.rows.rows.items (c.rows.invariant text read)))

pub returns-in-None : goal.returns-in-None
returns-in-None c =
    λ text read.
    let step = rw c.in-None.is at c.in_ok-row.ensures text c.rows.rows.items (c.rows.invariant text read) in
    read_done step.0 step.1

pub rows-smaller : goal.rows-smaller
rows-smaller c =
    let w = c.requires.read in
    let step = rw c.in-Some.is at c.in_ok-row.ensures w.0 c.rows.rows.items (c.rows.invariant w.0 w.1) in
    step.1

pub rows-preserved : goal.rows-preserved
rows-preserved c =
    λ text read.
    let step = rw c.in-Some.is at c.in_ok-row.ensures text c.rows.rows.items (c.rows.invariant text read) in
    rw c.in_ok-push-in-Some.ensures.items step.0

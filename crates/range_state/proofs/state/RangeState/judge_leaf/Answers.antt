use Rattle.std.proofs.Common.{◌∷◌, ◌++◌, []}
use Rattle.std.proofs.lemmas.Result.{err_from_is_err_and}
use Rattle.sync_session.proofs.NewsLaws.{read_done}
use Rattle.sync_session.proofs.NewsRowLaws.{read_apart}
use Rattle.range_state.proofs.JudgementLaws.{judge_fault, judge_memory, judged}
use Rattle.range_state.proofs.NewsLaws.{news_stand}
use Rattle.range_state.proofs.state.RangeState.judge_leaf.Goals as goal

pub next_news-requires-clause-read : goal.next_news-requires-clause-read
next_news-requires-clause-read c =
    let w = c.requires.read in
    let so_far = c.rows.invariant w.0 w.1 in
    (w.0, so_far.others, so_far.read)

pub returns-in_err-row : goal.returns-in_err-row
returns-in_err-row c =
    λ text seat read.
    let so_far = c.rows.invariant text read in
    let p = err_from_is_err_and c.from_residual.result c.from_residual.ensures.1 in
    rw (p.1, p.2) (judge_fault c.args.self.now.store seat c.args.session.now.own c.args.node text c.in_err-row.field-0.0
    (c.in_err-row.ensures text so_far.others so_far.read))

pub returns-in_err-news-in-Some : goal.returns-in_err-news-in-Some
returns-in_err-news-in-Some c =
    λ text seat read.
    let so_far = c.rows.invariant text read in
    let step = rw c.in-Some.is at c.in_ok-row.ensures text so_far.others so_far.read in
    let p = err_from_is_err_and c.from_residual-in_err-news-in-Some.result c.from_residual-in_err-news-in-Some.ensures.1 in
    rw (p.1, p.2) (judge_memory c.args.self.now.store seat c.args.session.now.own c.args.node text c.in_err-news-in-Some.field-0.0
    (c.in_err-news-in-Some.ensures seat so_far.others (so_far.counted seat) (read_apart so_far.others c.in-Some.row step.0)))

pub rows-smaller : goal.rows-smaller
rows-smaller c =
    let w = c.requires.read in
    let so_far = c.rows.invariant w.0 w.1 in
    (rw c.in-Some.is at c.in_ok-row.ensures w.0 so_far.others so_far.read).1

pub rows-preserved : goal.rows-preserved
rows-preserved c =
    λ text read.
    let so_far = c.rows.invariant text read in
    let step = rw c.in-Some.is at c.in_ok-row.ensures text so_far.others so_far.read in
    record {
      others = so_far.others ++ c.in-Some.row ∷ [];
      read = step.0;
      counted = λ seat. (c.in_ok-news-in-Some.ensures seat so_far.others (so_far.counted seat) (read_apart so_far.others c.in-Some.row step.0)).1;
    }

pub returns-in-None : goal.returns-in-None
returns-in-None c =
    λ text seat read.
    let so_far = c.rows.invariant text read in
    let step = rw c.in-None.is at c.in_ok-row.ensures text so_far.others so_far.read in
    let whole = read_done step.0 step.1 in
    let same = news_stand c.args.self.now.store seat c.args.session.now.own.rows whole.0 so_far.others _ c.requires.own whole.2 in
    judged c.args.self.now.store seat c.args.session.now.own c.args.node text whole.0 so_far.others _ c.judge.result whole.1 same
    (c.judge.ensures seat so_far.others (so_far.counted seat))

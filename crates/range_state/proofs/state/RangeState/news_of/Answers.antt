use Rattle.std.proofs.lemmas.Result.{err_from_is_err_and}
use Rattle.range_state.specs.declared.«record».Record.{Record}
use Rattle.sync_session.specs.Walks.{TakenText}
use Rattle.range_state.proofs.JudgementLaws.{text_fault, text_shown, leaf_takable, inner_takable}
use Rattle.range_state.proofs.TakenLaws.{format_now}
use Rattle.range_state.proofs.state.RangeState.news_of.Goals as goal
use Rattle.range_state.proofs.state.RangeState.news_of.Goals.{in-Some+in_ok-judge_leaf, in_default}

pub returns-in_err-judge_leaf : goal.returns-in_err-judge_leaf
returns-in_err-judge_leaf c =
    λ seat.
    let s = c.args.self.now in
    let r : Record = c.args.kept.now in
    let t : TakenText = record { node = c.args.node; text = c.args.text.now } in
    let begun = rw c.in-Some.is at c.in_ok-first.ensures in
    let format = format_now s.store.config s.store.entries r t c.requires begun.0 in
    let p = err_from_is_err_and c.from_residual-in_err-judge_leaf.result c.from_residual-in_err-judge_leaf.ensures.1 in
    rw (p.1, p.2) (text_fault s seat r t c.in_err-judge_leaf.field-0.0 begun.0 begun.1 format (c.in_err-judge_leaf.ensures t.text seat begun.2))

pub returns : goal.returns
returns c =
    λ seat.
    let s = c.args.self.now in
    let r : Record = c.args.kept.now in
    let t : TakenText = record { node = c.args.node; text = c.args.text.now } in
    elim c.match-branch-2.branch [
      | in-Some+in_ok-judge_leaf w ↦
          let begun = rw w.in-Some.is at c.in_ok-first.ensures in
          let format = format_now s.store.config s.store.entries r t c.requires begun.0 in
          text_shown s seat r t c.news_of.result c.news_of.ensures
          (leaf_takable s seat r t begun.0 begun.1 format (w.in_ok-judge_leaf.ensures t.text seat begun.2))
      | in_default w ↦
          let begun = rw w.in_default.is at c.in_ok-first.ensures in
          let format = format_now s.store.config s.store.entries r t c.requires begun.0 in
          text_shown s seat r t c.news_of.result c.news_of.ensures (inner_takable s seat r t begun.0 begun.1 format begun.2)
    ]

use Rattle.std.proofs.Common.{◌+◌, ◌-◌, ◌^◌, List, ap, drop, ◌∙◌, arith}
use Rattle.std.specs.Prelude.{min}
use Rattle.std.proofs.lemmas.List.{take_rest}
use Rattle.sync_session.specs.Walks.{Walk}
use Rattle.range_state.specs.declared.«record».Record.{Record}
use Rattle.range_state.specs.Bytes.{session_len}
use Rattle.range_state.proofs.SizeLaws.{next_session, no_session}
use Rattle.range_state.proofs.state.bytes.sessions_len.Goals as goal

pub loop-at-preserved : goal.loop-at-preserved
loop-at-preserved c =
    let t = c.args.tree.now in
    let records = c.args.records.now in
    let at = c.loop-at.at + 1 in
    let one = c.session_len-session.ensures
    ∙ ap (λ (later : List Record). min (session_len t c.session.result.now later) (2 ^ 64 - 1)) (take_rest records at)
    ∙ ap (λ (w : Walk). min (session_len t w (drop at records)) (2 ^ 64 - 1)) c.session.ensures in
    record {
      short = omega (arith, c.saturating_add-len.ensures);
      all = next_session t records c.loop-at.at c.index-records-at.result c.loop-at.len _ _ c.loop-at-test.true c.index-records-at.is
          c.loop-at.invariant.all one c.saturating_add-len.ensures;
    }

pub returns : goal.returns
returns c = no_session c.args.tree.now c.args.records.now c.loop-at.at c.loop-at.len
    (omega (arith, c.loop-at-test.false)) c.loop-at.invariant.short c.loop-at.invariant.all

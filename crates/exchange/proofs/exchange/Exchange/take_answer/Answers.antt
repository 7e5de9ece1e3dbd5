use Rattle.std.proofs.Common.{◌≡◌, sym, ap, ◌∙◌}
use Rattle.snapshot.specs.RowMaps.{RowMap}
use Rattle.sync_session.specs.Walks.{Walk}
use Rattle.exchange.specs.Asks.{is_leaf}
use Rattle.exchange.proofs.SortLaws.{takes_due}
use Rattle.exchange.proofs.exchange.Exchange.take_answer.Goals as goal

pub returns : goal.returns
returns c =
    let own : c.deref.result.now ≡ c.in-Some.record.now.session.own = c.deref.ensures
    ∙ (c.own.ensures ∙ ap (λ (w : Walk). w.own) c.session.ensures) in
    let due = c.in-Ok.ensures in
    takes_due c.args.self.now c.conclude.new.self c.args.state.now c.take_text-said.new.state c.args.seat c.args.answer.now c.in-Some.record.now due.0
    c.conclude.result (sym c.in-Some.ensures) due.1
    (record {
      parts = (c.in-Ok.due.0, c.in-Ok.due.1.now);
      course = c.sort.new.self;
      leaf = c.is_leaf-is_leaf.result;
      said = c.take_text-said.result;
      due = due.2;
      takes = c.take_text-said.ensures;
      leaf_is = c.is_leaf-is_leaf.ensures ∙ ap (λ (m : RowMap). is_leaf m c.in-Ok.due.0) own;
      verdict = c.conclude.ensures.verdict;
      exchange = c.conclude.ensures.exchange;
    })

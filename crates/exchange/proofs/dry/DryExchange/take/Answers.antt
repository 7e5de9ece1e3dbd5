use Rattle.std.proofs.Common.{◌≡◌, refl, sym, subst, ap, ◌∙◌}
use Rattle.std.specs.Prelude.{Ok, Err}
use Rattle.snapshot.specs.RowMaps.{RowMap}
use Rattle.range_state.specs.declared.event.AnswerTaken.{AnswerTaken}
use Rattle.exchange.specs.declared.dry.Shown.{Shown}
use Rattle.exchange.specs.Asks.{is_leaf}
use Rattle.exchange.specs.Dry.{Shows}
use Rattle.exchange.proofs.DryLaws.{shows_late, shows_verdict, shows_due}
use Rattle.exchange.proofs.dry.DryExchange.take.Goals as goal

pub returns-then-is_over : goal.returns-then-is_over
returns-then-is_over c =
    subst (λ (s : Shown). Shows c.args.self.now c.args.answer.now s.verdict s.news c.args.self.now) (sym c.nothing.ensures)
    (shows_late c.args.self.now c.args.answer.now (sym c.is_over.ensures ∙ c.if-is_over.true))

pub returns-in-Err : goal.returns-in-Err
returns-in-Err c =
    let d = c.in-Err.ensures in
    subst (λ (s : Shown). Shows c.args.self.now c.args.answer.now s.verdict s.news
    (record { session = c.args.self.now.session; course = c.sort.new.self })) (sym c.nothing-in-Err.ensures)
    (shows_verdict c.args.self.now c.args.answer.now d.0 c.in-Err.verdict c.sort.new.self (sym c.is_over.ensures ∙ c.if-is_over.false) d.1 d.2)

pub returns-in-Ok-take_news : goal.returns-in-Ok-take_news
returns-in-Ok-take_news c =
    let own : c.deref.result.now ≡ c.args.self.now.session.own = c.deref.ensures ∙ c.own.ensures in
    let d = c.in-Ok.ensures in
    let taken : AnswerTaken = record { receipts = c.new.result; known = c.in-Ok-take_news.news.known; state = c.state.result } in
    shows_due c.args.self.now c.args.answer.now d.0 (Ok c.in-Ok-take_news.news) c.take_news.new.session c.judge-verdict.result
    c.judge-verdict.new.self (sym c.is_over.ensures ∙ c.if-is_over.false) d.1
    (record {
      parts = (c.in-Ok.due.0, c.in-Ok.due.1.now);
      course = c.sort.new.self;
      taken = Ok taken;
      leaf = c.is_leaf-is_leaf.result;
      due = d.2;
      takes = c.in-Ok-take_news.ensures;
      nothing = (c.new.ensures.items, refl, c.state.ensures);
      leaf_is = c.is_leaf-is_leaf.ensures ∙ ap (λ (m : RowMap). is_leaf m c.in-Ok.due.0) own;
      verdict = c.judge-verdict.ensures.verdict;
      counts = c.judge-verdict.ensures.counts;
    })

pub returns-in-Err-take_news : goal.returns-in-Err-take_news
returns-in-Err-take_news c =
    let own : c.deref.result.now ≡ c.args.self.now.session.own = c.deref.ensures ∙ c.own.ensures in
    let d = c.in-Ok.ensures in
    subst (λ (s : Shown). Shows c.args.self.now c.args.answer.now s.verdict s.news
    (record { session = c.take_news.new.session; course = c.judge-verdict-in-Err-take_news.new.self })) (sym c.nothing-in-Err-take_news.ensures)
    (shows_due c.args.self.now c.args.answer.now d.0 (Err c.in-Err-take_news.refusal) c.take_news.new.session
    c.judge-verdict-in-Err-take_news.result c.judge-verdict-in-Err-take_news.new.self (sym c.is_over.ensures ∙ c.if-is_over.false) d.1
    (record {
      parts = (c.in-Ok.due.0, c.in-Ok.due.1.now);
      course = c.sort.new.self;
      taken = Err c.in-Err-take_news.refusal;
      leaf = c.is_leaf-is_leaf.result;
      due = d.2;
      takes = c.in-Err-take_news.ensures;
      nothing = refl;
      leaf_is = c.is_leaf-is_leaf.ensures ∙ ap (λ (m : RowMap). is_leaf m c.in-Ok.due.0) own;
      verdict = c.judge-verdict-in-Err-take_news.ensures.verdict;
      counts = c.judge-verdict-in-Err-take_news.ensures.counts;
    }))

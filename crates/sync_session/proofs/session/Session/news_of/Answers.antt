use Rattle.std.proofs.Common.{rules, ◌≡◌, [], sym, subst}
use Rattle.snapshot.specs.RowMaps.{RowMap}
use Rattle.sync_session.specs.Readings.{IsReadTo, ReadsNews}
use Rattle.sync_session.proofs.NewsLaws.{leaf_shown}
use Rattle.sync_session.proofs.session.Session.news_of.Goals as goal

pub returns-in-Some : goal.returns-in-Some
returns-in-Some c =
    let n = c.args.node in
    let text = c.args.text.now in
    let first = c.in-Some.first in
    let begun = rw c.in-Some.is at c.in_ok-first.ensures in
    let own : c.deref.result.now ≡ c.args.self.now.own = search rules in
    let read = subst (λ (m : RowMap). IsReadTo m n text first.last.now first.rest.now [] first.known) (sym own) begun.2 in
    let shown = subst (λ (m : RowMap). ReadsNews m n text c.leaf_news.result) own (c.leaf_news.ensures text read) in
    leaf_shown c.args.self.now (record { node = n; text = text }) c.leaf_news.result begun.0 begun.1 shown

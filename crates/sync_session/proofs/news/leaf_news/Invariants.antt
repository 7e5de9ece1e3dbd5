use Rattle.std.proofs.Common.{ℕ, List, [], length}
use Rattle.sync_session.specs.Readings.{IsReadTo}
use Rattle.sync_session.proofs.news.leaf_news.Given as goal

abbrev pub invariant-rows : goal.invariant-rows
invariant-rows l = (text : List ℕ) → IsReadTo l.own l.node text l.initial.place.last.now l.initial.place.rest.now [] l.initial.place.known
    → IsReadTo l.own l.node text l.place.last.now l.place.rest.now l.rows.items l.place.known

abbrev pub decreases-rows : goal.decreases-rows
decreases-rows l = length l.place.rest.now

use Rattle.std.proofs.Common.{ℕ, List, [], length}
use Rattle.sync_session.specs.Readings.{IsReadTo}
use Rattle.range_state.proofs.JudgementLaws.{IsJudging}
use Rattle.range_state.proofs.state.RangeState.judge_leaf.Given as goal

abbrev pub invariant-rows : goal.invariant-rows
invariant-rows l = (text : List ℕ) → IsReadTo l.session.own l.fn.node text l.initial.place.last.now l.initial.place.rest.now [] l.initial.place.known
    → IsJudging l.self.store l.session.own l.fn.node text l.place.last.now l.place.rest.now l.place.known l.news

abbrev pub decreases-rows : goal.decreases-rows
decreases-rows l = length l.place.rest.now

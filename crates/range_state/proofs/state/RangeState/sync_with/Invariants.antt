use Rattle.std.proofs.Common.{◌≡◌, ◌-◌, length}
use Rattle.sync_session.specs.Differing.{differ}
use Rattle.range_store.specs.Store.{rows_now}
use Rattle.range_state.proofs.SyncLaws.{IsUnderWay, taken_count}
use Rattle.range_state.proofs.state.RangeState.sync_with.Given as goal

abbrev pub invariant-loop-node : goal.invariant-loop-node
invariant-loop-node l = record {
  under : IsUnderWay l.fn.self l.seat l.other l.known l.self;
  partner : under.r.partner ≡ l.partner;
  at : l.place ≡ length l.fn.self.records;
  before : l.before ≡ length l.fn.self.store.entries;
}

abbrev pub decreases-loop-node : goal.decreases-loop-node
decreases-loop-node l = length (differ (rows_now l.fn.self.store) l.other) - taken_count l.self.records l.place

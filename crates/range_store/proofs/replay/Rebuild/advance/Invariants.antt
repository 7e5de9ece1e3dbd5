use Rattle.std.proofs.Common.{◌≡◌, ◌≤◌, ◌-◌}
use Rattle.range_store.proofs.replay.Rebuild.advance.Given as goal

abbrev pub invariant-loop-self : goal.invariant-loop-self
invariant-loop-self l = record {
  same : l.self ≡ record l.initial.self { front = l.self.front };
  within : l.self.front ≤ l.front;
}

abbrev pub decreases-loop-self : goal.decreases-loop-self
decreases-loop-self l = l.front - l.self.front

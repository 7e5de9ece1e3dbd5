use Rattle.std.proofs.Common.{◌≡◌, ◌+◌, ◌-◌, ◌<◌, ◌≤◌, ◌^◌, length, drop}
use Rattle.std.specs.Prelude.{fold}
use Rattle.outage_cluster.specs.Handoff.{first_round, offer_one}
use Rattle.outage_cluster.specs.Offers.{round_at}
use Rattle.outage_cluster.proofs.handoff.deliver_all.Given as goal

abbrev pub invariant-loop-hint : goal.invariant-loop-hint
invariant-loop-hint l = record {
  ranges : length l.ranges ≡ length l.initial.ranges;
  small : l.after < 2 ^ 32;
  counts : l.done.taken + l.done.known ≤ l.after;
  rest : fold (offer_one l.up l.ring.bits) (round_at l.ranges l.hints l.done.taken l.done.known) (drop l.after l.hints) ≡ fold
      (offer_one l.up l.ring.bits) (first_round l.initial.ranges l.initial.hints) l.initial.hints;
}

abbrev pub decreases-loop-hint : goal.decreases-loop-hint
decreases-loop-hint l = 2 ^ 32 - l.after

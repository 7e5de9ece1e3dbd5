use Rattle.std.proofs.Common.{rules, refl, ◌≡◌, ◌<◌, ◌++◌, length, drop, get_or, take, arith, Some}
use Rattle.std.proofs.lemmas.List.Quantifiers.{position-Some}
use Rattle.std.specs.Prelude.{◌==◌, position, slice_get}
use Rattle.outage_cluster.specs.Handoff.{round_of}
use Rattle.outage_cluster.specs.Offers.{round_at}
use Rattle.outage_cluster.proofs.ListSteps.{front, got}
use Rattle.outage_cluster.proofs.DeliveryLaws.{delivered_at, has_place}
use Rattle.outage_cluster.proofs.cluster.Cluster.deliver.Goals as goal

pub unreachable-requires : goal.unreachable-requires
unreachable-requires c = has_place c.args.self.now c.args.node c.requires (search rules)

pub returns : goal.returns
returns c =
    let s = c.args.self.now in
    let i = c.in-Some.place in
    let hs = c.index_mut-hints.result.now in
    let r = round_at c.deliver_all.new.ranges c.deliver_all.new.hints c.in_ok-done.done.taken c.in_ok-done.done.known in
    let p : position (λ m. m == c.args.node) s.ring.nodes ≡ Some i = search rules in
    let placed = (position-Some (λ m. m == c.args.node) s.ring.nodes i 0 p).0 in
    let many : length s.hints ≡ length s.ring.nodes = search rules in
    let inside : i < length s.hints = omega (arith, placed, many) in
    let here : hs ≡ get_or s.hints i hs = search rules in
    let e : slice_get s.hints i ≡ Some hs = got s.hints i hs inside here in
    let is : round_of s hs ≡ r = search rules in
    let many_ranges : c.self.inside.ranges.len ≡ length c.deliver_all.new.ranges = search rules in
    let ranges : take c.self.inside.ranges.len
    (c.deliver_all.new.ranges ++ drop (length c.deliver_all.new.ranges) c.self.inside.ranges.items) ≡ c.deliver_all.new.ranges =
    front _ _ _ many_ranges in
    rw (delivered_at s c.args.node i hs r p e is) (rw (c.pending.ensures.count, ← c.self.view_is, ranges) refl)

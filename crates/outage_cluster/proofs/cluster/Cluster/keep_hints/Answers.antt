use Rattle.std.proofs.Common.{rules, refl, ◌≡◌, ◌<◌, length, get_or, arith, Some, None}
use Rattle.std.proofs.lemmas.List.Quantifiers.{position-Some}
use Rattle.std.specs.Prelude.{◌==◌, position}
use Rattle.outage_cluster.specs.Handoff.{carrier_of}
use Rattle.outage_cluster.proofs.AnswerSteps.{answers_then}
use Rattle.outage_cluster.proofs.DeliveryLaws.{hinted_none, hinted_some}
use Rattle.outage_cluster.proofs.ListSteps.{got}
use Rattle.outage_cluster.proofs.cluster.Cluster.keep_hints.Goals as goal

pub returns-in-Some-place_of : goal.returns-in-Some-place_of
returns-in-Some-place_of c =
    let s = c.args.self.now in
    let i = c.in-Some-place_of.place in
    let hs = c.index_mut.result.now in
    let is : carrier_of s c.args.range ≡ Some c.in-Some.carrier = search rules in
    let p : position (λ m. m == c.in-Some.carrier) s.ring.nodes ≡ Some i = search rules in
    let placed = (position-Some (λ m. m == c.in-Some.carrier) s.ring.nodes i 0 p).0 in
    let many : length s.hints ≡ length s.ring.nodes = search rules in
    let inside : i < length s.hints = omega (arith, placed, many) in
    let here : hs ≡ get_or s.hints i hs = search rules in
    rw (hinted_some c.args.entry.now c.args.owners.now s (carrier_of s c.args.range) c.in-Some.carrier i hs is p (got s.hints i hs inside here))
    (answers_then c.keep_all.result None _ _ c.keep_all.ensures (λ n kept. rw (kept.1, kept.0, ← c.self.view_is) refl))

pub returns-in-None : goal.returns-in-None
returns-in-None c =
    let s = c.args.self.now in
    let is : carrier_of s c.args.range ≡ Some c.in-Some.carrier = search rules in
    let p : position (λ m. m == c.in-Some.carrier) s.ring.nodes ≡ None = search rules in
    (refl, rw (hinted_none c.args.entry.now c.args.owners.now s (carrier_of s c.args.range) c.in-Some.carrier is p) refl)

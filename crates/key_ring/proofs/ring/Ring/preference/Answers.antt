use Rattle.std.proofs.Common.{◌+◌, ◌<◌, ◌≤◌, length, ap, subst, sym, arith}
use Rattle.std.proofs.Math.Nat.{mod-lt}
use Rattle.key_ring.proofs.Rotations.{preference_at, preference_once, ring_nodes, node_at}
use Rattle.key_ring.proofs.ring.Ring.preference.Goals as goal

pub returns-clause-node : goal.returns-clause-node
returns-clause-node c =
    let at = preference_at c.args.self.now.nodes c.args.range c.args.place c.index.result.now c.requires.place in
    let nodes = ap (λ p. p.nodes) c.self.view_is in
    cc

pub returns-clause-once : goal.returns-clause-once
returns-clause-once c = preference_once c.args.self.now.nodes c.args.range

pub returns-clause-number : goal.returns-clause-number
returns-clause-number c =
    let nodes = ring_nodes (record { bits = c.self.inside.bits; nodes = c.self.inside.nodes.items; copies = c.self.inside.copies })
    c.self.invariant in
    let some : 0 < c.len.result = omega (arith, c.len.ensures, c.requires.place, ap (λ p. length p.nodes) c.self.view_is) in
    subst (λ k. 1 ≤ k) (sym c.index.ensures)
    (node_at c.self.inside.nodes.items _ c.index.result.now nodes (omega (arith, c.len.ensures, mod-lt (c.from.result + c.args.place) some)))

use Rattle.std.proofs.Common.{◌≡◌, ℕ, ◌<◌, ◌≤◌, Option, length, arith, ap, subst}
use Rattle.std.specs.Prelude.{MatchOption, ⊤}
use Rattle.tree_nodes.specs.Nodes.{Tree, node_count}
use Rattle.tree_nodes.proofs.PlaceLaws.{Digests, few_nodes}
use Rattle.tree_nodes.proofs.ReadyLaws.{ready_few}
use Rattle.tree_nodes.proofs.marks.Marks.ready_count.Goals as goal

-- as many digests as nodes
few : (t now : Tree) → t ≡ now → length t.digests ≡ node_count t.format → length now.digests ≤ 4369
few t now view all = subst (λ (s : Tree). length s.digests ≤ 4369) view (omega (arith, all, few_nodes t.format))

pub overflow_add-found : goal.overflow_add-found
overflow_add-found c =
    let most = few (record { format = c.self.inside.format; digests = c.self.inside.digests.items }) c.args.self.now c.self.view_is
    c.self.invariant.tree.all in
    omega (arith, c.loop-next.invariant.all, ready_few c.args.self.now.digests, most)

pub overflow_add-place : goal.overflow_add-place
overflow_add-place c =
    let most = few (record { format = c.self.inside.format; digests = c.self.inside.digests.items }) c.args.self.now c.self.view_is
    c.self.invariant.tree.all in
    let inside = subst (λ (o : Option ℕ). MatchOption o ⊤ (λ place. place < length c.args.self.now.digests)) c.in-Some.is
    c.loop-next.invariant.inside in
    omega (arith, inside, most)

pub first_ready-next-requires-in-Some-clause-few : goal.first_ready-next-requires-in-Some-clause-few
first_ready-next-requires-in-Some-clause-few c =
    omega (arith, ap (λ (xs : Digests). length xs) c.deref-in-Some.ensures.value, c.self.invariant.tree.all, few_nodes c.self.inside.format)

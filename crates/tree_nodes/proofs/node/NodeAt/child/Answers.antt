use Rattle.std.proofs.Common.{ℕ, zero, suc, ◌≡◌, ◌<◌, ◌^◌, arith, ap}
use Rattle.tree_nodes.specs.Nodes.{Node, IsNode}
use Rattle.tree_nodes.proofs.node.NodeAt.child.Goals as goal

-- a node that isn't at depth 3 has an index of one byte
narrow : (n m : Node) → n ≡ m → m.depth < 3 → IsNode 3 n → n.index < 256
narrow n m view inner is = below n.depth n.index (omega (arith, ap (λ (k : Node). k.depth) view)) is.within
  where
    below : (depth index : ℕ) → depth < 3 → index < 16 ^ depth → index < 256
    below zero index d i = omega arith
    below (suc zero) index d i = omega arith
    below (suc (suc zero)) index d i = omega arith
    below (suc (suc (suc depth))) index d i = absurd (omega arith)

pub overflow_mul-result : goal.overflow_mul-result
overflow_mul-result c = omega (arith, narrow _ _ c.self.view_is c.requires.inner c.self.invariant)

pub overflow_add-result-2 : goal.overflow_add-result-2
overflow_add-result-2 c = omega (arith, narrow _ _ c.self.view_is c.requires.inner c.self.invariant, c.requires.few)

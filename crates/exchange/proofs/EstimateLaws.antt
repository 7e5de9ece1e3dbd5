-- The sum of an estimate.
use Rattle.std.proofs.Common.{◌≡◌, ℕ, ◌+◌, ◌*◌, ◌/◌, ◌-◌, ◌≤◌, zero, suc, arith, ap}
use Rattle.exchange.specs.Estimates.{drawn}

-- each part is at most 65,536
pub drawn_most : (nodes : ℕ) → drawn nodes ≤ 65536 * nodes
drawn_most zero = omega arith
drawn_most (suc nodes) = omega (arith, drawn_most nodes, part (256 - nodes))
  where
    part : (d : ℕ) → 65536 / d ≤ 65536
    part zero = omega arith
    part (suc d) = omega arith

-- the sum up to the next part
pub drawn_more : (nodes : ℕ) → drawn (nodes + 1) ≡ drawn nodes + 65536 / (256 - nodes)
drawn_more nodes = ap drawn (next nodes)
  where
    next : (n : ℕ) → n + 1 ≡ suc n
    next n = omega arith

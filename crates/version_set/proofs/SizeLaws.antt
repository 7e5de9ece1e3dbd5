-- Sums that are cut off at a greatest number.
use Rattle.std.proofs.Common.{◌≡◌, ℕ, ◌+◌, arith}
use Rattle.std.specs.Prelude.{min}

-- the sum of two numbers that are cut off, cut off again
pub cut_sum : (most a b s t sum : ℕ) → a ≡ min s most → b ≡ min t most → sum ≡ min (a + b) most → sum ≡ min (s + t) most
cut_sum most a b s t sum first second is = omega arith

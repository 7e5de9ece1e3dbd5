-- Clocks as finite maps from node to counter: the vector clocks of section 4.4 of the Dynamo paper.
use Rattle.std.specs.Prelude.{ℕ, ◌+◌, ◌<◌, ◌≤◌, ◌^◌, Bool, true, false, ◌&&◌, ◌||◌, List, [], ◌∷◌, length, if◌then◌else◌, ◌==◌, nat_le, nat_lt, Option, Some, None, max}
use Rattle.std.specs.List.{list_any, filter}
use Rattle.vclock.specs.declared.clock.ClockOrder.{ClockOrder}
use Rattle.vclock.specs.declared.clock.ClockOrder.TheVariants.{Before, After, Equal, Apart}
use Rattle.vclock.specs.declared.refusal.Refusal.{Refusal}
use Rattle.vclock.specs.declared.refusal.Refusal.TheVariants.{BadClock, ClockFull, CounterFull}

-- a node, then its counter
abbrev pub Pairs : Type 0
Pairs = List (ℕ × ℕ)

-- the counter of a node: an absent node has 0
abbrev pub counter : Pairs → ℕ → ℕ
counter [] n = 0
counter ((m, c) ∷ rest) n = if m == n then c else counter rest n

-- each counter of a is at most b's
abbrev pub IsAtMost : Pairs → Pairs → Type 0
IsAtMost a b = (n : ℕ) → counter a n ≤ counter b n

-- the test of IsAtMost by each pair of a
abbrev pub at_most : Pairs → Pairs → Bool
at_most [] b = true
at_most ((m, c) ∷ rest) b = nat_le c (counter b m) && at_most rest b

-- the order of two clocks: le says that the first is at most the second, ge that the second is at most the first
abbrev pub order_of : Bool → Bool → ClockOrder
order_of true true = Equal
order_of true false = Before
order_of false true = After
order_of false false = Apart

-- ascending nodes above low and below 2^16, with counters of at least 1 and below 2^64
abbrev pub Rises : ℕ → Pairs → Type 0
Rises low [] = Unit {0}
Rises low ((m, c) ∷ rest) = (low < m) × (m < 2 ^ 16) × (0 < c) × (c < 2 ^ 64) × Rises m rest

-- at most 32 pairs, with ascending nodes from 1
pub record IsClock (ps : Pairs) : Type 0 where
  pub rising : Rises 0 ps
  pub short : length ps ≤ 32

-- the map with this counter of the node, and the other counters of ps
abbrev pub with_counter : Pairs → ℕ → ℕ → Pairs
with_counter [] n d = (n, d) ∷ []
with_counter ((m, c) ∷ rest) n d = if nat_lt m n then (m, c) ∷ with_counter rest n d else if m == n then (n, d) ∷ rest else (n, d) ∷ (m, c) ∷ rest

-- the clock with a node's counter raised by one
abbrev pub raised : Pairs → ℕ → Pairs
raised ps n = with_counter ps n (counter ps n + 1)

-- the fault of raising a node's counter
abbrev pub raise_fault : Pairs → ℕ → Option Refusal
raise_fault ps n = if counter ps n == 0 && nat_le 32 (length ps) then Some ClockFull else if counter ps n == 18446744073709551615 then Some CounterFull else None

-- a pair has the node
abbrev pub has_node : Pairs → ℕ → Bool
has_node ps n = list_any (λ p. p.0 == n) ps

-- the pair cannot be in a clock: node 0 or above 65,535, or counter 0
abbrev pub is_bad_pair : ℕ × ℕ → Bool
is_bad_pair p = p.0 == 0 || nat_lt 65535 p.0 || p.1 == 0

-- some node is in two pairs
abbrev pub has_repeat : Pairs → Bool
has_repeat [] = false
has_repeat (p ∷ rest) = has_node rest p.0 || has_repeat rest

-- some pair cannot be in a clock, or some node is in two pairs
abbrev pub is_bad : Pairs → Bool
is_bad ps = list_any is_bad_pair ps || has_repeat ps

-- the fault of making a clock of pairs
abbrev pub pairs_fault : Pairs → Option Refusal
pairs_fault ps = if is_bad ps then Some BadClock else if nat_lt 32 (length ps) then Some ClockFull else None

-- the clock of pairs in any order
abbrev pub clock_of : Pairs → Pairs
clock_of [] = []
clock_of ((m, c) ∷ rest) = with_counter (clock_of rest) m c

-- the map with the greater of both counters for each node
abbrev pub merged : Pairs → Pairs → Pairs
merged a [] = a
merged a ((m, c) ∷ rest) = with_counter (merged a rest) m (max c (counter a m))

-- the fault of merging two clocks: they have over 32 nodes together
abbrev pub merge_fault : Pairs → Pairs → Option Refusal
merge_fault a b = if nat_lt 32 (length a + length (filter (λ p. counter a p.0 == 0) b)) then Some ClockFull else None

-- The pairs of clocks in C.
use Rattle.std.specs.Prelude.{ℕ, List, map}
use Rattle.vclock.specs.Clock.{Pairs, at_most, order_of}
use Rattle.vclock.specs.declared.clock.ClockOrder.{ClockOrder}
use Rattle.vclock.specs.declared.clock.ClockOrder.TheVariants.{Before, After, Equal, Apart}
use Rattle.c_calls.specs.declared.pair.Pair.{Pair}

abbrev pub clock_pair : Pair → ℕ × ℕ
clock_pair p = (p.node, p.counter)

-- the pairs of C as pairs of a clock
abbrev pub clock_pairs : List Pair → Pairs
clock_pairs ps = map clock_pair ps

-- the number of an order
abbrev pub number_of_order : ClockOrder → ℕ
number_of_order Before = 0
number_of_order After = 1
number_of_order Equal = 2
number_of_order Apart = 3

-- the number of the order of two clocks
abbrev pub order_between : Pairs → Pairs → ℕ
order_between a b = number_of_order (order_of (at_most a b) (at_most b a))

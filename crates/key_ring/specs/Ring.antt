-- Rings, and the nodes that keep each range: sections 4.2, 4.3 and 6.2 of the Dynamo paper.
use Rattle.std.specs.Prelude.{ℕ, ◌%◌, ◌++◌, Bool, false, not, ◌&&◌, ◌||◌, ◌==◌, nat_lt, nat_le, List, [], ◌∷◌, length, take, drop, Option, Some, None, if◌then◌else◌}
use Rattle.std.specs.List.{list_all, list_any}
use Rattle.vclock.specs.declared.refusal.Refusal.{Refusal}
use Rattle.vclock.specs.declared.refusal.Refusal.TheVariants.{BadRing}

-- the bits of 2^bits ranges, the nodes in the order of the ring, and the number of nodes that keep a range
pub record Places : Type 0 where
  pub bits : ℕ
  pub nodes : List ℕ
  pub copies : ℕ

-- a node has a number from 1 to 65,535
abbrev pub is_node_number : ℕ → Bool
is_node_number n = nat_lt 0 n && nat_lt n 65536

-- some number is listed twice
abbrev pub repeats_number : List ℕ → Bool
repeats_number [] = false
repeats_number (n ∷ rest) = list_any (λ m. m == n) rest || repeats_number rest

-- at most 8 bits; 1 to 32 nodes, each once; 1 to all of them keep a range
abbrev pub is_ring : Places → Bool
is_ring p = nat_le p.bits 8 && nat_lt 0 (length p.nodes) && nat_le (length p.nodes) 32 && list_all is_node_number p.nodes && not (repeats_number p.nodes) && nat_lt 0 p.copies && nat_le p.copies (length p.nodes)

abbrev pub ring_fault : Places → Option Refusal
ring_fault p = if is_ring p then None else Some BadRing

-- the nodes in the order of preference for range r: the node list, rotated left by r
abbrev pub preference_list : List ℕ → ℕ → List ℕ
preference_list nodes r = drop (r % length nodes) nodes ++ take (r % length nodes) nodes

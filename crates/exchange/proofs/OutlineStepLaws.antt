-- An exchange sends at most one outline a node.
use Rattle.std.proofs.Common.{◌≡◌, ℕ, zero, suc, ◌+◌, ◌≤◌, true, true≢false, slice_get, slice_set, replicate, List, [], ◌∷◌, refl, sym, arith}
use Rattle.std.specs.Prelude.{nat_lt}
use Rattle.std.proofs.lemmas.Bool.{and_parts}
use Rattle.vclock.specs.declared.format.Format.{Format}
use Rattle.tree_nodes.specs.Nodes.{node_count, place_of}
use Rattle.exchange.specs.declared.outlining.Outlining.{Outlining}
use Rattle.exchange.specs.declared.outlining.Outlining.TheVariants.{Never, Sent, Ended}
use Rattle.exchange.specs.Outlines.{Outlines, unsent, is_never}
use Rattle.exchange.specs.OutlineSteps.{OutlineStep, Sends, Misses, Brings, outlines_after, MayOutlineAll, sent_in}

-- 1 for a node for which none was sent
abbrev weight : Outlining → ℕ
weight Never = 1
weight Sent = 0
weight Ended = 0

-- the number of nodes for which none was sent
abbrev nevers : List Outlining → ℕ
nevers [] = 0
nevers (x ∷ xs) = weight x + nevers xs

nevers_all : (n : ℕ) → nevers (replicate n Never) ≡ n
nevers_all zero = refl
nevers_all (suc n) = let rest = nevers_all n in omega (arith, rest)

ends : (xs : List Outlining) (i : ℕ) → nevers (slice_set xs i Ended) ≤ nevers xs
ends [] i = omega arith
ends (x ∷ xs) zero = elim x as
    (λ y. weight Ended + nevers xs ≤ weight y + nevers xs) [ Never ↦ omega arith | Sent ↦ omega arith | Ended ↦ omega arith ]
ends (x ∷ xs) (suc i) = omega (arith, ends xs i)

sends : (xs : List Outlining) (i : ℕ) → is_never (slice_get xs i) ≡ true → nevers (slice_set xs i Sent) + 1 ≤ nevers xs
sends [] i none = absurd (true≢false (sym none))
sends (Never ∷ xs) zero is = omega arith
sends (Sent ∷ xs) zero none = absurd (true≢false (sym none))
sends (Ended ∷ xs) zero none = absurd (true≢false (sym none))
sends (x ∷ xs) (suc i) is = omega (arith, sends xs i is)

sent_few : (o : Outlines) (steps : List OutlineStep) → MayOutlineAll o steps → sent_in steps ≤ nevers o.nodes
sent_few o [] may = omega arith
sent_few o (Sends n ∷ steps) may =
    omega (
      arith,
      sent_few (outlines_after o (Sends n)) steps may.1,
      sends o.nodes (place_of n) (and_parts (nat_lt o.misses 3) (is_never (slice_get o.nodes (place_of n))) may.0).1,
    )
sent_few o (Misses n ∷ steps) may = omega (arith, sent_few (outlines_after o (Misses n)) steps may.1, ends o.nodes (place_of n))
sent_few o (Brings n ∷ steps) may = omega (arith, sent_few (outlines_after o (Brings n)) steps may.1, ends o.nodes (place_of n))

pub sent_once : (format : Format) (steps : List OutlineStep) → MayOutlineAll (unsent format) steps → sent_in steps ≤ node_count format
sent_once format steps may = omega (arith, sent_few (unsent format) steps may, nevers_all (node_count format))

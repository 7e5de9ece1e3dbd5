use Rattle.std.proofs.Common.{◌≡◌, ℕ, suc, ◌+◌, ◌*◌, ◌<◌, List, ◌∷◌, length, get_or, take, drop, arith, sym, ap, ◌∙◌}
use Rattle.std.specs.Arc.{arc_value}
use Rattle.tree_nodes.specs.Blocks.{joined, AreOf}
use Rattle.tree_nodes.proofs.BlockLaws.{length-joined, joined-block}
use Rattle.tree_nodes.proofs.shared_digests.SharedDigests.children.Goals as goal

-- the block of a node's children
block_within : (root : List ℕ) (blocks : List (List (List ℕ))) (all : List (List ℕ)) (place : ℕ) → root ∷ joined blocks ≡ all → AreOf 16 blocks
    → 16 * place + 16 < length all → place < length blocks
block_within root blocks all place view each within = omega (arith, length-joined 16 blocks each, ap (λ (xs : List (List ℕ)). length xs) view)

-- what it has
block_read : (root : List ℕ) (blocks : List (List (List ℕ))) (all : List (List ℕ)) (place : ℕ) (b : List (List ℕ)) → root ∷ joined blocks ≡ all
    → AreOf 16 blocks → place < length blocks → b ≡ get_or blocks place b → b ≡ take 16 (drop (16 * place + 1) all)
block_read root blocks all place b view each within read =
    let next : 16 * place + 1 ≡ suc (16 * place) = omega arith in
    read ∙ sym (joined-block 16 blocks place b each within) ∙ rw next (ap (λ (xs : List (List ℕ)). take 16 (drop (suc (16 * place)) xs)) view)

pub index-requires : goal.index-requires
index-requires c =
    let s = c.self.inside in
    let v = arc_value s.blocks in
    rw (c.deref.ensures, c.place.ensures.place)
    (omega (arith, v.ok, block_within s.root v.items c.args.self.now _ c.self.view_is c.self.invariant c.requires))

pub returns : goal.returns
returns c =
    let s = c.self.inside in
    let v = arc_value s.blocks in
    let read : c.index.result.now ≡ get_or v.items c.place.result c.index.result.now = rw c.deref.ensures at c.index.ensures in
    c.digests.ensures
    ∙ block_read s.root v.items c.args.self.now c.place.result c.index.result.now c.self.view_is c.self.invariant
    (block_within s.root v.items c.args.self.now c.place.result c.self.view_is c.self.invariant
    (omega (arith, c.place.ensures.place, c.requires))) read
    ∙ ap (λ (n : ℕ). take 16 (drop (16 * n + 1) c.args.self.now)) c.place.ensures.place

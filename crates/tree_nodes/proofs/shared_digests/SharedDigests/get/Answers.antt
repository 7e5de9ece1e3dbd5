use Rattle.std.proofs.Common.{◌≡◌, ℕ, suc, ◌-◌, ◌<◌, ◌≤◌, ◌/◌, ◌%◌, List, ◌∷◌, length, get_or, arith, sym, ap, ◌∙◌}
use Rattle.std.specs.Arc.{arc_value}
use Rattle.tree_nodes.specs.Blocks.{joined, AreOf}
use Rattle.tree_nodes.proofs.BlockLaws.{length-joined, joined-at}
use Rattle.tree_nodes.proofs.shared_digests.SharedDigests.get.Goals as goal

-- the block that holds a node behind the root
block_within : (root : List ℕ) (blocks : List (List (List ℕ))) (all : List (List ℕ)) (place before : ℕ) → root ∷ joined blocks ≡ all → AreOf 16 blocks
    → place < length all → 1 ≤ place → before ≡ place - 1 → before / 16 < length blocks
block_within root blocks all place before view each within some is =
    omega (arith, length-joined 16 blocks each, ap (λ (xs : List (List ℕ)). length xs) view)

-- what a read of a block and then of its digest gives
digest_read : (root : List ℕ) (blocks : List (List (List ℕ))) (all : List (List ℕ)) (place before : ℕ) (b : List (List ℕ)) (d : List ℕ)
    → root ∷ joined blocks ≡ all → AreOf 16 blocks → place < length all → 1 ≤ place → before ≡ place - 1
    → b ≡ get_or blocks (before / 16) b → get_or b (before % 16) d ≡ get_or all place d
digest_read root blocks all place before b d view each within some is read =
    let next : place ≡ suc before = omega arith in
    ap (λ (x : List (List ℕ)). get_or x (before % 16) d) read
    ∙ sym (joined-at 16 blocks (before / 16) (before % 16) before b d each (block_within root blocks all place before view each within some is)
    (omega arith) (omega arith))
    ∙ rw next (ap (λ (xs : List (List ℕ)). get_or xs (suc before) d) view)

pub index-requires : goal.index-requires
index-requires c =
    let s = c.self.inside in
    let v = arc_value s.blocks in
    rw c.deref.ensures (omega (
      arith,
      v.ok,
      block_within s.root v.items c.args.self.now c.place.result c.in-Some.before c.self.view_is c.self.invariant
          (omega (arith, c.place.ensures.place, c.requires)) c.in-Some.ensures.0 c.in-Some.ensures.1,
    ))

pub returns-in-Some : goal.returns-in-Some
returns-in-Some c = λ d.
    let s = c.self.inside in
    let v = arc_value s.blocks in
    let read : c.index.result.now ≡ get_or v.items (c.in-Some.before / 16) c.index.result.now = rw c.deref.ensures at c.index.ensures in
    c.get.ensures d
    ∙ digest_read s.root v.items c.args.self.now c.place.result c.in-Some.before c.index.result.now d c.self.view_is c.self.invariant
    (omega (arith, c.place.ensures.place, c.requires)) c.in-Some.ensures.0 c.in-Some.ensures.1 read
    ∙ ap (λ (n : ℕ). get_or c.args.self.now n d) c.place.ensures.place

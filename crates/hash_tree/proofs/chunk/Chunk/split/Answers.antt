use Rattle.std.proofs.Common.{rules, ◌≡◌, ◌∙◌, ◌≤◌, ◌<◌, length, take, sym, subst, arith}
use Rattle.std.proofs.lemmas.List.{length-take-le}
use Rattle.std.specs.Arc.{arc_value}
use Rattle.hash_tree.specs.Leaves.{Bucket}
use Rattle.hash_tree.proofs.ChunkLaws.{first-take}
use Rattle.hash_tree.proofs.chunk.Chunk.split.Goals as goal

pub invariant_of-self-2 : goal.invariant_of-self-2
invariant_of-self-2 c =
    let s = c.self.inside in
    let at = c.args.at in
    let old = (arc_value s.held).rows in
    let rows : (arc_value (c.make_mut-2.follows.lender c.split.new.self)).rows ≡ take at old = search rules in
    let within : at < length old = subst (λ (b : Bucket). c.args.at < length b.rows) (sym c.self.view_is) c.requires.within in
    let some : 1 ≤ length (take at old) = omega (arith, length-take-le at old (omega (arith, within)), c.requires.some) in
    rw rows (some, c.self.invariant.1 ∙ sym (first-take old at c.requires.some))

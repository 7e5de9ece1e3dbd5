use Rattle.std.proofs.Common.{◌≡◌, ℕ, List, Option, None, refl, subst, sym, ap, ◌∙◌, arith}
use Rattle.std.proofs.lemmas.Bool.{le-leb}
use Rattle.vclock.specs.Answer.{Answers}
use Rattle.vclock.specs.declared.refusal.Refusal.{Refusal}
use Rattle.vclock.specs.declared.format.Format.{Format}
use Rattle.hash_tree.specs.Leaves.{Bucket}
use Rattle.tree_nodes.specs.Nodes.{Node, tree_depth}
use Rattle.hash_tree.specs.Texts.{leaf_text}
use Rattle.snapshot.specs.RowMaps.{RowMap, text_at}
use Rattle.snapshot.specs.Snapshots.{answer_fault}
use Rattle.snapshot.proofs.ShownLaws.{leaf_text_at}
use Rattle.snapshot.proofs.snapshot.Snapshot.answer.Goals as goal

pub returns-then-node-tree_depth-2 : goal.returns-then-node-tree_depth-2
returns-then-node-tree_depth-2 c =
    let m = c.args.self.now in
    let node : Node = record { depth = c.node.inside.depth; index = c.node.inside.index } in
    let format = ap (λ (m : RowMap). m.format) c.self.view_is in
    let deep : node.depth ≡ tree_depth m.format = c.if-node-tree_depth-2.true ∙ c.tree_depth-2.ensures ∙ ap (λ (f : Format). tree_depth f) format in
    let none : answer_fault m node ≡ None = rw (le-leb node.depth (tree_depth m.format) (omega (arith, deep))) refl in
    let text = ap (λ (b : Bucket). leaf_text b.format b.rows) c.rows.ensures ∙ leaf_text_at m node.depth node.index deep in
    subst (λ (n : Node). Answers c.text_of.result (answer_fault m n) (λ x. x.items ≡ text_at m n.depth n.index)) c.node.view_is
    (subst (λ (o : Option Refusal). Answers c.text_of.result o (λ x. x.items ≡ text_at m node.depth node.index)) (sym none)
    (subst (λ (t : List ℕ). Answers c.text_of.result None (λ x. x.items ≡ t)) text c.text_of.ensures))

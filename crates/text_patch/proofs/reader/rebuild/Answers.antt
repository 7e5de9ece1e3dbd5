use Rattle.std.proofs.Common.{◌≡◌, ◌+◌, ◌++◌, ℕ, List, length, ◌∙◌}
use Rattle.std.proofs.lemmas.Result.{err_from_is_err_and}
use Rattle.tree_nodes.specs.Nodes.{Node}
use Rattle.text_patch.specs.Parts.{parts_at}
use Rattle.text_patch.proofs.RebuildLaws.{no_text}
use Rattle.text_patch.proofs.reader.rebuild.Goals as goal

pub returns-in_err-len : goal.returns-in_err-len
returns-in_err-len c =
    let p = err_from_is_err_and c.from_residual-in_err-len.result c.from_residual-in_err-len.ensures.1 in
    let node : Node = record { depth = c.args.node.depth; index = c.args.node.index } in
    let parts : c.deref.result.now ≡ parts_at c.args.own.now node = c.deref.ensures.value ∙ c.in_ok-parts.ensures.1 in
    rw (p.1, p.2) (no_text (λ (text : List ℕ) (len : ℕ). len ≡ 1 + length text) c.args.own.now node c.deref.result.now c.args.steps.now
    c.in_err-len.field-0.0 parts c.in_err-len.ensures)

pub returns-in_err-put_made : goal.returns-in_err-put_made
returns-in_err-put_made c =
    let p = err_from_is_err_and c.from_residual-in_err-put_made.result c.from_residual-in_err-put_made.ensures.1 in
    let node : Node = record { depth = c.args.node.depth; index = c.args.node.index } in
    let parts : c.deref-2.result.now ≡ parts_at c.args.own.now node = c.deref-2.ensures.value ∙ c.in_ok-parts.ensures.1 in
    rw (p.1, p.2) (no_text (λ (text : List ℕ) (done : Unit {0}). c.put_made.new.out.items ≡ c.push.new.self.items ++ text) c.args.own.now node
    c.deref-2.result.now c.args.steps.now c.in_err-put_made.field-0.0 parts c.in_err-put_made.ensures)

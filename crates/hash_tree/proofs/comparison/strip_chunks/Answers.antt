use Rattle.std.proofs.Common.{◌++◌, ◌∙◌, ap, subst}
use Rattle.std.specs.List.{flat_map}
use Rattle.row_bytes.proofs.StripLaws.{Lacks, behind_item, behind_lacks_item}
use Rattle.hash_tree.specs.Leaves.{Bucket}
use Rattle.hash_tree.specs.Chunks.{chunk_text}
use Rattle.hash_tree.proofs.comparison.strip_chunks.Goals as goal

pub returns-in_err-rest : goal.returns-in_err-rest
returns-in_err-rest c =
    let l = c.loop-chunk in
    let lacks = subst (λ (b : Bucket). Lacks (chunk_text b) l.rest.now) c.deref.ensures c.in_err-rest.ensures in
    rw c.from_residual.ensures
    (behind_lacks_item chunk_text c.args.chunks.now l.chunk-index c.chunk-item.result
    (flat_map chunk_text c.args.chunks.now) c.args.text.now l.rest.now c.loop-chunk-test.true c.chunk-item.is l.invariant lacks)

pub loop-chunk-preserved : goal.loop-chunk-preserved
loop-chunk-preserved c =
    let l = c.loop-chunk in
    let rest = c.in_ok-rest.rest.now in
    behind_item chunk_text c.args.chunks.now l.chunk-index c.chunk-item.result
    (flat_map chunk_text c.args.chunks.now) c.args.text.now l.rest.now rest c.loop-chunk-test.true c.chunk-item.is l.invariant
    (c.in_ok-rest.ensures ∙ ap (λ (b : Bucket). chunk_text b ++ rest) c.deref.ensures)

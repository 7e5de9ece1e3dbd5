use Rattle.std.proofs.Common.{◌∙◌, ◌<◌, ◌+◌, length, subst}
use Rattle.std.specs.Vec.{vec_capacity}
use Rattle.row_bytes.proofs.TextLengthLaws.{on_err, lacks_room}
use Rattle.hash_tree.specs.Leaves.{Bucket}
use Rattle.hash_tree.specs.Chunks.{chunk_text}
use Rattle.hash_tree.proofs.texts.put_chunks.Goals as goal

pub returns-in_err-put_texts-clause-room : goal.returns-in_err-put_texts-clause-room
returns-in_err-put_texts-clause-room c =
    let l = c.loop-chunk in
    let full = subst (λ (b : Bucket). vec_capacity l.out < length l.out.items + length (chunk_text b))
    (c.deref.ensures ∙ c.chunk-item.is) c.in_err-put_texts.ensures.room in
    on_err c.from_residual.result
    (lacks_room chunk_text c.args.chunks.now l.chunk-index c.chunk-item.result c.args.out.now.items l.out.items _ _ c.loop-chunk-test.true
    l.invariant.so_far l.invariant.room full)

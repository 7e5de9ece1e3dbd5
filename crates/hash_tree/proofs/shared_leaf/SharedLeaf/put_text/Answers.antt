use Rattle.std.proofs.Common.{◌≡◌, ◌++◌, ◌+◌, ◌<◌, [], ◌∷◌, ◌∙◌, ℕ, List, length, length-append, append_assoc, ap, arith}
use Rattle.std.specs.List.{flat_map}
use Rattle.std.specs.Vec.{vec_capacity}
use Rattle.row_bytes.proofs.TextLengthLaws.{on_err}
use Rattle.hash_tree.specs.Leaves.{Bucket}
use Rattle.hash_tree.specs.Chunks.{chunk_text}
use Rattle.hash_tree.specs.Texts.{leaf_byte}
use Rattle.hash_tree.proofs.ChunkPlaces.{text_of_chunks, some_text, on_ok_map, on_err_map}
use Rattle.hash_tree.proofs.shared_leaf.SharedLeaf.put_text.Goals as goal

pub returns-in_err-push-clause-room : goal.returns-in_err-push-clause-room
returns-in_err-push-clause-room c =
    on_err c.from_residual-in_err-push.result
    (omega (arith, c.in_err-push.ensures.full, some_text c.args.self.now, c.in_ok-reserve.ensures.room, c.text_len.ensures, c.reserve.new.out.ok.0))

pub returns-clause-ok : goal.returns-clause-ok
returns-clause-ok c =
    let s = c.self.inside in
    let out = c.args.out.now.items in
    let rest = flat_map chunk_text c.chunks.result.now in
    let text = ap (λ (b : Bucket). leaf_byte b.format ∷ rest) c.self.view_is
    ∙ text_of_chunks c.args.self.now c.args.self.now.format c.chunks.result.now c.chunks.ensures.rows c.chunks.ensures.chunks in
    let pushed : c.push.new.self.items ≡ out ++ leaf_byte s.format ∷ [] =
    c.in_ok-push.ensures.items ∙ ap (λ (o : List ℕ). o ++ c.leaf_byte.result ∷ []) c.reserve.ensures.items
    ∙ ap (λ (b : ℕ). out ++ b ∷ []) c.leaf_byte.ensures in
    on_ok_map c.put_chunks.result (λ (put : c.put_chunks.new.out.items ≡ c.push.new.self.items ++ rest).
    put ∙ ap (λ (o : List ℕ). o ++ rest) pushed ∙ append_assoc out (leaf_byte s.format ∷ []) rest
    ∙ ap (λ (t : List ℕ). out ++ t) text) c.put_chunks.ensures.ok

pub returns-clause-room : goal.returns-clause-room
returns-clause-room c =
    let rest = flat_map chunk_text c.chunks.result.now in
    let text = text_of_chunks c.args.self.now c.args.self.now.format c.chunks.result.now c.chunks.ensures.rows c.chunks.ensures.chunks in
    on_err_map c.put_chunks.result (λ (full : vec_capacity c.push.new.self < length c.push.new.self.items + length rest).
    omega (
      arith,
      full,
      c.reserve.ensures.capacity,
      c.push.ensures.capacity,
      ap (λ (t : List ℕ). length t) c.in_ok-push.ensures.items,
      length-append c.reserve.new.out.items (c.leaf_byte.result ∷ []),
      ap (λ (t : List ℕ). length t) c.reserve.ensures.items,
      ap (λ (t : List ℕ). length t) text,
    )) c.put_chunks.ensures.room

pub returns-clause-err : goal.returns-clause-err
returns-clause-err c =
    let rest = flat_map chunk_text c.chunks.result.now in
    let text = text_of_chunks c.args.self.now c.args.self.now.format c.chunks.result.now c.chunks.ensures.rows c.chunks.ensures.chunks in
    on_err_map c.put_chunks.result (λ (full : vec_capacity c.push.new.self < length c.push.new.self.items + length rest).
    absurd (omega (
      arith,
      full,
      c.in_ok-reserve.ensures.room,
      c.push.ensures.capacity,
      c.text_len.ensures,
      ap (λ (t : List ℕ). length t) c.in_ok-push.ensures.items,
      length-append c.reserve.new.out.items (c.leaf_byte.result ∷ []),
      ap (λ (t : List ℕ). length t) text,
    ))) c.put_chunks.ensures.room

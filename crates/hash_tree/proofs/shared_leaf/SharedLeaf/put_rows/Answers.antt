use Rattle.std.proofs.Common.{◌≡◌, ◌++◌, ◌∙◌, ℕ, List, length, sym, ap, arith}
use Rattle.std.specs.List.{flat_map}
use Rattle.vclock.specs.Outcome.{gives}
use Rattle.row_bytes.specs.Rows.{row_text}
use Rattle.hash_tree.specs.Chunks.{chunk_text}
use Rattle.hash_tree.proofs.ChunkPlaces.{rows_of_chunks, text_of_chunks, some_text}
use Rattle.hash_tree.proofs.shared_leaf.SharedLeaf.put_rows.Goals as goal

pub overflow_sub-text_len : goal.overflow_sub-text_len
overflow_sub-text_len c = omega (arith, some_text c.args.self.now, c.text_len.ensures)

pub returns-in_err-put_chunks : goal.returns-in_err-put_chunks
returns-in_err-put_chunks c =
    let text = text_of_chunks c.args.self.now c.args.self.now.format c.chunks.result.now c.chunks.ensures.rows c.chunks.ensures.chunks in
    absurd (omega (
      arith,
      c.in_err-put_chunks.ensures.room,
      c.in_ok-reserve.ensures.room,
      some_text c.args.self.now,
      c.text_len.ensures,
      ap (λ (t : List ℕ). length t) text,
    ))

pub returns : goal.returns
returns c =
    let out = c.args.out.now.items in
    let rows = rows_of_chunks c.args.self.now c.args.self.now.format c.chunks.result.now c.chunks.ensures.rows c.chunks.ensures.chunks in
    let now : c.put_chunks.new.out.items ≡ out ++ flat_map (row_text c.args.self.now.format) c.args.self.now.rows =
    c.in_ok-put_chunks.ensures.ok
    ∙ ap (λ (o : List ℕ). o ++ flat_map chunk_text c.chunks.result.now) c.reserve.ensures.items
    ∙ ap (λ (t : List ℕ). out ++ t) rows in
    ap (λ (t : List ℕ). gives tt t) (sym now)

use Rattle.std.proofs.Common.{rules, ◌≡◌, ◌∙◌, List, length, sym, subst, ap}
use Rattle.row_bytes.specs.declared.row.Row.{Row}
use Rattle.hash_tree.specs.Leaves.{Bucket, AscendByKey, IsAt, IsBetween}
use Rattle.hash_tree.proofs.ChunkPlaces.{rows_read}
use Rattle.hash_tree.proofs.KeySpotLaws.{chunk_ascends, row_spot, gap_spot, no_chunk_spot}
use Rattle.hash_tree.proofs.chunks.spot_of.Goals as goal

pub returns-then-is_empty : goal.returns-then-is_empty
returns-then-is_empty c =
    let none : length c.args.chunks.now ≡ 0 = search rules in
    no_chunk_spot c.args.key.now c.args.chunks.now none

pub find_place-requires : goal.find_place-requires
find_place-requires c =
    let within = c.chunk_of-chunk.ensures.within in
    let rows = c.rows.ensures ∙ ap (λ (b : Bucket). b.rows) c.deref.ensures
    ∙ rows_read c.args.chunks.now c.chunk_of-chunk.result c.index-chunks-chunk.result within c.index-chunks-chunk.is in
    subst AscendByKey (sym rows) (chunk_ascends c.args.chunks.now c.chunk_of-chunk.result within c.requires.ascending)

pub returns-in-Ok : goal.returns-in-Ok
returns-in-Ok c =
    let of = c.chunk_of-chunk.ensures in
    let rows = c.rows.ensures ∙ ap (λ (b : Bucket). b.rows) c.deref.ensures
    ∙ rows_read c.args.chunks.now c.chunk_of-chunk.result c.index-chunks-chunk.result of.within c.index-chunks-chunk.is in
    row_spot c.args.key.now c.args.chunks.now c.chunk_of-chunk.result c.in-Ok.at (record { within = of.within; before = of.before; after = of.after })
    (subst (λ (rs : List Row). IsAt c.args.key.now rs c.in-Ok.at) rows c.in-Ok.ensures)

pub returns-in-Err : goal.returns-in-Err
returns-in-Err c =
    let of = c.chunk_of-chunk.ensures in
    let rows = c.rows.ensures ∙ ap (λ (b : Bucket). b.rows) c.deref.ensures
    ∙ rows_read c.args.chunks.now c.chunk_of-chunk.result c.index-chunks-chunk.result of.within c.index-chunks-chunk.is in
    gap_spot c.args.key.now c.args.chunks.now c.chunk_of-chunk.result c.in-Err.at
    (record { within = of.within; before = of.before; after = of.after })
    (subst (λ (rs : List Row). IsBetween c.args.key.now rs c.in-Err.at) rows c.in-Err.ensures)

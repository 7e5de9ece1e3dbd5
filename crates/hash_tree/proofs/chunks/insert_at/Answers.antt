use Rattle.std.proofs.Common.{List, length, set, refl, subst, sym, ap, ◌∙◌, arith}
use Rattle.std.specs.List.{insert}
use Rattle.std.proofs.lemmas.List.{set-get_or}
use Rattle.row_bytes.specs.declared.row.Row.{Row}
use Rattle.row_bytes.specs.Rows.{FitsText}
use Rattle.vclock.specs.declared.format.Format.{Format}
use Rattle.hash_tree.specs.Leaves.{Bucket}
use Rattle.hash_tree.specs.Chunks.{all_rows, place_in, AreChunks}
use Rattle.hash_tree.proofs.OutcomeLaws.{does_within, does_keep}
use Rattle.hash_tree.proofs.ChunkPlaces.{rows_read, chunk_is, inserted-in_chunk, chunks-inserted}
use Rattle.hash_tree.proofs.chunks.insert_at.Goals as goal

pub returns-in_err-spot-clause-chunks : goal.returns-in_err-spot-clause-chunks
returns-in_err-spot-clause-chunks c = c.roomy_gap.ensures.chunks c.args.format c.requires.chunks

pub insert-requires-clause-at : goal.insert-requires-clause-at
insert-requires-clause-at c =
    let chunks = c.roomy_gap.new.chunks.items in
    let spot = c.in_ok-spot.spot in
    let gap = c.in_ok-spot.ensures.gap.1.0.gap in
    omega (
      arith,
      gap.within,
      ap (λ (rs : List Row). length rs) (rows_read chunks spot.chunk c.index_mut.result.now gap.chunk c.index_mut.ensures.value),
    )

pub insert-requires-clause-fits : goal.insert-requires-clause-fits
insert-requires-clause-fits c =
    let chunks = c.roomy_gap.new.chunks.items in
    let spot = c.in_ok-spot.spot in
    let are = c.roomy_gap.ensures.chunks c.args.format c.requires.chunks in
    let was = chunk_is c.args.format chunks spot.chunk c.index_mut.result.now are.each c.in_ok-spot.ensures.gap.1.0.gap.chunk
    c.index_mut.ensures.value in
    subst (λ (f : Format). FitsText f c.args.row) (sym was.same) c.requires.fits

pub returns-clause-rows : goal.returns-clause-rows
returns-clause-rows c =
    let chunks = c.roomy_gap.new.chunks.items in
    let spot = c.in_ok-spot.spot in
    let gap = c.in_ok-spot.ensures.gap.1.0.gap in
    let old = c.index_mut.result.now in
    let place = place_in c.args.chunks.now.items c.args.gap in
    let grown : Bucket = record { format = old.format; rows = insert old.rows spot.at c.args.row } in
    does_within (λ (x : Bucket). all_rows (set chunks spot.chunk x)) c.insert.result old c.insert.new.self grown tt _ _
    (ap all_rows (ap (set chunks spot.chunk) c.index_mut.ensures.value ∙ set-get_or chunks spot.chunk old) ∙ c.roomy_gap.ensures.rows)
    (inserted-in_chunk chunks spot.chunk spot.at place c.args.row grown gap.chunk gap.within c.in_ok-spot.ensures.gap.1.1
    (ap (λ (rs : List Row). insert rs spot.at c.args.row) (rows_read chunks spot.chunk old gap.chunk c.index_mut.ensures.value))
    ∙ ap (λ (rs : List Row). insert rs place c.args.row) c.roomy_gap.ensures.rows)
    c.insert.ensures

pub returns-clause-chunks : goal.returns-clause-chunks
returns-clause-chunks c =
    let chunks = c.roomy_gap.new.chunks.items in
    let spot = c.in_ok-spot.spot in
    let gap = c.in_ok-spot.ensures.gap.1.0.gap in
    let old = c.index_mut.result.now in
    let grown : Bucket = record { format = old.format; rows = insert old.rows spot.at c.args.row } in
    let are = c.roomy_gap.ensures.chunks c.args.format c.requires.chunks in
    let long = ap (λ (rs : List Row). length rs) (rows_read chunks spot.chunk old gap.chunk c.index_mut.ensures.value) in
    does_keep (λ (x : Bucket). AreChunks c.args.format (set chunks spot.chunk x)) c.insert.result old c.insert.new.self grown tt
    (subst (AreChunks c.args.format) (sym (ap (set chunks spot.chunk) c.index_mut.ensures.value ∙ set-get_or chunks spot.chunk old)) are)
    (chunks-inserted c.args.format chunks spot.chunk spot.at c.args.row grown old gap.chunk c.index_mut.ensures.value refl
    (omega (arith, gap.within, long)) (omega (arith, c.in_ok-spot.ensures.gap.1.0.room, long)) are)
    c.insert.ensures

use Rattle.std.proofs.Common.{◌≡◌, None, List, length, set, refl, subst, sym, ap, ◌∙◌, arith}
use Rattle.std.proofs.lemmas.List.{set-get_or}
use Rattle.version_set.specs.declared.version.Version.{Version}
use Rattle.version_set.specs.Version.{offer_fault}
use Rattle.row_bytes.specs.declared.row.Row.{Row}
use Rattle.hash_tree.specs.Leaves.{Bucket}
use Rattle.hash_tree.specs.Chunks.{all_rows, place_in, AreChunks, row_versions, offered_at}
use Rattle.hash_tree.proofs.OutcomeLaws.{does_within, does_keep}
use Rattle.hash_tree.proofs.ChunkPlaces.{rows_read, offered-in_chunk, versions-in_chunk, chunks-offered}
use Rattle.hash_tree.proofs.chunks.offer_at.Goals as goal

pub offer-requires-clause-at : goal.offer-requires-clause-at
offer-requires-clause-at c =
    let spot = c.requires.spot in
    omega (
      arith,
      spot.within,
      ap (λ (rs : List Row). length rs)
          (rows_read c.args.chunks.now.items c.args.spot.chunk c.index_mut.result.now spot.chunk c.index_mut.ensures.value),
    )

pub offer-requires-clause-room : goal.offer-requires-clause-room
offer-requires-clause-room c =
    let chunks = c.args.chunks.now.items in
    let r = c.args.spot in
    let spot = c.requires.spot in
    let versions = ap (λ (rs : List Row). row_versions rs r.at) (rows_read chunks r.chunk c.index_mut.result.now spot.chunk c.index_mut.ensures.value)
    ∙ versions-in_chunk chunks r.chunk r.at (place_in chunks r) spot.chunk spot.within refl in
    subst (λ (S : List Version). offer_fault c.args.version S ≡ None) (sym versions) c.requires.room

pub returns-clause-rows : goal.returns-clause-rows
returns-clause-rows c =
    let chunks = c.args.chunks.now.items in
    let r = c.args.spot in
    let old = c.index_mut.result.now in
    let spot = c.requires.spot in
    let grown : Bucket = record { format = old.format; rows = offered_at old.rows r.at c.args.version } in
    does_within (λ (x : Bucket). all_rows (set chunks r.chunk x)) c.offer.result old c.offer.new.self grown tt _ _
    (ap all_rows (ap (set chunks r.chunk) c.index_mut.ensures.value ∙ set-get_or chunks r.chunk old))
    (offered-in_chunk chunks r.chunk r.at (place_in chunks r) c.args.version grown spot.chunk spot.within refl
    (ap (λ (rs : List Row). offered_at rs r.at c.args.version) (rows_read chunks r.chunk old spot.chunk c.index_mut.ensures.value)))
    c.offer.ensures

pub returns-clause-chunks : goal.returns-clause-chunks
returns-clause-chunks c = λ format are.
    let chunks = c.args.chunks.now.items in
    let r = c.args.spot in
    let old = c.index_mut.result.now in
    let grown : Bucket = record { format = old.format; rows = offered_at old.rows r.at c.args.version } in
    does_keep (λ (x : Bucket). AreChunks format (set chunks r.chunk x)) c.offer.result old c.offer.new.self grown tt
    (subst (AreChunks format) (sym (ap (set chunks r.chunk) c.index_mut.ensures.value ∙ set-get_or chunks r.chunk old)) are)
    (chunks-offered format chunks r.chunk r.at c.args.version grown old c.requires.spot.chunk c.index_mut.ensures.value refl are)
    c.offer.ensures

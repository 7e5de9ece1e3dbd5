use Rattle.std.proofs.Common.{◌≡◌, ◌+◌, ◌≤◌, List, length, refl, subst, sym, ap, ◌∙◌, arith}
use Rattle.row_bytes.specs.declared.row.Row.{Row}
use Rattle.hash_tree.specs.Leaves.{Bucket}
use Rattle.hash_tree.specs.Chunks.{all_rows, chunk_rows, IsGapSpot}
use Rattle.hash_tree.proofs.KeyLaws.{all_get}
use Rattle.hash_tree.proofs.ChunkPlaces.{rows_read, gap-behind, place-behind}
use Rattle.hash_tree.proofs.chunks.roomy_gap.Goals as goal

pub returns-then-rows-lt-ROWS_MAX-clause-gap : goal.returns-then-rows-lt-ROWS_MAX-clause-gap
returns-then-rows-lt-ROWS_MAX-clause-gap c =
    let chunks = c.args.chunks.now.items in
    let spot = c.args.gap in
    let gap = c.requires.gap in (
      refl,
      (
        record {
          gap = gap;
          room = omega (
            arith,
            c.if-rows-lt-ROWS_MAX.true,
            ap (λ (rs : List Row). length rs) (c.rows.ensures ∙ ap (λ (b : Bucket). b.rows) c.deref.ensures
                ∙ rows_read chunks spot.chunk c.index.result.now gap.chunk c.index.ensures),
          );
        },
        refl,
      ),
    )

pub split_at-requires-clause-full : goal.split_at-requires-clause-full
split_at-requires-clause-full c =
    let chunks = c.args.chunks.now.items in
    let spot = c.args.gap in
    let gap = c.requires.gap in
    let few : length c.index.result.now.rows ≤ 15 = subst (λ (x : Bucket). length x.rows ≤ 15) (sym c.index.ensures)
    (all_get (λ (x : Bucket). length x.rows ≤ 15) chunks spot.chunk c.index.result.now c.requires.each gap.chunk) in
    omega (
      arith,
      few,
      c.if-rows-lt-ROWS_MAX.false,
      ap (λ (rs : List Row). length rs) (c.rows.ensures ∙ ap (λ (b : Bucket). b.rows) c.deref.ensures),
      ap (λ (rs : List Row). length rs) (rows_read chunks spot.chunk c.index.result.now gap.chunk c.index.ensures),
    )

pub returns-then-gap-cut-clause-gap : goal.returns-then-gap-cut-clause-gap
returns-then-gap-cut-clause-gap c =
    let split = c.in_ok-split_at.ensures.split.1 in
    let gap : IsGapSpot c.split_at.new.chunks.items c.args.gap = record {
      chunk = omega (arith, split.more, c.requires.gap.chunk);
      within = omega (arith, split.front, c.if-gap-cut.true);
    } in (
      refl,
      (
        record { gap = gap; room = omega (arith, split.front, c.cut_for-cut.ensures.less) },
        ap (λ (cs : List Bucket). length (all_rows cs) + c.args.gap.at) split.before,
      ),
    )

pub returns-clause-gap : goal.returns-clause-gap
returns-clause-gap c =
    let chunks = c.args.chunks.now.items in
    let spot = c.args.gap in
    let gap = c.requires.gap in
    let split = c.in_ok-split_at.ensures.split.1 in
    let few : length c.index.result.now.rows ≤ 15 = subst (λ (x : Bucket). length x.rows ≤ 15) (sym c.index.ensures)
    (all_get (λ (x : Bucket). length x.rows ≤ 15) chunks spot.chunk c.index.result.now c.requires.each gap.chunk) in
    let full : length (chunk_rows chunks spot.chunk) ≡ 15 =
    omega (
      arith,
      few,
      c.if-rows-lt-ROWS_MAX.false,
      ap (λ (rs : List Row). length rs) (c.rows.ensures ∙ ap (λ (b : Bucket). b.rows) c.deref.ensures),
      ap (λ (rs : List Row). length rs) (rows_read chunks spot.chunk c.index.result.now gap.chunk c.index.ensures),
    ) in (
      refl,
      (
        record {
          gap = gap-behind chunks c.split_at.new.chunks.items spot c.cut_for-cut.result gap split full c.if-gap-cut.false;
          room = omega (arith, split.back, c.cut_for-cut.ensures.some);
        },
        place-behind chunks c.split_at.new.chunks.items spot c.cut_for-cut.result split c.if-gap-cut.false,
      ),
    )

use Rattle.std.proofs.Common.{◌∙◌, None, drop, length, sym, ap, subst, arith}
use Rattle.std.specs.List.{AllByRecursion}
use Rattle.row_bytes.specs.Rows.{FitsText}
use Rattle.hash_tree.specs.Leaves.{Bucket, IsRun, FindsRun}
use Rattle.hash_tree.proofs.ChunkLaws.{all-run}
use Rattle.hash_tree.proofs.KeySpotLaws.{spot_within, spot_run, gap_no_row}
use Rattle.hash_tree.proofs.shared_leaf.SharedLeaf.find_run.Goals as goal
use Rattle.hash_tree.proofs.shared_leaf.SharedLeaf.find_run.Goals.{After-split_at}

pub returns-in_default-clause-found : goal.returns-in_default-clause-found
returns-in_default-clause-found c =
    subst (λ (b : Bucket). FindsRun b.rows c.args.key.now None) c.chunks-chunks.ensures.rows
    (gap_no_row c.args.self.now.format c.args.key.now c.chunks-chunks.result.now c.in_default.field-0 c.chunks-chunks.ensures.valid
    c.in_default.ensures)

pub split_at-requires : goal.split_at-requires
split_at-requires c =
    omega (
      arith,
      spot_within c.args.key.now c.chunks-chunks.result.now c.in-Ok.spot c.index-chunks-spot.result c.in-Ok.ensures
          c.index-chunks-spot.is,
      ap length (c.rows.ensures ∙ ap (λ (b : Bucket). b.rows) c.deref.ensures),
    )

-- the rows are a run of the leaf's
is_run : (c : After-split_at) → IsRun c.args.self.now.rows c.args.key.now c.split_at.result.1.now
is_run c =
    let run = c.split_at.ensures.back ∙ ap (drop c.in-Ok.spot.at) (c.rows.ensures ∙ ap (λ (b : Bucket). b.rows) c.deref.ensures) in
    subst (λ (b : Bucket). IsRun b.rows c.args.key.now c.split_at.result.1.now) c.chunks-chunks.ensures.rows
    (subst (IsRun _ c.args.key.now) (sym run)
    (spot_run c.args.key.now c.chunks-chunks.result.now c.in-Ok.spot c.index-chunks-spot.result c.in-Ok.ensures c.index-chunks-spot.is))

pub returns-clause-found : goal.returns-clause-found
returns-clause-found c = is_run (goal.at.returns-clause-found c).After-split_at

pub returns-clause-fit : goal.returns-clause-fit
returns-clause-fit c =
    let run = is_run (goal.at.returns-clause-fit c).After-split_at in
    let all = subst (λ (b : Bucket). AllByRecursion (FitsText b.format) b.rows) c.chunks-chunks.ensures.rows c.chunks-chunks.ensures.valid.each in
    all-run (FitsText c.args.self.now.format) run.front c.split_at.result.1.now run.back
    (subst (AllByRecursion (FitsText c.args.self.now.format)) run.rows_are all)

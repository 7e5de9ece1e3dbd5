use Rattle.std.proofs.Common.{rules, length}
use Rattle.std.proofs.lemmas.Iterator.{YieldsList-from_map, YieldsList-from_slice}
use Rattle.std.proofs.lemmas.Iterator.Consumers.{sum_by_from_yields_List}
use Rattle.row_bytes.specs.declared.row.Row.{Row}
use Rattle.sync_session.proofs.news.version_count.Goals as goal

pub returns : goal.returns
returns c =
    sum_by_from_yields_List (λ (r : Row). length r.versions) c.args.rows.now c.map.result c.sum.result c.sum.ensures.ran
    (YieldsList-from_map _ (λ (r : Row). length r.versions) (YieldsList-from_slice c.args.rows.now cc) c.map.ensures.closure
    (λ x r q k. search rules))

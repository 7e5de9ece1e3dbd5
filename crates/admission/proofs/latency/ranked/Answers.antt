use Rattle.admission.proofs.Ranks.{percentile_at}
use Rattle.admission.proofs.latency.ranked.Goals as goal

pub returns : goal.returns
returns c =
    let sort = c.sort_unstable.ensures in
    let place = c.place.ensures in
    percentile_at c.args.latencies.now c.sort_unstable.new.self c.place.result sort.permutation sort.len sort.sorted place.within place.enough
    place.first

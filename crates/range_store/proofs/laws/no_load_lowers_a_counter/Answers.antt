use Rattle.range_store.proofs.CounterLaws.{load_top, renewed_top}
use Rattle.range_store.proofs.laws.no_load_lowers_a_counter.Goals as goal

pub returns : goal.returns
returns c = record {
  load = λ s t seat rows report key node given. load_top s t seat rows report key node given;
  renewal = λ s seat limit key node. renewed_top s seat limit key node;
}

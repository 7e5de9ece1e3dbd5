use Rattle.range_store.proofs.LoadedLaws.{text_loads, leaves_load}
use Rattle.range_store.proofs.laws.loaded_ranges_are_renewed.Goals as goal

pub returns : goal.returns
returns c = record {
  texts = text_loads;
  all = leaves_load;
}

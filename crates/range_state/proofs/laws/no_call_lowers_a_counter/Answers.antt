use Rattle.range_state.proofs.CounterSteps.{run_top, sync_top}
use Rattle.range_state.proofs.laws.no_call_lowers_a_counter.Goals as goal

pub returns : goal.returns
returns c = record {
  run = λ s t events replies key node ran. run_top s t events replies key node ran;
  sync = λ s seat other key node. sync_top s seat other key node;
}

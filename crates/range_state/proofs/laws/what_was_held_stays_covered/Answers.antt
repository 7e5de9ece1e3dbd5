use Rattle.std.proofs.Common.{◌++◌, ◌∷◌, [], ap, ◌+◌}
use Rattle.snapshot.specs.RowMaps.{RowMap}
use Rattle.sync_session.specs.Steps.{started}
use Rattle.range_state.proofs.MomentLaws.{held_at, all_rows_at}
use Rattle.range_state.proofs.laws.what_was_held_stays_covered.Goals as goal

pub returns : goal.returns
returns c = record {
  held = held_at;
  now = λ s partner root. ap
      (λ (m : RowMap). record s {
        records = s.records ++ (record { number = s.next_session; partner = partner; session = started m root }) ∷ [];
        next_session = s.next_session + 1;
      }) (all_rows_at s.store);
}

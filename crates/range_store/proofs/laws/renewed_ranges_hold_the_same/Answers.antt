use Rattle.std.proofs.Common.{List, ap}
use Rattle.version_set.specs.declared.version.Version.{Version}
use Rattle.row_bytes.specs.declared.row.Row.{Row}
use Rattle.range_store.specs.Store.{stale_fault}
use Rattle.range_store.proofs.RenewLaws.{renewed_holds, renewed_rows, renewed_again, renewed_fewer, renewed_right, limit_fits}
use Rattle.range_store.proofs.laws.renewed_ranges_hold_the_same.Goals as goal

pub returns : goal.returns
returns c = record {
  held = λ s seat limit key. renewed_holds s seat key;
  rows = λ s seat limit. ap (λ (rows : List Row). record { format = s.config.format; bits = s.config.bits; range = s.config.range; rows = rows })
      (renewed_rows s seat);
  again = renewed_again;
  fewer = renewed_fewer;
  stale = λ s seat limit key clock. ap (λ (vs : List Version). stale_fault vs clock) (renewed_holds s seat key);
  right = λ s seat limit ok none. renewed_right s seat limit ok (limit_fits s limit none);
}

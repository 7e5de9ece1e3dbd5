use Rattle.caller_pass.proofs.CallerLaws.{renewed_receipts, renewed_readings}
use Rattle.caller_pass.proofs.laws.renewed_ranges_cover_settled_passes.Goals as goal

pub returns : goal.returns
returns c = record { receipts = renewed_receipts; readings = renewed_readings }

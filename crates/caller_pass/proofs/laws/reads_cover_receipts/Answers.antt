use Rattle.caller_pass.proofs.CallerLaws.{own_writes}
use Rattle.caller_pass.proofs.laws.reads_cover_receipts.Goals as goal

pub returns : goal.returns
returns c = own_writes

use Rattle.caller_pass.proofs.CallerLaws.{each_entry_kept}
use Rattle.caller_pass.proofs.laws.settled_passes_have_each_entry.Goals as goal

pub returns : goal.returns
returns c = each_entry_kept

use Rattle.caller_pass.proofs.NextLaws.{still_known}
use Rattle.caller_pass.proofs.locked_range.LockedRange.take_answer_next.Goals as goal

pub returns-in_err-next : goal.returns-in_err-next
returns-in_err-next g c = absurd (let known = still_known _ _ _ _ _ _ _ c.in_ok-taken.ensures in let not = c.in_err-next.ensures in cc)

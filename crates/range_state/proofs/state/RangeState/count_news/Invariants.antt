use Rattle.std.proofs.Common.{ℕ, take}
use Rattle.range_state.proofs.JudgementLaws.{IsTallied}
use Rattle.range_state.proofs.state.RangeState.count_news.Given as goal

abbrev pub invariant-loop-version : goal.invariant-loop-version
invariant-loop-version l = (seat : ℕ) → IsTallied l.self.store seat l.row.key (take l.version-index l.version-items) l.set l.count

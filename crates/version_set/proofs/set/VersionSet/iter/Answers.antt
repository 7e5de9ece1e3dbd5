use Rattle.version_set.proofs.SetLaws.{none-is_below}
use Rattle.version_set.proofs.TextOrderLaws.{ascends_by_text, ascends_by_live_text}
use Rattle.version_set.proofs.set.VersionSet.iter.Goals as goal

pub returns-clause-apart : goal.returns-clause-apart
returns-clause-apart c = none-is_below c.args.self.now c.as_slice.ensures.valid

pub returns-clause-text : goal.returns-clause-text
returns-clause-text c texts = ascends_by_text c.args.self.now c.as_slice.ensures.valid.ascending texts

pub returns-clause-live : goal.returns-clause-live
returns-clause-live c texts live = ascends_by_live_text c.args.self.now c.as_slice.ensures.valid.ascending texts live

use Rattle.outage_script.proofs.answer.write_adjusted.Goals as goal

pub returns-clause-tokens : goal.returns-clause-tokens
returns-clause-tokens c = rw c.maybe_number.ensures at c.write_object.ensures.tokens

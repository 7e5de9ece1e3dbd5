use Rattle.outage_script.proofs.AnswerLemmas.{two_written}
use Rattle.outage_script.proofs.part.VersionToJson.write.Goals as goal

pub returns-clause-tokens : goal.returns-clause-tokens
returns-clause-tokens c =
    two_written c.args.out.now.tokens c.begin_object.new.self.tokens c.key.new.self.tokens c.write.new.out.tokens c.key-2.new.self.tokens
    c.write_value.new.out.tokens c.end_object.new.self.tokens _ _ _ _ _ _
    c.in_ok-begin_object.ensures.ok c.in_ok-key.ensures.ok c.in_ok-write.ensures.tokens c.in_ok-key-2.ensures.ok c.in_ok-write_value.ensures.tokens
    c.in_ok-end_object.ensures.ok

use Rattle.outage_cluster.specs.Acts.{act}
use Rattle.outage_cluster.proofs.OutcomeSteps.{reply_said, after_said}
use Rattle.outage_cluster.proofs.world.World.act.Goals as goal

pub returns-clause-reply : goal.returns-clause-reply
returns-clause-reply g c =
    reply_said c.perform-answer.result c.answered.result c.args.self.now c.perform-answer.new.self
    (act c.args.command c.args.self.now) c.perform-answer.ensures c.answered.ensures.ok c.answered.ensures.refused

pub returns-clause-after : goal.returns-clause-after
returns-clause-after g c =
    after_said c.perform-answer.result c.answered.result c.args.self.now c.perform-answer.new.self
    (act c.args.command c.args.self.now) c.perform-answer.ensures c.answered.ensures.ok c.answered.ensures.refused

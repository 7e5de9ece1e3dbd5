use Rattle.std.proofs.Common.{[], ◌∷◌}
use Rattle.outage_script.specs.Moves.{script_place}
use Rattle.outage_script.proofs.FeedLemmas.{feeds_both}
use Rattle.outage_script.proofs.script_run.ScriptRun.take_line.Goals as goal

pub returns-clause-feeds : goal.returns-clause-feeds
returns-clause-feeds g c =
    feeds_both
    (script_place c.args.self.now.number c.args.self.now.world c.args.self.now.line.items c.args.self.now.too_long)
    (script_place c.take_part.new.self.number c.take_part.new.self.world c.take_part.new.self.line.items c.take_part.new.self.too_long)
    (script_place c.end_line.new.self.number c.end_line.new.self.world c.end_line.new.self.line.items c.end_line.new.self.too_long)
    c.args.bytes.now (10 ∷ []) c.end_line.result _ _ _ c.in_default.ensures.feeds c.end_line.ensures.feeds

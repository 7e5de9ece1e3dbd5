use Rattle.std.proofs.Common.{rules, []}
use Rattle.outage_script.specs.Moves.{script_place}
use Rattle.outage_script.proofs.Known.{appends_nothing}
use Rattle.outage_script.proofs.LineLemmas.{nothing_to_come, finished}
use Rattle.outage_script.proofs.script_run.ScriptRun.finish.Goals as goal

pub returns-then-is_empty : goal.returns-then-is_empty
returns-then-is_empty g c = (
  [],
  appends_nothing _,
  nothing_to_come
      (script_place c.args.self.now.number c.args.self.now.world c.args.self.now.line.items c.args.self.now.too_long) (search rules),
)

pub returns : goal.returns
returns g c =
    let p = script_place c.args.self.now.number c.args.self.now.world c.args.self.now.line.items c.args.self.now.too_long in
    finished p (script_place c.end_line.new.self.number c.end_line.new.self.world c.end_line.new.self.line.items c.end_line.new.self.too_long)
    c.end_line.result _ _ (search rules) c.args.self.now.inside c.end_line.ensures.feeds c.end_line.ensures.cleared

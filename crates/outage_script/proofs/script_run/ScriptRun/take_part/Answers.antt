use Rattle.std.proofs.Common.{◌<◌, ◌+◌, length, [], arith}
use Rattle.outage_commands.specs.Faults.{line_limit}
use Rattle.outage_script.specs.Moves.{script_place}
use Rattle.outage_script.proofs.Known.{appends_nothing}
use Rattle.outage_script.proofs.LineLemmas.{line_long, bytes_kept}
use Rattle.outage_script.proofs.FeedLemmas.{more_inside}
use Rattle.outage_script.proofs.script_run.ScriptRun.take_part.Goals as goal

pub returns-then-bytes-len-clause-feeds : goal.returns-then-bytes-len-clause-feeds
returns-then-bytes-len-clause-feeds g c =
    let said = c.refuse.ensures in
    let long : line_limit < length c.args.self.now.line.items + length c.args.bytes.now = omega (arith, c.args.self.now.line.ok.0) in (
      said.0,
      said.1,
      line_long
          (script_place c.args.self.now.number c.args.self.now.world c.args.self.now.line.items c.args.self.now.too_long) c.args.bytes.now _ _
          (more_inside c.args.self.now.line.items c.args.bytes.now c.args.self.now.inside c.requires) long said.2,
    )

pub returns-in-Ok-clause-feeds : goal.returns-in-Ok-clause-feeds
returns-in-Ok-clause-feeds g c = (
  [],
  appends_nothing _,
  rw c.in-Ok.ensures.items
      (bytes_kept (script_place c.args.self.now.number c.args.self.now.world c.args.self.now.line.items c.args.self.now.too_long) c.args.bytes.now),
)

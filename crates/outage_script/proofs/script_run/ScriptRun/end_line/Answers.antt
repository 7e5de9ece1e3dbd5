use Rattle.std.proofs.Common.{◌≡◌, ◌≤◌, length, [], sym, ◌∙◌, arith}
use Rattle.outage_commands.specs.Faults.{line_limit}
use Rattle.outage_script.specs.Moves.{script_place}
use Rattle.outage_script.proofs.Known.{appends_nothing}
use Rattle.outage_script.proofs.LineLemmas.{line_bad, line_cut, line_done, no_memory}
use Rattle.outage_script.proofs.script_run.ScriptRun.end_line.Goals as goal

pub returns-in-Ok-None-clause-feeds : goal.returns-in-Ok-None-clause-feeds
returns-in-Ok-None-clause-feeds g c =
    let said = c.refuse.ensures in
    let bad = rw (c.in-Ok-None.field-0-is, c.as_slice.ensures.value) at c.in-Ok-None.ensures in
    let short : length c.args.self.now.line.items ≤ line_limit = omega (arith, c.args.self.now.line.ok.0, c.args.self.now.short) in (
      said.0,
      said.1,
      line_bad
          (script_place c.args.self.now.number c.args.self.now.world c.args.self.now.line.items c.args.self.now.too_long) c.turn.new.world _ _
          c.args.self.now.inside short bad (said.2 _),
    )

pub returns-in-Err-clause-feeds : goal.returns-in-Err-clause-feeds
returns-in-Err-clause-feeds g c = ([], appends_nothing _, no_memory _ _ _)

pub returns-then-not-write_whole-clause-feeds : goal.returns-then-not-write_whole-clause-feeds
returns-then-not-write_whole-clause-feeds g c =
    let said = c.write_whole.ensures.written in
    let turn = rw (c.in-Ok-Some.field-0-is, c.as_slice.ensures.value) at c.in-Ok-Some.ensures in (
      said.0,
      said.1,
      line_cut (script_place c.args.self.now.number c.args.self.now.world c.args.self.now.line.items c.args.self.now.too_long)
          (c.in-Ok-Some.text.items) c.turn.new.world _ c.args.self.now.inside turn (said.2.0, sym c.as_slice-2.ensures.value ∙ said.2.1)
          (script_place c.args.self.now.number c.turn.new.world c.args.self.now.line.items c.args.self.now.too_long),
    )

pub returns-clause-feeds : goal.returns-clause-feeds
returns-clause-feeds g c =
    let said = c.write_whole.ensures.written in
    let turn = rw (c.in-Ok-Some.field-0-is, c.as_slice.ensures.value) at c.in-Ok-Some.ensures in
    let whole : said.0 ≡ c.in-Ok-Some.text.items = said.3 c.if-not-write_whole.false ∙ c.as_slice-2.ensures.value in (
      said.0,
      said.1,
      rw (c.clear.ensures.items, whole)
          (line_done (script_place c.args.self.now.number c.args.self.now.world c.args.self.now.line.items c.args.self.now.too_long)
          (c.in-Ok-Some.text.items) c.turn.new.world c.args.self.now.inside turn),
    )

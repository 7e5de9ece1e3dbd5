use Rattle.std.proofs.Common.{[], ◌∷◌, ◌++◌, take, refl, length-append, arith}
use Rattle.outage_script.specs.Moves.{script_place}
use Rattle.outage_script.proofs.FeedLemmas.{none_found, one_found, rest_after, fed_next, fed_stop, fed_last}
use Rattle.outage_script.proofs.script_run.ScriptRun.feed.Goals as goal

pub take_line-requires-clause-inside : goal.take_line-requires-clause-inside
take_line-requires-clause-inside g c κs lives = (one_found c.loop-at.rest.now c.in-Some.at c.in-Some.ensures.0 c.in-Some.ensures.1).inside

pub returns-in-Some-take_line-clause-feeds : goal.returns-in-Some-take_line-clause-feeds
returns-in-Some-take_line-clause-feeds g c =
    let rest = c.loop-at.rest.now in
    let found = one_found rest c.in-Some.at c.in-Some.ensures.0 c.in-Some.ensures.1 in
    let p = script_place c.loop-at.self.number c.loop-at.self.world c.loop-at.self.line.items c.loop-at.self.too_long in
    fed_stop
    (script_place c.args.self.now.number c.args.self.now.world c.args.self.now.line.items c.args.self.now.too_long)
    p (script_place c.take_line.new.self.number c.take_line.new.self.world c.take_line.new.self.line.items c.take_line.new.self.too_long)
    c.args.piece.now rest (take c.in-Some.at rest ++ 10 ∷ []) _ c.in-Some-take_line.end _ _ _
    c.loop-at.invariant found.whole c.in-Some-take_line.ensures.feeds

pub loop-at-preserved : goal.loop-at-preserved
loop-at-preserved g c =
    let rest = c.loop-at.rest.now in
    let found = one_found rest c.in-Some.at c.in-Some.ensures.0 c.in-Some.ensures.1 in
    fed_next
    (script_place c.args.self.now.number c.args.self.now.world c.args.self.now.line.items c.args.self.now.too_long)
    (script_place c.loop-at.self.number c.loop-at.self.world c.loop-at.self.line.items c.loop-at.self.too_long)
    (script_place c.take_line.new.self.number c.take_line.new.self.world c.take_line.new.self.line.items c.take_line.new.self.too_long)
    c.args.piece.now rest (take c.in-Some.at rest ++ 10 ∷ []) _ _ _ _
    c.loop-at.invariant (rest_after rest c.in-Some.at _ found refl)
    (omega (arith, length-append (take c.in-Some.at rest) (10 ∷ []))) c.take_line.ensures.number c.in_default-take_line.ensures.feeds

pub take_part-requires : goal.take_part-requires
take_part-requires g c = none_found c.loop-at.rest.now c.in_default.ensures

pub returns-clause-feeds : goal.returns-clause-feeds
returns-clause-feeds g c =
    fed_last
    (script_place c.args.self.now.number c.args.self.now.world c.args.self.now.line.items c.args.self.now.too_long)
    (script_place c.loop-at.self.number c.loop-at.self.world c.loop-at.self.line.items c.loop-at.self.too_long)
    (script_place c.take_part.new.self.number c.take_part.new.self.world c.take_part.new.self.line.items c.take_part.new.self.too_long)
    c.args.piece.now c.loop-at.rest.now c.take_part.result _ _ _ c.loop-at.invariant c.take_part.ensures.feeds

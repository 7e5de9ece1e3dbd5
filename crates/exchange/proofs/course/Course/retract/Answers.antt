use Rattle.std.proofs.Common.{◌≡◌, ◌-◌, List, true, sym, subst, ap, ◌∙◌}
use Rattle.exchange.specs.declared.standing.Standing.{Standing}
use Rattle.exchange.specs.Standings.{standing_of, is_sent}
use Rattle.exchange.specs.Courses.{Course, IsFair}
use Rattle.exchange.proofs.FairLaws.{fair_retracted, retractable}
use Rattle.exchange.proofs.course.Course.retract.Goals as goal

pub overflow_sub-self : goal.overflow_sub-self
overflow_sub-self c =
    let x : Course = record {
      offer = c.self.inside.offer;
      bounds = c.self.inside.bounds;
      standings = c.self.inside.standings;
      tally = c.self.inside.tally;
      stop = c.self.inside.stop;
      end = c.self.inside.end;
    } in
    let sent : is_sent (standing_of x.standings c.args.node) ≡ true = ap
    (λ (y : Course). is_sent (standing_of y.standings c.args.node)) c.self.view_is ∙ c.requires in
    retractable x c.args.node c.self.invariant sent

pub invariant_of-self : goal.invariant_of-self
invariant_of-self c =
    let x : Course = record {
      offer = c.self.inside.offer;
      bounds = c.self.inside.bounds;
      standings = c.self.inside.standings;
      tally = c.self.inside.tally;
      stop = c.self.inside.stop;
      end = c.self.inside.end;
    } in
    let sent : is_sent (standing_of x.standings c.args.node) ≡ true = ap
    (λ (y : Course). is_sent (standing_of y.standings c.args.node)) c.self.view_is ∙ c.requires in
    subst (λ (s : List Standing). IsFair (record x { standings = s; tally = record x.tally { asks = x.tally.asks - 1 } }))
    (sym c.lose-was_sent.ensures.now) (fair_retracted x c.args.node c.self.invariant sent)

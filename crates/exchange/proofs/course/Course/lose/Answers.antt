use Rattle.std.proofs.Common.{◌≡◌, ◌+◌, List, false, sym, subst, ◌∙◌, ap}
use Rattle.exchange.specs.declared.standing.Standing.{Standing}
use Rattle.exchange.specs.Courses.{Course, IsFair, is_over}
use Rattle.exchange.proofs.FairLaws.{goes, fair_lost}
use Rattle.exchange.proofs.course.Course.lose.Goals as goal

pub invariant_of-self : goal.invariant_of-self
invariant_of-self c =
    let x : Course = record {
      offer = c.self.inside.offer;
      bounds = c.self.inside.bounds;
      standings = c.self.inside.standings;
      tally = c.self.inside.tally;
      stop = c.self.inside.stop;
      end = c.self.inside.end;
    } in
    let going : is_over x ≡ false = ap is_over c.self.view_is ∙ (sym c.is_over.ensures ∙ c.if-not-is_over.true) in
    subst (λ (s : List Standing). IsFair (record x { standings = s; tally = record x.tally { lost = x.tally.lost + 1 } })) (sym c.lose.ensures.now)
    (fair_lost x c.args.node c.self.invariant (goes x going))

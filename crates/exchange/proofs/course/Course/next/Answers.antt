use Rattle.std.proofs.Common.{◌≡◌, ◌+◌, ◌<◌, List, false, sym, subst, ◌∙◌, ap}
use Rattle.std.specs.Prelude.{is_some, Option, Some, None}
use Rattle.exchange.specs.declared.report.Stop.{Stop}
use Rattle.exchange.specs.declared.standing.Standing.{Standing}
use Rattle.exchange.specs.Standings.{bytes_in_flight}
use Rattle.exchange.specs.Courses.{Course, IsFair, is_over}
use Rattle.exchange.proofs.StandingLaws.{first_may}
use Rattle.exchange.proofs.FairLaws.{goes, fair_asked}
use Rattle.exchange.proofs.course.Course.next.Goals as goal

going_on : (s : Option Stop) → is_some s ≡ false → s ≡ None
going_on (Some cause) e = absurd (cc)
going_on None e = cc

pub send-requires-clause-may : goal.send-requires-clause-may
send-requires-clause-may c = first_may c.self.inside.standings c.outstanding.result.now c.in_ok-node.node (sym c.in_ok-node.ensures)

pub send-requires-clause-fits : goal.send-requires-clause-fits
send-requires-clause-fits c =
    subst (λ (x : Course). bytes_in_flight x.standings + c.estimate-bytes.result < 18446744073709551616) (sym c.self.view_is)
    (c.has_room.ensures.fits c.if-not-has_room.false)

pub invariant_of-self : goal.invariant_of-self
invariant_of-self c =
    let x : Course = record {
      offer = c.self.inside.offer;
      bounds = c.self.inside.bounds;
      standings = c.self.inside.standings;
      tally = c.self.inside.tally;
      stop = c.self.inside.stop;
      end = c.self.inside.end;
    } in
    let going : is_over x ≡ false = ap is_over c.self.view_is ∙ (sym c.is_over.ensures ∙ c.if-is_over.false) in
    let stop : x.stop ≡ None = going_on x.stop (sym c.is_some.ensures ∙ c.if-is_some.false) in
    subst (λ (s : List Standing). IsFair (record x { standings = s; tally = record x.tally { asks = x.tally.asks + 1 } })) (sym c.send.ensures)
    (fair_asked x c.in_ok-node.node c.estimate-bytes.result c.self.invariant (goes x going) stop
    (first_may x.standings c.outstanding.result.now c.in_ok-node.node (sym c.in_ok-node.ensures)))

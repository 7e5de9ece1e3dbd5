use Rattle.std.proofs.Common.{ap, sym, ◌∙◌, arith}
use Rattle.exchange.specs.Standings.{bytes_in_flight}
use Rattle.exchange.specs.Courses.{Course}
use Rattle.exchange.proofs.StandingLaws.{no_bytes}
use Rattle.exchange.proofs.course.Course.has_room.Goals as goal

pub returns-then-in_flight-eq0-clause-fits : goal.returns-then-in_flight-eq0-clause-fits
returns-then-in_flight-eq0-clause-fits c =
    λ yes. omega (
      arith,
      no_bytes c.self.inside.standings (sym c.in_flight-in_flight.ensures.number ∙ c.if-in_flight-eq0.true),
      ap (λ (x : Course). bytes_in_flight x.standings) c.self.view_is,
      c.ranges.bytes.fits,
    )

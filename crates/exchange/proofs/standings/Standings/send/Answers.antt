use Rattle.std.proofs.Common.{◌≡◌, ℕ, List, set, true, ap, sym, subst, arith}
use Rattle.exchange.specs.declared.standing.Standing.{Standing}
use Rattle.exchange.specs.declared.standing.Standing.TheVariants.{InFlight}
use Rattle.exchange.specs.Standings.{in_flight, bytes_in_flight, standing_of, may_ask}
use Rattle.exchange.proofs.StandingLaws.{Sending, sending}
use Rattle.exchange.proofs.standings.Standings.send.Goals as goal

pub invariant_of-self : goal.invariant_of-self
invariant_of-self c =
    let xs : List Standing = c.self.inside.list.items in let v : Standing = InFlight c.args.bytes in
    let s : Sending xs c.args.node c.args.bytes = sending xs c.args.node c.args.bytes
    (subst (λ (l : List Standing). may_ask (standing_of l c.args.node) ≡ true) (sym c.self.view_is) c.requires.may) in (
      omega (arith, c.self.invariant.0, s.flights, ap (λ (i : ℕ). in_flight (set xs i v)) c.place.ensures.place),
      omega (arith, c.self.invariant.1, s.bytes_are, ap (λ (i : ℕ). bytes_in_flight (set xs i v)) c.place.ensures.place),
    )

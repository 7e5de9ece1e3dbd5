use Rattle.std.proofs.Common.{◌≡◌, ℕ, List, set, true, ap, sym, subst, false, arith}
use Rattle.std.specs.Prelude.{Option}
use Rattle.exchange.specs.declared.standing.Standing.{Standing}
use Rattle.tree_nodes.specs.Nodes.{Node}
use Rattle.exchange.specs.Standings.{in_flight, bytes_in_flight, standing_of, may_take, is_in_flight}
use Rattle.exchange.proofs.StandingLaws.{Ending, ending}
use Rattle.exchange.proofs.standings.Standings.end.Goals as goal

-- in terms of what was read of the standing before
ended : (xs now : List Standing) (n : Node) (b : Standing) (o : Option Standing) → now ≡ xs → o ≡ standing_of xs n
    → may_take (standing_of xs n) ≡ true → is_in_flight b ≡ false → Ending now n b o
ended xs now n b o same is may quiet =
    subst (λ (ys : List Standing). Ending ys n b o) (sym same) (subst (λ (t : Option Standing). Ending xs n b t) (sym is) (ending xs n b may quiet))

pub overflow_sub-self : goal.overflow_sub-self
overflow_sub-self c =
    let e : Ending c.self.inside.list.items c.args.node c.args.standing c.get-before.result = ended c.args.self.now c.self.inside.list.items
    c.args.node c.args.standing c.get-before.result c.self.view_is c.get-before.ensures c.requires.may c.requires.ended in
    omega (arith, c.in_flight_of.ensures, c.self.invariant.0, e.flights)

pub overflow_sub-self-2 : goal.overflow_sub-self-2
overflow_sub-self-2 c =
    let e : Ending c.self.inside.list.items c.args.node c.args.standing c.get-before.result = ended c.args.self.now c.self.inside.list.items
    c.args.node c.args.standing c.get-before.result c.self.view_is c.get-before.ensures c.requires.may c.requires.ended in
    omega (arith, c.bytes_of.ensures, c.self.invariant.1, e.bytes_are)

pub index_mut-requires : goal.index_mut-requires
index_mut-requires c =
    let e : Ending c.self.inside.list.items c.args.node c.args.standing c.get-before.result = ended c.args.self.now c.self.inside.list.items
    c.args.node c.args.standing c.get-before.result c.self.view_is c.get-before.ensures c.requires.may c.requires.ended in
    omega (arith, c.place.ensures.place, e.within, c.self.inside.list.ok.0)

pub invariant_of-self : goal.invariant_of-self
invariant_of-self c =
    let xs : List Standing = c.self.inside.list.items in
    let e : Ending xs c.args.node c.args.standing c.get-before.result = ended c.args.self.now xs c.args.node c.args.standing c.get-before.result
    c.self.view_is c.get-before.ensures c.requires.may c.requires.ended in (
      omega (
        arith,
        c.in_flight_of.ensures,
        c.self.invariant.0,
        e.flights,
        ap (λ (i : ℕ). in_flight (set xs i c.args.standing)) c.place.ensures.place,
      ),
      omega (
        arith,
        c.bytes_of.ensures,
        c.self.invariant.1,
        e.bytes_are,
        ap (λ (i : ℕ). bytes_in_flight (set xs i c.args.standing)) c.place.ensures.place,
      ),
    )

use Rattle.std.proofs.Common.{arith, ◌≡◌, ◌<◌, ◌^◌, None, sym, subst, refl}
use Rattle.std.proofs.lemmas.Grind.{common_steps}
use Rattle.std.proofs.lemmas.Bool.{eq-eqb, ne_eqb}
use Rattle.std.proofs.lemmas.Bool.Decides.{nat_tests}
use Rattle.vclock.proofs.ClockLaws.{raised_clock, counter-with_counter}
use Rattle.vclock.specs.Clock.{raised, raise_fault, IsClock, counter}
use Rattle.vclock.proofs.clock.Clock.raise.Goals as goal

-- what is made
made : (c : goal.In_ok-put) → c.put.new.pairs.items ≡ raised c.args.self.now c.args.node
made c = cc (c.in_ok-raised.ensures, c.in_ok-put.ensures.ok, c.self.view_is, c.get-counter.ensures, c.as_slice.ensures)

none : (c : goal.In_ok-put) → raise_fault c.args.self.now c.args.node ≡ None
none c = grind (arith, nat_tests, common_steps)

pub returns-clause-answers : goal.returns-clause-answers
returns-clause-answers c = (none c, made c)

pub invariant_of-result : goal.invariant_of-result
invariant_of-result c =
    let clock = subst IsClock c.self.view_is c.self.invariant in
    let small : counter c.args.self.now c.args.node < 2 ^ 64 = omega (arith, c.get-counter.ensures, c.get-counter.type_inv) in
    subst IsClock (sym (made c)) (raised_clock _ _ clock (omega arith) (omega arith) (none c) small)

pub returns-clause-raises : goal.returns-clause-raises
returns-clause-raises c = rw (made c, counter-with_counter, eq-eqb c.args.node c.args.node refl) refl

pub returns-clause-others : goal.returns-clause-others
returns-clause-others c n h = rw (made c, counter-with_counter, ne_eqb c.args.node n (omega arith)) refl

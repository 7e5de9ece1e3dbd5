use Rattle.std.proofs.Common.{◌≡◌, ◌≤◌, ◌+◌, ◌-◌, eqb, length, drop, inr, sym, ap, subst, ◌∙◌, arith}
use Rattle.std.proofs.Math.ListN.{drop_of_length-le}
use Rattle.std.specs.List.{filter}
use Rattle.vclock.specs.Clock.{Pairs, IsClock, counter, merged}
use Rattle.vclock.proofs.ClockLaws.{counter-merged, merged-drop, merged_clock, merge_fault_over, merge_fault_none}
use Rattle.vclock.proofs.clock.Clock.merge.Goals as goal

pub returns-then-len-gt-PAIRS_MAX-clause-answers :
    goal.returns-then-len-gt-PAIRS_MAX-clause-answers
returns-then-len-gt-PAIRS_MAX-clause-answers c =
    let other : c.as_slice-others.result.now ≡ c.args.other.now = c.as_slice-others.ensures ∙ c.other.view_is in
    let absent = subst (λ (ps : Pairs). c.count_absent.result ≡ length (filter (λ p. eqb (counter c.args.self.now p.0) 0) ps)) other
    c.count_absent.ensures.count in
    inr (merge_fault_over c.args.self.now c.args.other.now
    (omega (arith, absent, c.if-len-gt-PAIRS_MAX.true, c.len.ensures.value, ap (λ (ps : Pairs). length ps) c.self.view_is)))

pub loop-i-init : goal.loop-i-init
loop-i-init c =
    let all = drop_of_length-le c.as_slice-others.result.now (omega arith) in
    record {
      is = c.in_ok-merged.ensures ∙ (c.as_slice.ensures ∙ c.self.view_is) ∙ sym (ap (merged c.args.self.now) all);
    }

pub loop-i-preserved : goal.loop-i-preserved
loop-i-preserved c =
    let step = merged-drop c.args.self.now c.as_slice-others.result.now (c.loop-i.i - 1) (0, 0) (omega arith) in
    let back : c.loop-i.i - 1 + 1 ≡ c.loop-i.i = omega arith in
    record { is = cc (c.in_ok-put.ensures.ok, c.loop-i.invariant.is, step, back, c.get.ensures, c.max.ensures) }

-- the pairs at the end
made : (c : goal.After-loop-i) → c.loop-i.merged.items ≡ merged c.args.self.now c.args.other.now
made c =
    let z : c.loop-i.i ≡ 0 = omega arith in
    c.loop-i.invariant.is ∙ ap (λ k. merged c.args.self.now (drop k c.as_slice-others.result.now)) z
    ∙ ap (merged c.args.self.now) (c.as_slice-others.ensures ∙ c.other.view_is)

few : (c : goal.After-loop-i) → length c.args.self.now + length (filter (λ p. eqb (counter c.args.self.now p.0) 0) c.args.other.now) ≤ 32
few c =
    let other : c.as_slice-others.result.now ≡ c.args.other.now = c.as_slice-others.ensures ∙ c.other.view_is in
    let absent = subst (λ (ps : Pairs). c.count_absent.result ≡ length (filter (λ p. eqb (counter c.args.self.now p.0) 0) ps)) other
    c.count_absent.ensures.count in
    omega (arith, absent, c.if-len-gt-PAIRS_MAX.false, c.len.ensures.value, ap (λ (ps : Pairs). length ps) c.self.view_is)

pub invariant_of-result : goal.invariant_of-result
invariant_of-result c =
    let own = subst IsClock c.self.view_is c.self.invariant in
    let other = subst IsClock c.other.view_is c.other.invariant in
    subst IsClock (sym (made c)) (merged_clock c.args.self.now c.args.other.now own other (few c))

pub returns-clause-answers : goal.returns-clause-answers
returns-clause-answers c = (merge_fault_none c.args.self.now c.args.other.now (few c), made c)

pub returns-clause-counters : goal.returns-clause-counters
returns-clause-counters c n = ap (λ (ps : Pairs). counter ps n) (made c) ∙ counter-merged c.args.self.now c.args.other.now n

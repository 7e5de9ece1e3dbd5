use Rattle.std.proofs.Common.{arith, ◌≡◌, ◌≤◌, ◌+◌, ◌-◌, false, sym, get_or, length, ◌∙◌, ap, subst, drop}
use Rattle.vclock.proofs.ClockLaws.{good_at, good_pair, counter-clock_of, clock_of-drop, Rises-with_counter, length-with_counter}
use Rattle.vclock.specs.Clock.{is_bad_pair, counter, clock_of, Rises, with_counter}
use Rattle.std.specs.List.{list_any}
use Rattle.vclock.proofs.clock.Clock.from_pairs.Goals as goal

pub overflow_cast-node : goal.overflow_cast-node
overflow_cast-node c =
    let good : list_any is_bad_pair c.args.pairs.now ≡ false = sym c.if-has_bad_pair.ensures in
    let pair = good_pair (get_or c.args.pairs.now (c.loop-i.i - 1) (0, 0)) (good_at c.args.pairs.now (c.loop-i.i - 1) (0, 0) good (omega arith)) in
    omega (arith, pair.below)

pub loop-i-preserved : goal.loop-i-preserved
loop-i-preserved c =
    let p = get_or c.args.pairs.now (c.loop-i.i - 1) (0, 0) in
    let good : list_any is_bad_pair c.args.pairs.now ≡ false = sym c.if-has_bad_pair.ensures in
    let pair = good_pair (get_or c.args.pairs.now (c.loop-i.i - 1) (0, 0)) (good_at c.args.pairs.now (c.loop-i.i - 1) (0, 0) good (omega arith)) in
    let is : c.put.new.pairs.items ≡ with_counter c.loop-i.kept.items p.0 p.1 = c.in_ok-put.ensures.ok in
    let step = clock_of-drop c.args.pairs.now (c.loop-i.i - 1) (0, 0) (omega arith) in
    let back : c.loop-i.i - 1 + 1 ≡ c.loop-i.i = omega arith in
    let long : length c.put.new.pairs.items ≤ length c.loop-i.kept.items + 1 = rw is (length-with_counter c.loop-i.kept.items p.0 p.1) in
    record {
      is = is ∙ ap (λ t. with_counter t p.0 p.1) (c.loop-i.invariant.is ∙ ap (λ k. clock_of (drop k c.args.pairs.now)) (sym back)) ∙ sym step;
      rising = subst (Rises 0) (sym is)
          (Rises-with_counter 0 c.loop-i.kept.items p.0 p.1 c.loop-i.invariant.rising pair.above pair.below pair.some (omega arith));
      short = omega arith;
    }

pub returns-clause-counters : goal.returns-clause-counters
returns-clause-counters c n =
    let e : c.loop-i.kept.items ≡ clock_of c.args.pairs.now = c.loop-i.invariant.is
    ∙ ap (λ k. clock_of (drop k c.args.pairs.now)) (let z : c.loop-i.i ≡ 0 = omega arith in z) in
    ap (λ t. counter t n) e ∙ counter-clock_of c.args.pairs.now n

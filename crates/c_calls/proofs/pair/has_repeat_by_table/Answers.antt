use Rattle.std.proofs.Common.{◌<◌, ◌∙◌, ℕ, true, false, length, get_or, sym, ap, arith, refl, length-set}
use Rattle.std.proofs.lemmas.Bool.{or_from}
use Rattle.std.proofs.lemmas.List.{get_or-map, get_or-replicate, length-map, length-replicate}
use Rattle.vclock.proofs.ClockLaws.{good_at, good_pair, has_repeat_more, has_repeat_found}
use Rattle.c_calls.specs.Pairs.{clock_pair, clock_pairs}
use Rattle.c_calls.specs.declared.pair.Pair.{Pair}
use Rattle.c_calls.proofs.PairLaws.{came_more}
use Rattle.c_calls.proofs.pair.has_repeat_by_table.Goals as goal

abbrev zero_pair : Pair
zero_pair = record { node = 0; counter = 0 }

pub loop-pair-init : goal.loop-pair-init
loop-pair-init c = record {
  each_node = rw c.requires.empty (length-replicate 65536 false);
  came = λ n h. rw c.requires.empty (get_or-replicate 65536 n false false h);
  none = refl;
}

pub bounds-seen-node : goal.bounds-seen-node
bounds-seen-node c =
    let ps = clock_pairs c.args.pairs.now in
    let i = c.loop-pair.pair-index in
    let within : i < length ps = omega (arith, c.loop-pair-test.true, length-map c.args.pairs.now clock_pair) in
    let good = good_pair (get_or ps i (0, 0)) (good_at ps i (0, 0) c.requires.good within) in
    let at = ap (λ (p : ℕ × ℕ). p.0) (get_or-map clock_pair c.args.pairs.now i zero_pair (0, 0) c.loop-pair-test.true) in
    omega (arith, good.below, at, c.loop-pair.invariant.each_node)

pub bounds-seen-node-in-loop-pair : goal.bounds-seen-node-in-loop-pair
bounds-seen-node-in-loop-pair c =
    let ps = clock_pairs c.args.pairs.now in
    let i = c.loop-pair.pair-index in
    let within : i < length ps = omega (arith, c.loop-pair-test.true, length-map c.args.pairs.now clock_pair) in
    let good = good_pair (get_or ps i (0, 0)) (good_at ps i (0, 0) c.requires.good within) in
    let at = ap (λ (p : ℕ × ℕ). p.0) (get_or-map clock_pair c.args.pairs.now i zero_pair (0, 0) c.loop-pair-test.true) in
    omega (arith, good.below, at, c.loop-pair.invariant.each_node)

pub returns-then-seen-node : goal.returns-then-seen-node
returns-then-seen-node c =
    let ps = clock_pairs c.args.pairs.now in
    let i = c.loop-pair.pair-index in
    let within : i < length ps = omega (arith, c.loop-pair-test.true, length-map c.args.pairs.now clock_pair) in
    let good = good_pair (get_or ps i (0, 0)) (good_at ps i (0, 0) c.requires.good within) in
    let at = ap (λ (p : ℕ × ℕ). p.0) (get_or-map clock_pair c.args.pairs.now i zero_pair (0, 0) c.loop-pair-test.true) in
    sym (has_repeat_found ps i (0, 0) within (sym (c.loop-pair.invariant.came (get_or ps i (0, 0)).0 (omega (arith, good.below)))
    ∙ ap (λ n. get_or c.loop-pair.seen n false) at ∙ c.if-seen-node.true))

pub loop-pair-preserved : goal.loop-pair-preserved
loop-pair-preserved c =
    let ps = clock_pairs c.args.pairs.now in
    let i = c.loop-pair.pair-index in
    let within : i < length ps = omega (arith, c.loop-pair-test.true, length-map c.args.pairs.now clock_pair) in
    let p = get_or ps i (0, 0) in
    let good = good_pair p (good_at ps i (0, 0) c.requires.good within) in
    let at = ap (λ (x : ℕ × ℕ). x.0) (get_or-map clock_pair c.args.pairs.now i zero_pair (0, 0) c.loop-pair-test.true) in
    let node = (get_or c.args.pairs.now i zero_pair).node in
    let seen : node < length c.loop-pair.seen = omega (arith, good.below, at, c.loop-pair.invariant.each_node) in
    record {
      each_node = length-set c.loop-pair.seen node true ∙ c.loop-pair.invariant.each_node;
      came = λ n h. came_more ps c.loop-pair.seen i n node within (sym at) seen (c.loop-pair.invariant.came n h);
      none = has_repeat_more ps i (0, 0) within
          ∙ or_from _ _ c.loop-pair.invariant.none (sym (c.loop-pair.invariant.came p.0 (omega (arith, good.below)))
          ∙ ap (λ n. get_or c.loop-pair.seen n false) at ∙ c.if-seen-node.false);
    }

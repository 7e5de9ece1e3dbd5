use Rattle.std.proofs.Common.{◌≡◌, ◌<◌, ◌+◌, ◌∙◌, ℕ, true, false, ◌||◌, length, get_or, take, sym, ap, arith, refl, subst, inl, inr, length-set, set}
use Rattle.std.proofs.Common.{List, Bool}
use Rattle.std.proofs.lemmas.Bool.{or_from, cases_eq, or_right}
use Rattle.std.proofs.lemmas.List.{get_or-set_same, get_or-set_other, get_or-replicate, length-replicate}
use Rattle.std.proofs.lemmas.Bool.{eq-eqb, ne_eqb}
use Rattle.vclock.specs.Clock.{Pairs, has_node}
use Rattle.vclock.proofs.BoolLaws.{or-false}
use Rattle.vclock.proofs.ClockLaws.{good_at, good_pair, has_node_more, has_repeat_more, has_repeat_found}
use Rattle.vclock.proofs.clock.has_repeat_by_table.Goals as goal

-- the table says which nodes came, one pair on
came_more : (ps : Pairs) (seen : List Bool) (i n m : ℕ) → i < length ps → m ≡ (get_or ps i (0, 0)).0 → m < length seen
    → get_or seen n false ≡ has_node (take i ps) n → get_or (set seen m true) n false ≡ has_node (take (i + 1) ps) n
came_more ps seen i n m h is within old =
    elim (cases_eq n m) [
      | inl same ↦ subst (λ k. get_or (set seen m true) k false ≡ true) (sym same) (get_or-set_same seen m true false within)
          ∙ sym (has_node_more ps i n (0, 0) h ∙ or_right (has_node (take i ps) n) _ (eq-eqb _ n (sym is ∙ sym same)))
      | inr other ↦ get_or-set_other seen m n true false other ∙ old
          ∙ sym (has_node_more ps i n (0, 0) h
          ∙ (ap (λ b. has_node (take i ps) n || b) (ne_eqb (get_or ps i (0, 0)).0 n (λ e. other (sym (is ∙ e)))) ∙ or-false (has_node (take i ps) n)))
    ]

pub loop-pair-init : goal.loop-pair-init
loop-pair-init c = record {
  each_node = rw c.requires.empty (length-replicate 65536 false);
  came = λ n h. rw c.requires.empty (get_or-replicate 65536 n false false h);
  none = refl;
}

pub returns-then-seen-node : goal.returns-then-seen-node
returns-then-seen-node c =
    let p = get_or c.args.pairs.now c.loop-pair.pair-index (0, 0) in
    let good = good_pair p (good_at c.args.pairs.now c.loop-pair.pair-index (0, 0) c.requires.good c.loop-pair-test.true) in
    sym (has_repeat_found c.args.pairs.now c.loop-pair.pair-index (0, 0) c.loop-pair-test.true
    (sym (c.loop-pair.invariant.came p.0 (omega (arith, good.below))) ∙ c.if-seen-node.true))

pub loop-pair-preserved : goal.loop-pair-preserved
loop-pair-preserved c =
    let p = get_or c.args.pairs.now c.loop-pair.pair-index (0, 0) in
    let good = good_pair p (good_at c.args.pairs.now c.loop-pair.pair-index (0, 0) c.requires.good c.loop-pair-test.true) in
    let within : p.0 < 65536 = omega (arith, good.below) in
    record {
      each_node = length-set c.loop-pair.seen p.0 true ∙ c.loop-pair.invariant.each_node;
      came = λ n h. came_more c.args.pairs.now c.loop-pair.seen c.loop-pair.pair-index n p.0 c.loop-pair-test.true refl
          (omega (arith, within, c.loop-pair.invariant.each_node)) (c.loop-pair.invariant.came n h);
      none = has_repeat_more c.args.pairs.now c.loop-pair.pair-index (0, 0) c.loop-pair-test.true
          ∙ or_from _ _ c.loop-pair.invariant.none (sym (c.loop-pair.invariant.came p.0 within) ∙ c.if-seen-node.false);
    }

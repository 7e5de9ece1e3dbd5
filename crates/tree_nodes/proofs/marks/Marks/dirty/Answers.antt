use Rattle.std.proofs.Common.{◌≡◌, ◌-◌, ◌<◌, ◌^◌, None, length, take, drop, ◌++◌, arith, sym, ap, subst, ◌∙◌}
use Rattle.std.proofs.lemmas.List.{with_items_is}
use Rattle.tree_nodes.specs.Nodes.{IsTree, Tree, tree_depth, dirtied, dirty_count}
use Rattle.tree_nodes.specs.Blocks.{AreMarks}
use Rattle.tree_nodes.proofs.CopyLaws.{Copies}
use Rattle.tree_nodes.proofs.DirtyLaws.{count_most}
use Rattle.tree_nodes.proofs.PlaceLaws.{Digests}
use Rattle.tree_nodes.proofs.TreeLaws.{tree_dirtied}
use Rattle.tree_nodes.proofs.marks.Marks.dirty.Goals as goal

pub overflow_sub-self : goal.overflow_sub-self
overflow_sub-self c =
    let lent = c.deref_mut.ensures.value in
    omega (
      arith,
      c.dirty_up.ensures.count,
      ap dirty_count lent,
      c.self.invariant.counted,
      count_most c.dirty_up.new.digests,
      c.dirty_up.auto.digests,
      ap (λ (ds : Digests). length ds) lent,
    )

pub invariant_of-self : goal.invariant_of-self
invariant_of-self c =
    let s = c.self.inside in
    let new = c.dirty_up.new in
    let within : c.args.leaf < 16 ^ tree_depth s.format = subst (λ (t : Tree). c.args.leaf < 16 ^ tree_depth t.format)
    (sym c.self.view_is) c.requires in
    let lent = c.deref_mut.ensures.value in
    let digests = with_items_is s.digests new.digests (omega (arith, c.dirty_up.auto.digests, c.deref_mut.ensures.len)) in
    let blocks = with_items_is s.blocks new.blocks (omega (arith, c.dirty_up.auto.blocks, c.deref_mut-2.ensures.len)) in
    let path : new.digests ≡ dirtied s.format c.args.leaf s.digests.items = c.dirty_up.ensures.path ∙ ap (dirtied s.format c.args.leaf) lent in
    let right : AreMarks s.format new.digests (s.clean - c.dirty_up.result) new.blocks None = record {
      tree = subst (λ (ds : Digests). IsTree (record { format = s.format; digests = ds })) (sym path)
          (tree_dirtied s.format c.args.leaf s.digests.items within c.self.invariant.tree);
      counted = omega (
        arith,
        c.dirty_up.ensures.count,
        ap dirty_count lent,
        c.self.invariant.counted,
        count_most new.digests,
        c.dirty_up.auto.digests,
        ap (λ (ds : Digests). length ds) lent,
      );
      copies = c.dirty_up.ensures.copies;
      whole = tt;
    } in
    subst (λ (ds : Digests). AreMarks s.format ds (s.clean - c.dirty_up.result)
    (take s.blocks.len (new.blocks ++ drop (length new.blocks) s.blocks.items)) None) (sym digests)
    (subst (λ (bs : Copies). AreMarks s.format new.digests (s.clean - c.dirty_up.result) bs None) (sym blocks) right)

pub returns-clause-valid : goal.returns-clause-valid
returns-clause-valid c =
    let s = c.self.inside in
    let within : c.args.leaf < 16 ^ tree_depth s.format = subst (λ (t : Tree). c.args.leaf < 16 ^ tree_depth t.format)
    (sym c.self.view_is) c.requires in
    let digests = with_items_is s.digests c.dirty_up.new.digests (omega (arith, c.dirty_up.auto.digests, c.deref_mut.ensures.len)) in
    let path = digests ∙ c.dirty_up.ensures.path ∙ ap (dirtied s.format c.args.leaf) c.deref_mut.ensures.value in
    subst (λ (ds : Digests). IsTree (record { format = s.format; digests = ds })) (sym path)
    (tree_dirtied s.format c.args.leaf s.digests.items within c.self.invariant.tree)

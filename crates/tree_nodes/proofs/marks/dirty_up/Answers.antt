use Rattle.std.proofs.Common.{◌≡◌, ℕ, Bool, true, false, not, is_some, List, Option, Some, None, arith, refl, subst}
use Rattle.tree_nodes.specs.Nodes.{Node, kept_digest}
use Rattle.tree_nodes.proofs.ClearingLaws.{IsClearing, clearing_begins, clearing_within, clearing_goes_on, clearing_stops, clearing_done}
use Rattle.tree_nodes.proofs.marks.dirty_up.Goals as goal

-- a digest is there, or it isn't
dirty_there : (o : Option (List ℕ)) (b : Bool) → is_some o ≡ not b → b ≡ true → o ≡ None
dirty_there None b is so = refl
dirty_there (Some d) true is so = absurd (cc)
dirty_there (Some d) false is so = absurd (cc)

clean_there : (o : Option (List ℕ)) (b : Bool) → is_some o ≡ not b → b ≡ false → is_some o ≡ true
clean_there None true is so = absurd (cc)
clean_there None false is so = is
clean_there (Some d) b is so = refl

pub loop-next-init : goal.loop-next-init
loop-next-init c = record {
  clearing = clearing_begins c.args.format c.args.leaf c.args.digests.now _ c.tree_depth.ensures refl c.requires.tree;
  copies = c.requires.copies;
}

pub bounds-digests-place : goal.bounds-digests-place
bounds-digests-place c =
    let before = subst (λ (o : Option Node). IsClearing c.args.format c.args.leaf c.args.digests.now o c.loop-next.count c.loop-next.digests)
    c.in-Some.is c.loop-next.invariant.clearing in
    omega (
      arith,
      c.place-place.ensures.place,
      clearing_within c.args.format c.args.leaf c.args.digests.now c.in-Some.node c.loop-next.count c.loop-next.digests
          c.place-place.ensures.node.within before,
    )

pub returns-then-is_none-clause-path : goal.returns-then-is_none-clause-path
returns-then-is_none-clause-path c =
    let before = subst (λ (o : Option Node). IsClearing c.args.format c.args.leaf c.args.digests.now o c.loop-next.count c.loop-next.digests)
    c.in-Some.is c.loop-next.invariant.clearing in
    let dirty = dirty_there (kept_digest c.loop-next.digests c.place-place.result) c.is_none.result c.is_none.ensures c.if-is_none.true in
    clearing_stops c.args.format c.args.leaf c.args.digests.now c.in-Some.node c.loop-next.count c.loop-next.digests c.place-place.ensures.node.within
    before (subst (λ (p : ℕ). kept_digest c.loop-next.digests p ≡ None) c.place-place.ensures.place dirty)

pub loop-next-preserved : goal.loop-next-preserved
loop-next-preserved c =
    let digests = c.loop-next.digests in
    let before = subst (λ (o : Option Node). IsClearing c.args.format c.args.leaf c.args.digests.now o c.loop-next.count digests) c.in-Some.is
    c.loop-next.invariant.clearing in
    let clean = clean_there (kept_digest digests c.place-place.result) c.is_none.result c.is_none.ensures c.if-is_none.false in
    let here = subst (λ (p : ℕ). is_some (kept_digest digests p) ≡ true) c.place-place.ensures.place clean in
    record {
      clearing = rw (c.place-place.ensures.place, c.parent-next.ensures)
          (clearing_goes_on c.args.format c.args.leaf c.args.digests.now c.in-Some.node c.loop-next.count digests c.place-place.ensures.node.within
          before here);
      copies = c.drop_block.ensures digests None c.loop-next.invariant.copies;
    }

pub returns-clause-path : goal.returns-clause-path
returns-clause-path c = clearing_done c.args.format c.args.leaf c.args.digests.now c.loop-next.count c.loop-next.digests
    (subst (λ (o : Option Node). IsClearing c.args.format c.args.leaf c.args.digests.now o c.loop-next.count c.loop-next.digests) c.in_default.is
    c.loop-next.invariant.clearing)

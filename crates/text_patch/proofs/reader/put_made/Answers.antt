use Rattle.std.proofs.Common.{◌≡◌, ◌-◌, ◌++◌, take, drop, append_assoc}
use Rattle.tree_nodes.specs.Blocks.{joined}
use Rattle.row_bytes.proofs.ManyRowLaws.{some_left, none_left}
use Rattle.text_patch.proofs.WayLaws.{way_more, way_done, way_ends}
use Rattle.text_patch.proofs.reader.put_made.Goals as goal

pub steps-preserved : goal.steps-preserved
steps-preserved c =
    let l = c.steps in
    let s = c.in-Some.step in
    let done = l.invariant.0 in
    let copied = joined (take (s.end - s.first) (drop s.first c.args.parts.now)) in
    let items : c.extend_from_slice.new.self.items ≡ c.args.out.now.items ++ ((done ++ copied) ++ s.new.now) =
    rw (c.in_ok-extend_from_slice.ensures.items, c.in_ok-put_all.ensures, l.invariant.2) (simp append_assoc) in (
      (done ++ copied) ++ s.new.now,
      way_more c.args.parts.now l.from l.rest.now c.args.steps.now done s.first s.end s.new.now s.rest.now l.invariant.1 c.in-Some.ensures,
      items,
    )

pub returns-in_default : goal.returns-in_default
returns-in_default c =
    let l = c.steps in
    way_ends c.args.parts.now l.from l.rest.now c.args.steps.now l.invariant.0 l.invariant.1
    (some_left c.is_empty.result l.rest.now c.is_empty.ensures c.steps-test.true) c.in_default.ensures

pub returns : goal.returns
returns c =
    let l = c.steps in (
      l.invariant.0,
      way_done c.args.parts.now l.from l.rest.now c.args.steps.now l.invariant.0 l.invariant.1
          (none_left c.is_empty.result l.rest.now c.is_empty.ensures c.steps-test.false),
      l.invariant.2,
    )

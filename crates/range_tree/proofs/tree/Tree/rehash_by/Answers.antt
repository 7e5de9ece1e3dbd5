use Rattle.std.proofs.Common.{rules, ◌≡◌, false}
use Rattle.range_tree.proofs.CleaningLaws.{all_rehashed, same_trans}
use Rattle.range_tree.proofs.tree.Tree.rehash_by.Goals as goal

pub loop-preserved : goal.loop-preserved
loop-preserved g c = record {
  same = same_trans c.args.self.now c.loop.self c.rehash_ready.new.self c.loop.invariant.same c.in_ok-rehash_ready.ensures.ok.same;
  dirty = c.loop.invariant.dirty;
}

pub returns-clause-ok : goal.returns-clause-ok
returns-clause-ok g c =
    let start = c.args.self.now in
    let end = c.rehash_ready.new.self in
    let ready = c.in_ok-rehash_ready.ensures in
    let no_more : c.in_ok-rehash_ready.field-0 ≡ false = search rules in
    all_rehashed start end (same_trans start c.loop.self end c.loop.invariant.same ready.ok.same) c.dirty_count-right.ensures.valid
    (ready.none no_more c.round_size-most.ensures)

pub returns-clause-same : goal.returns-clause-same
returns-clause-same g c = same_trans c.args.self.now c.loop.self c.rehash_ready.new.self c.loop.invariant.same c.in_ok-rehash_ready.ensures.ok.same

use Rattle.std.proofs.Common.{true, false, ◌≡◌, arith}
use Rattle.std.specs.Prelude.{nat_eq}
use Rattle.std.specs.Cmp.Lexicographic.{pointwise}
use Rattle.range_journal.proofs.CounterLaws.{top_more}
use Rattle.range_journal.proofs.journal.top_of.Goals as goal
use Rattle.range_journal.proofs.journal.top_of.Goals.{then-eq, else-eq}

pub loop-entry-preserved : goal.loop-entry-preserved
loop-entry-preserved c =
    let more = top_more c.args.entries.now c.loop-entry.entry-index c.entry-item.result c.args.key.now c.args.node (omega arith) c.entry-item.is in
    elim c.if-eq.branch [
      | then-eq w ↦
          let same : pointwise nat_eq c.entry-item.result.key c.args.key.now ≡ true = cc (c.eq.ensures, c.as_slice.ensures, w.if-eq.true) in
          let one = rw same at more in
          cc (w.top-is, w.max-top.ensures, w.get.ensures, c.loop-entry.invariant, one)
      | else-eq w ↦
          let other : pointwise nat_eq c.entry-item.result.key c.args.key.now ≡ false = cc (c.eq.ensures, c.as_slice.ensures, w.if-eq.false) in
          let one = rw other at more in
          cc (w.top-is, c.loop-entry.invariant, one)
    ]

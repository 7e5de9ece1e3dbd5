use Rattle.std.proofs.Common.{length, ap, subst, ◌∙◌, arith}
use Rattle.range_journal.specs.declared.journal.Entry.{Entry}
use Rattle.c_calls.specs.Packed.{IsWritten, entry_text}
use Rattle.c_calls.proofs.PackedLaws.{more_written, one_more_fits}
use Rattle.c_calls.proofs.packed.put_fitting.Goals as goal

pub loop-count-preserved : goal.loop-count-preserved
loop-count-preserved c =
    let l = c.loop-count in
    let es = c.args.entries.now in
    let text = entry_text c.args.format in
    let e = c.index-entries-count.result in
    let new = c.put_entry-len.new.out in
    let end = c.put_entry-len.result in
    let within = c.loop-count-test.true in
    let len = c.entry_len-entry_len.ensures ∙ ap (λ (x : Entry). length (text x)) c.index-entries-count.is in
    record {
      fit = rw len (one_more_fits c.args.format es l.count l.left e within (omega (arith, len, c.if-entry_len-left.false)) ∙ l.invariant.fit);
      written = more_written text es l.count e c.args.out.now l.out new 0 l.len end within (omega arith) l.invariant.written
          (subst (λ (x : Entry). IsWritten (text x) l.out l.len new end) c.index-entries-count.is c.put_entry-len.ensures);
      room = omega (arith, c.put_entry-len.ensures.ends, c.entry_len-entry_len.ensures, l.invariant.room, c.if-entry_len-left.false);
    }

use Rattle.std.proofs.Common.{rules, ◌<◌, length, ap}
use Rattle.hash_tree.specs.Leaves.{Bucket}
use Rattle.hash_tree.specs.Chunks.{chunk_text}
use Rattle.row_bytes.proofs.StripLaws.{Lacks, strips_not_all}
use Rattle.row_bytes.specs.Strips.{StripsRows}
use Rattle.hash_tree.proofs.measured_rows.MeasuredRows.strip_texts.Goals as goal

pub returns-then-count-len : goal.returns-then-count-len
returns-then-count-len c =
    let s = c.self.inside in
    let is : StripsRows s.format s.rows.items c.args.text.now c.strip_rows-count.result.0 c.strip_rows-count.result.1.now = search rules in
    let less : c.strip_rows-count.result.0 < length s.rows.items = search rules in
    rw (← ap (λ (b : Bucket). Lacks (chunk_text b) c.args.text.now) c.self.view_is)
    (strips_not_all s.format s.rows.items c.args.text.now c.strip_rows-count.result.0 c.strip_rows-count.result.1.now is less)

use Rattle.std.proofs.Common.{rules, ◌≡◌, ◌+◌, length, arith}
use Rattle.std.specs.List.{insert}
use Rattle.row_bytes.specs.Rows.{row_text, FitsText}
use Rattle.hash_tree.proofs.ChunkLaws.{all-insert, len-insert, fits-inside}
use Rattle.hash_tree.proofs.measured_rows.MeasuredRows.insert.Goals as goal

pub invariant_of-self-2 : goal.invariant_of-self-2
invariant_of-self-2 c =
    let s = c.self.inside in
    let at = c.args.at in
    let fits = fits-inside c.args.self.now s.format s.rows.items c.args.row c.self.view_is c.requires.fits in
    let rows : c.insert.new.self.items ≡ insert s.rows.items at c.args.row = search rules in
    let sum : c.in-Some.text_len ≡ s.text_len + length (row_text s.format c.args.row) = search rules in
    rw rows (
      all-insert (FitsText s.format) s.rows.items at c.args.row fits c.self.invariant.0,
      omega (arith, sum, c.self.invariant.1, len-insert (row_text s.format) s.rows.items at c.args.row),
    )

use Rattle.std.proofs.Common.{arith}
use Rattle.text_patch.proofs.ReadLaws.{copy_begins}
use Rattle.text_patch.proofs.reader.copy_at.Goals as goal

pub returns : goal.returns
returns c =
    let first = c.in_ok-first in
    let count = c.in_ok-count in
    copy_begins c.args.from c.args.parts first.first count.count c.args.fields.now first.rest.now count.rest.now first.ensures.0 count.ensures.0
    first.ensures.1 count.ensures.1 (omega arith) (omega arith)

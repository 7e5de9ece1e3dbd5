use Rattle.std.proofs.Common.{arith}
use Rattle.text_patch.proofs.ReadLaws.{new_begins}
use Rattle.text_patch.proofs.reader.step_at.Goals as goal

pub returns-in_ok-new-in-1 : goal.returns-in_ok-new-in-1
returns-in_ok-new-in-1 c =
    let new = c.in_ok-new-in-1 in
    new_begins c.args.from c.args.parts c.args.bytes.now new.new.now new.rest.now c.requires (omega arith) (omega arith) new.ensures.0 new.ensures.1

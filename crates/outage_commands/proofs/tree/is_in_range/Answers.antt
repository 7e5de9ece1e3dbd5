use Rattle.std.proofs.Common.{sym, ap}
use Rattle.std.specs.Prelude.{is_some}
use Rattle.outage_commands.proofs.ReadLemmas.{value_read, value_refused}
use Rattle.outage_commands.proofs.tree.is_in_range.Goals as goal

pub returns-in-Ok : goal.returns-in-Ok
returns-in-Ok c =
    let read = c.in-Ok.ensures.ok in
    sym (ap is_some (value_read _ _ read.0 read.1))

pub returns : goal.returns
returns c =
    sym (ap is_some (value_refused c.args.line.now
    (c.in-Err.ensures.err (λ m. let yes = c.is_memory.ensures.1 m in let no = c.if-is_memory.false in cc))))

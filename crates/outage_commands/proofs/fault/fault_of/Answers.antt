use Rattle.std.proofs.Common.{sym}
use Rattle.serde_json.specs.View.{view}
use Rattle.outage_commands.proofs.FaultLemmas.{members_claim, name_claim}
use Rattle.outage_commands.proofs.ReadLemmas.{value_read, value_refused}
use Rattle.outage_commands.proofs.fault.fault_of.Goals as goal

pub returns-in-Err-2 : goal.returns-in-Err-2
returns-in-Err-2 c =
    value_refused c.args.line.now (c.in-Err.ensures.err (λ m. let yes = c.is_memory.ensures.1 m in let no = c.if-is_memory.false in cc))

pub returns-in_default : goal.returns-in_default
returns-in_default c =
    let read = c.in-Ok.ensures.ok in
    (view c.in-Ok.value, value_read _ _ read.0 read.1, sym c.in_default.ensures)

pub returns-in-Some-members_of : goal.returns-in-Some-members_of
returns-in-Some-members_of c =
    let read = c.in-Ok.ensures.ok in
    members_claim _ _ (view c.in-Ok.value) c.member_fault.ensures (value_read _ _ read.0 read.1)
    ((c.in-Some.name.now, view c.in-Some.members.now), sym c.in-Some.ensures, sym c.in-Some-members_of.ensures)

pub returns : goal.returns
returns c =
    let read = c.in-Ok.ensures.ok in
    name_claim _ _ (view c.in-Ok.value) c.name_fault.ensures (value_read _ _ read.0 read.1)
    ((c.in-Some.name.now, view c.in-Some.members.now), sym c.in-Some.ensures, sym c.in-None.ensures)

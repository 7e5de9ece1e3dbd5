use Rattle.std.proofs.Common.{◌≡◌, ◌<◌, length, false, sym, ap, arith}
use Rattle.std.specs.Prelude.{is_some}
use Rattle.serde_json.specs.Find.{get}
use Rattle.outage_commands.specs.Trees.{seen}
use Rattle.outage_commands.proofs.TreeLemmas.{one_found, several_found, first_found}
use Rattle.outage_commands.proofs.tree.sole_member.Goals as goal

pub returns-then-not-has_only : goal.returns-then-not-has_only
returns-then-not-has_only c =
    let items = c.in_ok-members.members.now.items in
    let some : 0 < length items = grind (arith, c.if-is_empty.ensures) in
    several_found (seen c.args.value.now) items c.index.result.now some c.index.ensures c.in_ok-members.ensures (sym c.if-not-has_only.ensures)

pub returns-in_err-member : goal.returns-in_err-member
returns-in_err-member c =
    let items = c.in_ok-members.members.now.items in
    let some : 0 < length items = grind (arith, c.if-is_empty.ensures) in
    let there = first_found (seen c.args.value.now) items c.index.result.now some c.index.ensures c.in_ok-members.ensures in
    let gone : is_some (get c.index.result.now.0.now (seen c.args.value.now)) ≡ false = ap is_some (sym c.in_err-member.ensures) in
    absurd (cc)

pub returns : goal.returns
returns c =
    let items = c.in_ok-members.members.now.items in
    let some : 0 < length items = grind (arith, c.if-is_empty.ensures) in
    one_found (seen c.args.value.now) items c.index.result.now (seen c.in_ok-member.field-0.now) some c.index.ensures c.in_ok-members.ensures
    (sym c.if-not-has_only.ensures) (sym c.in_ok-member.ensures)

use Rattle.std.proofs.Common.{◌≡◌, [], sym, ◌∙◌, rules}
use Rattle.json.specs.Value.{value_view}
use Rattle.outage_commands.specs.Reading.{value_of}
use Rattle.outage_commands.proofs.ReadLemmas.{tree_value, value_refused}
use Rattle.outage_commands.proofs.TreeLemmas.{whole_reads, in_range}
use Rattle.outage_commands.proofs.tree.tree_in.Goals as goal

pub returns-in_default : goal.returns-in_default
returns-in_default c = sym (value_refused c.args.line.now (λ text. absurd (c.in_default.ensures.cases.0 text)))

pub returns-then-is_whole : goal.returns-then-is_whole
returns-then-is_whole c =
    let j = value_view c.in-Ok-read.tree in
    let none : c.read.new.reader ≡ [] = search rules in
    sym (tree_value c.args.line.now c.in-Ok.text.now c.in_ok-reader.reader c.read.new.reader j c.in-Ok.ensures.cases.1 c.in-Ok.ensures.cases.0
    c.in_ok-reader.ensures.ok c.in-Ok-read.ensures.ok none ∙ whole_reads j (sym c.is_whole.ensures ∙ c.if-is_whole.true))

pub returns-in-true : goal.returns-in-true
returns-in-true c =
    let j = value_view c.in-Ok-read.tree in
    let none : c.read.new.reader ≡ [] = search rules in
    in_range j (value_of c.args.line.now)
    (tree_value c.args.line.now c.in-Ok.text.now c.in_ok-reader.reader c.read.new.reader j c.in-Ok.ensures.cases.1 c.in-Ok.ensures.cases.0
    c.in_ok-reader.ensures.ok c.in-Ok-read.ensures.ok none) (sym c.in_ok-is_in_range.ensures ∙ c.in-true.is)

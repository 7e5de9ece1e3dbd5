use Rattle.std.proofs.Common.{◌≡◌, Bool, false, List, ap, ◌∙◌, rules}
use Rattle.std.specs.List.{flat_map, list_all}
use Rattle.std.proofs.lemmas.Bool.{both_ways}
use Rattle.row_bytes.specs.declared.row.Row.{Row}
use Rattle.row_bytes.specs.Rows.{row_text}
use Rattle.sync_session.proofs.ReadingLaws.{is_here, spelled_here, spelled_text, spelled_body, spelled_by}
use Rattle.sync_session.proofs.text_reader.leaf_rows.Goals as goal

pub returns-in_default : goal.returns-in_default
returns-in_default c =
    λ rows is.
    let f = c.format-format.result in
    c.in_default.ensures (flat_map (row_text f) rows)
    (spelled_text c.args.own.now c.args.node c.args.text.now rows f c.leaf_byte.result is c.format-format.ensures.format c.leaf_byte.ensures).1

pub returns-in-Err-RowBroken : goal.returns-in-Err-RowBroken
returns-in-Err-RowBroken c =
    λ rows is.
    let body = spelled_body c.args.own.now c.args.node c.args.text.now rows c.format-format.result c.leaf_byte.result c.in-Some.body.now is
    c.format-format.ensures.format c.leaf_byte.ensures c.in-Some.ensures in
    let shown = rw c.in-Err-RowBroken.field-0-is at (c.in-Err-RowBroken.ensures.only rows body.0 body.1) in
    absurd (cc)

pub returns-then-are_here : goal.returns-then-are_here
returns-then-are_here c =
    spelled_by c.args.own.now c.args.node c.args.text.now c.in-Ok.rows c.format-format.result c.leaf_byte.result c.in-Some.body.now
    c.format-format.ensures.format c.leaf_byte.ensures c.in-Some.ensures c.in-Ok.ensures.found.0 c.in-Ok.ensures.found.1 (search rules)

pub returns-else-are_here : goal.returns-else-are_here
returns-else-are_here c =
    λ rows is.
    let test : List Row → Bool = λ rs. list_all (is_here c.args.own.now c.args.node.index) rs in
    let body = spelled_body c.args.own.now c.args.node c.args.text.now rows c.format-format.result c.leaf_byte.result c.in-Some.body.now is
    c.format-format.ensures.format c.leaf_byte.ensures c.in-Some.ensures in
    let same : c.in-Ok.rows ≡ rows = c.in-Ok.ensures.only rows body.0 body.1 in
    let off : test c.in-Ok.rows ≡ false = search rules in
    both_ways (test c.in-Ok.rows) off (ap test same ∙ spelled_here c.args.own.now c.args.node c.args.text.now rows is)

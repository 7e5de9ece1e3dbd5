use Rattle.std.proofs.Common.{List, length, ap, arith}
use Rattle.std.specs.List.{flat_map}
use Rattle.std.proofs.lemmas.List.{take_all}
use Rattle.version_set.specs.Version.{version_text}
use Rattle.version_set.specs.declared.version.Version.{Version}
use Rattle.row_bytes.proofs.TextLengthLaws.{row_text_len}
use Rattle.row_bytes.proofs.lengths.held_len.Goals as goal

pub returns-clause-exact : goal.returns-clause-exact
returns-clause-exact c =
    let l = c.loop-version in
    let versions = c.as_slice-version-items.result.now in
    let whole = ap (λ (vs : List Version). length (flat_map (version_text c.args.format) vs))
    (take_all l.version-index versions c.loop-version-test.false) in
    let same = ap (λ (vs : List Version). length (flat_map (version_text c.args.format) vs)) c.as_slice-version-items.ensures.all in
    omega (arith, l.invariant.so_far, whole, same, row_text_len c.args.format (record { key = c.args.key.now; versions = c.args.set.now }))

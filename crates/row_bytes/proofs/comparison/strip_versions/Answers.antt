use Rattle.std.proofs.Common.{rules, ◌≡◌, ◌++◌, length}
use Rattle.std.specs.Int.{w16, to_be_bytes}
use Rattle.std.specs.List.{flat_map}
use Rattle.version_set.specs.Version.{version_text}
use Rattle.row_bytes.proofs.StripLaws.{lacks_first, behind_first, behind_item, behind_lacks_item}
use Rattle.row_bytes.proofs.comparison.strip_versions.Goals as goal

pub loop-version-init : goal.loop-version-init
loop-version-init c =
    let vs = c.args.versions.now in
    let first : c.args.text.now ≡ to_be_bytes w16 (length vs) ++ c.in_ok-rest.rest.now = search rules in
    behind_first (to_be_bytes w16 (length vs)) (flat_map (version_text c.args.format) vs) c.args.text.now c.in_ok-rest.rest.now first

pub returns-in_err-rest-2 : goal.returns-in_err-rest-2
returns-in_err-rest-2 c =
    let vs = c.args.versions.now in
    let l = c.loop-version in
    let front = to_be_bytes w16 (length vs) ++ flat_map (version_text c.args.format) vs in
    rw c.from_residual-in_err-rest-2.ensures
    (behind_lacks_item (version_text c.args.format) vs l.version-index c.version-item.result front c.args.text.now l.rest.now
    c.loop-version-test.true c.version-item.is l.invariant c.in_err-rest-2.ensures)

pub loop-version-preserved : goal.loop-version-preserved
loop-version-preserved c =
    let vs = c.args.versions.now in
    let l = c.loop-version in
    let front = to_be_bytes w16 (length vs) ++ flat_map (version_text c.args.format) vs in
    behind_item (version_text c.args.format) vs l.version-index c.version-item.result front c.args.text.now l.rest.now c.in_ok-rest-2.rest.now
    c.loop-version-test.true c.version-item.is l.invariant c.in_ok-rest-2.ensures

pub returns-in_err-rest : goal.returns-in_err-rest
returns-in_err-rest c =
    let vs = c.args.versions.now in
    rw c.from_residual.ensures
    (lacks_first (to_be_bytes w16 (length vs)) (flat_map (version_text c.args.format) vs) c.args.text.now
    (rw c.to_be_bytes.ensures at c.in_err-rest.ensures))

use Rattle.std.proofs.Common.{◌<◌, ◌+◌, ◌++◌, length, ap, arith}
use Rattle.std.specs.Int.{w16, to_be_bytes}
use Rattle.std.specs.List.{flat_map}
use Rattle.std.specs.Vec.{vec_capacity}
use Rattle.std.proofs.lemmas.List.{length-append}
use Rattle.version_set.specs.Version.{version_text}
use Rattle.version_set.specs.declared.version.Version.{Version}
use Rattle.row_bytes.proofs.TextLengthLaws.{on_err, lacks_room}
use Rattle.row_bytes.proofs.writer.put_versions.Goals as goal

pub returns-in_err-put_version-clause-room : goal.returns-in_err-put_version-clause-room
returns-in_err-put_version-clause-room c =
    let l = c.loop-version in
    let v = c.version-item.result in
    let count = to_be_bytes w16 (length c.args.versions.now) in
    let old = c.args.out.now.items in
    let item = ap (λ (x : Version). length (version_text c.args.format x)) c.version-item.is in
    let all : vec_capacity c.args.out.now < length (old ++ count) + length (flat_map (version_text c.args.format) c.args.versions.now) =
    lacks_room (version_text c.args.format) c.args.versions.now l.version-index v
    (old ++ count) l.out.items _ _ c.loop-version-test.true l.invariant.so_far l.invariant.grows
    (omega (arith, item, c.in_err-put_version.ensures.room)) in
    let room : vec_capacity c.args.out.now < length old + length (count ++ flat_map (version_text c.args.format) c.args.versions.now) = omega
    (arith, all, length-append old count, length-append count (flat_map (version_text c.args.format) c.args.versions.now)) in
    on_err _ room

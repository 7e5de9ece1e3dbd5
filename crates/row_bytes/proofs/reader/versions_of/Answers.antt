use Rattle.std.proofs.Common.{◌≡◌, [], true, false}
use Rattle.std.proofs.lemmas.Result.{err_from_is_err_and}
use Rattle.row_bytes.specs.Reading.{may_follow, versions_at}
use Rattle.row_bytes.proofs.Loops.{versions_go_on, versions_end, versions_refused, versions_done}
use Rattle.row_bytes.proofs.reader.versions_of.Goals as goal

pub returns-in_err-version : goal.returns-in_err-version
returns-in_err-version c =
    let p = err_from_is_err_and c.from_residual-in_err-version.result c.from_residual-in_err-version.ensures.1 in
    let l = c.versions in
    rw (p.1, p.2) (versions_end c.in_err-version.field-0.0 c.args.format c.args.count l.counter l.last.now l.versions.items l.rest.now
    (versions_at c.args.format c.args.count [] [] c.args.bytes.now) c.versions-test.true c.in_err-version.ensures.read l.invariant)

pub returns-then-not-can_follow : goal.returns-then-not-can_follow
returns-then-not-can_follow c =
    let l = c.versions in
    let f : may_follow c.args.format l.last.now l.versions.items c.in_ok-version.version ≡ false = cc
    (c.if-not-can_follow.true, c.can_follow.ensures, c.deref.ensures.value) in
    versions_refused c.args.format c.args.count l.counter l.last.now l.versions.items l.rest.now c.in_ok-version.version c.in_ok-version.after.now
    (versions_at c.args.format c.args.count [] [] c.args.bytes.now) c.versions-test.true c.in_ok-version.ensures.read f l.invariant

pub versions-preserved : goal.versions-preserved
versions-preserved c =
    let l = c.versions in
    let f : may_follow c.args.format l.last.now l.versions.items c.in_ok-version.version ≡ true = cc
    (c.if-not-can_follow.false, c.can_follow.ensures, c.deref.ensures.value) in
    rw c.in_ok-push.ensures.items
    (versions_go_on c.args.format c.args.count l.counter l.last.now l.versions.items l.rest.now c.in_ok-version.version c.in_ok-version.after.now
    c.in_ok-version.text.now
    (versions_at c.args.format c.args.count [] [] c.args.bytes.now) c.versions-test.true c.in_ok-version.ensures.read c.in_ok-version.ensures.text
    f l.invariant)

pub returns : goal.returns
returns c = versions_done c.args.format c.args.count c.versions.counter c.versions.last.now c.versions.versions.items c.versions.rest.now
    (versions_at c.args.format c.args.count [] [] c.args.bytes.now) c.versions-test.false c.versions.invariant

use Rattle.std.proofs.Common.{ap, length, arith}
use Rattle.std.proofs.lemmas.List.{length-append}
use Rattle.row_bytes.proofs.Laws.{version_takes, front_is}
use Rattle.version_set.specs.Version.{version_text}
use Rattle.row_bytes.proofs.reader.version_and_text.Goals as goal

pub slice_bounds-text-count : goal.slice_bounds-text-count
slice_bounds-text-count c =
    let t = version_takes c.args.format c.args.bytes.now (c.in_ok-version.version, c.in_ok-version.rest.now)
    (λ i. omega (arith, c.type_inv.bytes i)) c.in_ok-version.ensures in
    omega (arith, ap length t.0.parts, length-append (version_text c.args.format c.in_ok-version.version) c.in_ok-version.rest.now)

pub returns-clause-text : goal.returns-clause-text
returns-clause-text c =
    let t = version_takes c.args.format c.args.bytes.now (c.in_ok-version.version, c.in_ok-version.rest.now)
    (λ i. omega (arith, c.type_inv.bytes i)) c.in_ok-version.ensures in
    front_is c.args.bytes.now (version_text c.args.format c.in_ok-version.version) c.in_ok-version.rest.now t.0.parts

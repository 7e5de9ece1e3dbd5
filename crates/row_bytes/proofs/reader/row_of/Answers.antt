use Rattle.std.proofs.Common.{arith}
use Rattle.std.proofs.lemmas.Result.{err_from_is_err_and}
use Rattle.row_bytes.proofs.RowLaws.{set_in}
use Rattle.row_bytes.proofs.Heads.{head_is, row_ends}
use Rattle.row_bytes.proofs.reader.row_of.Goals as goal

pub of_ascending-requires : goal.of_ascending-requires
of_ascending-requires c =
    set_in c.args.format c.args.bytes.now (c.in_ok-len.len, c.in_ok-len.rest.now) (c.in_ok-key.key.now, c.in_ok-key.rest.now)
    (c.in_ok-count.count, c.in_ok-count.rest.now) (c.in_ok-versions.versions.items, c.in_ok-versions.rest.now)
    (λ i. omega (arith, c.type_inv.bytes i)) c.in_ok-len.ensures c.in_ok-key.ensures c.in_ok-count.ensures c.in_ok-versions.ensures

pub returns-in_err-versions : goal.returns-in_err-versions
returns-in_err-versions c =
    let p = err_from_is_err_and c.from_residual-in_err-versions.result c.from_residual-in_err-versions.ensures.1 in
    rw (p.1, p.2) (row_ends c.in_err-versions.field-0.0 c.args.format c.args.bytes.now (c.in_ok-len.len, c.in_ok-len.rest.now)
    (c.in_ok-key.key.now, c.in_ok-key.rest.now)
    (c.in_ok-count.count, c.in_ok-count.rest.now) c.in_ok-len.ensures c.in_ok-key.ensures c.in_ok-count.ensures c.in_err-versions.ensures)

pub returns-in_err-bytes_of : goal.returns-in_err-bytes_of
returns-in_err-bytes_of c =
    let p = err_from_is_err_and c.from_residual-in_err-bytes_of.result c.from_residual-in_err-bytes_of.ensures.1 in
    rw (p.1, p.2, c.in_err-bytes_of.ensures.memory)
    (head_is c.args.bytes.now (c.in_ok-len.len, c.in_ok-len.rest.now) (c.in_ok-key.key.now, c.in_ok-key.rest.now)
    (c.in_ok-count.count, c.in_ok-count.rest.now) c.in_ok-len.ensures c.in_ok-key.ensures c.in_ok-count.ensures)

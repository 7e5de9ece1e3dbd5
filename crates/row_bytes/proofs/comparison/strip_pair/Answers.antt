use Rattle.std.proofs.Common.{ℕ, List, w64, Bor}
use Rattle.std.specs.Int.{w16, to_be_bytes}
use Rattle.row_bytes.proofs.StripLaws.{lacks_first, strips_then}
use Rattle.row_bytes.proofs.comparison.strip_pair.Goals as goal

pub returns-in_err-rest : goal.returns-in_err-rest
returns-in_err-rest c = rw c.from_residual.ensures
    (lacks_first (to_be_bytes w16 c.args.pair.0) (to_be_bytes w64 c.args.pair.1) c.args.text.now (rw c.to_be_bytes.ensures at c.in_err-rest.ensures))

pub returns : goal.returns
returns c =
    strips_then (λ (x : Bor (List ℕ)). x.now) (to_be_bytes w16 c.args.pair.0)
    (to_be_bytes w64 c.args.pair.1) c.args.text.now c.in_ok-rest.rest.now c.strip-2.result (rw c.to_be_bytes.ensures at c.in_ok-rest.ensures)
    (rw c.to_be_bytes-2.ensures at c.strip-2.ensures)

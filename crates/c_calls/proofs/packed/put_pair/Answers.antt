use Rattle.std.proofs.Common.{List, ℕ, subst, arith}
use Rattle.std.specs.Int.{w16, w64, to_be_bytes}
use Rattle.c_calls.specs.Packed.{IsWritten}
use Rattle.c_calls.proofs.PackedLaws.{both_written}
use Rattle.c_calls.proofs.packed.put_pair.Goals as goal

pub returns : goal.returns
returns c =
    let a = c.args in
    let node = subst (λ (bytes : List ℕ). IsWritten bytes a.out.now a.at c.put-node.new.out c.put-node.result) c.to_be_bytes.ensures
    c.put-node.ensures in
    let counter = subst (λ (bytes : List ℕ). IsWritten bytes c.put-node.new.out c.put-node.result c.put.new.out c.put.result) c.to_be_bytes-2.ensures
    c.put.ensures in
    both_written (to_be_bytes w16 a.pair.0) (to_be_bytes w64 a.pair.1) a.out.now c.put-node.new.out c.put.new.out a.at c.put-node.result c.put.result
    (omega (arith, c.requires)) node counter

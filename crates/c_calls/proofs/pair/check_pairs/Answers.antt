use Rattle.std.proofs.Common.{arith, refl}
use Rattle.std.proofs.lemmas.List.{length-map}
use Rattle.c_calls.specs.Pairs.{clock_pair, clock_pairs}
use Rattle.c_calls.proofs.PairLaws.{too_many}
use Rattle.c_calls.proofs.pair.check_pairs.Goals as goal

pub returns-then-pairs-gt-TABLE_LEN : goal.returns-then-pairs-gt-TABLE_LEN
returns-then-pairs-gt-TABLE_LEN c =
    let many = too_many (clock_pairs c.args.pairs.now) (omega (arith, c.if-pairs-gt-TABLE_LEN.true, length-map c.args.pairs.now clock_pair)) in
    rw many refl

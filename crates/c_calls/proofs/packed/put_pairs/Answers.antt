use Rattle.std.proofs.Common.{arith}
use Rattle.version_set.specs.Version.{pair_text}
use Rattle.c_calls.proofs.PackedLaws.{nothing_written, more_written, room_for_more}
use Rattle.c_calls.proofs.packed.put_pairs.Goals as goal

pub loop-pair-init : goal.loop-pair-init
loop-pair-init c = nothing_written c.args.out.now c.args.at

pub put_pair-end-requires : goal.put_pair-end-requires
put_pair-end-requires c =
    let l = c.loop-pair in
    room_for_more pair_text c.args.pairs.now l.pair-index (0, 0) c.args.out.now l.out c.args.at l.end c.loop-pair-test.true c.requires l.invariant

pub loop-pair-preserved : goal.loop-pair-preserved
loop-pair-preserved c =
    let l = c.loop-pair in
    more_written pair_text c.args.pairs.now l.pair-index
    (0, 0) c.args.out.now l.out c.put_pair-end.new.out c.args.at l.end c.put_pair-end.result c.loop-pair-test.true
    (omega (arith, c.requires)) l.invariant c.put_pair-end.ensures

use Rattle.version_set.specs.Version.{pair_text}
use Rattle.row_bytes.proofs.TextLengthLaws.{on_err, lacks_room}
use Rattle.row_bytes.proofs.writer.put_pairs.Goals as goal

pub returns-in_err-put_pair-clause-room : goal.returns-in_err-put_pair-clause-room
returns-in_err-put_pair-clause-room c =
    let l = c.loop-pair in
    on_err _ (lacks_room pair_text c.args.pairs.now l.pair-index
    (0, 0) c.args.out.now.items l.out.items _ _ c.loop-pair-test.true l.invariant.so_far l.invariant.grows c.in_err-put_pair.ensures.room)

use borrow.Author.Count.{below_more}
use Rattle.caller_pass.specs.Closings.{HasSeat}
use Rattle.caller_pass.proofs.close.all_there.Goals as goal

pub loop-seat-preserved : goal.loop-seat-preserved
loop-seat-preserved g c =
    below_more (λ s. HasSeat c.args.passes.now.items s) c.loop-seat.seat c.loop-seat.invariant (c.has_seat.ensures.0 c.if-not-has_seat.false)

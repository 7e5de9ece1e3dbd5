use Rattle.std.proofs.Common.{arith}
use Rattle.c_calls.proofs.SendLaws.{sends}
use Rattle.c_calls.proofs.exchanges.next.Goals as goal

pub returns-in-Some : goal.returns-in-Some
returns-in-Some c =
    sends c.args.exchange.now c.next.new.self c.send.new.exchange c.args.state.now c.in-Some.ask (c.args.need.now, c.args.out.now)
    (c.send.new.need, c.send.new.out)
    c.in-Some.ensures.ask c.in-Some.ensures.sent (omega (arith, c.if-out-lt-ASK_LEN.false)) c.send.ensures

use Rattle.exchange.proofs.exchange.Exchange.TheSendSync.{the_send}
use Rattle.antientropy_c.proofs.Structs.{Sends, sent, of_exchange}

pub send : Sends of_exchange
send = sent of_exchange the_send

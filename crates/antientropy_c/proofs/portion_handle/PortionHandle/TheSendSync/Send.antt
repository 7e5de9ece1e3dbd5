use Rattle.range_state.proofs.portion.Portion.TheSendSync.{the_send}
use Rattle.antientropy_c.proofs.Structs.{Sends, sent, of_portion}

pub send : Sends of_portion
send = sent of_portion the_send

use Rattle.hint_store.proofs.store.HintStore.TheSendSync.{the_send}
use Rattle.antientropy_c.proofs.Structs.{Sends, sent, of_hints}

pub send : Sends of_hints
send = sent of_hints the_send

use denote.Param.Send.{sendable}
use Rattle.std.proofs.Crossing.{crosses}
use Rattle.snapshot.proofs.snapshot.Snapshot.TheSendSync.{the_send, the_sync}
use Rattle.antientropy_c.proofs.Structs.{Sends, sent, of_publication}

pub send : Sends of_publication
send = sent of_publication (search (sendable, crosses, the_send, the_sync) depth 40)

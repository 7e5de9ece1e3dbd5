use denote.Param.Send.{sendable}
use Rattle.std.proofs.Crossing.{crosses}
use Rattle.snapshot.proofs.snapshot.Snapshot.TheSendSync.{the_send, the_sync}
use Rattle.c_handle.proofs.LentLaws.{Sends, sent}
use Rattle.antientropy_c.proofs.Structs.{of_publication_share}

pub send : Sends of_publication_share
send = sent of_publication_share (search (sendable, crosses, the_send, the_sync) depth 40)

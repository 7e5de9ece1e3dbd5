use denote.Param.Send.{sendable}
use Rattle.std.proofs.Crossing.{crosses}
use Rattle.range_state.proofs.state.RangeState.TheSendSync.{the_sync}
use Rattle.c_handle.proofs.LentLaws.{Sends, sent}
use Rattle.antientropy_c.proofs.Structs.{of_replica_share}

pub send : Sends of_replica_share
send = sent of_replica_share (search (sendable, crosses, the_sync) depth 40)

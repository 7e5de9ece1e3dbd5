use denote.Param.Send.{sendable}
use Rattle.range_state.proofs.state.RangeState.TheSendSync.{the_send}
use Rattle.antientropy_c.proofs.Structs.{Sends, sent, of_replica}

pub send : Sends of_replica
send = sent of_replica (search (sendable, the_send) depth 40)

use denote.Param.Send.{sendable}
use Rattle.range_state.proofs.state.RangeState.TheSendSync as state
use Rattle.range_state.proofs.state.renewal.Renewal.TheSendSync as renewal
use Rattle.range_state.proofs.state.renewal.RenewalStart.TheSendSync as start
use Rattle.antientropy_c.proofs.Structs.{Sends, sent, of_renewal}

pub send : Sends of_renewal
send = sent of_renewal (search (sendable, state.the_send, renewal.the_send, start.the_send) depth 40)

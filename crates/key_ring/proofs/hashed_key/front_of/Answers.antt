use Rattle.std.proofs.Common.{arith}
use Rattle.key_ring.proofs.Cuts.{front_is}
use Rattle.key_ring.proofs.hashed_key.front_of.Goals as goal

pub returns : goal.returns
returns c =
    let is = front_is c.args.key.now c.digest-digest.result c.digest-digest.ensures in
    omega arith

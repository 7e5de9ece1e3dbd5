use Rattle.snapshot.proofs.OrderLaws.{leaves_make}
use Rattle.snapshot.proofs.laws.leaves_make_their_row_map.Goals as goal

pub returns : goal.returns
returns c = leaves_make

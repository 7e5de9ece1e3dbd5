use Rattle.range_state.proofs.UnionLaws.{offers_unite, union_swap}
use Rattle.range_state.proofs.laws.offers_make_the_union.Goals as goal

pub returns : goal.returns
returns c = record { each = offers_unite; sides = union_swap }

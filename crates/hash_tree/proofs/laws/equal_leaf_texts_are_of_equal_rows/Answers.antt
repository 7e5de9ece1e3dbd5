use Rattle.hash_tree.proofs.TextLaws.{same_leaf}
use Rattle.hash_tree.proofs.laws.equal_leaf_texts_are_of_equal_rows.Goals as goal

pub returns : goal.returns
returns c = same_leaf

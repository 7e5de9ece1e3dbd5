use Rattle.hash_tree.proofs.TextLaws.{text_kept}
use Rattle.hash_tree.proofs.laws.other_nodes_keep_their_texts.Goals as goal

pub returns : goal.returns
returns c = text_kept

use Rattle.text_patch.proofs.PartLaws.{text_of_parts}
use Rattle.text_patch.proofs.laws.parts_are_the_text.Goals as goal

pub returns : goal.returns
returns c = text_of_parts

use Rattle.admission.proofs.SlotLaws.{has_part}
use Rattle.admission.proofs.controller.Controller.lend.Goals as goal

pub split_off-share-requires-clause-has_parts : goal.split_off-share-requires-clause-has_parts
split_off-share-requires-clause-has_parts g c =
    let before = c.self.inside.budget in
    has_part before c.lend.new.self c.self.inside.spare.parts (c.in_ok-lend.ensures.lends) c.lend.ensures.valid c.self.invariant.2

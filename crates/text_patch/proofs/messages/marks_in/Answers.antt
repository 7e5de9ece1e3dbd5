use Rattle.std.proofs.Common.{◌∷◌, ◌∙◌, List, ℕ, suc, ap, subst, arith}
use Rattle.vclock.proofs.ByteLaws.{IsBytes}
use Rattle.walk_messages.proofs.FieldLaws.{four_stood}
use Rattle.text_patch.proofs.MessageLaws.{reads_marks}
use Rattle.text_patch.proofs.messages.marks_in.Goals as goal

pub returns : goal.returns
returns c =
    let width = c.in_ok-width.width.now in
    let rest = c.in_ok-width.rest.now in
    let first = c.in_ok-width.ensures.cases.0 in
    let parts = c.in_ok-count.ensures.cases in
    let bytes : IsBytes c.args.bytes.now = λ i. omega (arith, c.type_inv.bytes i) in
    let fits : IsBytes rest = λ i. subst IsBytes first bytes (suc i) in
    let stood = four_stood c.from_be_bytes.result rest c.in_ok-count.count.now c.in_ok-count.marks.now fits
    (omega (arith, parts.2)) parts.0 parts.1 c.from_be_bytes.ensures in
    reads_marks width c.from_be_bytes.result c.args.bytes.now c.in_ok-count.marks.now c.new.result (omega arith)
    (first ∙ ap (λ (t : List ℕ). width ∷ t) stood) c.new.ensures.marks c.new.ensures.valid

use Rattle.std.proofs.Common.{◌≡◌, ◌∙◌, false, take, sym}
use Rattle.std.specs.Prelude.{bytes_eq}
use Rattle.text_patch.specs.Marks.{mark_at}
use Rattle.text_patch.proofs.PlaceLaws.{passed}
use Rattle.text_patch.proofs.marks.Marks.place_of.Goals as goal

pub loop-place-preserved : goal.loop-place-preserved
loop-place-preserved c =
    let m = c.args.self.now in
    let mark = take m.width c.args.digest.now in
    let place = c.loop-place.place in
    let width : c.from-width.result ≡ m.width = cc in
    let here : bytes_eq c.mark_at.result.now (take c.from-width.result c.args.digest.now) ≡ bytes_eq (mark_at m place) mark = λ i. bytes_eq
    (c.mark_at.ensures i) (take (width i) c.args.digest.now) in
    let other : bytes_eq (mark_at m place) mark ≡ false = sym here ∙ sym c.eq.ensures ∙ c.if-eq.false in
    c.loop-place.invariant ∙ passed m mark place c.saturating_add-place-end.result c.loop-place-test.true other

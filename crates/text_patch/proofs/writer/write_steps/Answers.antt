use Rattle.std.proofs.Common.{◌≡◌, ◌+◌, ◌++◌, ◌∷◌, [], refl, ℕ, List, drop, sym, ap, ◌∙◌, append_assoc, arith}
use Rattle.std.proofs.lemmas.List.{drop_all}
use Rattle.text_patch.specs.Patches.{patch_for}
use Rattle.text_patch.specs.Steps.{New, steps_text, step_text}
use Rattle.text_patch.proofs.RunLaws.{left_text, run_text, run_goes_on, run_jumps, run_stops, run_ends, next_part}
use Rattle.text_patch.proofs.writer.write_steps.Goals as goal
use Rattle.text_patch.proofs.writer.write_steps.Goals.{in-Some, in-Some-2+in_ok-put_copy-in-Some-2}
use Rattle.text_patch.proofs.writer.write_steps.Goals.{in-None+in_ok-put_copy-in-None+in_ok-put_new-in-None}

pub parts-preserved : goal.parts-preserved
parts-preserved c =
    let l = c.parts in
    let salt = c.args.salt.now in
    let m = c.args.marks.now in
    let first = l.run.first in
    let count = l.run.count in
    let part = c.part-item.result in
    let digest = c.salted.result in
    let rest = drop (l.part-index + 1) c.args.parts.now in
    let before : steps_text (patch_for salt m 0 c.args.parts.now) ≡ l.out.items ++ left_text salt m first count (part ∷ rest) =
    l.invariant.so_far ∙ ap (λ (ps : List (List ℕ)). l.out.items ++ left_text salt m first count ps)
    (next_part c.args.parts.now l.part-index part c.parts-test.true c.part-item.is) in
    elim c.match-place_of.branch [
      | in-Some w ↦
          let place = w.in-Some.place in
          let on = run_goes_on salt m first count place part digest rest c.salted.ensures w.in-Some.ensures.place w.if-place-next.true in
          rw (w.out-is, w.run-is) (record {
            so_far = before ∙ ap (λ (t : List ℕ). l.out.items ++ t) on;
            fits = omega (arith, w.in-Some.ensures.within, w.in-Some.ensures.few, w.if-place-next.true);
          })
      | in-Some-2+in_ok-put_copy-in-Some-2 w ↦
          let place = w.in-Some.place in
          let jump = run_jumps salt m first count place part digest rest c.salted.ensures w.in-Some.ensures.place w.if-place-next.false in
          let written = sym (append_assoc l.out.items (run_text first count) (left_text salt m place 1 rest))
          ∙ ap (λ (t : List ℕ). t ++ left_text salt m place 1 rest) (sym w.in_ok-put_copy-in-Some-2.ensures) in
          rw (w.out-is, w.run-is) (record {
            so_far = before ∙ ap (λ (t : List ℕ). l.out.items ++ t) jump ∙ written;
            fits = omega (arith, w.in-Some.ensures.within, w.in-Some.ensures.few);
          })
      | in-None+in_ok-put_copy-in-None+in_ok-put_new-in-None w ↦
          let stop = run_stops salt m first count part digest rest c.salted.ensures w.in-None.ensures.place in
          let left = left_text salt m (first + count) 0 rest in
          let written : l.out.items ++ (run_text first count ++ (step_text (New part) ++ left)) ≡ w.put_new.new.out.items ++ left =
          rw (w.in_ok-put_new-in-None.ensures.1, w.in_ok-put_copy-in-None.ensures) (simp append_assoc) in
          rw (w.out-is, w.run-is) (record {
            so_far = before ∙ ap (λ (t : List ℕ). l.out.items ++ t) stop ∙ written;
            fits = omega (arith, l.invariant.fits);
          })
    ]

pub returns : goal.returns
returns c =
    let l = c.parts in
    let salt = c.args.salt.now in
    let m = c.args.marks.now in
    let none : drop l.part-index c.args.parts.now ≡ [] = drop_all l.part-index c.args.parts.now (omega arith) in
    let end : l.out.items ++ left_text salt m l.run.first l.run.count
    (drop l.part-index c.args.parts.now) ≡ l.out.items ++ run_text l.run.first l.run.count =
    ap (λ (ps : List (List ℕ)). l.out.items ++ left_text salt m l.run.first l.run.count ps) none
    ∙ ap (λ (t : List ℕ). l.out.items ++ t) (run_ends salt m l.run.first l.run.count) in
    (refl, c.in_ok-put_copy.ensures ∙ sym end ∙ sym l.invariant.so_far)

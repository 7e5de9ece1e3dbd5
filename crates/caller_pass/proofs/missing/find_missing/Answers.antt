use Rattle.std.proofs.Common.{◌≡◌, ℕ, ◌<◌, ◌-◌, List, length, take, drop, cond, Some, slice_get, refl, ap, sym, arith, ◌∙◌}
use Rattle.std.proofs.lemmas.Option.{slice_get_read}
use Rattle.caller_pass.specs.Indexes.{found_in}
use Rattle.caller_pass.specs.Locks.{is_missing, first_missing}
use Rattle.caller_pass.proofs.IndexLaws.{walk_begins, walk_goes_on, walk_ends, falls}
use Rattle.caller_pass.proofs.missing.find_missing.Goals as goal
use Rattle.caller_pass.proofs.missing.find_missing.Goals.{then-is_missing, else-is_missing}

pub loop-next-init : goal.loop-next-init
loop-next-init c =
    let es = c.args.receipts.now in
    let vs = c.args.held.now in
    walk_begins es c.args.by_key.now c.args.key.now vs c.len.result c.last-next.result c.first_missing-found.result c.requires c.len.ensures
    (c.last-next.ensures ∙ ap (found_in c.args.by_key.now) c.hash.ensures)
    (c.first_missing-found.ensures
    ∙ ap (λ (k : List ℕ). first_missing (take (length es - c.len.result) (drop c.len.result es)) k vs) c.bytes-bytes.ensures)

pub loop-next-smaller : goal.loop-next-smaller
loop-next-smaller c =
    let es = c.args.receipts.now in
    let place = c.loop-next.next - 1 in
    let e = c.index-receipts-place.result in
    let below : place < length c.args.by_key.now.earlier.items = omega (arith, c.loop-next.invariant.below) in
    let at : slice_get es place ≡ Some e = slice_get_read es (length es) place e refl
    (omega (arith, c.requires.known, c.requires.within)) c.index-receipts-place.is in
    omega (arith, falls es c.args.by_key.now place e c.earlier-next.result c.requires below at c.earlier-next.ensures)

pub loop-next-preserved : goal.loop-next-preserved
loop-next-preserved c =
    let es = c.args.receipts.now in
    let key = c.args.key.now in
    let vs = c.args.held.now in
    let place = c.loop-next.next - 1 in
    let e = c.index-receipts-place.result in
    let was = c.loop-next.found in
    let at : slice_get es place ≡ Some e = slice_get_read es (length es) place e refl
    (omega (arith, c.loop-next.invariant.below, c.requires.known, c.requires.within)) c.index-receipts-place.is in
    let now : c.if-is_missing.found ≡ cond c.is_missing.result (Some e.number) was = elim c.if-is_missing.branch [
      | then-is_missing w ↦ w.found-is ∙ ap (λ b. cond b (Some e.number) was) (sym w.if-is_missing.true)
      | else-is_missing w ↦ w.found-is ∙ ap (λ b. cond b (Some e.number) was) (sym w.if-is_missing.false)
    ] in
    walk_goes_on es c.args.by_key.now key vs c.loop-next.next was c.earlier-next.result c.if-is_missing.found c.requires
    c.loop-next.invariant (record {
      entry = e;
      missing = c.is_missing.result;
      more = c.loop-next-test.true;
      at = at;
      before = c.earlier-next.ensures;
      tested = c.is_missing.ensures ∙ ap (λ (k : List ℕ). is_missing e k vs) c.bytes-bytes.ensures;
      now_is = now;
    })

pub returns : goal.returns
returns c =
    walk_ends c.args.receipts.now c.args.by_key.now c.args.key.now c.args.held.now c.loop-next.next c.loop-next.found c.loop-next.invariant
    (omega (arith, c.loop-next-test.false))

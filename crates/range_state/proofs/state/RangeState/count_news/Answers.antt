use Rattle.std.proofs.Common.{◌≡◌, ℕ, ◌+◌, ◌∷◌, ◌++◌, true, false, cond, Some, None, List, [], inl, inr, sym, ap, ◌∙◌, refl, map, take, drop, get_or}
use Rattle.std.proofs.Common.{length, arith, length-drop}
use Rattle.std.proofs.lemmas.Bool.{cases_Bool}
use Rattle.std.proofs.lemmas.List.{length-append, take_more, take-append-drop}
use Rattle.std.proofs.lemmas.Result.{err_from_is_err_and}
use Rattle.version_set.specs.declared.version.Version.{Version}
use Rattle.version_set.specs.Version.{covered, offered, offer_fault}
use Rattle.version_set.specs.declared.set.Offered.TheVariants as Offered
use Rattle.range_store.specs.Offers.{offers_in}
use Rattle.range_store.proofs.BatchLaws.{Offers, map_next, map_split}
use Rattle.range_state.proofs.JudgementLaws.{IsTallied, tallied_more, tallied_stops}
use Rattle.range_state.proofs.state.RangeState.count_news.Goals as goal
use Rattle.range_state.proofs.state.RangeState.count_news.Goals.{in-Added, in-Known}

pub returns-in_err-offer : goal.returns-in_err-offer
returns-in_err-offer c =
    λ seat.
    let key = c.args.row.now.key in
    let vs = c.as_slice-version-items.result.now in
    let i = c.loop-version.version-index in
    let v = c.version-item.result in
    let e = c.in_err-offer.field-0.0 in
    let f : Version → List ℕ × Version = λ w. (key, w) in
    let all : offers_in c.args.row.now ≡ (map f (take i vs) ++ f v ∷ []) ++ map f (drop (i + 1) vs) =
    ap (map f) (sym c.as_slice-version-items.ensures.all) ∙ map_split f vs (i + 1)
    ∙ ap (λ (os : Offers). os ++ map f (drop (i + 1) vs)) (map_next f vs i v c.loop-version-test.true c.version-item.is) in
    let p = err_from_is_err_and c.from_residual-in_err-offer.result c.from_residual-in_err-offer.ensures.1 in
    rw (p.1, p.2) (elim c.in_err-offer.ensures.answers [
      | inl memory ↦ inl memory.1
      | inr full ↦
          let same : offer_fault v c.loop-version.set ≡ Some e = ap (λ (w : Version). offer_fault w c.loop-version.set)
          (sym c.in_ok-try_clone.ensures.1) ∙ full in
          inr (tallied_stops c.args.self.now.store seat key (take i vs) c.loop-version.set c.loop-version.count v c.args.row.now.versions
          (map f (drop (i + 1) vs)) e (c.loop-version.invariant seat) all same)
    ])

pub overflow_add-count : goal.overflow_add-count
overflow_add-count c =
    let vs = c.as_slice-version-items.result.now in
    let i = c.loop-version.version-index in
    omega (
      arith,
      (c.loop-version.invariant 0).few,
      ap length (take-append-drop i vs),
      length-append (take i vs) (drop i vs),
      c.loop-version-test.true,
      length-drop i vs,
      c.loop-version.auto.version-index-end,
      c.as_slice-version-items.type_inv.0,
    )

pub loop-version-preserved : goal.loop-version-preserved
loop-version-preserved c =
    λ seat.
    let key = c.args.row.now.key in
    let vs = c.as_slice-version-items.result.now in
    let i = c.loop-version.version-index in
    let v = c.version-item.result in
    let w = c.in_ok-try_clone.field-0 in
    let set = c.loop-version.set in
    let f : Version → List ℕ × Version = λ x. (key, x) in
    let copy : w ≡ v = c.in_ok-try_clone.ensures.1 in
    let fits : offer_fault v set ≡ None = ap (λ (x : Version). offer_fault x set) (sym copy) ∙ c.in_ok-offer.ensures.answers.0 in
    let now : c.offer.new.self ≡ offered v set = c.in_ok-offer.ensures.set ∙ ap (λ (x : Version). offered x set) copy in
    let long : length (take (i + 1) vs) ≡ length (take i vs) + 1 = omega
    (arith, ap length (take_more vs i v c.loop-version-test.true), length-append (take i vs) (get_or vs i v ∷ [])) in
    let more : (count : ℕ) → count ≡ c.loop-version.count + cond (covered v set) 0 1
    → IsTallied c.args.self.now.store seat key (take (i + 1) vs) c.offer.new.self count =
    λ count is. tallied_more c.args.self.now.store seat key (take i vs) set c.loop-version.count v (take (i + 1) vs) c.offer.new.self count
    (c.loop-version.invariant seat) (map_next f vs i v c.loop-version-test.true c.version-item.is) long fits now is in
    elim c.match-branch-4.branch [
      | in-Added b ↦
          let fresh : covered v set ≡ false = elim (cases_Bool (covered w set)) [
            | inl known ↦ let clash : Offered.Added ≡ Offered.Known = sym b.in-Added.is ∙ c.in_ok-offer.ensures.answers.1.1 known in absurd cc
            | inr off ↦ ap (λ (x : Version). covered x set) (sym copy) ∙ off
          ] in
          more c.match-branch-4.count (b.count-is ∙ rw fresh refl)
      | in-Known b ↦
          let known : covered v set ≡ true = ap (λ (x : Version). covered x set) (sym copy) ∙ c.in_ok-offer.ensures.answers.1.0 b.in-Known.is in
          more c.match-branch-4.count (b.count-is ∙ rw known (omega arith))
    ]

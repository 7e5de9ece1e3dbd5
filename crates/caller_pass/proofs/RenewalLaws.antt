-- What a renewal keeps.
use Rattle.std.proofs.Common.{◌≡◌, ℕ, zero, suc, ◌+◌, ◌-◌, ◌<◌, ◌≤◌, List, [], ◌∷◌, length, get_or, sym, ap, subst, ◌∙◌, inl, inr, arith}
use Rattle.std.specs.List.{AllByRecursion, Contains, remove}
use Rattle.std.proofs.lemmas.Bool.{cases_lt}
use Rattle.std.proofs.lemmas.List.{get_or_default}
use Rattle.std.proofs.lemmas.List.Edits.{length-remove, get_or-remove_below, get_or-remove_above}
use Rattle.range_journal.specs.declared.journal.Entry.{Entry}
use Rattle.version_set.specs.declared.version.Version.{Version}
use Rattle.range_state.specs.State.{State}
use Rattle.range_store.specs.Renewals.{copies_from, held_offers}
use Rattle.range_state.specs.Renewals.{renewed_by}
use Rattle.caller_pass.specs.Passes.{PassView}
use Rattle.caller_pass.specs.Closings.{HasSeat, AllThere}

copies_seated : (n seat seats : ℕ) (os : List (List ℕ × Version)) → seat < seats
    → AllByRecursion (λ (e : Entry). e.seat < seats) (copies_from n seat os)
copies_seated n seat seats [] below = tt
copies_seated n seat seats (o ∷ os) below = (below, copies_seated (n + 1) seat seats os below)

-- carried entries are of the seat of their carrier
pub carried_seated : (s t : State) (seat seats limit : ℕ) → seat < seats → t ≡ renewed_by s seat limit
    → AllByRecursion (λ (e : Entry). e.seat < seats) t.store.entries
carried_seated s t seat seats limit below is =
    subst (λ (x : State). AllByRecursion (λ (e : Entry). e.seat < seats) x.store.entries) (sym is)
    (copies_seated 0 seat seats (held_offers s.store) below)

-- a pass of another seat is among those that are left once a pass is taken away
has_still : (ps : List PassView) (k : ℕ) (p : PassView) (seat : ℕ) → k < length ps → get_or ps k p ≡ p → seat < p.seat → HasSeat ps seat
    → HasSeat (remove ps k) seat
has_still ps k p seat below is lower has =
    let q : PassView = has.0 in
    let at : Contains ps q = has.1 in
    let j : ℕ = at.0 in
    let len = length-remove ps k below in
    elim (cases_lt j k) [
      | inl before ↦ (q, (j, omega (arith, len, at.1, before, below), get_or-remove_below ps k q j before below ∙ at.2), has.2)
      | inr later ↦ elim (cases_lt k j) [
        | inl after ↦
            let back : j - 1 + 1 ≡ j = omega (arith, after) in (
              q,
              (
                j - 1,
                omega (arith, len, at.1, after),
                get_or-remove_above ps k q (j - 1) (omega (arith, after)) below
                    ∙ ap (λ (i : ℕ). get_or ps i q) back ∙ at.2,
              ),
              has.2,
            )
        | inr same ↦
            let here : j ≡ k = omega (arith, later, same) in
            let one : p ≡ q = sym is ∙ get_or_default ps k p q below ∙ ap (λ (i : ℕ). get_or ps i q) (sym here) ∙ at.2 in
            absurd (omega (arith, lower, ap (λ (x : PassView). x.seat) one, has.2))
      ]
    ]

-- if each seat has a pass, there are as many passes as seats, or more
pub at_least : (n : ℕ) (ps : List PassView) → AllThere n ps → n ≤ length ps
at_least zero ps there = omega arith
at_least (suc n) ps there =
    let last = there n (omega arith) in
    let p : PassView = last.0 in
    let at = last.1 in
    let rest = at_least n (remove ps at.0)
    (λ seat below. has_still ps at.0 p seat at.1 at.2 (omega (arith, below, last.2)) (there seat (omega (arith, below)))) in
    omega (arith, rest, length-remove ps at.0 at.1)

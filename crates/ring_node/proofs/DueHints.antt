-- The hint that is found for an owner.
use Rattle.std.proofs.Common.{◌≡◌, ℕ, ◌<◌, true, false, ◌&&◌, ◌||◌, cond, List, [], ◌∷◌, Option, Some, None, Result, Ok, Err, refl, sym, ◌∙◌, subst}
use Rattle.std.specs.Prelude.{nat_eq, nat_lt, find, IfOk, IfSome}
use Rattle.std.specs.Option.{option_map}
use Rattle.std.proofs.lemmas.Bool.{and_parts, ltb-true, eqb-true}
use Rattle.vclock.specs.Answer.{Answers}
use Rattle.vclock.proofs.BoolLaws.{or-false}
use Rattle.vclock.specs.declared.refusal.Refusal.{Refusal}
use Rattle.hint_store.specs.declared.hint.Hint.{Hint}
use Rattle.hint_store.specs.declared.hint.Kept.{Kept}
use Rattle.hint_store.specs.Hints.{is_pending, is_due, next_hint}

-- a hint of the owner, of a number over `after`
abbrev pub IsFor : ℕ → ℕ → Hint → Type 0
IsFor owner after h = (h.owner ≡ owner) × (after < h.id)

is_for : (owner after : ℕ) (k : Kept) → is_due (owner ∷ []) after k ≡ true → IsFor owner after k.hint
is_for owner after k due =
    let both = and_parts (is_pending k && nat_lt after k.hint.id) (nat_eq k.hint.owner owner || false) due in (
      eqb-true k.hint.owner owner (sym (or-false (nat_eq k.hint.owner owner)) ∙ both.1),
      ltb-true after k.hint.id (and_parts (is_pending k) (nat_lt after k.hint.id) both.0).1,
    )

due_is_for : (owner after : ℕ) (hints : List Kept) → IfSome (next_hint (owner ∷ []) after hints) (IsFor owner after)
due_is_for owner after [] = tt
due_is_for owner after (k ∷ hints) =
    elim (is_due (owner ∷ []) after k) as
    (λ b. is_due (owner ∷ []) after k ≡ b
    → IfSome (option_map (λ k. k.hint) (cond b (Some k) (find (is_due (owner ∷ []) after) hints))) (IsFor owner after)) [
      | true ↦ λ due. is_for owner after k due
      | false ↦ λ due. due_is_for owner after hints
    ] refl

-- what is found for an owner is for it
pub found_is_for : (owner after : ℕ) (hints : List Kept) (r : Result (Option Hint) Refusal)
    → Answers r None (λ found. found ≡ next_hint (owner ∷ []) after hints) → IfOk r (λ found. IfSome found (IsFor owner after))
found_is_for owner after hints (Ok found) a = subst (λ (o : Option Hint). IfSome o (IsFor owner after)) (sym a.1) (due_is_for owner after hints)
found_is_for owner after hints (Err e) a = tt

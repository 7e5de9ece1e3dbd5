-- What follows from an answer.
use Rattle.std.proofs.Common.{Option, Result, Ok, Err}
use Rattle.vclock.specs.Answer.{Answers}
use Rattle.vclock.specs.declared.refusal.Refusal.{Refusal}

-- what follows from what holds of Ok
pub answers_then : {T : Type 0} (r : Result T Refusal) (cause : Option Refusal) (P Q : T → Type 0) → Answers r cause P → ((x : T) → P x → Q x)
    → Answers r cause Q
answers_then (Ok x) cause P Q is f = (is.0, f x is.1)
answers_then (Err e) cause P Q is f = is

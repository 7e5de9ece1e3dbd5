-- The merge of two clocks, for C.
use Rattle.std.specs.Prelude.{◌≡◌, ℕ, List, Option, Result, Ok, Err}
use Rattle.vclock.specs.Answer.{first_fault}
use Rattle.vclock.specs.Clock.{Pairs, clock_of, pairs_fault, merge_fault}
use Rattle.vclock.specs.Refusal.{cause_number}
use Rattle.vclock.specs.declared.refusal.Refusal.{Refusal}
use Rattle.c_calls.specs.Versions.{HandsPairs}
use Rattle.c_calls.specs.declared.pair.Pair.{Pair}

-- the fault of two lists of pairs that have no merged clock
abbrev pub merges_fault : Pairs → Pairs → Option Refusal
merges_fault a b = first_fault (pairs_fault a) (first_fault (pairs_fault b) (merge_fault (clock_of a) (clock_of b)))

-- The caller gets the pairs of a clock; after a refusal only its number.
abbrev pub HandsClock : Result Pairs Refusal → ℕ → ℕ × List Pair → ℕ × List Pair → Type 0
HandsClock (Ok c) code before after = HandsPairs c code before after
HandsClock (Err e) code before after = (code ≡ cause_number e) × (after.0 ≡ before.0) × (after.1 ≡ before.1)

-- A result that satisfies `Right` is copied out.
pub record GivesClock (code : ℕ) (before after : ℕ × List Pair) (Right : Result Pairs Refusal → Type 0) : Type 0 where
  pub outcome : Result Pairs Refusal
  pub handed : HandsClock outcome code before after
  pub right : Right outcome

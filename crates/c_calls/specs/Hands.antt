-- The copies of bytes that C gets.
use Rattle.std.specs.Prelude.{◌≡◌, ℕ, nat_le, List, ◌++◌, length, drop, Option, Some, None, Result, Ok, Err, if◌then◌else◌}
use Rattle.vclock.specs.Refusal.{cause_number}
use Rattle.vclock.specs.declared.refusal.Refusal.{Refusal}
use Rattle.c_calls.specs.Numbers.{SMALL, NO_VERSION}

-- the caller's buffer after items were copied to its front, if all of them fit
abbrev pub copied : {A : Type 0} → List A → List A → List A
copied bytes room = if nat_le (length bytes) (length room) then bytes ++ drop (length bytes) room else room

-- the number of the outcome: 0 if all of them fit, otherwise SMALL
abbrev pub copy_code : {A : Type 0} → List A → List A → ℕ
copy_code bytes room = if nat_le (length bytes) (length room) then 0 else SMALL

-- the stored number and the buffer are the same before and after
abbrev pub HandsNothing : {A : Type 0} → ℕ × List A → ℕ × List A → Type 0
HandsNothing before after = (after.0 ≡ before.0) × (after.1 ≡ before.1)

-- The caller gets the number of bytes, and the bytes if all of them fit; after a refusal only its number. Before and
-- after are the stored number and the buffer.
abbrev pub HandsOut : Result (List ℕ) Refusal → ℕ → ℕ × List ℕ → ℕ × List ℕ → Type 0
HandsOut (Ok bytes) code before after = (code ≡ copy_code bytes before.1) × (after.0 ≡ length bytes) × (after.1 ≡ copied bytes before.1)
HandsOut (Err e) code before after = (code ≡ cause_number e) × (after.0 ≡ before.0) × (after.1 ≡ before.1)

-- A result that satisfies `Right` is copied out.
pub record HandsOutRight (code : ℕ) (before after : ℕ × List ℕ) (Right : Result (List ℕ) Refusal → Type 0) : Type 0 where
  pub outcome : Result (List ℕ) Refusal
  pub handed : HandsOut outcome code before after
  pub right : Right outcome

-- bytes are copied out, if any; otherwise the result is NO_VERSION, and nothing is written
abbrev pub HandsAny : Option (List ℕ) → ℕ → ℕ × List ℕ → ℕ × List ℕ → Type 0
HandsAny None code before after = (code ≡ NO_VERSION) × (after.0 ≡ before.0) × (after.1 ≡ before.1)
HandsAny (Some bytes) code before after = HandsOut (Ok bytes) code before after

-- a number is stored, if any; otherwise the result is NO_VERSION, and nothing is written
abbrev pub TellsAny : Option ℕ → ℕ → ℕ → ℕ → Type 0
TellsAny None code old new = (code ≡ NO_VERSION) × (new ≡ old)
TellsAny (Some n) code old new = (code ≡ 0) × (new ≡ n)

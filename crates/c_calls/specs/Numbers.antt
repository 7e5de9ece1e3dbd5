-- The numbers that calls return.
use Rattle.std.specs.Prelude.{◌≡◌, ℕ, Result, Ok, Err}
use Rattle.vclock.specs.Refusal.{cause_number}
use Rattle.vclock.specs.declared.refusal.Refusal.{Refusal}

-- 0, or the number of a refusal
abbrev pub code_of : {T : Type 0} → Result T Refusal → ℕ
code_of (Ok x) = 0
code_of (Err e) = cause_number e

-- The code is the number of a result that satisfies `Right`.
pub record Returns {T : Type 0} (code : ℕ) (Right : Result T Refusal → Type 0) : Type 0 where
  pub outcome : Result T Refusal
  pub number : code ≡ code_of outcome
  pub right : Right outcome

-- the buffer is too small
abbrev pub SMALL : ℕ
SMALL = 33

-- the handle holds nothing
abbrev pub EMPTY : ℕ
EMPTY = 34

-- the handle holds something already
abbrev pub HELD : ℕ
HELD = 35

-- the key has no such version, or the journal no such entry
abbrev pub NO_VERSION : ℕ
NO_VERSION = 36

-- the number is not a position of the journal
abbrev pub BAD_POSITION : ℕ
BAD_POSITION = 37

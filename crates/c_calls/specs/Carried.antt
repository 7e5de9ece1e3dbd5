-- The numbers of hints in C. The hints of a store are numbered from 1; in C their numbers continue through renewals and
-- restarts.
use Rattle.std.specs.Prelude.{ℕ, ◌+◌, ◌-◌, ◌^◌, Bool, ◌==◌, nat_lt, nat_le, List, [], ◌∷◌, length, Option, Some, None, if◌then◌else◌}
use Rattle.std.specs.Option.{option_and_then}
use Rattle.vclock.specs.Bytes.{key_fault}
use Rattle.vclock.specs.Clock.{Pairs, clock_of, pairs_fault}
use Rattle.vclock.specs.Outcome.{Outcome, gives, through, ◌>>=◌, ◌>>◌}
use Rattle.vclock.specs.declared.format.Format.TheVariants.{Two}
use Rattle.vclock.specs.declared.refusal.Refusal.{Refusal}
use Rattle.vclock.specs.declared.refusal.Refusal.TheVariants.{HintsFull, UnknownHint}
use Rattle.version_set.specs.Kind.{value_fault}
use Rattle.hint_store.specs.Hints.{kept_at, keep, settle, next_hint, pending_count}
use Rattle.hint_store.specs.Renewals.{renewed}
use Rattle.hint_store.specs.declared.hint.Kept.{Kept}
use Rattle.c_calls.specs.Puts.{node_fault, kind_fault, kind_numbered}

-- a carrier's hints: hint n of the store has the number before + n
pub record Carried : Type 0 where
  pub before : ℕ
  pub hints : List Kept

abbrev pub carried : ℕ → List Kept → Carried
carried before hints = record { before = before; hints = hints }

-- the hint of a number: none up to `before`, since no hint of a store has the number 0
abbrev pub named : Carried → ℕ → Option Kept
named c n = kept_at c.hints (n - c.before)

-- the greatest number that was used
abbrev pub last_number : Carried → ℕ
last_number c = c.before + length c.hints

-- the fault of using numbers up to n
abbrev pub number_fault : ℕ → Option Refusal
number_fault n = if nat_lt n (2 ^ 64) then None else Some HintsFull

-- a version is kept for an owner under the next number; its value may have the length that format 2 allows
abbrev pub keep_at : Carried → ℕ → List ℕ → Pairs → ℕ → List ℕ → Outcome ℕ Carried
keep_at c owner key clock kind value = do
  node_fault owner
  pairs_fault clock
  kind_fault kind
  key_fault key
  value_fault Two (kind_numbered kind) value
  number_fault (last_number c + 1)
  kept ← keep c.hints owner key (record { clock = clock_of clock; kind = kind_numbered kind; value = value })
  gives (c.before + kept.0) (carried c.before kept.1)

-- the number of hint n of the store, if it is below 2 ^ 64
abbrev pub number_of : Carried → ℕ → Option ℕ
number_of c n = if nat_lt (c.before + n) (2 ^ 64) then Some (c.before + n) else None

-- the number of the pending hint of an owner with the least number over `after`; no owner has a number over 65,535
abbrev pub next_number : Carried → ℕ → ℕ → Option ℕ
next_number c owner after =
    if nat_le owner 65535 then option_and_then (λ h. number_of c h.id) (next_hint (owner ∷ []) (after - c.before) c.hints) else None

-- the pending hint of a number is delivered to its owner, who knew its version or not
abbrev pub settle_at : Carried → ℕ → Bool → Outcome (Unit {0}) Carried
settle_at c n known = through (carried c.before) (settle c.hints (n - c.before) known)

-- the delivered hints are dropped, and the pending ones get new numbers, above all that were used
abbrev pub renew : Carried → Outcome (Unit {0}) Carried
renew c = do
  number_fault (last_number c + pending_count c.hints)
  gives tt (carried (last_number c) (renewed c.hints))

-- the fault of a first number
abbrev pub restore_fault : ℕ → Option Refusal
restore_fault first = if first == 0 then Some UnknownHint else None

-- no hints; the first one will have the number `first`
abbrev pub restored : ℕ → Carried
restored first = carried (first - 1) []

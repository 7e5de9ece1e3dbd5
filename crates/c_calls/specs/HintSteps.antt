-- The life of a carrier's hints, call by call: no number ever names two hints.
use Rattle.std.specs.Prelude.{◌≡◌, ℕ, ◌^◌, ◌<◌, ◌≤◌, Bool, ◌&&◌, List, [], ◌∷◌, Option, Some, MatchOption, nat_lt, if◌then◌else◌}
use Rattle.std.specs.Option.{option_map}
use Rattle.vclock.specs.Clock.{Pairs}
use Rattle.vclock.specs.Outcome.{Outcome, gives, refuses}
use Rattle.version_set.specs.declared.version.Version.{Version}
use Rattle.hint_store.specs.declared.hint.Hint.{Hint}
use Rattle.hint_store.specs.declared.hint.Kept.{Kept}
use Rattle.c_calls.specs.Carried.{Carried, named, last_number, keep_at, settle_at, renew, restored}

-- the hint that a number names, pending or delivered
abbrev pub hint_named : Carried → ℕ → Option Hint
hint_named c n = option_map (λ (k : Kept). k.hint) (named c n)

-- a call that changes a carrier's hints, or the carrier's restart, with its arguments
pub data HintStep : Type 0 where
  keeps : ℕ → List ℕ → Pairs → ℕ → List ℕ → HintStep
  settles : ℕ → Bool → HintStep
  renews : HintStep
  restores : ℕ → HintStep

-- the hints after an outcome: a refused call changes nothing
abbrev pub after_outcome : {T : Type 0} → Carried → Outcome T Carried → Carried
after_outcome old (gives x new) = new
after_outcome old (refuses e) = old

-- the hints after a step; a restart begins at a number above all that were used, and below 2 ^ 64
abbrev pub after_step : Carried → HintStep → Carried
after_step c (keeps owner key clock kind value) = after_outcome c (keep_at c owner key clock kind value)
after_step c (settles n known) = after_outcome c (settle_at c n known)
after_step c renews = after_outcome c (renew c)
after_step c (restores first) = if nat_lt (last_number c) first && nat_lt first (2 ^ 64) then restored first else c

abbrev pub after_steps : Carried → List HintStep → Carried
after_steps c [] = c
after_steps c (step ∷ steps) = after_steps (after_step c step) steps

-- From old to new no number changed its hint: a number that was used names in new the hint that it named in old, or
-- none, and new hints have greater numbers.
pub record GoesOn (old new : Carried) : Type 0 where
  pub later : last_number old ≤ last_number new
  pub same : (n : ℕ) → n ≤ last_number old → (h : Hint) → hint_named new n ≡ Some h → hint_named old n ≡ Some h

-- A version was kept: its number was never used, and names the hint of that owner, key and version.
pub record IsKept (old new : Carried) (n owner : ℕ) (key : List ℕ) (version : Version) : Type 0 where
  pub unused : last_number old < n
  pub names : MatchOption (hint_named new n) ⊥ (λ h. (h.owner ≡ owner) × (h.key ≡ key) × (h.version ≡ version))

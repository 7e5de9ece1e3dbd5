-- The sorted index of the pending hints.
use Rattle.std.specs.Prelude.{◌≡◌, ℕ, ◌<◌, ◌⊎◌, Bool, ◌&&◌, ◌||◌, List, nat_lt, nat_le, nat_eq, AllPairs, count_by, min, Option, Some, None, if◌then◌else◌}
use Rattle.hint_store.specs.declared.hint.Kept.{Kept}
use Rattle.hint_store.specs.declared.store.Waiting.{Waiting}
use Rattle.hint_store.specs.Hints.{is_pending}

-- by owner, then by number
abbrev pub IsBefore : Waiting → Waiting → Type 0
IsBefore v w = (v.owner < w.owner) ⊎ ((v.owner ≡ w.owner) × (v.id < w.id))

-- an entry has the owner and the number, or is before that entry
abbrev pub is_up_to : ℕ → ℕ → Waiting → Bool
is_up_to owner id w = nat_lt w.owner owner || (nat_eq w.owner owner && nat_le w.id id)

-- the owner and the number of a hint pass the test, and the hint is pending
abbrev pub waits_by : (ℕ → ℕ → Bool) → Kept → Bool
waits_by p k = p k.hint.owner k.hint.id && is_pending k

-- the entries ascend, and are the owners and numbers of the pending hints
pub record AreWaiting (hints : List Kept) (index : List Waiting) : Type 0 where
  pub ascending : AllPairs IsBefore index
  pub all : (p : ℕ → ℕ → Bool) → count_by (λ w. p w.owner w.id) index ≡ count_by (waits_by p) hints

-- the lesser of two numbers if both are present, otherwise the one that is, if any
abbrev pub earliest : Option ℕ → Option ℕ → Option ℕ
earliest None b = b
earliest (Some a) None = Some a
earliest (Some a) (Some b) = Some (min a b)

-- the number of an entry, if it is present and belongs to that owner
abbrev pub id_of : ℕ → Option Waiting → Option ℕ
id_of owner None = None
id_of owner (Some w) = if nat_eq w.owner owner then Some w.id else None

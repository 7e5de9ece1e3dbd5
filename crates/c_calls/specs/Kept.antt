-- The numbers of a replica's entries in C. A journal numbers its entries from 0; in C their numbers continue over
-- renewals.
use Rattle.std.specs.Prelude.{ℕ, ◌+◌, ◌-◌, ◌^◌, nat_lt, List, length, take, min, slice_get, Option, Some, None, if◌then◌else◌}
use Rattle.vclock.specs.Answer.{first_fault}
use Rattle.vclock.specs.declared.refusal.Refusal.{Refusal}
use Rattle.vclock.specs.declared.refusal.Refusal.TheVariants.{JournalFull}
use Rattle.range_journal.specs.declared.journal.Entry.{Entry}
use Rattle.range_store.specs.Renewals as stores
use Rattle.range_state.specs.Moments.{last_whole}
use Rattle.range_state.specs.Renewals.{renewed_by}
use Rattle.range_state.specs.State.{State}

-- a replica's state; the number in C of its journal's first entry; and the number of entries at which the last renewal
-- began, 0 if there was none
pub record KeptState : Type 0 where
  pub state : State
  pub first : ℕ
  pub renewed : ℕ

-- the state whose entries are numbered from 0
abbrev pub numbered : State → KeptState
numbered s = record { state = s; first = 0; renewed = 0 }

-- the same numbers, and another state
abbrev pub with_state : KeptState → State → KeptState
with_state k s = record k { state = s }

-- the number of entries, with those before the journal's first one: it is the number of the next entry
abbrev pub entries_in : KeptState → ℕ
entries_in k = k.first + length k.state.store.entries

-- the entry of a number, if the journal has it
abbrev pub entry_at : KeptState → ℕ → Option Entry
entry_at k number = if nat_lt number k.first then None else slice_get k.state.store.entries (number - k.first)

-- the journal's entries of numbers below `entries`
abbrev pub entries_below : KeptState → ℕ → List Entry
entries_below k entries = take (entries - k.first) k.state.store.entries

-- the number of entries at the last moment that was whole; a moment never has more entries than the journal
abbrev pub front_in : KeptState → ℕ
front_in k = k.first + min (last_whole k.state) (length k.state.store.entries)

-- the fault of numbers that a journal of 1,000,000 entries could take over 2^64 - 1
abbrev pub number_fault : KeptState → Option Refusal
number_fault k = if nat_lt (entries_in k + 1000000) (2 ^ 64) then None else Some JournalFull

-- the fault of a renewal with a limit
abbrev pub renewal_fault : KeptState → ℕ → Option Refusal
renewal_fault k limit = first_fault (stores.renew_fault k.state.store limit) (number_fault k)

-- a renewed state; the last number that was used belongs to its last entry
abbrev pub renewed_kept : KeptState → ℕ → KeptState
renewed_kept k limit = record { state = renewed_by k.state 0 limit; first = entries_in k - length (renewed_by k.state 0 limit).store.entries; renewed = entries_in k }

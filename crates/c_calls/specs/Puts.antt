-- Versions from C: their numbers may be invalid.
use Rattle.std.specs.Prelude.{◌≡◌, ℕ, ◌+◌, ◌&&◌, nat_le, ◌==◌, List, Option, Some, None, Result, Ok, Err, if◌then◌else◌}
use Rattle.vclock.specs.Answer.{first_fault}
use Rattle.vclock.specs.Bytes.{key_fault}
use Rattle.vclock.specs.Clock.{Pairs, counter, clock_of, pairs_fault}
use Rattle.vclock.specs.Outcome.{Outcome, ◌>>◌}
use Rattle.vclock.specs.declared.refusal.Refusal.{Refusal}
use Rattle.vclock.specs.declared.format.Format.{Format}
use Rattle.vclock.specs.declared.refusal.Refusal.TheVariants.{BadClock, BadValue, NoMemory}
use Rattle.version_set.specs.Kind.{value_fault}
use Rattle.version_set.specs.declared.kind.Kind.{Kind}
use Rattle.version_set.specs.declared.kind.Kind.TheVariants.{Live, Tombstone}
use Rattle.range_journal.specs.declared.journal.Entry.{Entry}
use Rattle.range_journal.specs.declared.journal.Source.TheVariants.{Copy}
use Rattle.range_state.specs.State.{State, accept, put_by}
use Rattle.range_store.specs.declared.context_test.ContextTest.{ContextTest}
use Rattle.range_store.specs.declared.context_test.ContextTest.TheVariants.{Fresh, Read}
use Rattle.range_store.specs.declared.receipt.Accepted.{Accepted}
use Rattle.range_store.specs.declared.receipt.Accepted.TheVariants.{Taken, Known}
use Rattle.c_calls.specs.declared.puts.PutReceipt.{PutReceipt}

-- the fault of a number that is not a node's: nodes have numbers from 1 to 65,535
abbrev pub node_fault : ℕ → Option Refusal
node_fault node = if nat_le 1 node && nat_le node 65535 then None else Some BadClock

-- the fault of a number that is not a kind's
abbrev pub kind_fault : ℕ → Option Refusal
kind_fault kind = if nat_le kind 1 then None else Some BadValue

-- the kind of a number: 0 for a live version, 1 for a tombstone
abbrev pub kind_numbered : ℕ → Kind
kind_numbered kind = if kind == 0 then Live else Tombstone

-- the fault of a key and of a version's parts, which is found before any of them is copied
abbrev pub parts_fault : Format → List ℕ → Pairs → ℕ → List ℕ → Option Refusal
parts_fault format key clock kind value =
    first_fault (pairs_fault clock) (first_fault (kind_fault kind) (first_fault (key_fault key) (value_fault format (kind_numbered kind) value)))

-- the result is NoMemory only if none of these early causes applies
abbrev pub NoMemoryAfter : {T : Type 0} → Option Refusal → Result T Refusal → Type 0
NoMemoryAfter early (Ok x) = Unit {0}
NoMemoryAfter early (Err e) = e ≡ NoMemory → early ≡ None

-- a put by seat 0, by a test of its context
abbrev pub put_at_by : ContextTest → State → ℕ → List ℕ → Pairs → ℕ → List ℕ → Outcome Entry State
put_at_by test s node key context kind value = do
  node_fault node
  pairs_fault context
  kind_fault kind
  put_by test s 0 node key (clock_of context) (kind_numbered kind) value

-- a put, and one that checks what its client has read
abbrev pub put_at : State → ℕ → List ℕ → Pairs → ℕ → List ℕ → Outcome Entry State
put_at s node key context kind value = put_at_by Fresh s node key context kind value

abbrev pub put_read_at : State → ℕ → List ℕ → Pairs → ℕ → List ℕ → Outcome Entry State
put_read_at s node key context kind value = put_at_by Read s node key context kind value

-- the caller gets the receipt of its entry, unless the put was refused; the journal's first entry is number `first`
abbrev pub TellsPut : ℕ → ℕ → Result Entry Refusal → PutReceipt → PutReceipt → Type 0
TellsPut first node (Ok e) old new = new ≡ record { number = first + e.number; counter = counter e.version.clock node }
TellsPut first node (Err e) old new = new ≡ old

-- a version of another replica, accepted as a copy by seat 0
abbrev pub accept_at : State → List ℕ → Pairs → ℕ → List ℕ → Outcome Accepted State
accept_at s key clock kind value = do
  pairs_fault clock
  kind_fault kind
  accept s 0 Copy key (record { clock = clock_of clock; kind = kind_numbered kind; value = value })

-- the caller gets 1 if the version was new and 0 if it was known, unless it was refused
abbrev pub TellsAccepted : Result Accepted Refusal → ℕ → ℕ → Type 0
TellsAccepted (Ok (Taken e)) old new = new ≡ 1
TellsAccepted (Ok Known) old new = new ≡ 0
TellsAccepted (Err e) old new = new ≡ old

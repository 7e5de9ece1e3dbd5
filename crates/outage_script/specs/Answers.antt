-- The texts of answers.
use Rattle.std.specs.Prelude.{ℕ, List, [], ◌∷◌, ◌++◌, codes, Option, Some, None}
use Rattle.serde_json.specs.Data.{Data, Items, no_items, item, Members, no_members, member, null, boolean, number, unsigned, string, array, object}
use Rattle.serde_json.specs.Written.{compact_text}
use Rattle.hex.specs.Hex.{encode_lower}
use Rattle.vclock.specs.Clock.{Pairs}
use Rattle.version_set.specs.declared.kind.Kind.{Kind}
use Rattle.version_set.specs.declared.kind.Kind.TheVariants.{Live, Tombstone}
use Rattle.version_set.specs.declared.version.Version.{Version}
use Rattle.vclock.specs.Refusal.{cause_number, name_of}
use Rattle.vclock.specs.declared.refusal.Refusal.{Refusal}
use Rattle.vclock.specs.declared.refusal.Refusal.TheVariants as Refusals
use Rattle.outage_cluster.specs.declared.answer.CommandAnswer.{CommandAnswer}
use Rattle.outage_cluster.specs.declared.answer.CommandAnswer.TheVariants.{Ring, Put, Versions, Row, Rehash, Sync, Node, Up, Deliver, Slots, Adjusted, Sample, Refused, BadLine}

-- an item for each element of a list
abbrev pub items_of : {A : Type 0} → (A → Data) → List A → Items
items_of f [] = no_items
items_of f (a ∷ more) = item (f a) (items_of f more)

-- a list of values
abbrev pub list_data : {A : Type 0} → (A → Data) → List A → Data
list_data f list = array (items_of f list)

-- a whole number
abbrev pub number_data : ℕ → Data
number_data n = number (unsigned n)

-- a node and its counter
abbrev pub pair_data : ℕ × ℕ → Data
pair_data p = array (item (number_data p.0) (item (number_data p.1) no_items))

-- the pairs of a clock, by ascending node
abbrev pub clock_data : Pairs → Data
clock_data c = list_data pair_data c

-- bytes as hexadecimal digits in lower case
abbrev pub bytes_data : List ℕ → Data
bytes_data bytes = string (encode_lower bytes)

-- an object of members by ascending name
abbrev pub members_of : List (List ℕ × Data) → Members
members_of [] = no_members
members_of (m ∷ more) = member m.0 m.1 (members_of more)

abbrev pub object_of : List (List ℕ × Data) → Data
object_of ms = object (members_of ms)

-- a value, or null for a tombstone
abbrev pub value_data : Kind → List ℕ → Data
value_data Live value = bytes_data value
value_data Tombstone value = null

abbrev pub version_data : Version → Data
version_data v = object_of ((codes "clock", clock_data v.clock) ∷ (codes "value", value_data v.kind v.value) ∷ [])

-- a digest, or null for a dirty node
abbrev pub digest_data : Option (List ℕ) → Data
digest_data (Some digest) = bytes_data digest
digest_data None = null

-- a number, or null for None
abbrev pub maybe_number : Option ℕ → Data
maybe_number (Some n) = number_data n
maybe_number None = null

-- the report of a sync: the number of versions that were accepted, the number of nodes that were asked, the number of
-- versions that were known, and the refusal of a leaf, if any
abbrev pub sync_data : ℕ → ℕ → ℕ → Option Refusal → Data
sync_data accepted asked known None = object_of ((codes "accepted", number_data accepted) ∷ (codes "asked", number_data asked) ∷ (codes "known", number_data known) ∷ (codes "state", string (codes "Finished")) ∷ [])
sync_data accepted asked known (Some refusal) = object_of ((codes "accepted", number_data accepted) ∷ (codes "asked", number_data asked) ∷ (codes "cause", string (name_of refusal)) ∷ (codes "known", number_data known) ∷ (codes "refused", number_data (cause_number refusal)) ∷ (codes "state", string (codes "Open")) ∷ [])

-- a refusal: its name and its number, and with StaleContext the clocks that are held
abbrev pub refusal_data : Refusal → Data
refusal_data (Refusals.StaleContext held) = object_of ((codes "cause", string (name_of (Refusals.StaleContext held))) ∷ (codes "held", list_data clock_data held) ∷ (codes "refused", number_data (cause_number (Refusals.StaleContext held))) ∷ [])
refusal_data refusal = object_of ((codes "cause", string (name_of refusal)) ∷ (codes "refused", number_data (cause_number refusal)) ∷ [])

-- the value of an answer
abbrev pub answer_data : CommandAnswer → Data
answer_data (Ring nodes ranges) = object_of ((codes "nodes", number_data nodes) ∷ (codes "ranges", number_data ranges) ∷ [])
answer_data (Put clock copied hinted n) = object_of ((codes "clock", clock_data clock) ∷ (codes "copied", number_data copied) ∷ (codes "hinted", number_data hinted) ∷ (codes "number", number_data n) ∷ [])
answer_data (Versions versions) = object_of ((codes "versions", list_data version_data versions) ∷ [])
answer_data (Row text) = object_of ((codes "row", bytes_data text) ∷ [])
answer_data (Rehash hashed) = object_of ((codes "hashed", number_data hashed) ∷ [])
answer_data (Sync done) = sync_data done.accepted done.asked done.known done.fault
answer_data (Node digest) = object_of ((codes "digest", digest_data digest) ∷ [])
answer_data (Up node up) = object_of ((codes "node", number_data node) ∷ (codes "up", boolean up) ∷ [])
answer_data (Deliver delivered known pending) = object_of ((codes "delivered", number_data delivered) ∷ (codes "known", number_data known) ∷ (codes "pending", number_data pending) ∷ [])
answer_data (Slots s) = object_of ((codes "allowance", number_data s.allowance) ∷ (codes "free", number_data s.free) ∷ (codes "lent", number_data s.lent) ∷ (codes "target", number_data s.target) ∷ [])
answer_data (Adjusted s p) = object_of ((codes "allowance", number_data s.allowance) ∷ (codes "free", number_data s.free) ∷ (codes "lent", number_data s.lent) ∷ (codes "p99", maybe_number p) ∷ (codes "target", number_data s.target) ∷ [])
answer_data (Sample kept) = object_of ((codes "samples", number_data kept) ∷ [])
answer_data (Refused refusal) = refusal_data refusal
answer_data (BadLine line) = object_of ((codes "cause", string (name_of Refusals.BadLine)) ∷ (codes "line", number_data line) ∷ (codes "refused", number_data (cause_number Refusals.BadLine)) ∷ [])

-- the text of an answer, with its line feed
abbrev pub answer_line : CommandAnswer → List ℕ
answer_line answer = compact_text (answer_data answer) ++ 10 ∷ []

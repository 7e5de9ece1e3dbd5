-- Versions that are offered to a store, each accepted in its turn.
use Rattle.std.specs.Prelude.{ℕ, nat_le, List, [], ◌∷◌, length, map, Option, Some, None, if◌then◌else◌}
use Rattle.std.specs.List.{flat_map}
use Rattle.vclock.specs.Answer.{first_fault}
use Rattle.vclock.specs.declared.refusal.Refusal.{Refusal}
use Rattle.vclock.specs.declared.refusal.Refusal.TheVariants as refusals
use Rattle.version_set.specs.Version.{offer_fault}
use Rattle.version_set.specs.declared.version.Version.{Version}
use Rattle.range_journal.specs.declared.journal.Source.{Source}
use Rattle.range_journal.specs.Journal.{held}
use Rattle.row_bytes.specs.declared.row.Row.{Row}
use Rattle.range_store.specs.Store.{Store, accept_step}

-- the versions of rows with their keys, in order
abbrev pub offers_in : Row → List (List ℕ × Version)
offers_in r = map (λ (v : Version). (r.key, v)) r.versions

abbrev pub offers_of : List Row → List (List ℕ × Version)
offers_of rows = flat_map offers_in rows

-- the store after each version was accepted in its turn, as from a source
abbrev pub accepted_in : Store → ℕ → Source → List (List ℕ × Version) → Store
accepted_in s seat source [] = s
accepted_in s seat source (o ∷ offers) = accepted_in (accept_step s seat source o.0 o.1) seat source offers

-- the fault of accepting them all, apart from a full journal: one of them, in its turn, would be a version too many for
-- its key
abbrev pub crowded_in : Store → ℕ → Source → List (List ℕ × Version) → Option Refusal
crowded_in s seat source [] = None
crowded_in s seat source (o ∷ offers) = first_fault (offer_fault o.1 (held s.entries o.0)) (crowded_in (accept_step s seat source o.0 o.1) seat source offers)

-- the fault of accepting them all
abbrev pub accept_fault : Store → ℕ → Source → List (List ℕ × Version) → Option Refusal
accept_fault s seat source offers = first_fault (crowded_in s seat source offers) (if nat_le (length (accepted_in s seat source offers).entries) s.config.limit then None else Some refusals.JournalFull)

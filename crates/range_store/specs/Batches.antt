-- Versions that are prepared, to be accepted together.
use Rattle.std.specs.Prelude.{◌≡◌, ℕ, ◌+◌, ◌<◌, None, List, ◌++◌, length}
use Rattle.std.specs.List.{AllByRecursion}
use Rattle.vclock.specs.Clock.{IsClock}
use Rattle.version_set.specs.declared.version.Version.{Version}
use Rattle.range_journal.specs.Log.{AreNumberedFrom}
use Rattle.range_journal.specs.declared.journal.Source.{Source}
use Rattle.row_bytes.specs.declared.row.Row.{Row}
use Rattle.range_store.specs.declared.store.batch.Batch.{Batch}
use Rattle.range_store.specs.Config.{Config}
use Rattle.range_store.specs.Store.{Store, leaf_in, leaf_count, place_fault, bucket_of}
use Rattle.range_store.specs.Offers.{accepted_in, crowded_in}

-- a row of a leaf of the range, whose versions have their place there
pub record IsRowFor (c : Config) (leaf : ℕ) (r : Row) : Type 0 where
  pub leaf_is : leaf ≡ leaf_in c r.key
  pub here : AllByRecursion (λ (v : Version). place_fault c r.key v.kind v.value ≡ None) r.versions

-- the store with the entries that are prepared
abbrev pub ahead : Store → Batch → Store
ahead s b = record s { entries = s.entries ++ b.entries.items }

-- the leaf has its rows with the entries that are prepared, which have the next numbers
pub record IsBatch (s : Store) (leaf : ℕ) (b : Batch) : Type 0 where
  pub leaf_is : b.leaf ≡ bucket_of s.config (ahead s b).entries leaf
  pub numbered : AreNumberedFrom (length s.entries) b.entries.items

-- the number of versions that were looked at
abbrev pub seen_count : Batch → ℕ
seen_count b = length b.entries.items + b.known

-- the batch after these versions, each in its turn
pub record IsPrepared (s : Store) (seat : ℕ) (source : Source) (leaf : ℕ) (offers : List (List ℕ × Version)) (before now : Batch) : Type 0 where
  pub batch : IsBatch s leaf now
  pub entries : (ahead s now).entries ≡ (accepted_in (ahead s before) seat source offers).entries
  pub count : seen_count now ≡ seen_count before + length offers

-- a version that has its place in a leaf of a range
pub record IsOfferFor (c : Config) (leaf : ℕ) (key : List ℕ) (v : Version) : Type 0 where
  pub leaf_is : leaf ≡ leaf_in c key
  pub here : place_fault c key v.kind v.value ≡ None
  pub clock : IsClock v.clock

-- a batch of these versions, each in its turn
pub record IsBatchOf (s : Store) (seat : ℕ) (source : Source) (leaf : ℕ) (offers : List (List ℕ × Version)) (b : Batch) : Type 0 where
  pub batch : IsBatch s leaf b
  pub entries : (ahead s b).entries ≡ (accepted_in s seat source offers).entries
  pub count : seen_count b ≡ length offers

-- a batch of versions that have their place in a leaf, with none refused
pub record IsAcceptable (s : Store) (seat : ℕ) (source : Source) (leaf : ℕ) (offers : List (List ℕ × Version)) (b : Batch) : Type 0 where
  pub inside : leaf < leaf_count s.config
  pub homes : AllByRecursion (λ o. IsOfferFor s.config leaf o.0 o.1) offers
  pub fits : crowded_in s seat source offers ≡ None
  pub batch : IsBatchOf s seat source leaf offers b

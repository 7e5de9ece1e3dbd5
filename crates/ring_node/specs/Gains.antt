-- The gains of a pass by a worker.
use Rattle.std.specs.Prelude.{◌≡◌, ℕ, ◌+◌, ◌<◌, ◌≤◌, List, ◌++◌, length}
use Rattle.std.specs.List.{AllByRecursion}
use Rattle.range_journal.specs.declared.journal.Entry.{Entry}
use Rattle.range_journal.specs.declared.journal.Source.{Source}
use Rattle.caller_pass.specs.Passes.{PassView}

-- an entry of that seat from that source, within the first `seen` entries
pub record IsGain (seat : ℕ) (source : Source) (seen : ℕ) (e : Entry) : Type 0 where
  pub seat_is : e.seat ≡ seat
  pub source_is : e.source ≡ source
  pub seen_is : e.number < seen

-- the pass has n more receipts, of entries of its seat from that source, and otherwise only the part that it has seen
-- may have grown
pub record Gains (p q : PassView) (source : Source) (n : ℕ) : Type 0 where
  pub gained : List Entry
  pub count : length gained ≡ n
  pub each : AllByRecursion (IsGain p.seat source q.seen) gained
  pub receipts : q.receipts ≡ p.receipts ++ gained
  pub share : q.share ≡ p.share + n
  pub seen : p.seen ≤ q.seen
  pub seat : q.seat ≡ p.seat
  pub readings : q.readings ≡ p.readings

-- the pass has some number of receipts more
abbrev pub GainsSome : PassView → PassView → Source → Type 0
GainsSome p q source = (n : ℕ) × Gains p q source n

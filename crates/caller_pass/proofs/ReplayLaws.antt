-- Readings against a replay of the journal.
use Rattle.std.proofs.Common.{◌≡◌, ℕ, ◌<◌, ◌≤◌, List, length, get_or, take, refl, sym, subst, arith, ◌∙◌}
use Rattle.std.proofs.lemmas.List.{get_or_default, get_or-take, length-take-le}
use Rattle.std.proofs.lemmas.Option.{slice_get_read}
use Rattle.range_journal.specs.declared.journal.Entry.{Entry}
use Rattle.range_journal.specs.Journal.{held}
use Rattle.range_journal.specs.Replays.{Replayed}
use Rattle.caller_pass.specs.declared.reading.Reading.{Reading}
use Rattle.caller_pass.specs.Closings.{IsTrueReading, IsFalseAt}

-- a reading whose versions the replay holds at its front
pub true_at : (entries : List Entry) (rs : List Reading) (i : ℕ) (r d : Reading) (replay : Replayed) (key : List ℕ) → i < length rs
    → r ≡ get_or rs i r → replay ≡ record { entries = entries; front = r.front }
    → r.front ≤ length entries → key ≡ r.key → held (take replay.front replay.entries) key ≡ r.versions → IsTrueReading entries (get_or rs i d)
true_at entries rs i r d replay key below is now within same holds =
    let true_reading : IsTrueReading entries r = record {
      within = within;
      versions = sym (λ j. held (take (now j).front (now j).entries) (same j)) ∙ holds;
    } in
    subst (IsTrueReading entries) (is ∙ get_or_default rs i r d below) true_reading

-- a reading whose versions the replay does not hold at its front, where those before it are true
pub false_at : (entries : List Entry) (rs : List Reading) (i : ℕ) (r : Reading) (replay : Replayed) (key : List ℕ) → i < length rs → r ≡ get_or rs i r
    → replay ≡ record { entries = entries; front = r.front } → key ≡ r.key
    → ((d : Reading) (k : ℕ) → k < i → IsTrueReading entries (get_or rs k d)) → (¬ (held (take replay.front replay.entries) key ≡ r.versions))
    → IsFalseAt entries rs i
false_at entries rs i r replay key below is now same before differ = record {
  before = λ k d within.
      let lt : k < i = omega (arith, length-take-le i rs (omega arith)) in
      subst (IsTrueReading entries) (sym (get_or-take i rs k d lt)) (before d k lt);
  reading = r;
  there = slice_get_read rs (length rs) i r refl below is;
  not_true = λ h. differ ((λ j. held (take (now j).front (now j).entries) (same j)) ∙ h.versions);
}

-- Reports of workers, and counts of slots.
use Rattle.std.specs.Prelude.{◌≡◌, ℕ, ◌+◌, ◌≤◌, false, if◌then◌else◌}
use Rattle.ring_node.specs.declared.rehasher.RehashReport.{RehashReport}
use Rattle.admission.specs.Admission.{Admission, free_of, allowance_of}
use Rattle.ring_node.specs.declared.controller.Counts.{Counts}
use Rattle.snapshot.specs.RowMaps.{RowMap}
use Rattle.range_state.specs.State.{rows_at}
use Rattle.range_state.specs.Moments.{front_of}
use Rattle.caller_pass.specs.Locks.{Locked}

-- the turns: one for each digest, and one for finding no dirty node; if a job was found each time, all are used
abbrev pub IsRehashReport : ℕ → RehashReport → Type 0
IsRehashReport turns r = (r.installed + r.stale + (if r.clean then 1 else 0) ≤ turns) × ((r.clean ≡ false) → r.installed + r.stale ≡ turns)

-- the controller has these counts
pub record AreCounts (a : Admission) (c : Counts) : Type 0 where
  pub lent : c.lent ≡ a.slots
  pub free : c.free ≡ free_of a
  pub allowance : c.allowance ≡ allowance_of a

-- the rows belong to the moment that the range keeps
abbrev pub IsSnapshotOfMoment : RowMap → Locked → Type 0
IsSnapshotOfMoment rows locked = rows ≡ rows_at locked.state.store (front_of locked.state.moment)

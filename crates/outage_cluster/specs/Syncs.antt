-- The results of a sync, and the state after it: section 4.7 of the Dynamo paper.
use Rattle.std.specs.Prelude.{◌≡◌, ◌+◌, ◌-◌, ◌++◌, [], ◌∷◌, length, Option, Some, None}
use Rattle.vclock.specs.Answer.{first_fault}
use Rattle.vclock.specs.declared.refusal.Refusal.{Refusal}
use Rattle.vclock.specs.declared.refusal.Refusal.TheVariants.{OtherRange}
use Rattle.snapshot.specs.RowMaps.{RowMap}
use Rattle.sync_session.specs.Differing.{differ}
use Rattle.range_store.specs.Store as range
use Rattle.range_store.specs.Store.{dirty_fault, rows_now}
use Rattle.range_state.specs.Sessions.{crowd_fault}
use Rattle.range_state.specs.Syncs.{Progress, synced, ended}
use Rattle.range_state.specs.declared.state.sync.Synced.{Synced}
use Rattle.outage_cluster.specs.State.{Replica}

-- the fault of a node that cannot open a session: it does not keep the range, too many sessions are open, or a node of
-- its tree is dirty
abbrev pub session_fault : Option Replica → Option Refusal
session_fault None = Some OtherRange
session_fault (Some r) = first_fault (crowd_fault r.sessions) (dirty_fault r.range)

-- the fault of a sync of a node with another: the other does not keep the range, or a node of its tree is dirty; or
-- this one cannot open a session
abbrev pub walk_fault : Option range.Store → Option Replica → Option Refusal
walk_fault None own = Some OtherRange
walk_fault (Some h) own = first_fault (dirty_fault h) (session_fault own)

-- the progress of a replica that fetches the versions that another has, in the leaves at which their trees differ, at
-- the script's seat
abbrev pub progress : RowMap → Replica → Progress
progress other r = synced r.range 0 other

-- the replica after a sync
abbrev pub after_sync : Progress → Replica → Replica
after_sync p r = record { node = r.node; range = p.store; sessions = r.sessions ++ ended p.fault ∷ [] }

abbrev pub synced_with : RowMap → Replica → Replica
synced_with other r = after_sync (progress other r) r

-- the report of a sync: each node at which the trees differ was asked
abbrev pub report_of : Replica → RowMap → Progress → Synced
report_of r other p = record { accepted = length p.store.entries - length r.range.entries; known = p.known; asked = length (differ (rows_now r.range) other); fault = p.fault }

abbrev pub sync_report : Replica → RowMap → Synced
sync_report r other = report_of r other (progress other r)

-- the counts and the refusal of a sync
pub record IsReported (r : Replica) (other : RowMap) (a : Synced) : Type 0 where
  pub accepted : length r.range.entries + a.accepted ≡ length (progress other r).store.entries
  pub asked : a.asked ≡ length (differ (rows_now r.range) other)
  pub known : a.known ≡ (progress other r).known
  pub fault : a.fault ≡ (progress other r).fault

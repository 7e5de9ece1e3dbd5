-- The counts of a range.
use Rattle.std.specs.Prelude.{length}
use Rattle.tree_nodes.specs.Nodes.{dirty_count}
use Rattle.range_state.specs.declared.state.counts.RangeCounts.{RangeCounts}
use Rattle.range_state.specs.Records.{open_count}
use Rattle.range_state.specs.State.{State}

-- the numbers of entries, dirty nodes, sessions and open sessions, and the limit of the journal
abbrev pub counts_of : State → RangeCounts
counts_of s = record { entries = length s.store.entries; limit = s.store.config.limit; dirty = dirty_count s.store.marks; sessions = length s.records; open_sessions = open_count s.records }

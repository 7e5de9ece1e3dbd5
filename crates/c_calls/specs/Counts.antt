-- The counts of a replica, for C.
use Rattle.std.specs.Prelude.{length}
use Rattle.tree_nodes.specs.Nodes.{dirty_count}
use Rattle.range_state.specs.Records.{open_count}
use Rattle.c_calls.specs.Kept.{KeptState, entries_in, front_in}
use Rattle.c_calls.specs.declared.counts.Counts.{Counts}

abbrev pub counts_of : KeptState → Counts
counts_of k = record { entries = entries_in k; limit = k.state.store.config.limit; dirty = dirty_count k.state.store.marks; sessions = length k.state.records; open_sessions = open_count k.state.records; first = k.first; front = front_in k }

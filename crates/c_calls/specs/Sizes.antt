-- The size of a replica in C.
use Rattle.range_state.specs.Bytes.{bytes_of}
use Rattle.range_state.specs.State.{State}
use Rattle.c_calls.specs.declared.sizes.Sizes.{Sizes}

-- the numbers of a range's size
abbrev pub sizes_of : State → Sizes
sizes_of s = record { rows = (bytes_of s).rows; journal = (bytes_of s).journal; sessions = (bytes_of s).sessions }

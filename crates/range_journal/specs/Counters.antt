-- The counters of nodes in the clocks of versions: a node raises its own counter by one at each put (section 4.4 of the
-- Dynamo paper).
use Rattle.std.specs.Prelude.{ℕ, List, [], ◌∷◌, max}
use Rattle.vclock.specs.Clock.{counter}
use Rattle.version_set.specs.declared.version.Version.{Version}
use Rattle.range_journal.specs.declared.journal.Entry.{Entry}
use Rattle.range_journal.specs.Journal.{versions_of}

-- the greatest counter that a node has in the clocks of versions: 0 if none of them has the node
abbrev pub top_in : List Version → ℕ → ℕ
top_in [] node = 0
top_in (v ∷ vs) node = max (counter v.clock node) (top_in vs node)

-- the greatest counter of a node for a key, over the entries of a journal
abbrev pub top_counter : List Entry → List ℕ → ℕ → ℕ
top_counter entries key node = top_in (versions_of entries key) node

-- The union of two sets of versions.
use Rattle.std.specs.Prelude.{List, [], ◌∷◌, ◌++◌}
use Rattle.version_set.specs.declared.version.Version.{Version}
use Rattle.version_set.specs.Version.{offered, maximal, set_from}

-- the maximal versions of two sets
abbrev pub union_of : List Version → List Version → List Version
union_of S T = maximal (set_from [] (S ++ T))

-- a set after versions were offered to it in turn
abbrev pub offered_all : List Version → List Version → List Version
offered_all S [] = S
offered_all S (v ∷ vs) = offered_all (offered v S) vs

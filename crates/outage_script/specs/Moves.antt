-- The output of a run in progress, and the outcome that is to follow.
use Rattle.std.specs.Prelude.{◌≡◌, ℕ, List, length, ◌++◌, Bool, true, false, Option, None, Some, IsTrue, nat_lt, nat_le, ⊤}
use Rattle.std.specs.Io.KnownBytes.{Appends}
use Rattle.outage_script.specs.declared.ScriptEnd.{ScriptEnd}
use Rattle.outage_script.specs.declared.ScriptEnd.TheVariants.{Done, BadLine, Device, NoMemory}
use Rattle.outage_script.specs.Lines.{lines_of}
use Rattle.outage_cluster.specs.State.{ClusterState}
use Rattle.outage_commands.specs.Faults.{line_limit}
use Rattle.outage_script.specs.Script.{ScriptOutcome, outcome_of, preceded, script_outcome}
use Rattle.outage_script.specs.Ends.{Begins, IsBadAt, Runs}

-- the place of a run: the number of the line that it reads, the state, the part of that line that was read, and true if
-- the run ended since the line is too long
pub record Place : Type 0 where
  pub number : ℕ
  pub state : ClusterState
  pub line : List ℕ
  pub long : Bool

abbrev pub script_place : ℕ → ClusterState → List ℕ → Bool → Place
script_place number state line long = record { number = number; state = state; line = line; long = long }

-- the outcome that is to follow, if these bytes are still to be read
unfoldable pub to_come : Place → List ℕ → ScriptOutcome
to_come p rest = outcome_of p.number p.state (lines_of (p.line ++ rest))

-- the piece was read and this was written, for any bytes after it
pub record Moves (old : Place) (piece : List ℕ) (new : Place) (some : List ℕ) : Type 0 where
  pub goes : (rest : List ℕ) → to_come old (piece ++ rest) ≡ preceded some (to_come new rest)

-- the output up to an early end is correct for the whole
abbrev pub Ends : ScriptEnd → ScriptOutcome → List ℕ → Type 0
Ends Done whole some = ⊥
Ends (BadLine n) whole some = IsBadAt n some whole
Ends Device whole some = Begins whole.text some
Ends NoMemory whole some = Begins whole.text some

-- the kept part of a line: all of it, or only that it is too long
abbrev pub HoldsLine : Bool → List ℕ → List ℕ → Type 0
HoldsLine true held line = IsTrue (nat_lt line_limit (length line))
HoldsLine false held line = (held ≡ line) × IsTrue (nat_le (length line) line_limit)

-- the place keeps the bad line
abbrev pub KeepsLine : Place → Option (List ℕ) → Type 0
KeepsLine p spoiled = (line : List ℕ) × (spoiled ≡ Some line) × HoldsLine p.long p.line line

-- if the run ended at a bad line, the place keeps it
abbrev pub Spoils : ScriptEnd → Place → Option (List ℕ) → Type 0
Spoils Done p spoiled = ⊤
Spoils (BadLine n) p spoiled = KeepsLine p spoiled
Spoils Device p spoiled = ⊤
Spoils NoMemory p spoiled = ⊤

-- if a run over this input ended at a bad line, the place keeps it; nothing is claimed if the reader's bytes are
-- unknown
abbrev pub Holds : ScriptEnd → Place → Option (List ℕ) → Type 0
Holds Done p input = ⊤
Holds (BadLine n) p None = ⊤
Holds (BadLine n) p (Some input) = KeepsLine p (script_outcome input).spoiled
Holds Device p input = ⊤
Holds NoMemory p input = ⊤

-- a run over a whole reader: it found and left these, and the place keeps the bad line that ended it, if one did
pub record HasRun (end : ScriptEnd) (found left before after : Option (List ℕ)) (p : Place) : Type 0 where
  pub runs : Runs end found left before after
  pub holds : Holds end p found

-- the run ended in this piece, for any bytes after it
pub record Stops (old : Place) (piece : List ℕ) (new : Place) (end : ScriptEnd) (some : List ℕ) : Type 0 where
  pub right : (rest : List ℕ) → Ends end (to_come old (piece ++ rest)) some
  pub keeps : (rest : List ℕ) → Spoils end new (to_come old (piece ++ rest)).spoiled

-- the piece was read; the run continues, or ended
abbrev pub Feeds : Place → List ℕ → Place → Option ScriptEnd → Option (List ℕ) → Option (List ℕ) → Type 0
Feeds old piece new None before after = (some : List ℕ) × Appends before after some × Moves old piece new some
Feeds old piece new (Some end) before after = (some : List ℕ) × Appends before after some × Stops old piece new end some

-- the end of the input was answered: everything is written, or the run ended early
abbrev pub Finishes : Option ScriptEnd → Place → ScriptOutcome → List ℕ → Type 0
Finishes None new whole some = whole ≡ record { text = some; bad = None; spoiled = None }
Finishes (Some end) new whole some = Ends end whole some × Spoils end new whole.spoiled

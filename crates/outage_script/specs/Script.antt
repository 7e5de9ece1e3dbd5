-- The output of a script, and its first bad line.
use Rattle.std.specs.Prelude.{◌≡◌, ℕ, ◌+◌, List, [], ◌∷◌, ◌++◌, length, nat_lt, if◌then◌else◌, Option, Some, None, option_map, option_and_then}
use Rattle.std.specs.List.{list_all}
use Rattle.outage_script.specs.Lines.{lines_of, is_space}
use Rattle.outage_cluster.specs.State.{ClusterState, start, left}
use Rattle.outage_commands.specs.declared.command.Command.{Command}
use Rattle.outage_cluster.specs.Acts.{act, suits, replied}
use Rattle.outage_script.specs.Answers.{answer_line}
use Rattle.outage_cluster.specs.declared.answer.CommandAnswer.TheVariants.{BadLine}
use Rattle.outage_commands.specs.Reading.{value_of}
use Rattle.outage_commands.specs.Commands.{command_of}
use Rattle.outage_commands.specs.Faults.{line_limit}

-- a line's answer and the state after it; None if the line is bad
abbrev pub Turn : Type 0
Turn = Option (List ℕ × ClusterState)

abbrev pub turn_of : ClusterState → Command → List ℕ × ClusterState
turn_of s command = (answer_line (replied (act command s)), left (act command s) s)

-- the command, if the ring in force has such a command
abbrev pub suited : ClusterState → Command → Option Command
suited s command = if suits s command then Some command else None

unfoldable pub step : ClusterState → List ℕ → Turn
step s line = if nat_lt line_limit (length line) then None else if list_all is_space line then Some ([], s) else option_map (turn_of s) (option_and_then (suited s) (option_and_then command_of (value_of line)))

-- the text written for a bad line
unfoldable pub bad_line : ℕ → List ℕ
bad_line n = answer_line (BadLine n)

-- the output, and the number and the text of the first bad line, if any
pub record ScriptOutcome : Type 0 where
  pub text : List ℕ
  pub bad : Option ℕ
  pub spoiled : Option (List ℕ)

-- the outcome, with this output before it
abbrev pub preceded : List ℕ → ScriptOutcome → ScriptOutcome
preceded some rest = record { text = some ++ rest.text; bad = rest.bad; spoiled = rest.spoiled }

-- the outcome of line n and of the lines after it: a bad line ends the script
abbrev pub goes_on : ℕ → List ℕ → Turn → (ClusterState → ScriptOutcome) → ScriptOutcome
goes_on n line None more = record { text = bad_line n; bad = Some n; spoiled = Some line }
goes_on n line (Some t) more = preceded t.0 (more t.1)

-- the outcome of the lines from number n on
abbrev pub outcome_of : ℕ → ClusterState → List (List ℕ) → ScriptOutcome
outcome_of n s [] = record { text = []; bad = None; spoiled = None }
outcome_of n s (line ∷ lines) = goes_on n line (step s line) (λ next. outcome_of (n + 1) next lines)

-- the outcome of a script: lines are counted from 1
unfoldable pub script_outcome : List ℕ → ScriptOutcome
script_outcome bytes = outcome_of 1 start (lines_of bytes)

-- the result of a turn: the text and the state after it, or no text for a bad line
abbrev pub IsTurn : Option (List ℕ) → ClusterState → Turn → Type 0
IsTurn None after t = t ≡ None
IsTurn (Some text) after t = t ≡ Some (text, after)

-- The output of a run of a script.
use Rattle.std.specs.Prelude.{◌≡◌, ℕ, List, [], ◌++◌, Option, Some, None, ⊤}
use Rattle.std.specs.Io.KnownBytes.{Appends}
use Rattle.outage_script.specs.declared.ScriptEnd.{ScriptEnd}
use Rattle.outage_script.specs.declared.ScriptEnd.TheVariants.{Done, BadLine, Device, NoMemory}
use Rattle.outage_commands.specs.declared.fault.LineFault.{LineFault}
use Rattle.outage_script.specs.Script.{ScriptOutcome, script_outcome}
use Rattle.outage_commands.specs.Faults.{IsExplained}

-- a list begins with another one
abbrev pub Begins : List ℕ → List ℕ → Type 0
Begins whole front = (more : List ℕ) × (whole ≡ front ++ more)

-- all was written, and no line is bad
pub record IsDone (written : List ℕ) (script : ScriptOutcome) : Type 0 where
  pub text : script.text ≡ written
  pub bad : script.bad ≡ None

-- all was written, up to the first bad line, which has this number
pub record IsBadAt (n : ℕ) (written : List ℕ) (script : ScriptOutcome) : Type 0 where
  pub text : script.text ≡ written
  pub bad : script.bad ≡ Some n

-- the output is correct, if these bytes were read and these are left: both for the bytes that were read and for the
-- whole input
abbrev pub IsRightEnd : ScriptEnd → List ℕ → List ℕ → List ℕ → Type 0
IsRightEnd Done bytes left written = (left ≡ []) × IsDone written (script_outcome bytes)
IsRightEnd (BadLine n) bytes left written = IsBadAt n written (script_outcome bytes) × IsBadAt n written (script_outcome (bytes ++ left))
IsRightEnd Device bytes left written = Begins (script_outcome bytes).text written × Begins (script_outcome (bytes ++ left)).text written
IsRightEnd NoMemory bytes left written = Begins (script_outcome bytes).text written × Begins (script_outcome (bytes ++ left)).text written

-- a run that found and left these in the reader and the writer; nothing is claimed if the reader's bytes are unknown
abbrev pub Runs : ScriptEnd → Option (List ℕ) → Option (List ℕ) → Option (List ℕ) → Option (List ℕ) → Type 0
Runs end None left before after = ⊤
Runs end (Some input) None before after = ⊥
Runs end (Some input) (Some left) before after = (bytes : List ℕ) × (written : List ℕ) × (input ≡ bytes ++ left) × Appends before after written × IsRightEnd end bytes left written

-- the output of a run over memory is correct for the whole input
abbrev pub IsAnswer : ScriptEnd → List ℕ → List ℕ → Type 0
IsAnswer Done input written = IsDone written (script_outcome input)
IsAnswer (BadLine n) input written = IsBadAt n written (script_outcome input)
IsAnswer Device input written = Begins (script_outcome input).text written
IsAnswer NoMemory input written = Begins (script_outcome input).text written

-- the reason that is returned with the end: at a bad line it is the reason of the input's first bad line, and no other
-- end has a reason
abbrev pub Explains : ScriptEnd → Option LineFault → Option (List ℕ) → Type 0
Explains (BadLine n) why None = ⊤
Explains (BadLine n) why (Some input) = (line : List ℕ) × ((script_outcome input).spoiled ≡ Some line) × IsExplained why line
Explains end why input = why ≡ None

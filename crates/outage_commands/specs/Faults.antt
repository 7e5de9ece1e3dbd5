-- The reasons why a line is not a command.
use Rattle.std.specs.Prelude.{◌≡◌, ℕ, List, length, Bool, true, false, Option, None, Some, IsTrue, nat_lt, nat_le}
use Rattle.std.specs.List.{list_any}
use Rattle.std.specs.Str.{bytes_eq}
use Rattle.serde_json.specs.Data.{Data}
use Rattle.outage_commands.specs.Commands.{Form, forms}
use Rattle.outage_commands.specs.Reading.{value_of, sole_member}
use Rattle.outage_commands.specs.declared.fault.LineFault.{LineFault}
use Rattle.outage_commands.specs.declared.fault.LineFault.TheVariants.{TooLong, NoJson, NoName, Unknown, Misspelled, Member, Members}

-- the maximum length of a line, in bytes, without its line feed
abbrev pub line_limit : ℕ
line_limit = 1048576

-- a name that a command has
abbrev pub is_command : List ℕ → Bool
is_command name = list_any (λ (form : Form). bytes_eq name form.0) forms

-- an object whose one member names a command, or does not
abbrev pub Names : Bool → Data → Type 0
Names known d = (m : List ℕ × Data) × (sole_member d ≡ Some m) × (is_command m.0 ≡ known)

-- a fault of a command's members
abbrev pub IsOfMembers : LineFault → Type 0
IsOfMembers (Member wants wrong) = Unit {0}
IsOfMembers (Members members) = Unit {0}
IsOfMembers fault = ⊥

-- a fault of a command's name
abbrev pub IsOfName : LineFault → Type 0
IsOfName (Unknown name) = Unit {0}
IsOfName (Misspelled name nearest) = Unit {0}
IsOfName fault = ⊥

-- the claim of a fault about a line that is not too long
abbrev pub IsFaultOf : LineFault → List ℕ → Type 0
IsFaultOf TooLong line = ⊥
IsFaultOf (NoJson problem column) line = value_of line ≡ None
IsFaultOf NoName line = (d : Data) × (value_of line ≡ Some d) × (sole_member d ≡ None)
IsFaultOf (Unknown name) line = (d : Data) × (value_of line ≡ Some d) × Names false d
IsFaultOf (Misspelled name nearest) line = (d : Data) × (value_of line ≡ Some d) × Names false d
IsFaultOf (Member wants wrong) line = (d : Data) × (value_of line ≡ Some d) × Names true d
IsFaultOf (Members members) line = (d : Data) × (value_of line ≡ Some d) × Names true d

-- the claim of a fault about a bad line
abbrev pub IsWhy : LineFault → List ℕ → Type 0
IsWhy TooLong line = IsTrue (nat_lt line_limit (length line))
IsWhy fault line = IsFaultOf fault line

-- the fault that is returned for a bad line, or None if memory ran out; the fault of a line that is too long needs no
-- memory
abbrev pub IsExplained : Option LineFault → List ℕ → Type 0
IsExplained None line = IsTrue (nat_le (length line) line_limit)
IsExplained (Some fault) line = IsWhy fault line

-- Faults of lines: from the kind of a fault to its claim.
use Rattle.std.proofs.Common.{◌≡◌, ℕ, List, Some, true, false, Result, Ok, Err}
use Rattle.std.specs.Prelude.{IfOk}
use Rattle.serde_json.specs.Data.{Data}
use Rattle.outage_commands.specs.Faults.{IsFaultOf, IsOfMembers, IsOfName, Names}
use Rattle.outage_commands.specs.Reading.{value_of}
use Rattle.outage_commands.specs.declared.fault.LineFault.{LineFault}
use Rattle.outage_commands.specs.declared.fault.LineFault.TheVariants.{TooLong, NoJson, NoName, Unknown, Misspelled, Member, Members}

of_members : (fault : LineFault) (line : List ℕ) (d : Data) → IsOfMembers fault → value_of line ≡ Some d → Names true d → IsFaultOf fault line
of_members TooLong line d none read names = absurd none
of_members (NoJson problem column) line d none read names = absurd none
of_members NoName line d none read names = absurd none
of_members (Unknown name) line d none read names = absurd none
of_members (Misspelled name nearest) line d none read names = absurd none
of_members (Member wants wrong) line d is read names = (d, read, names)
of_members (Members members) line d is read names = (d, read, names)

of_name : (fault : LineFault) (line : List ℕ) (d : Data) → IsOfName fault → value_of line ≡ Some d → Names false d → IsFaultOf fault line
of_name TooLong line d none read names = absurd none
of_name (NoJson problem column) line d none read names = absurd none
of_name NoName line d none read names = absurd none
of_name (Unknown name) line d is read names = (d, read, names)
of_name (Misspelled name nearest) line d is read names = (d, read, names)
of_name (Member wants wrong) line d none read names = absurd none
of_name (Members members) line d none read names = absurd none

-- the fault of a command's members, if memory sufficed
pub members_claim : {E : Type 0} (result : Result LineFault E) (line : List ℕ) (d : Data) → IfOk result IsOfMembers → value_of line ≡ Some d
    → Names true d → IfOk result (λ fault. IsFaultOf fault line)
members_claim (Ok fault) line d is read names = of_members fault line d is read names
members_claim (Err e) line d is read names = tt

-- the fault of a command's name, if memory sufficed
pub name_claim : {E : Type 0} (result : Result LineFault E) (line : List ℕ) (d : Data) → IfOk result IsOfName → value_of line ≡ Some d → Names false d
    → IfOk result (λ fault. IsFaultOf fault line)
name_claim (Ok fault) line d is read names = of_name fault line d is read names
name_claim (Err e) line d is read names = tt

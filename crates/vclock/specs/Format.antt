-- Numbers of the two formats.
use Rattle.std.specs.Prelude.{ℕ, ◌==◌, Option, Some, None, if◌then◌else◌}
use Rattle.vclock.specs.declared.format.Format.{Format}
use Rattle.vclock.specs.declared.format.Format.TheVariants.{One, Two}

-- the maximum length of a value, in bytes
abbrev pub value_limit : Format → ℕ
value_limit One = 4096
value_limit Two = 65536

-- the format of a number: 1 or 2
abbrev pub format_of : ℕ → Option Format
format_of n = if n == 1 then Some One else if n == 2 then Some Two else None

-- the number of a format
abbrev pub format_number : Format → ℕ
format_number One = 1
format_number Two = 2

-- The configuration of a range.
use Rattle.std.specs.Prelude.{ℕ, ◌^◌, Bool, ◌&&◌, nat_le, nat_lt, Option, Some, None, option_and_then, if◌then◌else◌}
use Rattle.vclock.specs.Format.{format_of}
use Rattle.vclock.specs.declared.format.Format.{Format}

-- the format of rows and tree, the number of bits of the range's number, that number, and the maximum length of the
-- journal
pub record Config : Type 0 where
  pub format : Format
  pub bits : ℕ
  pub range : ℕ
  pub limit : ℕ

-- at most 8 bits, a range that the ring has, and 1 to 1,000,000 entries
abbrev pub is_config : Config → Bool
is_config c = nat_le c.bits 8 && nat_lt c.range (2 ^ c.bits) && nat_lt 0 c.limit && nat_le c.limit 1000000

-- the configuration of these numbers, if they are valid; formats are counted from 1
abbrev pub checked : Config → Option Config
checked c = if is_config c then Some c else None

abbrev pub config_of : ℕ → ℕ → ℕ → ℕ → Option Config
config_of format bits range limit = option_and_then (λ f. checked (record { format = f; bits = bits; range = range; limit = limit })) (format_of format)

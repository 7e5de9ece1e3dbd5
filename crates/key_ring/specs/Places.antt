-- The range and the leaf of a key: sections 4.2, 4.7 and 6.2 (equal ranges) of the Dynamo paper, by the number that its
-- MD5 digest spells (RFC 1321).
use Rattle.std.specs.Prelude.{ℕ, ◌+◌, ◌-◌, ◌*◌, ◌/◌, ◌%◌, ◌^◌, List, [], ◌∷◌, length}
use Rattle.md5.specs.Md5.{md5}
use Rattle.vclock.specs.declared.format.Format.{Format}
use Rattle.vclock.specs.declared.format.Format.TheVariants.{One, Two}

-- the number that bytes spell, the highest first
abbrev pub number_from : List ℕ → ℕ
number_from [] = 0
number_from (byte ∷ bytes) = byte * 256 ^ length bytes + number_from bytes

-- a key's number, of 128 bits
unfoldable pub key_number : List ℕ → ℕ
key_number key = number_from (md5 key)

-- the first 64 bits of a key's number
unfoldable pub key_front : List ℕ → ℕ
key_front key = key_number key / 2 ^ 64

-- the range of a key in a ring of 2^bits equal ranges: the first bits of its number
unfoldable pub range_at : ℕ → List ℕ → ℕ
range_at bits key = key_number key / 2 ^ (128 - bits)

-- the number of bits of a leaf
abbrev pub leaf_bits : Format → ℕ
leaf_bits One = 8
leaf_bits Two = 12

-- the leaf of a key: the bits after the range's bits
unfoldable pub leaf_at : Format → ℕ → List ℕ → ℕ
leaf_at format bits key = key_number key / 2 ^ (128 - (bits + leaf_bits format)) % 2 ^ leaf_bits format

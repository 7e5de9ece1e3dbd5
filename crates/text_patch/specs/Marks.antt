-- The marks of parts: the first bytes of digests (FIPS 180-4). Two replicas find the parts that both have by them.
use Rattle.std.specs.Prelude.{◌≡◌, ℕ, zero, suc, ◌+◌, ◌*◌, ◌-◌, ◌<◌, ◌≤◌, ◌^◌, nat_le, ◌&&◌, min, bytes_eq, List, ◌++◌, length, take, drop, Option, Some, None, if◌then◌else◌}
use Rattle.std.specs.List.{flat_map}
use Rattle.sha2.specs.Sha256.{sha256}
use Rattle.vclock.specs.declared.refusal.Refusal.{Refusal}
use Rattle.vclock.specs.declared.refusal.Refusal.TheVariants.{BadMessage}

-- some marks of one width, in order: their number, and their bytes
pub record MarkList : Type 0 where
  pub width : ℕ
  pub count : ℕ
  pub bytes : List ℕ

-- marks that an outline can have
pub record AreMarks (m : MarkList) : Type 0 where
  pub some : 1 ≤ m.width
  pub most : m.width ≤ 8
  pub few : m.count < 2 ^ 32
  pub long : length m.bytes ≡ m.width * m.count

-- the fault of a width: a mark has one to eight bytes
abbrev pub width_fault : ℕ → Option Refusal
width_fault width = if nat_le 1 width && nat_le width 8 then None else Some BadMessage

-- the mark of a part: the first bytes of the digest of the salt and the part
abbrev pub mark_of : List ℕ → ℕ → List ℕ → List ℕ
mark_of salt width part = take width (sha256 (salt ++ part))

-- the marks of parts, in order
abbrev pub marks_of : List ℕ → ℕ → List (List ℕ) → MarkList
marks_of salt width parts = record { width = width; count = length parts; bytes = flat_map (mark_of salt width) parts }

-- the mark at a place
abbrev pub mark_at : MarkList → ℕ → List ℕ
mark_at m i = take m.width (drop (m.width * i) m.bytes)

-- the first of some places, from one on, that has a mark
abbrev pub first_with : MarkList → List ℕ → ℕ → ℕ → Option ℕ
first_with m mark zero from = None
first_with m mark (suc places) from = if bytes_eq (mark_at m from) mark then Some from else first_with m mark places (from + 1)

-- the first of the next 1,024 places that has a mark
abbrev pub place_of : MarkList → List ℕ → ℕ → Option ℕ
place_of m mark from = first_with m mark (min 1024 (m.count - from)) from

-- Reading from the left: the field there, and the bytes after it. An error is the number of bytes from the broken field
-- on.
use Rattle.std.specs.Prelude.{◌≡◌, ℕ, zero, suc, List, [], ◌∷◌, ◌++◌, ◌-◌, length, take, drop, Result, Ok, Err, Option, Some, None, Bool, nat_lt, nat_le, ◌&&◌, ◌==◌, if◌then◌else◌}
use Rattle.std.specs.List.{list_all, slice_get}
use Rattle.std.specs.Int.{Width, w8, w16, w32, w64, byte_len, from_be_bytes}
use Rattle.vclock.specs.Format.{value_limit}
use Rattle.vclock.specs.declared.format.Format.{Format}
use Rattle.vclock.specs.declared.format.Format.TheVariants.{One, Two}
use Rattle.version_set.specs.declared.kind.Kind.{Kind}
use Rattle.version_set.specs.declared.kind.Kind.TheVariants.{Live, Tombstone}
use Rattle.version_set.specs.declared.version.Version.{Version}
use Rattle.version_set.specs.Version.{version_text}
use Rattle.row_bytes.specs.declared.fault.ReadError.{ReadError}
use Rattle.row_bytes.specs.declared.fault.ReadError.TheVariants as errors
use Rattle.row_bytes.specs.declared.row.Row.{Row}
use Rattle.row_bytes.specs.Rows.{is_before, is_apart}

-- the second step, if the first found something
infixl 10 ◌>>=◌
abbrev pub ◌>>=◌ : {A B : Type 0} → Result A ℕ → (A → Result B ℕ) → Result B ℕ
(Ok x) >>= f = f x
(Err e) >>= f = Err e

-- An error is the place at which reading stops, or Memory, which is possible only if begun holds.
abbrev pub Fails : {Y : Type 0} → Type 0 → ReadError → Result Y ℕ → Type 0
Fails begun errors.Memory read = begun
Fails begun (errors.Left left) read = read ≡ Err left

-- The result of a function, seen by view, is the result of read, unless memory runs out, which is possible only if
-- begun holds.
abbrev pub Gives : {X Y : Type 0} → Type 0 → (X → Y) → Result X ReadError → Result Y ℕ → Type 0
Gives begun view (Ok x) read = read ≡ Ok (view x)
Gives begun view (Err e) read = Fails begun e read

-- a number
abbrev pub number_at : Width → List ℕ → Result (ℕ × List ℕ) ℕ
number_at w bytes = if nat_lt (length bytes) (byte_len w) then Err (length bytes) else Ok (from_be_bytes w (take (byte_len w) bytes), drop (byte_len w) bytes)

-- a number that passes a test
abbrev pub field_at : Width → (ℕ → Bool) → List ℕ → Result (ℕ × List ℕ) ℕ
field_at w good bytes = number_at w bytes >>= λ n. if good n.0 then Ok n else Err (length bytes)

-- n bytes
abbrev pub bytes_at : ℕ → List ℕ → Result (List ℕ × List ℕ) ℕ
bytes_at n bytes = if nat_lt (length bytes) n then Err (length bytes) else Ok (take n bytes, drop n bytes)

-- a pair whose node is greater than above
unfoldable pub pair_at : ℕ → List ℕ → Result ((ℕ × ℕ) × List ℕ) ℕ
pair_at above bytes = do
  node ← field_at w16 (nat_lt above) bytes
  counter ← field_at w64 (nat_lt 0) node.1
  Ok ((node.0, counter.0), counter.1)

-- the pairs before, and k more pairs, by ascending node from above
unfoldable pub pairs_at : ℕ → ℕ → List (ℕ × ℕ) → List ℕ → Result (List (ℕ × ℕ) × List ℕ) ℕ
pairs_at zero above before bytes = Ok (before, bytes)
pairs_at (suc k) above before bytes = do
  pair ← pair_at above bytes
  pairs_at k pair.0.0 (before ++ pair.0 ∷ []) pair.1

-- the kind of a byte, if the format has a byte for it
abbrev pub kind_of : ℕ → Kind
kind_of b = if b == 0 then Live else Tombstone

-- a kind: format 1 has only live versions
unfoldable pub kind_at : Format → List ℕ → Result (Kind × List ℕ) ℕ
kind_at One bytes = Ok (Live, bytes)
kind_at Two bytes = do
  byte ← field_at w8 (λ n. nat_le n 1) bytes
  Ok (kind_of byte.0, byte.1)

-- the maximum length of a value of this kind, in bytes
abbrev pub longest_value : Format → Kind → ℕ
longest_value format Live = value_limit format
longest_value format Tombstone = 0

-- a version: its kind, the number of pairs, the pairs, the length of the value, the value
unfoldable pub version_at : Format → List ℕ → Result (Version × List ℕ) ℕ
version_at format bytes = do
  kind ← kind_at format bytes
  count ← field_at w8 (λ n. nat_le n 32) kind.1
  pairs ← pairs_at count.0 0 [] count.1
  len ← field_at w32 (λ n. nat_le n (longest_value format kind.0)) pairs.1
  value ← bytes_at len.0 len.1
  Ok (record { clock = pairs.0; kind = kind.0; value = value.0 }, value.1)

-- a version may follow the versions before, if last is the text of the last of them
unfoldable pub may_follow : Format → List ℕ → List Version → Version → Bool
may_follow format last before v = is_before last (version_text format v) && list_all (λ u. is_apart u v) before

-- the versions before, and k more versions
unfoldable pub versions_at : Format → ℕ → List ℕ → List Version → List ℕ → Result (List Version × List ℕ) ℕ
versions_at format zero last before bytes = Ok (before, bytes)
versions_at format (suc k) last before bytes = do
  v ← version_at format bytes
  if may_follow format last before v.0 then versions_at format k (version_text format v.0) (before ++ v.0 ∷ []) v.1 else Err (length bytes)

-- the bytes before the versions of a row: the length of the key, the key, the number of versions
abbrev pub head_at : List ℕ → Result ((List ℕ × ℕ) × List ℕ) ℕ
head_at bytes = do
  len ← field_at w16 (λ n. nat_le 1 n && nat_le n 255) bytes
  key ← bytes_at len.0 len.1
  count ← field_at w16 (λ n. nat_le 1 n && nat_le n 64) key.1
  Ok ((key.0, count.0), count.1)

-- the bytes begin with the key of a row and the number of its versions
pub record HasHead (bytes : List ℕ) : Type 0 where
  pub head : (List ℕ × ℕ) × List ℕ
  pub read : head_at bytes ≡ Ok head

-- a row
unfoldable pub row_at : Format → List ℕ → Result (Row × List ℕ) ℕ
row_at format bytes = do
  len ← field_at w16 (λ n. nat_le 1 n && nat_le n 255) bytes
  key ← bytes_at len.0 len.1
  count ← field_at w16 (λ n. nat_le 1 n && nat_le n 64) key.1
  versions ← versions_at format count.0 [] [] count.1
  Ok (record { key = key.0; versions = versions.0 }, versions.1)

-- the key of a row, or no bytes
abbrev pub key_of : Option Row → List ℕ
key_of None = []
key_of (Some r) = r.key

-- the key of the last of these rows, or no bytes
unfoldable pub last_key : List Row → List ℕ
last_key rows = key_of (slice_get rows (length rows - 1))

-- the rows before, whose last key is `last`, and at most `most` more rows up to the end
unfoldable pub rows_at : Format → ℕ → List ℕ → List Row → List ℕ → Result (List Row) ℕ
rows_at format most last before [] = Ok before
rows_at format zero last before (byte ∷ bytes) = Err (length (byte ∷ bytes))
rows_at format (suc most) last before (byte ∷ bytes) = do
  r ← row_at format (byte ∷ bytes)
  if is_before last r.0.key then rows_at format most r.0.key (before ++ r.0 ∷ []) r.1 else Err (length (byte ∷ bytes))

-- Rows, and the one text of each, in both formats. A row is a key with the versions that are held for it.
use Rattle.std.specs.Prelude.{◌≡◌, ℕ, ◌≤◌, Bool, not, ◌&&◌, IsTrue, None, List, [], ◌∷◌, ◌++◌, length}
use Rattle.std.specs.List.{flat_map, AllByRecursion}
use Rattle.std.specs.Int.{w16, to_be_bytes}
use Rattle.std.specs.Ordering.{nat_cmp, is_lt}
use Rattle.std.specs.Cmp.Lexicographic.{slice_cmp}
use Rattle.vclock.specs.Clock.{IsClock}
use Rattle.vclock.specs.Bytes.{key_fault}
use Rattle.vclock.specs.declared.format.Format.{Format}
use Rattle.version_set.specs.Kind.{value_fault}
use Rattle.version_set.specs.Order.{Pairwise}
use Rattle.version_set.specs.Version.{is_below, version_text}
use Rattle.version_set.specs.declared.version.Version.{Version}
use Rattle.row_bytes.specs.declared.row.Row.{Row}

-- the text of a row: the length of the key, the key, the number of versions, the versions
unfoldable pub row_text : Format → Row → List ℕ
row_text format r = to_be_bytes w16 (length r.key) ++ r.key ++ to_be_bytes w16 (length r.versions) ++ flat_map (version_text format) r.versions

-- the text begins with a key, as the text of a row does
pub record BeginsWithKey (text key rest : List ℕ) : Type 0 where
  pub fits : key_fault key ≡ None
  pub text_is : text ≡ to_be_bytes w16 (length key) ++ key ++ rest

-- a is less than b, byte by byte
abbrev pub is_before : List ℕ → List ℕ → Bool
is_before a b = is_lt (slice_cmp nat_cmp a b)

-- a version within the limits of a format
pub record IsVersion (format : Format) (v : Version) : Type 0 where
  pub clock : IsClock v.clock
  pub value : value_fault format v.kind v.value ≡ None

-- versions whose texts ascend from last
abbrev pub AreAscending : Format → List ℕ → List Version → Type 0
AreAscending format last [] = Unit {0}
AreAscending format last (v ∷ vs) = IsTrue (is_before last (version_text format v)) × AreAscending format (version_text format v) vs

-- neither of two versions is below the other
abbrev pub is_apart : Version → Version → Bool
is_apart u v = not (is_below u v) && not (is_below v u)

-- no version is below one before it, or above one before it
abbrev pub AreApart : List Version → Type 0
AreApart vs = Pairwise (λ v u. IsTrue (is_apart v u)) vs

-- a row of a format: it has a text
pub record IsRow (format : Format) (r : Row) : Type 0 where
  pub key : key_fault r.key ≡ None
  pub some : 1 ≤ length r.versions
  pub few : length r.versions ≤ 64
  pub each : AllByRecursion (IsVersion format) r.versions
  pub ascending : AreAscending format [] r.versions
  pub apart : AreApart r.versions

-- rows whose keys ascend from last
abbrev pub KeysAscend : List ℕ → List Row → Type 0
KeysAscend last [] = Unit {0}
KeysAscend last (r ∷ rs) = IsTrue (is_before last r.key) × KeysAscend r.key rs

-- rows in strictly ascending order of key
pub record AreRows (format : Format) (rows : List Row) : Type 0 where
  pub each : AllByRecursion (IsRow format) rows
  pub ascending : KeysAscend [] rows

-- the conditions under which a row of the type Row has a text of a format
pub record FitsText (format : Format) (r : Row) : Type 0 where
  pub key : key_fault r.key ≡ None
  pub some : 1 ≤ length r.versions
  pub each : AllByRecursion (λ v. value_fault format v.kind v.value ≡ None) r.versions

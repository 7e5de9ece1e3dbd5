-- Reading a JSON value: numbers, bytes, lists, and the members of an object.
use Rattle.std.specs.Prelude.{ℕ, List, [], ◌∷◌, Bool, true, false, ◌&&◌, if◌then◌else◌, Option, Some, None, option_map, option_and_then, is_some, Result, Ok, Err}
use Rattle.std.specs.List.{list_any}
use Rattle.std.specs.Str.{is_utf8, bytes_eq}
use Rattle.hex.specs.Hex.{decode_of}
use Rattle.hex.specs.declared.error.FromHexError.{FromHexError}
use Rattle.serde_json.specs.Data.{Data, Items, no_items, item, Members, no_members, member}
use Rattle.serde_json.specs.Find.{get, as_null, as_number, as_u64, as_str, as_array, as_object}
use Rattle.serde_json.specs.Read.{read}
use Rattle.version_set.specs.declared.kind.Kind.{Kind}
use Rattle.version_set.specs.declared.kind.Kind.TheVariants.{Live, Tombstone}

-- the second step, if the first has a value
infixl 10 ◌>>=◌
abbrev pub ◌>>=◌ : {A B : Type 0} → Option A → (A → Option B) → Option B
o >>= f = option_and_then f o

-- the second step, if this holds
infixl 10 ◌>>◌
abbrev pub ◌>>◌ : {A : Type 0} → Bool → Option A → Option A
holds >> o = if holds then o else None

-- each name of the members fits
abbrev pub all_named : (List ℕ → Bool) → Members → Bool
all_named fits no_members = true
all_named fits (member name d more) = fits name && all_named fits more

-- a name is among these
abbrev pub is_among : List (List ℕ) → List ℕ → Bool
is_among names name = list_any (λ n. bytes_eq n name) names

abbrev pub only_named : List (List ℕ) → Option Members → Bool
only_named names None = false
only_named names (Some ms) = all_named (is_among names) ms

-- an object that has no other members than these
abbrev pub has_only : List (List ℕ) → Data → Bool
has_only names d = only_named names (as_object d)

-- a whole number, without sign, point or exponent, below 2^64
abbrev pub number_of : Data → Option ℕ
number_of d = option_and_then as_u64 (as_number d)

-- the decoded bytes, if the text is valid
abbrev pub right : {A : Type 0} → Result A FromHexError → Option A
right (Ok a) = Some a
right (Err e) = None

-- the bytes that a text spells in hexadecimal digits of either case
abbrev pub bytes_of : Data → Option (List ℕ)
bytes_of d = option_and_then (λ text. right (decode_of text)) (as_str d)

-- the items, each read by f, if f reads all of them
abbrev pub each_of : {A : Type 0} → (Data → Option A) → Items → Option (List A)
each_of f no_items = Some []
each_of f (item d ds) = option_and_then (λ a. option_map (λ more. a ∷ more) (each_of f ds)) (f d)

-- a list of what f reads
abbrev pub list_of : {A : Type 0} → (Data → Option A) → Data → Option (List A)
list_of f d = option_and_then (each_of f) (as_array d)

-- a list of numbers
abbrev pub numbers_of : Data → Option (List ℕ)
numbers_of d = list_of number_of d

-- the two numbers, if there are two
abbrev pub two_of : List ℕ → Option (ℕ × ℕ)
two_of (m ∷ n ∷ []) = Some (m, n)
two_of numbers = None

-- a list of two numbers, as a node and its counter
abbrev pub pair_of : Data → Option (ℕ × ℕ)
pair_of d = option_and_then two_of (numbers_of d)

-- a list of pairs
abbrev pub pairs_of : Data → Option (List (ℕ × ℕ))
pairs_of d = list_of pair_of d

-- the member of a name, read by f
abbrev pub member_of : {A : Type 0} → (Data → Option A) → List ℕ → Data → Option A
member_of f name d = option_and_then f (get name d)

-- the kind and the bytes of a put's value: null is a tombstone, which has no bytes
abbrev pub payload_of : Data → Option (Kind × List ℕ)
payload_of d = if is_some (as_null d) then Some (Tombstone, []) else option_map (λ value. (Live, value)) (bytes_of d)

-- the value read by f, or absent for None
abbrev pub read_or : {A : Type 0} → A → (Data → Option A) → Option Data → Option A
read_or absent f None = Some absent
read_or absent f (Some d) = f d

-- a member that may be missing, and is then absent
abbrev pub default_of : {A : Type 0} → A → (Data → Option A) → List ℕ → Data → Option A
default_of absent f name d = read_or absent f (get name d)

-- the value read by f, or Some None for None
abbrev pub maybe_of : {A : Type 0} → (Data → Option A) → List ℕ → Data → Option (Option A)
maybe_of f name d = default_of None (λ e. option_map Some (f e)) name d

-- the name and the value of the only member
abbrev pub sole : Members → Option (List ℕ × Data)
sole (member name d no_members) = Some (name, d)
sole ms = None

-- the name and the value of an object's one member
abbrev pub sole_member : Data → Option (List ℕ × Data)
sole_member d = option_and_then sole (as_object d)

-- the value of a line, by serde_json's reading
unfoldable pub value_of : List ℕ → Option Data
value_of line = if is_utf8 line then read line else None

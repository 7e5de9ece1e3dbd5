-- Versions, and sets of them as lists in the order of their texts: section 4.4 of the Dynamo paper.
use Rattle.std.specs.Prelude.{◌≡◌, ◌≢◌, ◌⊎◌, Any, ℕ, ◌<◌, ◌^◌, ◌++◌, ◌≤◌, nat_lt, Option, Some, None, Bool, ◌&&◌, ◌||◌, not, List, [], ◌∷◌, length, filter, if◌then◌else◌}
use Rattle.std.specs.List.{list_any, AllByRecursion, flat_map}
use Rattle.std.specs.Int.{to_be_bytes, w16, w32, w64}
use Rattle.std.specs.declared.cmp.Ordering.{Ordering}
use Rattle.std.specs.declared.cmp.Ordering.TheVariants.{Less}
use Rattle.std.specs.Ordering.{nat_cmp, ordering_then, is_eq}
use Rattle.std.specs.Cmp.Lexicographic.{slice_cmp}
use Rattle.vclock.specs.Clock.{at_most, IsAtMost, IsClock}
use Rattle.vclock.specs.declared.refusal.Refusal.{Refusal}
use Rattle.vclock.specs.declared.refusal.Refusal.TheVariants.{Crowded}
use Rattle.vclock.specs.declared.format.Format.{Format}
use Rattle.vclock.specs.declared.format.Format.TheVariants.{One, Two}
use Rattle.version_set.specs.Kind.{kind_byte}
use Rattle.version_set.specs.Order.{Pairwise, inserted}
use Rattle.version_set.specs.declared.kind.Kind.TheVariants.{Live}
use Rattle.version_set.specs.declared.version.Version.{Version}

-- w's clock is later than v's
abbrev pub is_below : Version → Version → Bool
is_below v w = at_most v.clock w.clock && not (at_most w.clock v.clock)

-- each counter of v is at most w's, and the clocks differ
pub record IsBelow (v w : Version) : Type 0 where
  pub at_most : IsAtMost v.clock w.clock
  pub differ : v.clock ≢ w.clock

-- the version is in the set or below a member
abbrev pub IsCovered : Version → List Version → Type 0
IsCovered v S = Any (λ w. (v ≡ w) ⊎ IsBelow v w) S

-- by node, then by counter
abbrev pub pair_cmp : ℕ × ℕ → ℕ × ℕ → Ordering
pair_cmp p q = ordering_then (nat_cmp p.0 q.0) (nat_cmp p.1 q.1)

-- the order of texts: kind, number of pairs, pairs, length of the value, value
abbrev pub version_cmp : Version → Version → Ordering
version_cmp v w = ordering_then (ordering_then (ordering_then (ordering_then (nat_cmp (kind_byte v.kind) (kind_byte w.kind)) (nat_cmp (length v.clock) (length w.clock))) (slice_cmp pair_cmp v.clock w.clock)) (nat_cmp (length v.value) (length w.value))) (slice_cmp nat_cmp v.value w.value)

abbrev pub is_same : Version → Version → Bool
is_same v w = is_eq (version_cmp v w)

-- the version is in the set or below a member
abbrev pub covered : Version → List Version → Bool
covered v S = list_any (λ w. is_same v w || is_below v w) S

-- the members that are below no member
abbrev pub maximal : List Version → List Version
maximal S = filter (λ v. not (list_any (is_below v) S)) S

-- the set and a version in its place
abbrev pub with_version : Version → List Version → List Version
with_version v S = inserted version_cmp v S

-- the set after an offer: unchanged if it covers the version, otherwise the maximal members of the set with the version
abbrev pub offered : Version → List Version → List Version
offered v S = if covered v S then S else maximal (with_version v S)

-- each version is less than those after it
abbrev pub AscendsBy : (Version → Version → Ordering) → List Version → Type 0
AscendsBy cmp S = Pairwise (λ v w. cmp v w ≡ Less) S

abbrev pub Ascends : List Version → Type 0
Ascends S = AscendsBy version_cmp S

-- no member is below a member
abbrev pub NoneIsBelow : List Version → Type 0
NoneIsBelow S = AllByRecursion (λ v. AllByRecursion (λ w. ¬ IsBelow v w) S) S

-- in the order of texts, none below another, at most 64
pub record IsVersionSet (S : List Version) : Type 0 where
  pub ascending : Ascends S
  pub own_maximum : maximal S ≡ S
  pub short : length S ≤ 64
  pub valid : AllByRecursion (λ v. IsClock v.clock) S

-- the fault of an offer: the set would have more than 64 members
abbrev pub offer_fault : Version → List Version → Option Refusal
offer_fault v S = if covered v S then None else if nat_lt 64 (length (maximal (with_version v S))) then Some Crowded else None

-- versions in the order of their texts, each once
abbrev pub set_from : List Version → List Version → List Version
set_from S [] = S
set_from S (v ∷ vs) = set_from (with_version v S) vs

-- the text of a pair: the node in two bytes, the counter in eight
abbrev pub pair_text : ℕ × ℕ → List ℕ
pair_text p = to_be_bytes w16 p.0 ++ to_be_bytes w64 p.1

-- the text of a version without its kind: the number of pairs, the pairs, the length of the value in four bytes, the
-- value
abbrev pub plain_text : Version → List ℕ
plain_text v = length v.clock ∷ (flat_map pair_text v.clock ++ (to_be_bytes w32 (length v.value) ++ v.value))

-- the text of a version: in format 2 it begins with a byte for the kind
abbrev pub version_text : Format → Version → List ℕ
version_text One v = plain_text v
version_text Two v = kind_byte v.kind ∷ plain_text v

-- the order of the texts of two versions, byte by byte
abbrev pub text_cmp : Format → Version → Version → Ordering
text_cmp format v w = slice_cmp nat_cmp (version_text format v) (version_text format w)

-- a version that has a text: its clock is valid, and the length of its value fits its field
pub record HasText (v : Version) : Type 0 where
  pub clock : IsClock v.clock
  pub value : length v.value < 2 ^ 32

abbrev pub IsLive : Version → Type 0
IsLive v = v.kind ≡ Live

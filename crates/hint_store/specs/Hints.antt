-- Hinted handoff: section 4.6 of the Dynamo paper. The hints of a carrier are a list: hint n is its n-th item.
use Rattle.std.specs.Prelude.{◌≡◌, ℕ, ◌+◌, ◌-◌, ◌^◌, ◌<◌, ◌≤◌, Bool, true, false, ◌&&◌, List, [], ◌∷◌, ◌++◌, length, map, filter, find, nat_lt, nat_eq, slice_get, Option, Some, None, if◌then◌else◌}
use Rattle.std.specs.Option.{option_map}
use Rattle.std.specs.List.{list_any}
use Rattle.std.specs.Str.{bytes_eq}
use Rattle.vclock.specs.Outcome.{Outcome, gives, refuses, ◌>>◌}
use Rattle.vclock.specs.declared.refusal.Refusal.{Refusal}
use Rattle.vclock.specs.declared.refusal.Refusal.TheVariants.{HintsFull, UnknownHint}
use Rattle.version_set.specs.declared.version.Version.{Version}
use Rattle.version_set.specs.Version.{is_same}
use Rattle.hint_store.specs.declared.hint.Hint.{Hint}
use Rattle.hint_store.specs.declared.hint.Delivery.{Delivery}
use Rattle.hint_store.specs.declared.hint.Fate.{Fate}
use Rattle.hint_store.specs.declared.hint.Fate.TheVariants.{Pending, Taken, Known}
use Rattle.hint_store.specs.declared.hint.Kept.{Kept}

-- the answer of an owner, if there was one: true if the version was covered there
abbrev pub owner_answer : Fate → Option Bool
owner_answer Pending = None
owner_answer Taken = Some false
owner_answer Known = Some true

-- the owner has not answered
abbrev pub is_undelivered : Fate → Bool
is_undelivered Pending = true
is_undelivered Taken = false
is_undelivered Known = false

abbrev pub is_pending : Kept → Bool
is_pending k = is_undelivered k.fate

-- the number of pending hints
abbrev pub pending_count : List Kept → ℕ
pending_count hints = length (filter is_pending hints)

-- the hints have the numbers from n on, in order
abbrev pub HaveIdsFrom : ℕ → List Kept → Type 0
HaveIdsFrom n [] = Unit {0}
HaveIdsFrom n (k ∷ ks) = (k.hint.id ≡ n) × HaveIdsFrom (n + 1) ks

-- numbered from 1, at most 10,000 pending, and no number above 2^32 - 1
pub record AreHints (hints : List Kept) : Type 0 where
  pub numbered : HaveIdsFrom 1 hints
  pub few : pending_count hints ≤ 10000
  pub small : length hints < 2 ^ 32

-- the hint of a number
abbrev pub kept_at : List Kept → ℕ → Option Kept
kept_at hints id = if nat_eq id 0 then None else slice_get hints (id - 1)

-- the fault of keeping one more hint
abbrev pub keep_fault : List Kept → Option Refusal
keep_fault hints = if nat_lt (pending_count hints) 10000 && nat_lt (length hints + 1) (2 ^ 32) then None else Some HintsFull

-- the hints with one more, which is pending
abbrev pub with_hint : List Kept → ℕ → List ℕ → Version → List Kept
with_hint hints owner key version =
    hints ++ record { hint = record { id = length hints + 1; owner = owner; key = key; version = version }; fate = Pending } ∷ []

-- the next number, and the hints with one more that has it
abbrev pub keep : List Kept → ℕ → List ℕ → Version → Outcome ℕ (List Kept)
keep hints owner key version = do
  keep_fault hints
  gives (length hints + 1) (with_hint hints owner key version)

-- a hint is pending, its number is over `after`, and its owner is one of owners
abbrev pub is_due : List ℕ → ℕ → Kept → Bool
is_due owners after k = is_pending k && nat_lt after k.hint.id && list_any (nat_eq k.hint.owner) owners

-- the pending hint with the least number over `after` whose owner is one of owners
abbrev pub next_hint : List ℕ → ℕ → List Kept → Option Hint
next_hint owners after hints = option_map (λ k. k.hint) (find (is_due owners after) hints)

-- a delivery matches a hint: owner, key and version are equal
abbrev pub delivers_hint : Delivery → Hint → Bool
delivers_hint d h = nat_eq h.owner d.owner && bytes_eq h.key d.key && is_same h.version d.version

-- a hint is pending, has that number, and matches the delivery
abbrev pub is_answered : ℕ → Delivery → Kept → Bool
is_answered id d k = is_pending k && nat_eq k.hint.id id && delivers_hint d k.hint

-- is_answered as equations: a pending hint with that number has the delivery's owner, key and version
pub record IsAnswered (id : ℕ) (d : Delivery) (k : Kept) : Type 0 where
  pub is_pending : k.fate ≡ Pending
  pub same_id : k.hint.id ≡ id
  pub same_owner : k.hint.owner ≡ d.owner
  pub same_key : k.hint.key ≡ d.key
  pub same_version : k.hint.version ≡ d.version

-- the fate of a hint that was delivered, by whether its owner knew the version
abbrev pub fate_if : Bool → Fate
fate_if known = if known then Known else Taken

-- the fate of a hint after a delivery
abbrev pub fate_of : Delivery → Fate
fate_of d = fate_if d.known

-- the hint with that number with its fate, and every other hint unchanged
abbrev pub closed_at : ℕ → Bool → Kept → Kept
closed_at id known k = if nat_eq k.hint.id id then record k { fate = fate_if known } else k

-- the hints after the wait of one of them ended
abbrev pub closed : List Kept → ℕ → Bool → List Kept
closed hints id known = map (closed_at id known) hints

abbrev pub answered : ℕ → Delivery → Kept → Kept
answered id d k = closed_at id d.known k

-- the hints after a delivery of one of them
abbrev pub confirmed : List Kept → ℕ → Delivery → List Kept
confirmed hints id d = closed hints id d.known

-- the hints after a delivery of a pending one
abbrev pub confirm : List Kept → ℕ → Delivery → Outcome (Unit {0}) (List Kept)
confirm hints id d = if list_any (is_answered id d) hints then gives tt (confirmed hints id d) else refuses UnknownHint

-- the delivery of a hint to its owner, who knew the version or not
abbrev pub delivery_by : Hint → Bool → Delivery
delivery_by h known = record { owner = h.owner; key = h.key; version = h.version; known = known }

-- the delivery of a hint, if it was delivered
abbrev pub delivery_of : Kept → Option Delivery
delivery_of k = option_map (λ known. delivery_by k.hint known) (owner_answer k.fate)

-- the owner of a hint, if it is pending
abbrev pub waiting_owner : Kept → Option ℕ
waiting_owner k = if is_pending k then Some k.hint.owner else None

-- the delivery of a pending hint to its owner, who knew its version or not
abbrev pub settled_at : List Kept → ℕ → Bool → Option Kept → Outcome (Unit {0}) (List Kept)
settled_at hints id known None = refuses UnknownHint
settled_at hints id known (Some k) = confirm hints id (delivery_by k.hint known)

abbrev pub settle : List Kept → ℕ → Bool → Outcome (Unit {0}) (List Kept)
settle hints id known = settled_at hints id known (kept_at hints id)

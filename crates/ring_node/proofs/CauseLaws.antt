-- Which causes there are.
use Rattle.std.proofs.Common.{◌≡◌, ◌⊎◌, inl, inr, ℕ, Bool, true, false, cond, List, Option, Some, None, refl}
use Rattle.vclock.specs.Answer.{first_fault}
use Rattle.vclock.specs.Clock.{raise_fault, Pairs}
use Rattle.vclock.specs.Bytes.{key_fault}
use Rattle.vclock.specs.declared.format.Format.{Format}
use Rattle.vclock.specs.declared.format.Format.TheVariants.{One, Two}
use Rattle.vclock.specs.declared.refusal.Refusal.{Refusal}
use Rattle.vclock.specs.declared.refusal.Refusal.TheVariants.{BadKey, BadValue, OtherRange, ClockFull, CounterFull, Crowded}
use Rattle.version_set.specs.Kind.{value_fault}
use Rattle.version_set.specs.Version.{offer_fault}
use Rattle.version_set.specs.declared.kind.Kind.{Kind}
use Rattle.version_set.specs.declared.kind.Kind.TheVariants.{Live, Tombstone}
use Rattle.version_set.specs.declared.version.Version.{Version}
use Rattle.range_store.specs.Config.{Config}
use Rattle.range_store.specs.Store.{place_fault}
use Rattle.ring_node.specs.Passes.{IsOddValue}

-- a cause that stands if a test holds
pub where_holds : (b : Bool) (x e : Refusal) → cond b (Some x) None ≡ Some e → e ≡ x
where_holds true x e is = cc
where_holds false x e is = absurd (cc)

-- a cause that stands if a test fails
pub where_fails : (b : Bool) (x e : Refusal) → cond b None (Some x) ≡ Some e → e ≡ x
where_fails true x e is = absurd (cc)
where_fails false x e is = cc

bad_value : (format : Format) (kind : Kind) (value : List ℕ) (e : Refusal) → value_fault format kind value ≡ Some e → e ≡ BadValue
bad_value format Live value e is = where_holds _ BadValue e is
bad_value One Tombstone value e is = cc
bad_value Two Tombstone value e is = where_fails _ BadValue e is

-- which causes the key, the kind and the value can have, and the range's own
pub data PlaceCause (key : List ℕ) (kind : Kind) (value : List ℕ) (e : Refusal) : Type 0 where
  of_key : e ≡ BadKey → key_fault key ≡ Some BadKey → PlaceCause key kind value e
  of_value : e ≡ BadValue → key_fault key ≡ None → IsOddValue kind value → PlaceCause key kind value e
  of_range : e ≡ OtherRange → key_fault key ≡ None → PlaceCause key kind value e

first_of_two : (a b : Option Refusal) (e : Refusal) → first_fault a b ≡ Some e → (a ≡ Some e) ⊎ ((a ≡ None) × (b ≡ Some e))
first_of_two (Some f) b e is = inl is
first_of_two None b e is = inr (refl, is)

pub place_cause : (c : Config) (key : List ℕ) (kind : Kind) (value : List ℕ) (e : Refusal) → place_fault c key kind value ≡ Some e
    → PlaceCause key kind value e
place_cause c key kind value e is =
    elim (first_of_two (key_fault key) _ e is) as (λ _. PlaceCause key kind value e) [
      | inl k ↦ let bad : e ≡ BadKey = where_holds _ BadKey e k in of_key bad (let h = k in cc)
      | inr later ↦
          elim (first_of_two (value_fault c.format kind value) _ e later.1) as (λ _. PlaceCause key kind value e) [
            | inl v ↦ let bad : e ≡ BadValue = bad_value c.format kind value e v in of_value bad later.0 (c.format, let h = v in cc)
            | inr last ↦ of_range (where_fails _ OtherRange e last.1) later.0
          ]
    ]

clock_tests : (a b : Bool) (e : Refusal) → cond a (Some ClockFull) (cond b (Some CounterFull) None) ≡ Some e → (e ≡ ClockFull) ⊎ (e ≡ CounterFull)
clock_tests true b e is = inl (cc)
clock_tests false b e is = inr (where_holds b CounterFull e is)

-- which causes a clock can have
pub clock_cause : (ps : Pairs) (at : ℕ) (e : Refusal) → raise_fault ps at ≡ Some e → (e ≡ ClockFull) ⊎ (e ≡ CounterFull)
clock_cause ps at e is = clock_tests _ _ e is

crowd_tests : (a b : Bool) (e : Refusal) → cond a None (cond b (Some Crowded) None) ≡ Some e → e ≡ Crowded
crowd_tests true b e is = absurd (cc)
crowd_tests false b e is = where_holds b Crowded e is

-- which cause an offer can have
pub crowd_cause : (v : Version) (S : List Version) (e : Refusal) → offer_fault v S ≡ Some e → e ≡ Crowded
crowd_cause v S e is = crowd_tests _ _ e is

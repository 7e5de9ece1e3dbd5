-- How long what a text holds may be.
use Rattle.std.proofs.Common.{◌≡◌, ℕ, ◌≤◌, Bool, true, false, cond, List, length, Some, None, arith, refl}
use Rattle.std.proofs.lemmas.Bool.{ltb-false, eqb-true, or_parts}
use Rattle.vclock.specs.Bytes.{key_fault}
use Rattle.vclock.specs.declared.format.Format.{Format}
use Rattle.vclock.specs.declared.format.Format.TheVariants.{One, Two}
use Rattle.vclock.specs.declared.refusal.Refusal.{Refusal}
use Rattle.version_set.specs.Kind.{value_fault}
use Rattle.version_set.specs.declared.kind.Kind.{Kind}
use Rattle.version_set.specs.declared.kind.Kind.TheVariants.{Live, Tombstone}

-- a test whose failure is a fault did not fail
pub no_fault : (b : Bool) (e : Refusal) → cond b (Some e) None ≡ None → b ≡ false
no_fault true e h = absurd cc
no_fault false e h = refl

-- a test that must hold holds
pub no_fault_else : (b : Bool) (e : Refusal) → cond b None (Some e) ≡ None → b ≡ true
no_fault_else true e h = refl
no_fault_else false e h = absurd cc

-- the values of both formats are at most 65,536 bytes long
pub value_short : (format : Format) (kind : Kind) (value : List ℕ) → value_fault format kind value ≡ None → length value ≤ 65536
value_short One Live value h = let n = ltb-false _ _ (no_fault _ _ h) in omega (arith, n)
value_short Two Live value h = ltb-false _ _ (no_fault _ _ h)
value_short One Tombstone value h = absurd cc
value_short Two Tombstone value h = let n = eqb-true _ _ (no_fault_else _ _ h) in omega (arith, n)

-- a key is at most 255 bytes long
pub key_short : (key : List ℕ) → key_fault key ≡ None → length key ≤ 255
key_short key h = ltb-false _ _ (or_parts _ _ (no_fault _ _ h)).1

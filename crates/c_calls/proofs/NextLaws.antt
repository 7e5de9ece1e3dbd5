-- The next pending hint of an owner.
use Rattle.std.proofs.Common.{◌≡◌, ℕ, ◌-◌, ◌<◌, Bool, true, false, ◌&&◌, cond, List, [], ◌∷◌, length, get_or, Option, None, refl, ap, arith}
use Rattle.std.specs.Prelude.{nat_le, nat_lt, nat_eq}
use Rattle.std.specs.Option.{option_map}
use Rattle.std.specs.List.{list_any}
use Rattle.std.proofs.lemmas.Bool.{le-ltb}
use Rattle.hint_store.specs.Hints.{HaveIdsFrom, is_pending, is_due, next_hint}
use Rattle.hint_store.proofs.HintLaws.{find_none, id_at}
use Rattle.hint_store.specs.declared.hint.Kept.{Kept}
use Rattle.c_calls.specs.Carried.{carried, next_number}

-- no hint has a number above that of the last one
none_after : (owners : List ℕ) (after : ℕ) (hints : List Kept) → HaveIdsFrom 1 hints → length hints < after → next_hint owners after hints ≡ None
none_after owners after hints numbered past = ap (option_map (λ (k : Kept). k.hint)) (find_none (is_due owners after) hints not_due)
  where
    fails : (a b c : Bool) → b ≡ false → (a && b && c) ≡ false
    fails true true c is_false = absurd (cc)
    fails true false c is_false = refl
    fails false b c is_false = refl

    not_due : (k : ℕ) (d : Kept) → k < length hints → is_due owners after (get_or hints k d) ≡ false
    not_due k d within =
        let h : Kept = get_or hints k d in
        fails (is_pending h) (nat_lt after h.hint.id) (list_any (nat_eq h.hint.owner) owners)
        (le-ltb after h.hint.id (let id = id_at 1 hints k d numbered within in omega (arith, id, past, within)))

pub no_next : (before : ℕ) (hints : List Kept) (owner after : ℕ) → HaveIdsFrom 1 hints → length hints < after - before
    → None ≡ next_number (carried before hints) owner after
no_next before hints owner after numbered past =
    rw (none_after (owner ∷ []) (after - before) hints numbered past) (either (nat_le owner 65535))
  where
    either : (b : Bool) → ◌≡◌ {A = Option ℕ} None (cond b None None)
    either true = refl
    either false = refl

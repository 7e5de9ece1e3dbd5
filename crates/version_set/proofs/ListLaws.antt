-- What holds of each element of lists, and of each with each later one.
use Rattle.std.proofs.Common.{◌≡◌, Bool, true, false, cond, List, [], ◌∷◌, ◌++◌, refl, ap, ◌∙◌}
use Rattle.std.specs.List.{filter, AllByRecursion}
use Rattle.std.specs.Cmp.{IsTotalOrder}
use Rattle.std.specs.Ordering.{ordering_reverse}
use Rattle.std.specs.declared.cmp.Ordering.{Ordering}
use Rattle.std.specs.declared.cmp.Ordering.TheVariants.{Less, Equal, Greater}
use Rattle.version_set.specs.Order.{Pairwise, place_by, inserted}

pub all-append : {X : Type 0} (P : X → Type 0) (xs ys : List X) → AllByRecursion P xs → AllByRecursion P ys → AllByRecursion P (xs ++ ys)
all-append P [] ys all more = more
all-append P (x ∷ xs) ys all more = (all.0, all-append P xs ys all.1 more)

pub all-push : {X : Type 0} (P : X → Type 0) (xs : List X) (y : X) → AllByRecursion P xs → P y → AllByRecursion P (xs ++ y ∷ [])
all-push P [] y all here = (here, tt)
all-push P (x ∷ xs) y all here = (all.0, all-push P xs y all.1 here)

-- the items after the first ones
pub all-rest : {X : Type 0} (P : X → Type 0) (xs ys : List X) → AllByRecursion P (xs ++ ys) → AllByRecursion P ys
all-rest P [] ys all = all
all-rest P (x ∷ xs) ys all = all-rest P xs ys all.1

-- an item within a list
pub all-inner : {X : Type 0} (P : X → Type 0) (xs : List X) (y : X) (ys : List X) → AllByRecursion P (xs ++ y ∷ ys) → P y
all-inner P xs y ys all = (all-rest P xs (y ∷ ys) all).0

pub all-filter : {X : Type 0} (P : X → Type 0) (p : X → Bool) (xs : List X) → AllByRecursion P xs → AllByRecursion P (filter p xs)
all-filter P p [] all = tt
all-filter P p (x ∷ xs) all =
    elim (p x) as (λ b. AllByRecursion P (cond b (x ∷ filter p xs) (filter p xs))) [
      | true ↦
          (all.0, all-filter P p xs all.1)
      | false ↦ all-filter P p xs all.1
    ]

pub all-inserted : {X : Type 0} (cmp : X → X → Ordering) (P : X → Type 0) (x : X) (xs : List X) → P x → AllByRecursion P xs
    → AllByRecursion P (inserted cmp x xs)
all-inserted cmp P x [] h all = (h, tt)
all-inserted cmp P x (y ∷ ys) h all = elim (cmp x y) as (λ o. AllByRecursion P (place_by o (x ∷ y ∷ ys) (y ∷ ys) (y ∷ inserted cmp x ys))) [
  | Less ↦ (h, all)
  | Equal ↦ all
  | Greater ↦ (all.0, all-inserted cmp P x ys h all.1)
]

pub Pairwise-filter : {X : Type 0} (R : X → X → Type 0) (p : X → Bool) (xs : List X) → Pairwise R xs → Pairwise R (filter p xs)
Pairwise-filter R p [] pairs = tt
Pairwise-filter R p (x ∷ xs) pairs = elim (p x) as (λ b. Pairwise R (cond b (x ∷ filter p xs) (filter p xs))) [
  | true ↦ (all-filter (R x) p xs pairs.0, Pairwise-filter R p xs pairs.1)
  | false ↦ Pairwise-filter R p xs pairs.1
]

-- what is less than an element is less than those that the element is less than
pub less_all : {X : Type 0} (cmp : X → X → Ordering) → IsTotalOrder cmp → (x y : X) (xs : List X) → cmp x y ≡ Less
    → AllByRecursion (λ z. cmp y z ≡ Less) xs → AllByRecursion (λ z. cmp x z ≡ Less) xs
less_all cmp total x y [] h all = tt
less_all cmp total x y (z ∷ xs) h all = (total.trans x y z h all.0, less_all cmp total x y xs h all.1)

pub ascends-inserted : {X : Type 0} (cmp : X → X → Ordering) → IsTotalOrder cmp → (x : X) (xs : List X) → Pairwise (λ y z. cmp y z ≡ Less) xs
    → Pairwise (λ y z. cmp y z ≡ Less) (inserted cmp x xs)
ascends-inserted cmp total x [] up = (tt, tt)
ascends-inserted cmp total x (y ∷ ys) up =
    elim (cmp x y) as (λ o. cmp x y ≡ o → Pairwise (λ v w. cmp v w ≡ Less) (place_by o (x ∷ y ∷ ys) (y ∷ ys) (y ∷ inserted cmp x ys))) [
      | Less ↦ λ o. ((o, less_all cmp total x y ys o up.0), up)
      | Equal ↦ λ o. up
      | Greater ↦ λ o. (
        all-inserted cmp (λ z. cmp y z ≡ Less) x ys (total.antisymm y x ∙ ap ordering_reverse o) up.0,
        ascends-inserted cmp total x ys up.1,
      )
    ] refl

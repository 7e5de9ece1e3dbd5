-- Lists in order.
use Rattle.std.specs.Prelude.{List, [], ◌∷◌}
use Rattle.std.specs.List.{AllByRecursion}
use Rattle.std.specs.declared.cmp.Ordering.{Ordering}
use Rattle.std.specs.declared.cmp.Ordering.TheVariants.{Less, Equal, Greater}

-- R holds of each element and each later one
abbrev pub Pairwise : {X : Type 0} → (X → X → Type 0) → List X → Type 0
Pairwise R [] = Unit {0}
Pairwise R (x ∷ xs) = AllByRecursion (R x) xs × Pairwise R xs

-- the alternative for the outcome of a comparison
abbrev pub place_by : {A : Type 0} → Ordering → A → A → A → A
place_by Less before here after = before
place_by Equal before here after = here
place_by Greater before here after = after

-- ascending elements and x in its place, unless an element ties with x
abbrev pub inserted : {X : Type 0} → (X → X → Ordering) → X → List X → List X
inserted cmp x [] = x ∷ []
inserted cmp x (y ∷ ys) = place_by (cmp x y) (x ∷ y ∷ ys) (y ∷ ys) (y ∷ inserted cmp x ys)

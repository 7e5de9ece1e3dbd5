-- What one more step of a loop over a list does.
use Rattle.std.proofs.Common.{◌≡◌, ℕ, zero, suc, ◌+◌, ◌<◌, ◌≤◌, Bool, true, false, cond, List, [], ◌∷◌, ◌++◌, length, take, drop, get_or, refl, ap}
use Rattle.std.proofs.Common.{sym, ◌∙◌, arith, Some, None, add-one}
use Rattle.std.specs.Prelude.{find, position, slice_get, replicate, ◌||◌}
use Rattle.std.specs.List.{list_any, position_from}
use Rattle.std.proofs.lemmas.Iterator.Adapters.{position_from-zero}

-- ---- a search

pub find_here : {X : Type 0} (p : X → Bool) (xs : List X) (i : ℕ) (x : X) → slice_get xs i ≡ Some x → p x ≡ true → find p (drop i xs) ≡ Some x
find_here p [] i x e t = cc
find_here p (y ∷ xs) zero x e t = let same : y ≡ x = cc in rw (same, t) refl
find_here p (y ∷ xs) (suc i) x e t = find_here p xs i x e t

find_suc : {X : Type 0} (p : X → Bool) (xs : List X) (i : ℕ) (x : X) → slice_get xs i ≡ Some x → p x ≡ false
    → find p (drop i xs) ≡ find p (drop (suc i) xs)
find_suc p [] i x e t = cc
find_suc p (y ∷ xs) zero x e t = let same : y ≡ x = cc in rw (same, t) refl
find_suc p (y ∷ xs) (suc i) x e t = find_suc p xs i x e t

pub find_next : {X : Type 0} (p : X → Bool) (xs : List X) (i : ℕ) (x : X) → slice_get xs i ≡ Some x → p x ≡ false
    → find p (drop i xs) ≡ find p (drop (i + 1) xs)
find_next p xs i x e t = rw (add-one) (find_suc p xs i x e t)

pub find_end : {X : Type 0} (p : X → Bool) (xs : List X) (i : ℕ) → length xs ≤ i → find p (drop i xs) ≡ None
find_end p [] zero h = refl
find_end p [] (suc i) h = refl
find_end p (x ∷ xs) zero h = absurd (omega arith)
find_end p (x ∷ xs) (suc i) h = find_end p xs i (omega arith)

-- ---- copies

copies_suc : {X : Type 0} (n : ℕ) (x : X) → replicate n x ++ x ∷ [] ≡ replicate (suc n) x
copies_suc zero x = refl
copies_suc (suc n) x = ap (λ t. x ∷ t) (copies_suc n x)

pub copies_more : {X : Type 0} (n : ℕ) (x : X) → replicate n x ++ x ∷ [] ≡ replicate (n + 1) x
copies_more n x = rw (add-one) (copies_suc n x)

-- ---- a place

placed_from : {X : Type 0} (p : X → Bool) (xs : List X) (i : ℕ) → list_any p xs ≡ true → position_from p i xs ≡ None → ⊥
placed_from p [] i t e = cc
placed_from p (x ∷ xs) i t e = pick (placed_from p xs (i + 1)) (p x) t e
  where
    pick : (list_any p xs ≡ true → position_from p (i + 1) xs ≡ None → ⊥) → (b : Bool) → (b || list_any p xs) ≡ true
        → cond b (Some i) (position_from p (i + 1) xs) ≡ None → ⊥
    pick more true t e = cc
    pick more false t e = more t e

-- what passes has a place
pub placed : {X : Type 0} (p : X → Bool) (xs : List X) → list_any p xs ≡ true → position p xs ≡ None → ⊥
placed p xs t e = placed_from p xs 0 t (sym (position_from-zero p xs) ∙ e)

-- what stands at a place is found there
pub got : {X : Type 0} (xs : List X) (i : ℕ) (x : X) → i < length xs → x ≡ get_or xs i x → slice_get xs i ≡ Some x
got [] i x h e = absurd (omega arith)
got (y ∷ xs) zero x h e = ap Some (sym e)
got (y ∷ xs) (suc i) x h e = got xs i x (omega arith) e

-- as many as there are, of what was appended to
pub front : {X : Type 0} (xs ys : List X) (n : ℕ) → n ≡ length xs → take n (xs ++ ys) ≡ xs
front [] ys n e = rw e (none_taken ys)
  where
    none_taken : {Y : Type 0} (zs : List Y) → take 0 zs ≡ []
    none_taken [] = refl
    none_taken (z ∷ zs) = refl
front (x ∷ xs) ys n e = rw e (ap (λ t. x ∷ t) (front xs ys (length xs) refl))

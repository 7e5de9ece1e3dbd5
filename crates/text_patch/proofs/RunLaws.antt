-- Copies of consecutive parts, as they are written.
use Rattle.std.proofs.Common.{◌≡◌, ℕ, zero, suc, ◌+◌, ◌<◌, Bool, true, false, cond, eqb, List, [], ◌∷◌, ◌++◌, length, take, drop, get_or, Some, None}
use Rattle.std.proofs.Common.{refl, sym, ap, ◌∙◌, add-one, arith}
use Rattle.std.proofs.lemmas.Bool.{eq-eqb, ne_eqb}
use Rattle.std.proofs.lemmas.List.{append-nil, drop_more}
use Rattle.sha2.specs.Sha256.{sha256}
use Rattle.text_patch.specs.Marks.{MarkList, mark_of, place_of}
use Rattle.text_patch.specs.Patches.{with_copy, patch_for}
use Rattle.text_patch.specs.Steps.{Step, Copy, New, step_text, steps_text}

-- copies of so many parts, from a first one on, before other steps
abbrev pub with_run : ℕ → ℕ → List Step → List Step
with_run first zero steps = steps
with_run first (suc k) steps = with_copy first (with_run (first + 1) k steps)

-- a copy of so many parts, unless it is of none
abbrev pub run_text : ℕ → ℕ → List ℕ
run_text first count = cond (eqb count 0) [] (step_text (Copy first count))

-- one more copy
run_more : (first k at : ℕ) (steps : List Step) → at ≡ first + k → with_run first k (with_copy at steps) ≡ with_run first (suc k) steps
run_more first zero at steps e = let here : at ≡ first = omega arith in ap (λ (n : ℕ). with_copy n steps) here
run_more first (suc k) at steps e = ap (λ (ss : List Step). with_copy first ss) (run_more (first + 1) k at steps (omega arith))

-- steps don't begin with a copy from a place
abbrev NotFrom : ℕ → List Step → Type 0
NotFrom at [] = Unit {0}
NotFrom at (New bytes ∷ steps) = Unit {0}
NotFrom at (Copy first count ∷ steps) = first ≡ at → ⊥

-- a copy of several parts before steps that don't go on with it
run_is : (first k at : ℕ) (steps : List Step) → at ≡ first + suc k → NotFrom at steps → with_run first (suc k) steps ≡ Copy first (suc k) ∷ steps
run_is first zero at [] e not = refl
run_is first zero at (New bytes ∷ steps) e not = refl
run_is first zero at (Copy next count ∷ steps) e not = rw (ne_eqb next (first + 1) (λ h. not (omega arith))) refl
run_is first (suc k) at steps e not =
    let joined : with_copy first (Copy (first + 1) (suc k) ∷ steps) ≡ Copy first (suc k + 1) ∷ steps = rw
    (eq-eqb (first + 1) (first + 1) refl) refl in
    ap (λ (ss : List Step). with_copy first ss) (run_is (first + 1) k at steps (omega arith) not) ∙ joined
    ∙ ap (λ (n : ℕ). Copy first n ∷ steps) (add-one (suc k))

-- and its text
run_spelled : (first count at : ℕ) (steps : List Step) → at ≡ first + count → NotFrom at steps
    → steps_text (with_run first count steps) ≡ run_text first count ++ steps_text steps
run_spelled first zero at steps e not = refl
run_spelled first (suc k) at steps e not = ap (λ (ss : List Step). steps_text ss) (run_is first k at steps e not)
    ∙ sym (rw (ne_eqb (suc k) 0 (λ h. omega arith)) refl)

-- a copy from another place begins there
copy_elsewhere : (place at : ℕ) (steps : List Step) → (place ≡ at → ⊥) → NotFrom at (with_copy place steps)
copy_elsewhere place at [] ne = ne
copy_elsewhere place at (New bytes ∷ steps) ne = ne
copy_elsewhere place at (Copy first count ∷ steps) ne = either (eqb first (place + 1))
  where
    either : (b : Bool) → NotFrom at (cond b (Copy place (count + 1) ∷ steps) (Copy place 1 ∷ Copy first count ∷ steps))
    either true = ne
    either false = ne

-- ---- what was written so far, and a run that may go on, before the steps of the other parts

-- the steps of parts after a run
abbrev pub left_text : List ℕ → MarkList → ℕ → ℕ → List (List ℕ) → List ℕ
left_text salt m first count parts = steps_text (with_run first count (patch_for salt m (first + count) parts))

-- the next part, which has this digest with the salt, is copied from where the run ends
pub run_goes_on : (salt : List ℕ) (m : MarkList) (first count place : ℕ) (part digest : List ℕ) (parts : List (List ℕ))
    → digest ≡ sha256 (salt ++ part) → Some place ≡ place_of m (take m.width digest) (first + count) → place ≡ first + count
    → left_text salt m first count (part ∷ parts) ≡ left_text salt m first (count + 1) parts
run_goes_on salt m first count place part digest parts d p here =
    let next : (first + count) + 1 ≡ first + (count + 1) = omega arith in
    let found : place_of m (mark_of salt m.width part) (first + count) ≡ Some (first + count) = rw (← d) (sym p ∙ ap Some here) in
    let one : patch_for salt m (first + count) (part ∷ parts) ≡ with_copy (first + count)
    (patch_for salt m ((first + count) + 1) parts) = rw found refl in
    ap (λ (ss : List Step). steps_text (with_run first count ss)) one
    ∙ ap (λ (ss : List Step). steps_text ss) (run_more first count (first + count) (patch_for salt m ((first + count) + 1) parts) refl)
    ∙ ap (λ (n : ℕ). steps_text (with_run first (suc count) (patch_for salt m n parts))) next
    ∙ ap (λ (n : ℕ). steps_text (with_run first n (patch_for salt m (first + (count + 1)) parts))) (sym (add-one count))

-- it is copied from another place
pub run_jumps : (salt : List ℕ) (m : MarkList) (first count place : ℕ) (part digest : List ℕ) (parts : List (List ℕ)) → digest ≡ sha256 (salt ++ part)
    → Some place ≡ place_of m (take m.width digest) (first + count) → (place ≡ first + count → ⊥)
    → left_text salt m first count (part ∷ parts) ≡ run_text first count ++ left_text salt m place 1 parts
run_jumps salt m first count place part digest parts d p ne =
    let found : place_of m (mark_of salt m.width part) (first + count) ≡ Some place = rw (← d) (sym p) in
    let one : patch_for salt m (first + count) (part ∷ parts) ≡ with_copy place (patch_for salt m (place + 1) parts) = rw found refl in
    ap (λ (ss : List Step). steps_text (with_run first count ss)) one
    ∙ run_spelled first count (first + count) (with_copy place (patch_for salt m (place + 1) parts)) refl
    (copy_elsewhere place (first + count) (patch_for salt m (place + 1) parts) ne)

-- it is new
pub run_stops : (salt : List ℕ) (m : MarkList) (first count : ℕ) (part digest : List ℕ) (parts : List (List ℕ)) → digest ≡ sha256 (salt ++ part)
    → None ≡ place_of m (take m.width digest) (first + count)
    → left_text salt m first count (part ∷ parts) ≡ run_text first count ++ (step_text (New part) ++ left_text salt m (first + count) 0 parts)
run_stops salt m first count part digest parts d p =
    let same : first + count ≡ (first + count) + 0 = omega arith in
    let missing : place_of m (mark_of salt m.width part) (first + count) ≡ None = rw (← d) (sym p) in
    let one : patch_for salt m (first + count) (part ∷ parts) ≡ New part ∷ patch_for salt m (first + count) parts = rw missing refl in
    ap (λ (ss : List Step). steps_text (with_run first count ss)) one
    ∙ run_spelled first count (first + count) (New part ∷ patch_for salt m (first + count) parts) refl tt
    ∙ ap (λ (n : ℕ). run_text first count ++ (step_text (New part) ++ steps_text (patch_for salt m n parts))) same

-- there is none
pub run_ends : (salt : List ℕ) (m : MarkList) (first count : ℕ) → left_text salt m first count [] ≡ run_text first count
run_ends salt m first count = run_spelled first count (first + count) [] refl tt ∙ append-nil (run_text first count)

-- the next part, and those after it
pub next_part : (parts : List (List ℕ)) (i : ℕ) (part : List ℕ) → i < length parts → part ≡ get_or parts i part
    → drop i parts ≡ part ∷ drop (i + 1) parts
next_part parts i part lt is = drop_more parts i part lt ∙ ap (λ (p : List ℕ). p ∷ drop (i + 1) parts) (sym is)

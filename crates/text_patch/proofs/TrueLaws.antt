-- A true patch: parts are found where they are, and copies of them are the parts.
use Rattle.std.proofs.Common.{◌≡◌, ℕ, zero, suc, ◌+◌, ◌-◌, ◌*◌, ◌<◌, ◌≤◌, ◌^◌, Bool, true, false, cond, min, eqb, List, [], ◌∷◌, ◌++◌, length, take}
use Rattle.std.proofs.Common.{drop, get_or, Option, Some, None, refl, sym, ap, subst, ◌∙◌, append_assoc, arith}
use Rattle.std.specs.Prelude.{bytes_eq}
use Rattle.std.specs.List.{flat_map, Contains, AllByRecursion}
use Rattle.std.proofs.Math.Nat.{mul-suc}
use Rattle.std.proofs.lemmas.Bool.{eqb-true}
use Rattle.std.proofs.lemmas.List.{append-nil, length-take, take_at, drop_at, drop-drop, drop_more}
use Rattle.std.proofs.lemmas.List.Elements.{Contains-get_or, Contains-append_right}
use Rattle.std.proofs.lemmas.Slice.Eq.{bytes_eq-Decides}
use Rattle.sha2.specs.Sha256.{sha256}
use Rattle.sha2.proofs.Facts256.{length-sha256}
use Rattle.tree_nodes.specs.Blocks.{joined}
use Rattle.text_patch.specs.Marks.{MarkList, mark_of, marks_of, mark_at, first_with, place_of}
use Rattle.text_patch.specs.Patches.{with_copy, with_part, after_place, patch_for, NoTwoShareAMark}
use Rattle.text_patch.specs.Steps.{Step, Copy, New, made, GoForwards}
use Rattle.text_patch.proofs.LengthLaws.{IsShort}

-- ---- marks

-- a place from one on and before another that has a mark
record IsFound (m : MarkList) (mark : List ℕ) (from end place : ℕ) : Type 0 where
  pub after : from ≤ place
  pub before : place < end
  pub marked : mark_at m place ≡ mark

-- the first place has the mark, or one of the others has
found_so : (m : MarkList) (mark : List ℕ) (k from place : ℕ) (b : Bool) → bytes_eq (mark_at m from) mark ≡ b
    → cond b (Some from) (first_with m mark k (from + 1)) ≡ Some place
    → (first_with m mark k (from + 1) ≡ Some place → IsFound m mark (from + 1) ((from + 1) + k) place) → IsFound m mark from (from + suc k) place
found_so m mark k from place true is e later =
    let same : from ≡ place = cc in
    let here : mark_at m from ≡ mark = (bytes_eq-Decides (mark_at m from) mark).0 is in
    record { after = omega arith; before = omega arith; marked = subst (λ (n : ℕ). mark_at m n ≡ mark) same here }
found_so m mark k from place false is e later = let f = later e in
    record { after = omega (arith, f.after); before = omega (arith, f.before); marked = f.marked }

found : (m : MarkList) (mark : List ℕ) (places from place : ℕ) → first_with m mark places from ≡ Some place
    → IsFound m mark from (from + places) place
found m mark zero from place e = absurd cc
found m mark (suc k) from place e = found_so m mark k from place (bytes_eq (mark_at m from) mark) refl e (found m mark k (from + 1) place)

-- a place that is found is one of the marks
found_place : (m : MarkList) (mark : List ℕ) (from place : ℕ) → place_of m mark from ≡ Some place → IsFound m mark from m.count place
found_place m mark from place e =
    let f = found m mark (min 1024 (m.count - from)) from place e in
    record { after = f.after; before = omega (arith, f.after, f.before); marked = f.marked }

mark_len : (salt : List ℕ) (width : ℕ) (part : List ℕ) → width ≤ 8 → length (mark_of salt width part) ≡ width
mark_len salt width part short = omega (arith, length-take width (sha256 (salt ++ part)), length-sha256 (salt ++ part))

-- the marks of parts are in the order of the parts
mark_is : (salt : List ℕ) (width : ℕ) (parts : List (List ℕ)) (place : ℕ) → width ≤ 8 → place < length parts
    → mark_at (marks_of salt width parts) place ≡ mark_of salt width (get_or parts place [])
mark_is salt width [] place short lt = absurd (omega arith)
mark_is salt width (p ∷ ps) zero short lt =
    let mark = mark_of salt width p in
    let others = flat_map (mark_of salt width) ps in
    let none : width * 0 ≡ 0 = omega arith in
    ap (λ (n : ℕ). take width (drop n (mark ++ others))) none ∙ take_at mark others width (mark_len salt width p short)
mark_is salt width (p ∷ ps) (suc place) short lt =
    let mark = mark_of salt width p in
    let others = flat_map (mark_of salt width) ps in
    let more : width * suc place ≡ width + width * place = mul-suc width place ∙ omega arith in
    let rest : drop (width * suc place) (mark ++ others) ≡ drop (width * place) others =
    ap (λ (n : ℕ). drop n (mark ++ others)) more ∙ sym (drop-drop (width * place) width (mark ++ others))
    ∙ ap (λ (t : List ℕ). drop (width * place) t) (drop_at mark others width (mark_len salt width p short)) in
    ap (λ (t : List ℕ). take width t) rest ∙ mark_is salt width ps place short (omega arith)

-- ---- copies

-- so many parts from a place on are that one and those after it
copied_more : (parts : List (List ℕ)) (place count : ℕ) → place < length parts
    → joined (take (count + 1) (drop place parts)) ≡ get_or parts place [] ++ joined (take count (drop (place + 1) parts))
copied_more parts place count lt =
    let first : drop place parts ≡ get_or parts place [] ∷ drop (place + 1) parts = drop_more parts place [] lt in
    let more : count + 1 ≡ suc count = omega arith in
    rw (first, more) refl

-- a copy of one part before steps makes the part, and then what they make
copy_made : (parts : List (List ℕ)) (place : ℕ) (steps : List Step) → place < length parts
    → made parts (with_copy place steps) ≡ get_or parts place [] ++ made parts steps
copy_made parts place [] lt = ap (λ (t : List ℕ). t ++ []) (copied_more parts place 0 lt ∙ append-nil (get_or parts place []))
copy_made parts place (New bytes ∷ steps) lt =
    ap (λ (t : List ℕ). t ++ (bytes ++ made parts steps)) (copied_more parts place 0 lt ∙ append-nil (get_or parts place []))
copy_made parts place (Copy first count ∷ steps) lt = either (eqb first (place + 1)) refl
  where
    after : List ℕ
    after = joined (take count (drop first parts)) ++ made parts steps

    either : (b : Bool) → eqb first (place + 1) ≡ b
        → made parts (cond b (Copy place (count + 1) ∷ steps) (Copy place 1 ∷ Copy first count ∷ steps)) ≡ get_or parts place [] ++ after
    either false is = ap (λ (t : List ℕ). t ++ after) (copied_more parts place 0 lt ∙ append-nil (get_or parts place []))
    either true is =
        let next : place + 1 ≡ first = sym (eqb-true first (place + 1) is) in
        ap (λ (t : List ℕ). t ++ made parts steps) (copied_more parts place count lt)
        ∙ append_assoc (get_or parts place []) (joined (take count (drop (place + 1) parts))) (made parts steps)
        ∙ ap (λ (n : ℕ). get_or parts place [] ++ (joined (take count (drop n parts)) ++ made parts steps)) next

-- and goes forwards as they do
copy_forwards : (parts from place : ℕ) (steps : List Step) → parts < 2 ^ 32 → from ≤ place → place < parts → GoForwards (place + 1) parts steps
    → GoForwards from parts (with_copy place steps)
copy_forwards parts from place [] few after lt g = ((after, omega arith, omega arith, omega arith), tt)
copy_forwards parts from place (New bytes ∷ steps) few after lt g = ((after, omega arith, omega arith, omega arith), g)
copy_forwards parts from place (Copy first count ∷ steps) few after lt g = either (eqb first (place + 1)) refl
  where
    either : (b : Bool) → eqb first (place + 1) ≡ b
        → GoForwards from parts (cond b (Copy place (count + 1) ∷ steps) (Copy place 1 ∷ Copy first count ∷ steps))
    either false is = ((after, omega arith, omega arith, omega arith), g)
    either true is =
        let next : first ≡ place + 1 = eqb-true first (place + 1) is in
        let end : first + count ≡ place + (count + 1) = omega arith in
        ((after, omega arith, omega (arith, g.0), omega (arith, g.0)), subst (λ (n : ℕ). GoForwards n parts steps) end g.1)

-- ---- patches

-- steps go forwards and make the parts
pub record AreTrue (own : List (List ℕ)) (from : ℕ) (steps : List Step) (others : List (List ℕ)) : Type 0 where
  pub forwards : GoForwards from (length own) steps
  pub makes : made own steps ≡ joined others

-- with one part before
true_more : (salt : List ℕ) (width : ℕ) (own : List (List ℕ)) (from : ℕ) (part : List ℕ) (others : List (List ℕ)) (o : Option ℕ) → width ≤ 8
    → length own < 2 ^ 32 → IsShort part
    → ((p : List ℕ) → Contains own p → mark_of salt width p ≡ mark_of salt width part → p ≡ part)
    → place_of (marks_of salt width own) (mark_of salt width part) from ≡ o → (steps : List Step) → AreTrue own (after_place from o) steps others
    → AreTrue own from (with_part o part steps) (part ∷ others)
true_more salt width own from part others None short few fits same is steps t =
    record { forwards = (fits, t.forwards); makes = ap (λ (x : List ℕ). part ++ x) t.makes }
true_more salt width own from part others (Some place) short few fits same is steps t =
    let f = found_place (marks_of salt width own) (mark_of salt width part) from place is in
    let here : get_or own place [] ≡ part = same (get_or own place []) (Contains-get_or own place [] f.before)
    (sym (mark_is salt width own place short f.before) ∙ f.marked) in
    record {
      forwards = copy_forwards (length own) from place steps few f.after f.before t.forwards;
      makes = copy_made own place steps f.before ∙ ap (λ (x : List ℕ). x ++ made own steps) here ∙ ap (λ (x : List ℕ). part ++ x) t.makes;
    }

pub true_patch : (salt : List ℕ) (width : ℕ) (own : List (List ℕ)) (from : ℕ) (others : List (List ℕ)) → width ≤ 8 → length own < 2 ^ 32
    → AllByRecursion IsShort others → NoTwoShareAMark salt width own others
    → AreTrue own from (patch_for salt (marks_of salt width own) from others) others
true_patch salt width own from [] short few fits same = record { forwards = tt; makes = refl }
true_patch salt width own from (part ∷ others) short few fits same =
    let m = marks_of salt width own in
    let o = place_of m (mark_of salt width part) from in
    let rest = true_patch salt width own (after_place from o) others short few fits.1
    (λ p q here there e. same p q here (Contains-append_right (part ∷ []) others q there) e) in
    true_more salt width own from part others o short few fits.0 (λ p here e. same p part here (0, omega arith, refl) e) refl
    (patch_for salt m (after_place from o) others) rest

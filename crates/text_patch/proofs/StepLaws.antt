-- Steps: some bytes begin with one at most, and what they make.
use Rattle.std.proofs.Common.{◌≡◌, ℕ, ◌+◌, ◌-◌, ◌<◌, ◌≤◌, ◌^◌, List, [], ◌∷◌, ◌++◌, length, take, drop, get_or, refl, sym, ap, subst, ◌∙◌, arith}
use Rattle.std.specs.Int.{w32, from_be_bytes, to_be_bytes}
use Rattle.std.proofs.lemmas.List.{length-append, take_at, drop_at, take-append-drop, drop-drop}
use Rattle.std.proofs.lemmas.List.Concat.{flat_map-append}
use Rattle.std.proofs.lemmas.Nat.{from_be_bytes-to_be_bytes_4}
use Rattle.tree_nodes.specs.Blocks.{joined}
use Rattle.text_patch.specs.Steps.{Step, Copy, New, step_text, steps_text, made_by, made, MayCome, after_step, GoForwards, BeginsWith, Make}

-- a number of four bytes is spelled as no other
pub one_number : (m n : ℕ) → m < 2 ^ 32 → n < 2 ^ 32 → to_be_bytes w32 m ≡ to_be_bytes w32 n → m ≡ n
one_number m n f g e = sym (from_be_bytes-to_be_bytes_4 m f) ∙ ap (from_be_bytes w32) e ∙ from_be_bytes-to_be_bytes_4 n g

-- a step has a first byte at least
pub some_text : (s : Step) → 1 ≤ length (step_text s)
some_text (Copy first count) = omega arith
some_text (New bytes) = omega arith

-- bytes begin with one step at most
pub one_step : (from parts after all : ℕ) (s t : Step) (x y : List ℕ) → MayCome from parts s → MayCome after all t
    → step_text s ++ x ≡ step_text t ++ y → (s ≡ t) × (x ≡ y)
one_step from parts after all (Copy f c) (Copy g d) x y m n e =
    let first = one_number f g m.1 n.1 (ap (λ (t : List ℕ). take 4 (drop 1 t)) e) in
    let count = one_number c d m.2 n.2 (ap (λ (t : List ℕ). take 4 (drop 5 t)) e) in
    let rest : x ≡ y = ap (λ (t : List ℕ). drop 9 t) e in
    ((λ i. Copy (first i) (count i)), rest)
one_step from parts after all (Copy f c) (New b) x y m n e = absurd (omega (arith, ap (λ (t : List ℕ). get_or t 0 0) e))
one_step from parts after all (New a) (Copy g d) x y m n e = absurd (omega (arith, ap (λ (t : List ℕ). get_or t 0 0) e))
one_step from parts after all (New a) (New b) x y m n e =
    let len : length a ≡ length b = one_number (length a) (length b) m n (ap (λ (t : List ℕ). take 4 (drop 1 t)) e) in
    let both : a ++ x ≡ b ++ y = ap (λ (t : List ℕ). drop 5 t) e in
    let same : a ≡ b = sym (take_at a x (length a) refl) ∙ ap (λ (t : List ℕ). take (length a) t) both ∙ take_at b y (length a) (sym len) in
    let rest : x ≡ y = sym (drop_at a x (length a) refl) ∙ ap (λ (t : List ℕ). drop (length a) t) both ∙ drop_at b y (length a) (sym len) in
    (ap New same, rest)

-- a step and others make what it makes, and then what they make
pub made_more : (parts : List (List ℕ)) (from : ℕ) (bytes rest text : List ℕ) (s : Step) → BeginsWith from (length parts) bytes s rest
    → Make parts (after_step from s) rest text → Make parts from bytes (made_by parts s ++ text)
made_more parts from bytes rest text s b m = record {
  steps = s ∷ m.steps;
  spelled = ap (λ (t : List ℕ). step_text s ++ t) m.spelled ∙ sym b.spelled;
  forwards = (b.may_come, m.forwards);
  made_is = ap (λ (t : List ℕ). made_by parts s ++ t) m.made_is;
}

-- what the steps after the first make
pub record MakeMore (parts : List (List ℕ)) (from : ℕ) (s : Step) (rest text : List ℕ) : Type 0 where
  pub more : List ℕ
  pub makes : Make parts (after_step from s) rest more
  pub text_is : text ≡ made_by parts s ++ more

-- where bytes make a text, those after a step at their front make the rest of it
pub made_less : (parts : List (List ℕ)) (from : ℕ) (bytes rest text : List ℕ) (s : Step) → BeginsWith from (length parts) bytes s rest
    → Make parts from bytes text → MakeMore parts from s rest text
made_less parts from bytes rest text s b m = after m.steps (m.spelled ∙ b.spelled) m.forwards m.made_is
  where
    after : (steps : List Step) → steps_text steps ≡ step_text s ++ rest → GoForwards from (length parts) steps → made parts steps ≡ text
        → MakeMore parts from s rest text
    after [] e g is = absurd (omega (arith, some_text s, length-append (step_text s) rest, ap (λ (t : List ℕ). length t) e))
    after (t ∷ ts) e g is =
        let same = one_step from (length parts) from (length parts) t s (steps_text ts) rest g.0 b.may_come e in
        let first : t ≡ s = same.0 in
        record {
          more = made parts ts;
          makes = record {
            steps = ts;
            spelled = same.1;
            forwards = subst (λ (u : Step). GoForwards (after_step from u) (length parts) ts) first g.1;
            made_is = refl;
          };
          text_is = sym is ∙ ap (λ (u : Step). made_by parts u ++ made parts ts) first;
        }

-- ---- steps make one text at most

pub one_made : (parts : List (List ℕ)) (from : ℕ) (xs ys : List Step) → GoForwards from (length parts) xs → GoForwards from (length parts) ys
    → steps_text xs ≡ steps_text ys → made parts xs ≡ made parts ys
one_made parts from [] [] f g e = refl
one_made parts from [] (y ∷ ys) f g e =
    absurd (omega (arith, some_text y, length-append (step_text y) (steps_text ys), ap (λ (t : List ℕ). length t) e))
one_made parts from (x ∷ xs) [] f g e =
    absurd (omega (arith, some_text x, length-append (step_text x) (steps_text xs), ap (λ (t : List ℕ). length t) e))
one_made parts from (x ∷ xs) (y ∷ ys) f g e =
    let same = one_step from (length parts) from (length parts) x y (steps_text xs) (steps_text ys) f.0 g.0 e in
    let first : y ≡ x = sym same.0 in
    let rest : made parts xs ≡ made parts ys = one_made parts (after_step from x) xs ys f.1
    (subst (λ (u : Step). GoForwards (after_step from u) (length parts) ys) first g.1) same.1 in
    ap (λ (u : Step). made_by parts u ++ made parts xs) same.0 ∙ ap (λ (t : List ℕ). made_by parts y ++ t) rest

-- ---- what steps make is no longer than the parts and the steps together

-- parts split at a place
split_len : (n : ℕ) (parts : List (List ℕ)) → length (joined (take n parts)) + length (joined (drop n parts)) ≡ length (joined parts)
split_len n parts =
    let e = flat_map-append (λ (b : List ℕ). b) (take n parts) (drop n parts) in
    let whole : joined (take n parts ++ drop n parts) ≡ joined parts = ap (λ (ps : List (List ℕ)). joined ps) (take-append-drop n parts) in
    omega (arith, ap (λ (t : List ℕ). length t) e, ap (λ (t : List ℕ). length t) whole, length-append (joined (take n parts)) (joined (drop n parts)))

-- the parts from a place on are no longer than those from one before it
pub from_later : (parts : List (List ℕ)) (i j : ℕ) → i ≤ j → length (joined (drop j parts)) ≤ length (joined (drop i parts))
from_later parts i j le =
    let at : i + (j - i) ≡ j = omega arith in
    let e : drop (j - i) (drop i parts) ≡ drop j parts = drop-drop (j - i) i parts ∙ ap (λ (n : ℕ). drop n parts) at in
    omega (arith, split_len (j - i) (drop i parts), ap (λ (ps : List (List ℕ)). length (joined ps)) e)

-- by the parts from a place on
pub made_bounded : (parts : List (List ℕ)) (from : ℕ) (steps : List Step) → GoForwards from (length parts) steps
    → length (made parts steps) ≤ length (joined (drop from parts)) + length (steps_text steps)
made_bounded parts from [] g = omega arith
made_bounded parts from (Copy first count ∷ steps) g =
    let split = split_len count (drop first parts) in
    let after : drop count (drop first parts) ≡ drop (first + count) parts = drop-drop count first parts in
    omega (
      arith,
      made_bounded parts (first + count) steps g.1,
      split,
      ap (λ (ps : List (List ℕ)). length (joined ps)) after,
      from_later parts from first g.0.0,
      length-append (joined (take count (drop first parts))) (made parts steps),
      length-append (step_text (Copy first count)) (steps_text steps),
    )
made_bounded parts from (New bytes ∷ steps) g =
    let all : length (step_text (New bytes)) ≡ 5 + length bytes = omega arith in
    omega (
      arith,
      all,
      made_bounded parts from steps g.1,
      length-append bytes (made parts steps),
      length-append (step_text (New bytes)) (steps_text steps),
    )

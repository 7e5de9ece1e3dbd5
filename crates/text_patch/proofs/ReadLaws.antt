-- The step at the front of bytes, as its fields are read.
use Rattle.std.proofs.Common.{◌≡◌, ℕ, ◌+◌, ◌-◌, ◌<◌, ◌≤◌, ◌^◌, List, [], ◌∷◌, ◌++◌, length, take, drop, get_or, refl, sym, ap, ◌∙◌, arith}
use Rattle.std.specs.Int.{w32, to_be_bytes}
use Rattle.std.proofs.lemmas.List.{append-nil, take_all}
use Rattle.tree_nodes.specs.Blocks.{joined}
use Rattle.text_patch.specs.Steps.{Copy, New, step_text, IsStepRead}

-- the fields of a copy, as they were read
copy_stands : (first count : ℕ) (fields after rest : List ℕ) → fields ≡ to_be_bytes w32 first ++ after → after ≡ to_be_bytes w32 count ++ rest
    → 0 ∷ fields ≡ step_text (Copy first count) ++ rest
copy_stands first count fields after rest e f = ap (λ (t : List ℕ). 0 ∷ t) (e ∙ ap (λ (t : List ℕ). to_be_bytes w32 first ++ t) f)

-- a copy of parts that are there, from a place on
pub copy_begins : (from parts first count : ℕ) (fields after rest : List ℕ) → first < 2 ^ 32 → count < 2 ^ 32
    → fields ≡ to_be_bytes w32 first ++ after → after ≡ to_be_bytes w32 count ++ rest
    → from ≤ first → first + count ≤ parts → IsStepRead from parts (0 ∷ fields) first (first + count) [] rest
copy_begins from parts first count fields after rest small few e f le within =
    let same : count ≡ (first + count) - first = omega arith in
    record {
      step = Copy first count;
      begins = record { may_come = (le, small, few, within); spelled = copy_stands first count fields after rest e f };
      end_is = refl;
      ordered = omega arith;
      within = within;
      makes = λ texts. ap (λ (n : ℕ). joined (take n (drop first texts))) same
          ∙ sym (append-nil (joined (take ((first + count) - first) (drop first texts))));
    }

-- bytes that begin with a byte are it and the others
one_and_others : (first : ℕ) (bytes : List ℕ) → 1 ≤ length bytes → get_or bytes 0 0 ≡ first → bytes ≡ first ∷ take (length bytes - 1) (drop 1 bytes)
one_and_others first [] some is = absurd (omega arith)
one_and_others first (x ∷ xs) some is =
    let all : xs ≡ take (length (x ∷ xs) - 1) xs = sym (take_all (length (x ∷ xs) - 1) xs (omega arith)) in
    ap (λ (n : ℕ). n ∷ xs) is ∙ ap (λ (t : List ℕ). first ∷ t) all

-- a step of new bytes
pub new_begins : (from parts : ℕ) (bytes new rest : List ℕ) → from ≤ parts → 1 ≤ length bytes → get_or bytes 0 0 ≡ 1 → length new < 2 ^ 32
    → take (length bytes - 1) (drop 1 bytes) ≡ to_be_bytes w32 (length new) ++ (new ++ rest) → IsStepRead from parts bytes from from new rest
new_begins from parts bytes new rest within some first small e =
    let none : from - from ≡ 0 = omega arith in
    record {
      step = New new;
      begins = record { may_come = small; spelled = one_and_others 1 bytes some first ∙ ap (λ (t : List ℕ). 1 ∷ t) e };
      end_is = refl;
      ordered = omega arith;
      within = within;
      makes = λ texts. rw none refl;
    }

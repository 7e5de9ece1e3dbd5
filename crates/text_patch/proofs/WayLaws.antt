-- Reading one step after another, as a loop does.
use Rattle.std.proofs.Common.{◌≡◌, ℕ, ◌-◌, ◌<◌, ◌≤◌, List, [], ◌∷◌, ◌++◌, length, take, drop, refl, sym, ap, subst, append_assoc, arith}
use Rattle.std.proofs.lemmas.List.{append-nil, length-append}
use Rattle.tree_nodes.specs.Blocks.{joined}
use Rattle.text_patch.specs.Steps.{Step, step_text, steps_text, made_by, after_step, GoForwards, BeginsWith, IsStepRead, Make}
use Rattle.text_patch.proofs.StepLaws.{some_text, made_more, made_less}

-- Steps were read up to a place, and made what is done: what the rest makes goes after it, and the steps make a text only
-- if the rest does.
pub record IsOnTheWay (parts : List (List ℕ)) (from : ℕ) (rest steps done : List ℕ) : Type 0 where
  pub within : from ≤ length parts
  pub forth : (text : List ℕ) → Make parts from rest text → Make parts 0 steps (done ++ text)
  pub back : (whole : List ℕ) → Make parts 0 steps whole → (text : List ℕ) × Make parts from rest text

-- none was read
pub way_none : (parts : List (List ℕ)) (steps : List ℕ) → IsOnTheWay parts 0 steps steps []
way_none parts steps = record { within = omega arith; forth = λ text m. m; back = λ whole m. (whole, m) }

-- one more was read
pub way_more : (parts : List (List ℕ)) (from : ℕ) (bytes steps done : List ℕ) (first end : ℕ) (new rest : List ℕ)
    → IsOnTheWay parts from bytes steps done → IsStepRead from (length parts) bytes first end new rest
    → IsOnTheWay parts end rest steps ((done ++ joined (take (end - first) (drop first parts))) ++ new)
way_more parts from bytes steps done first end new rest way b =
    let s = b.step in
    let here : after_step from s ≡ end = sym b.end_is in
    record {
      within = b.within;
      forth = λ text m.
          let after : Make parts (after_step from s) rest text = subst (λ (n : ℕ). Make parts n rest text) b.end_is m in
          let all : Make parts 0 steps (done ++ (made_by parts s ++ text)) = way.forth (made_by parts s ++ text)
          (made_more parts from bytes rest text s b.begins after) in
          let copied = joined (take (end - first) (drop first parts)) in
          let is : done ++ (made_by parts s ++ text) ≡ ((done ++ copied) ++ new) ++ text = rw (b.makes parts) (simp append_assoc) in
          subst (λ (t : List ℕ). Make parts 0 steps t) is all;
      back = λ whole m.
          let before = way.back whole m in
          let less = made_less parts from bytes rest before.0 s b.begins before.1 in
          (less.more, subst (λ (n : ℕ). Make parts n rest less.more) here less.makes);
    }

-- all were read
pub way_done : (parts : List (List ℕ)) (from : ℕ) (rest steps done : List ℕ) → IsOnTheWay parts from rest steps done → rest ≡ []
    → Make parts 0 steps done
way_done parts from rest steps done way none =
    let end : Make parts from rest [] = record { steps = []; spelled = sym none; forwards = tt; made_is = refl } in
    subst (λ (t : List ℕ). Make parts 0 steps t) (append-nil done) (way.forth [] end)

-- no step begins what is left
pub way_ends : (parts : List (List ℕ)) (from : ℕ) (bytes steps done : List ℕ) → IsOnTheWay parts from bytes steps done → 1 ≤ length bytes
    → ((s : Step) (rest : List ℕ) → BeginsWith from (length parts) bytes s rest → ⊥)
    → (whole : List ℕ) → Make parts 0 steps whole → ⊥
way_ends parts from bytes steps done way some none whole m = let left = way.back whole m in first left.1.steps left.1.spelled left.1.forwards
  where
    first : (ss : List Step) → steps_text ss ≡ bytes → GoForwards from (length parts) ss → ⊥
    first [] e g = omega (arith, ap (λ (t : List ℕ). length t) e)
    first (s ∷ ss) e g = none s (steps_text ss) (record { may_come = g.0; spelled = sym e })

-- what is after a step is shorter
pub rest_shorter : (from parts : ℕ) (bytes : List ℕ) (first end : ℕ) (new rest : List ℕ) → IsStepRead from parts bytes first end new rest
    → length rest < length bytes
rest_shorter from parts bytes first end new rest b =
    omega (arith, some_text b.step, length-append (step_text b.step) rest, ap (λ (t : List ℕ). length t) b.begins.spelled)

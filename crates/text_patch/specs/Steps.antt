-- The steps of a patch: copies of parts that the asker has, and new bytes. Copies go forwards.
use Rattle.std.specs.Prelude.{◌≡◌, ℕ, ◌+◌, ◌-◌, ◌<◌, ◌≤◌, ◌^◌, List, [], ◌∷◌, ◌++◌, length, take, drop}
use Rattle.std.specs.List.{flat_map}
use Rattle.std.specs.Int.{w32, to_be_bytes}
use Rattle.tree_nodes.specs.Blocks.{joined}

-- a number of parts from a first one on, or new bytes
pub data Step : Type 0 where
  Copy : ℕ → ℕ → Step
  New : List ℕ → Step

-- the bytes of a step; numbers have their highest byte first
abbrev pub step_text : Step → List ℕ
step_text (Copy first count) = 0 ∷ to_be_bytes w32 first ++ to_be_bytes w32 count
step_text (New bytes) = 1 ∷ to_be_bytes w32 (length bytes) ++ bytes

abbrev pub steps_text : List Step → List ℕ
steps_text steps = flat_map step_text steps

-- the bytes that a step makes from parts
abbrev pub made_by : List (List ℕ) → Step → List ℕ
made_by parts (Copy first count) = joined (take count (drop first parts))
made_by parts (New bytes) = bytes

abbrev pub made : List (List ℕ) → List Step → List ℕ
made parts steps = flat_map (made_by parts) steps

-- a step is allowed at a place: its numbers fit their fields, and a copy has only existing parts, from the place on
abbrev pub MayCome : ℕ → ℕ → Step → Type 0
MayCome from parts (Copy first count) = (from ≤ first) × (first < 2 ^ 32) × (count < 2 ^ 32) × (first + count ≤ parts)
MayCome from parts (New bytes) = length bytes < 2 ^ 32

-- the place after a step
abbrev pub after_step : ℕ → Step → ℕ
after_step from (Copy first count) = first + count
after_step from (New bytes) = from

-- each copy has only existing parts, from a place on and after the previous copy
abbrev pub GoForwards : ℕ → ℕ → List Step → Type 0
GoForwards from parts [] = Unit {0}
GoForwards from parts (s ∷ steps) = MayCome from parts s × GoForwards (after_step from s) parts steps

-- some bytes begin with a step that is allowed at a place
pub record BeginsWith (from parts : ℕ) (bytes : List ℕ) (s : Step) (rest : List ℕ) : Type 0 where
  pub may_come : MayCome from parts s
  pub spelled : bytes ≡ step_text s ++ rest

-- such a step, read: it makes the parts from first to end, then new bytes
pub record IsStepRead (from parts : ℕ) (bytes : List ℕ) (first end : ℕ) (new rest : List ℕ) : Type 0 where
  pub step : Step
  pub begins : BeginsWith from parts bytes step rest
  pub end_is : end ≡ after_step from step
  pub ordered : first ≤ end
  pub within : end ≤ parts
  pub makes : (texts : List (List ℕ)) → made_by texts step ≡ joined (take (end - first) (drop first texts)) ++ new

-- from a place on, some bytes are the steps that make a text from parts
pub record Make (parts : List (List ℕ)) (from : ℕ) (bytes text : List ℕ) : Type 0 where
  pub steps : List Step
  pub spelled : steps_text steps ≡ bytes
  pub forwards : GoForwards from (length parts) steps
  pub made_is : made parts steps ≡ text

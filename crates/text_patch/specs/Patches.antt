-- Patches: the text of a node for an asker that has some of its parts.
use Rattle.std.specs.Prelude.{◌≡◌, ℕ, ◌+◌, ◌≤◌, nat_eq, List, [], ◌∷◌, Option, Some, None, Result, Ok, Err, if◌then◌else◌}
use Rattle.std.specs.List.{Contains}
use Rattle.vclock.specs.declared.refusal.Refusal.{Refusal}
use Rattle.vclock.specs.declared.refusal.Refusal.TheVariants as refusals
use Rattle.tree_nodes.specs.Nodes.{Node, tree_depth}
use Rattle.snapshot.specs.RowMaps.{RowMap}
use Rattle.text_patch.specs.Parts.{parts_at, first_at}
use Rattle.text_patch.specs.Marks.{MarkList, mark_of, place_of}
use Rattle.text_patch.specs.Steps.{Step, Copy, New, Make}

-- ---- writing

-- a copy of one part before other steps: joined with the first step if that copies the next part
abbrev pub with_copy : ℕ → List Step → List Step
with_copy i [] = Copy i 1 ∷ []
with_copy i (New bytes ∷ steps) = Copy i 1 ∷ New bytes ∷ steps
with_copy i (Copy first count ∷ steps) = if nat_eq first (i + 1) then Copy i (count + 1) ∷ steps else Copy i 1 ∷ Copy first count ∷ steps

-- a part before other steps: a copy from a place, or new bytes
abbrev pub with_part : Option ℕ → List ℕ → List Step → List Step
with_part (Some i) part steps = with_copy i steps
with_part None part steps = New part ∷ steps

-- the first place that the next part can be copied from
abbrev pub after_place : ℕ → Option ℕ → ℕ
after_place from (Some i) = i + 1
after_place from None = from

-- the steps for parts: each part is copied from the next place with its mark, or is new
abbrev pub patch_for : List ℕ → MarkList → ℕ → List (List ℕ) → List Step
patch_for salt m from [] = []
patch_for salt m from (part ∷ parts) = with_part (place_of m (mark_of salt m.width part) from) part (patch_for salt m (after_place from (place_of m (mark_of salt m.width part) from)) parts)

-- ---- reading

-- a tree has the node, and steps make the text from its parts
pub record MakesText (own : RowMap) (n : Node) (steps text : List ℕ) : Type 0 where
  pub shallow : n.depth ≤ tree_depth own.format
  pub body : List ℕ
  pub makes : Make (parts_at own n) 0 steps body
  pub text_is : text ≡ first_at own n ∷ body

-- a result read from steps: Ok if P holds for the text that they make and the result, BadMessage if they make no text
abbrev pub Makes : {T : Type 0} → List (List ℕ) → List ℕ → (List ℕ → T → Type 0) → Result T Refusal → Type 0
Makes parts steps P (Ok x) = (text : List ℕ) × Make parts 0 steps text × P text x
Makes parts steps P (Err refusals.BadMessage) = (text : List ℕ) → Make parts 0 steps text → ⊥
Makes parts steps P (Err refusals.NoMemory) = Unit {0}
Makes parts steps P (Err e) = ⊥

-- the result of reading steps: BadMessage if they make no text
abbrev pub Rebuilds : RowMap → Node → List ℕ → Result (List ℕ) Refusal → Type 0
Rebuilds own n steps (Ok text) = MakesText own n steps text
Rebuilds own n steps (Err refusals.BadMessage) = (text : List ℕ) → MakesText own n steps text → ⊥
Rebuilds own n steps (Err refusals.NoMemory) = Unit {0}
Rebuilds own n steps (Err e) = ⊥

-- no part of one node has the mark of a different part of another
abbrev pub NoTwoShareAMark : List ℕ → ℕ → List (List ℕ) → List (List ℕ) → Type 0
NoTwoShareAMark salt width parts others = (p q : List ℕ) → Contains parts p → Contains others q → mark_of salt width p ≡ mark_of salt width q → p ≡ q

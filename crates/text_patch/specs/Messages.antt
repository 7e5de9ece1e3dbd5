-- The bytes of outlines and patches, in this project's format. Numbers have their highest byte first.
use Rattle.std.specs.Prelude.{◌≡◌, ◌<◌, ◌^◌, ℕ, List, ◌∷◌, ◌++◌, length}
use Rattle.std.specs.Int.{w32, w64, to_be_bytes}
use Rattle.tree_nodes.specs.Nodes.{IsNode}
use Rattle.walk_messages.specs.Messages.{node_bytes}
use Rattle.walk_messages.specs.declared.message.Ask.{Ask}
use Rattle.snapshot.specs.RowMaps.{RowMap, digest_at}
use Rattle.text_patch.specs.Marks.{MarkList, AreMarks}
use Rattle.text_patch.specs.Parts.{parts_at}
use Rattle.text_patch.specs.Patches.{patch_for}
use Rattle.text_patch.specs.Steps.{steps_text}

-- an ask with the marks of the parts that the asker has
unfoldable pub outline_text : Ask → MarkList → List ℕ
outline_text a m = 4 ∷ to_be_bytes w32 a.offer ++ node_bytes a.node ++ m.width ∷ to_be_bytes w32 m.count ++ m.bytes

-- a patch, the response to an outline, with these steps
unfoldable pub patch_text : Ask → List ℕ → List ℕ
patch_text a steps = 5 ∷ to_be_bytes w32 a.offer ++ node_bytes a.node ++ to_be_bytes w64 (length steps) ++ steps

-- the patch for an outline with these marks: it makes the node's text over some rows
abbrev pub patch_of : RowMap → Ask → MarkList → List ℕ
patch_of m a marks = patch_text a (steps_text (patch_for (digest_at m a.node.depth a.node.index) marks 0 (parts_at m a.node)))

-- the offer's number fits its field, and the node is in a tree
pub record IsHead (a : Ask) : Type 0 where
  pub number : a.offer < 2 ^ 32
  pub node : IsNode 3 a.node

-- the bytes are an outline's
abbrev pub IsOutlineOf : List ℕ → Ask → MarkList → Type 0
IsOutlineOf bytes a m = IsHead a × AreMarks m × (outline_text a m ≡ bytes)

-- the bytes are a patch's
abbrev pub IsPatchOf : List ℕ → Ask → List ℕ → Type 0
IsPatchOf bytes a steps = IsHead a × (patch_text a steps ≡ bytes)

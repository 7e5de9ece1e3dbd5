-- The steps of an exchange's outlines.
use Rattle.std.specs.Prelude.{◌≡◌, ℕ, ◌+◌, true, List, [], ◌∷◌}
use Rattle.tree_nodes.specs.Nodes.{Node}
use Rattle.exchange.specs.declared.outlining.Outlining.TheVariants.{Sent}
use Rattle.exchange.specs.Outlines.{Outlines, may_outline, with_outlining, after_miss, after_text}

-- an outline is sent for a node; it brings no text; it brings a text
pub data OutlineStep : Type 0 where
  Sends : Node → OutlineStep
  Misses : Node → OutlineStep
  Brings : Node → OutlineStep

abbrev pub outlines_after : Outlines → OutlineStep → Outlines
outlines_after o (Sends n) = with_outlining o n Sent
outlines_after o (Misses n) = after_miss o n
outlines_after o (Brings n) = after_text o n

-- a step is possible: an outline is sent only for a node that may have one
abbrev pub MayOutline : Outlines → OutlineStep → Type 0
MayOutline o (Sends n) = may_outline o n ≡ true
MayOutline o (Misses n) = Unit {0}
MayOutline o (Brings n) = Unit {0}

-- each step of a list is possible, in turn
abbrev pub MayOutlineAll : Outlines → List OutlineStep → Type 0
MayOutlineAll o [] = Unit {0}
MayOutlineAll o (step ∷ steps) = MayOutline o step × MayOutlineAll (outlines_after o step) steps

-- the number of outlines that a list of steps sends
abbrev pub sent_in : List OutlineStep → ℕ
sent_in [] = 0
sent_in (Sends n ∷ steps) = sent_in steps + 1
sent_in (Misses n ∷ steps) = sent_in steps
sent_in (Brings n ∷ steps) = sent_in steps

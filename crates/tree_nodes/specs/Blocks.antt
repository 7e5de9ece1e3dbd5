-- Lists in blocks of one length, which copies of a list share.
use Rattle.std.specs.Prelude.{◌≡◌, ℕ, ◌+◌, ◌*◌, ◌<◌, List, [], length, map, slice_index_or, Option, Some, None, MatchOption, ⊤}
use Rattle.std.specs.List.{AllByRecursion, flat_map}
use Rattle.vclock.specs.declared.format.Format.{Format}
use Rattle.tree_nodes.specs.Nodes.{kept_digest, dirty_count, IsTree}

-- the elements of all blocks, in order
abbrev pub joined : {X : Type 0} → List (List X) → List X
joined {X} blocks = flat_map (λ (b : List X). b) blocks

-- each block has n elements
abbrev pub AreOf : {X : Type 0} → ℕ → List (List X) → Type 0
AreOf {X} n blocks = AllByRecursion (λ (b : List X). length b ≡ n) blocks

-- a block has the digests of the children of the node at a place, all clean
pub record IsCopy (digests : List (Option (List ℕ))) (place : ℕ) (block : List (List ℕ)) : Type 0 where
  pub long : length block ≡ 16
  pub each : (j : ℕ) → j < 16 → kept_digest digests (16 * place + 1 + j) ≡ Some (slice_index_or block j [])

-- by the place of their parent, for each sixteen siblings a block with their digests, or none
pub record AreCopies (digests : List (Option (List ℕ))) (blocks : List (Option (List (List ℕ)))) : Type 0 where
  pub all : length digests ≡ 16 * length blocks + 1
  pub each : (place : ℕ) → MatchOption (slice_index_or blocks place None) ⊤ (IsCopy digests place)

-- the digests of a tree and the number of its clean nodes, with blocks that copy some digests, and maybe a copy of all
pub record AreMarks (format : Format) (digests : List (Option (List ℕ))) (clean : ℕ) (blocks : List (Option (List (List ℕ)))) (all : Option (List (List ℕ))) : Type 0 where
  pub tree : IsTree (record { format = format; digests = digests })
  pub counted : clean + dirty_count digests ≡ length digests
  pub copies : AreCopies digests blocks
  pub whole : MatchOption all ⊤ (λ ds. map Some ds ≡ digests)

use Rattle.std.proofs.Common.{ℕ, List, drop}
use Rattle.std.specs.List.{flat_map}
use Rattle.row_bytes.proofs.StripLaws.{IsBehind}
use Rattle.hash_tree.proofs.comparison.strip_all.Given as goal

abbrev pub invariant-loop-digest : goal.invariant-loop-digest
invariant-loop-digest l =
    IsBehind l.text (flat_map (λ (d : List ℕ). d) l.digests) l.rest (flat_map (λ (d : List ℕ). d) (drop l.digest-index l.digests))

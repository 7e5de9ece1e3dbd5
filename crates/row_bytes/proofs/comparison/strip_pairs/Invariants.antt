use Rattle.std.proofs.Common.{drop}
use Rattle.std.specs.List.{flat_map}
use Rattle.version_set.specs.Version.{pair_text}
use Rattle.row_bytes.proofs.StripLaws.{IsBehind}
use Rattle.row_bytes.proofs.comparison.strip_pairs.Given as goal

abbrev pub invariant-loop-pair : goal.invariant-loop-pair
invariant-loop-pair l = IsBehind l.text (flat_map pair_text l.pairs) l.rest (flat_map pair_text (drop l.pair-index l.pairs))

use Rattle.std.proofs.Common.{◌++◌, length, drop}
use Rattle.std.specs.List.{flat_map}
use Rattle.std.specs.Int.{w16, to_be_bytes}
use Rattle.version_set.specs.Version.{version_text}
use Rattle.row_bytes.proofs.StripLaws.{IsBehind}
use Rattle.row_bytes.proofs.comparison.strip_versions.Given as goal

abbrev pub invariant-loop-version : goal.invariant-loop-version
invariant-loop-version l = IsBehind l.text (to_be_bytes w16 (length l.versions) ++ flat_map (version_text l.format) l.versions) l.rest
    (flat_map (version_text l.format) (drop l.version-index l.versions))

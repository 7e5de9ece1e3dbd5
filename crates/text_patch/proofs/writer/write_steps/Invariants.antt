use Rattle.std.proofs.Common.{◌≡◌, ◌<◌, ◌^◌, ◌+◌, ◌++◌, drop}
use Rattle.text_patch.specs.Patches.{patch_for}
use Rattle.text_patch.specs.Steps.{steps_text}
use Rattle.text_patch.proofs.RunLaws.{left_text}
use Rattle.text_patch.proofs.writer.write_steps.Given as goal

abbrev pub invariant-parts : goal.invariant-parts
invariant-parts l = record {
  so_far : steps_text (patch_for l.salt l.marks 0 l.parts) ≡ l.out.items ++ left_text l.salt l.marks l.run.first l.run.count
      (drop l.part-index l.parts);
  fits : l.run.first + l.run.count < 2 ^ 32;
}

use Rattle.std.proofs.Common.{◌≡◌, ◌-◌, take}
use Rattle.text_patch.specs.Marks.{first_with, place_of}
use Rattle.text_patch.proofs.marks.Marks.place_of.Given as goal

abbrev pub invariant-loop-place : goal.invariant-loop-place
invariant-loop-place l = place_of l.self (take l.self.width l.digest) l.from ≡ first_with l.self (take l.self.width l.digest)
    (l.place-end - l.place) l.place

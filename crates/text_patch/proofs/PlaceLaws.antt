-- The search for a mark.
use Rattle.std.proofs.Common.{◌≡◌, ℕ, suc, ◌+◌, ◌-◌, ◌<◌, false, List, refl, arith}
use Rattle.std.specs.Prelude.{bytes_eq}
use Rattle.text_patch.specs.Marks.{MarkList, mark_at, first_with}

-- a place without the mark is passed
pub passed : (m : MarkList) (mark : List ℕ) (from end : ℕ) → from < end → bytes_eq (mark_at m from) mark ≡ false
    → first_with m mark (end - from) from ≡ first_with m mark (end - (from + 1)) (from + 1)
passed m mark from end more other =
    let places : end - from ≡ suc (end - (from + 1)) = omega arith in
    rw places (rw other refl)

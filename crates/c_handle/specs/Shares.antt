-- The share of a value that a handle has which is only read.
use mathlib.Core.Bool.{Bool, true, false}
use Prim.Native.Nat.{ℕ}
use base.Fml.{Lft, Fml, ftrue, ffalse}
use denote.RattleType.{RattleType}
use denote.RawPtr.{Ptr}
use Rattle.std.specs.Prelude.{Option, Some, None}
use Rattle.left_right.specs.Parted.{part_owns, part_shares}

-- `count` of the 2 ^ 63 shares of the value at p, if one is held
abbrev pub share_owns : (R : RattleType) → Bool → Ptr → Option R.Denot → ℕ → ℕ → Fml
share_owns R true p (Some x) round count = part_owns R p x round count
share_owns R true p None round count = ffalse
share_owns R false p x round count = ftrue

-- what a `&` to such a handle has
abbrev pub share_shares : (R : RattleType) → Bool → Ptr → Option R.Denot → ℕ → Lft → Fml
share_shares R true p (Some x) round κ = part_shares R p x round κ
share_shares R true p None round κ = ffalse
share_shares R false p x round κ = ftrue

-- The memory that a handle owns.
use mathlib.Core.Bool.{Bool, true, false}
use base.Fml.{Fml, ftrue, ffalse}
use mir.Syntax.{Ty}
use denote.RattleType.{RattleType}
use denote.RawPtr.{Ptr}
use Rattle.std.specs.Prelude.{Option, Some, None}
use Rattle.std.specs.declared.alloc.Global.{Global}
use Rattle.std.specs.contracts.impls.GlobalAllocator.TheImpl.{ghosts}
use Rattle.std_alloc.specs.Box.Ownership.{box_owns}

-- the box at p with its value, if one is held
abbrev pub held_owns : (Ty → Ptr → Fml) → (R : RattleType) → Bool → Ptr → Option R.Denot → Fml
held_owns token R true p (Some x) = box_owns token R p x
held_owns token R true p None = ffalse
held_owns token R false p x = ftrue

-- the same in C, where a handle of nothing has any value
abbrev pub c_owns : (R : RattleType) → Global → Bool → Ptr → R.Denot → Fml
c_owns R a held p x = held_owns (ghosts.dealloc_token a) R held p (Some x)

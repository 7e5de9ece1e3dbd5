-- The names that the proofs of this crate share.
pub use Rattle.std.proofs.Common.{◌≡◌, Option, Some, None, List, [], ◌∷◌, ◌++◌, refl, sym, ap, ◌∙◌, subst, lit<}
pub use Rattle.std.specs.Prelude.{IfSome}
pub use mathlib.Core.Bool.{Bool, true, false, not, ◌&&◌}
pub use lib.Dec.{T}
pub use lib.Ieee.Bits.{is_false}
pub use mir.ValLaws.{and_in}
pub use seplogic.Ra.Ura.{Ura}
pub use mir.Syntax.{a_type, dcons, dnil, ty_ptr, ty_bool}
pub use mir.Val.{Val, vbool, vstruct, vcons, vnil, of_list, has_ty, WT}
pub use mir.MapTy.{inst_fn}
pub use base.Logic.{SProp, ent, emp, id⊢, never_e}
pub use base.Fml.{Fml, ftrue, flft}
pub use prog.Model.{Model}
pub use prog.Wp.{WpFn, Closed}
pub use types.Logic.{Logic, sem}
pub use types.Kit.{
  Item,
  Goal,
  Seq,
  Step,
  step,
  ‵,
  raw,
  ◌⊛◌,
  some,
  given,
  later,
  at_ret,
  ◌$◌,
  ◌∵◌,
  !,
  qed,
  by,
  move,
  keep,
  drop,
  split,
  split3,
  join,
  fsplit,
  fjoin,
  fpick,
  fpack,
  pick,
  learn,
  suffices,
  use0,
  use1,
  await,
  rewrite,
  feq_i,
  feq_l,
}
pub use types.Run.{
  stop,
  fld,
  lit,
  true_lit,
  false_lit,
  of_opd,
  un,
  no_more,
  and_then,
  first,
  blocks,
  branches,
  skips,
  exec,
  returns,
  returns_within,
  enter,
}
pub use types.ByLocal.{alloc_all, pass_all, free_all, look_at, get, get_in, sets, lands_as, lands_last, env}
pub use types.Part.{agg, sub, whole}
pub use contract.Monad.{fact, fact_i}
pub use contract.Running.{Running, tables}
pub use denote.Builtin.{RawPtr, bool}
pub use denote.Exit.{yes, no, under, hidden}
pub use denote.Param.{param, layout, bounded}
pub use denote.Param.Laws.{Laws, param_laws}
pub use denote.RattleType.{RattleType, Valss, owns}
pub use denote.RawPtr.{Ptr, null_ptr, ptr_val}
pub use denote.Signature.{Signature, types_at, type_at, plain}
pub use denote.Steps.{nothing, only, heard}
pub use denote.Struct.Owning.{Owning, row, shape}
pub use denote.Struct.Struct.{Struct, within, exits_of}
pub use denote.Struct.Values.{Values, intos}
pub use denote.Triple.Call.{calls_at, calls_at_last}
pub use denote.Triple.Clauses.{Ended, Clauses, Lasts, lasts, closing}
pub use denote.Triple.Spec.{Meets, triple_of}
pub use denote.Triple.Walked.{Stays, stay_dropped, walk_of, Goes-dropped}
pub use Rattle.core.proofs.alloc.Calls.{Al, Goes-blank, handle_tells}
pub use Rattle.core.proofs.atomic.Steps.{fm, Ptr-Good}
pub use Rattle.core.proofs.cell.Inside.{Good}
pub use Rattle.std.proofs.raw_atomic.Walks.{proved, proved_at, leaves}
pub use Rattle.std_alloc.proofs.ResultValues.{and_tt, ok_of, err_of}
pub use Rattle.std_alloc.specs.Box.Ownership.{box_owns}

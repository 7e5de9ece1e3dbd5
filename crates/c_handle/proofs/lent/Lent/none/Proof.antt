-- Nothing is held at null.
use Rattle.std.proofs.Common.{◌≡◌, [], ◌∷◌, refl}
use mir.Syntax.{a_type}
use mir.Val.{Val}
use mir.MapTy.{inst_fn}
use base.Logic.{SProp, emp}
use base.Fml.{ftrue, flft}
use types.Kit.{‵, raw, ◌⊛◌, ◌$◌, ◌∵◌, !, qed, by, keep, split, fjoin, use0}
use types.Run.{returns, enter}
use types.ByLocal.{alloc_all, pass_all, free_all, look_at, sets}
use contract.Running.{tables}
use contract.Monad.{fact, fact_i}
use denote.RattleType.{RattleType}
use denote.Steps.{nothing}
use denote.Param.{param, layouts}
use denote.Triple.Walked.{walk_of}
use Rattle.std.proofs.raw_atomic.Walks.{proved, leaves}
use Rattle.c_handle.specs.contracts.lent.Lent as lent
use Rattle.c_handle.proofs.LentSteps.{word, Data, made}
use Rattle.c_handle.proofs.Steps.{Ptr-Good, None, false, null_ptr, no_more, and_then, agg, false_lit, lit}
use Rattle.c_handle.specs.contracts.lent.Lent.none.{ended, clauses}
use Rattle.c_handle.specs.contracts.lent.Lent.none.Key.{name as #self}
use Rattle.c_handle.proofs.lent.Lent.none.Statement.{statement}
use Rattle.c_handle.proofs.lent.Lent.none.Code as code

pub none_spec : {M : Type 1} → statement M
none_spec 𝓤 𝓛 𝓜 𝓡 wired X L =
    let 𝓣 = tables 𝓤 𝓛.H 𝓜 𝓡 𝓡.env in let R : RattleType = param 0 X in let En = ended X in let inst = layouts (a_type ∷ []) (X, tt) in
    let fn = inst_fn inst code.function in
    let Row : RattleType = lent.the_row R in let c = clauses X 𝓛 𝓜.mem 𝓡.returns in
    proved 𝓛 En tt c 𝓜 𝓡 tt (#self inst) fn (code.unfolded 𝓤 𝓛.H 𝓜 𝓡 wired (X, tt)) (λ κs. tt) (λ κs. tt) (λ κs qs bounds a gh are.
    let y : (walk_of 𝓛 En tt c).Ghost = ((κs, qs, bounds, a, tt), gh) in let Post : Val → SProp 𝓤 = (walk_of 𝓛 En tt c).post y in
    let out : Val = word null_ptr false in let r : Row.Denot = record { at = null_ptr; held = false; value = None; round = 0; count = 0 } in
    qed 𝓛 (((‵ (flft κs.0 qs.0) ⊛ ‵ ftrue) ⊛ ‵ ftrue) ∷ raw ((c κs a).requires gh) ∷ []) ∵ split ! $ keep ! (0 ∷ []) $
    enter ! 𝓣.C 𝓣.Λ fn [] Post $ alloc_all ! (λ l. pass_all ! refl tt $
    sets ! (agg ! (and_then ! (lit ! tt) (and_then ! (false_lit !) (no_more !)))) refl (tt, ((Ptr-Good null_ptr).1, (tt, tt))) $
    nothing ! $ use0 𝓛 (‵ ((Data R).own_val (null_ptr, (false, tt)) (out ∷ []))) (made R 𝓛 null_ptr false) $ fjoin ! $
    use0 𝓛 (raw (fact 𝓤 ((false ≡ false) × (r.value ≡ None)))) (fact_i 𝓤 ((false ≡ false) × (r.value ≡ None)) (emp 𝓤) (refl, refl)) $ nothing ! $
    returns ! (look_at ! 0 refl) $ free_all ! refl $ keep ! (3 ∷ 0 ∷ 2 ∷ 1 ∷ []) $ by ! (leaves 𝓛 En tt c y out r tt tt)))

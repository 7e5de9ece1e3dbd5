-- Nothing is held at null.
use Rattle.c_handle.proofs.Steps.{◌≡◌, None, List, [], ◌∷◌, ◌++◌, refl, sym, subst, false, a_type, dcons, dnil, Val, inst_fn, SProp, ent, emp, id⊢}
use Rattle.c_handle.proofs.Steps.{ftrue, flft, WpFn, ‵, raw, ◌⊛◌, ◌$◌, ◌∵◌, !, qed, by, move, keep, split, fsplit, fjoin, suffices, use0, of_opd}
use Rattle.c_handle.proofs.Steps.{lit, false_lit, no_more, and_then, returns, enter, alloc_all, pass_all, free_all, look_at, get, sets, agg, fact}
use Rattle.c_handle.proofs.Steps.{fact_i, tables, no, RattleType, owns, types_at, plain, null_ptr, nothing, param, bounded, param_laws, Stays}
use Rattle.c_handle.proofs.Steps.{stay_dropped, walk_of, Al, Goes-blank, handle_tells, proved_at, leaves}
use Rattle.c_handle.proofs.Words.{word, word_good, handle_in}
use Rattle.c_handle.specs.contracts.handle.Handle.none as f
use Rattle.c_handle.proofs.handle.Handle.none.Statement.{statement}
use Rattle.c_handle.proofs.handle.Handle.none.Code as code

pub none_spec : {M : Type 1} → statement M
none_spec 𝓤 𝓛 𝓜 𝓡 wired T A L LA g d dT dA allocator glueT glueA =
    let R : RattleType = param 0 T in let Z : RattleType = param 1 A in let LZ = param_laws 1 A LA in
    let 𝓣 = tables 𝓤 𝓛.H 𝓜 𝓡 𝓡.env in let En = f.ended T A g d dT dA in let c = f.clauses T A g d dT dA 𝓛 𝓜.mem 𝓡.returns in
    let inst = bounded (a_type ∷ a_type ∷ []) (T, (A, tt)) (dcons d (dcons dT (dcons dA dnil))) in let fn = inst_fn inst code.function in
    let stayed : Stays En.signature.params En.kept = (stay_dropped (plain (λ _. Z)) no, tt) in
    let al : Al = record { row = Z; laws = LZ; g = g; d = d; drops = dA } in
    proved_at 𝓛 En stayed c 𝓜 𝓡 (Goes-blank 𝓛 2 (plain (λ _. Z)) no (λ κs x w. tt), tt) (f.Key.name inst) fn
    (code.unfolded 𝓤 𝓛.H 𝓜 𝓡 wired (T, (A, tt)) d dT dA) (λ y are.
    let κs = y.0.0 in let qs = y.0.1 in let a = y.0.3.0 in let tokens = ‵ (flft κs.0 qs.0) ⊛ ‵ (flft κs.1.0 qs.1.0) ⊛ ‵ ftrue in
    let Post : Val → SProp 𝓤 = (walk_of 𝓛 En stayed c).post y in let Run : List Val → SProp 𝓤 = λ ws. WpFn 𝓤 𝓛.H 𝓣.C 𝓣.Λ fn ws Post in
    qed 𝓛 ((tokens ⊛ ‵ (owns (types_at En.signature.params κs) y.0.3 y.0.4)) ∷ raw ((c κs y.0.3).requires y.1) ∷ []) ∵
    split ! $ move ! (1 ∷ []) $ fsplit ! $ handle_tells al ! a y.0.4.0 (λ h is fits.
    suffices ! (Run (h ∷ [])) (subst (λ (us : List Val). ent 𝓤 (Run (h ∷ [])) (Run us)) (sym (λ i. is i ++ [])) (id⊢ 𝓤 (Run (h ∷ [])))) $
    enter ! 𝓣.C 𝓣.Λ fn (h ∷ []) Post $ alloc_all ! (λ l. pass_all ! refl (fits, tt) $
    sets ! (of_opd ! (get ! refl)) refl fits $
    sets ! (agg ! (and_then ! (lit ! tt) (and_then ! (false_lit !) (and_then ! (get ! refl) (no_more !))))) refl (word_good Z null_ptr false h fits) $
    nothing ! $ handle_in R Z g ! null_ptr false h a None $
    use0 𝓛 (raw (fact 𝓤 ((false ≡ false) × (None ≡ None))))
    (fact_i 𝓤 ((false ≡ false) × (None ≡ None)) (emp 𝓤) (refl, refl)) $ nothing ! $ nothing ! $ fjoin ! $
    returns ! (look_at ! 0 refl) $ free_all ! refl $ keep ! (4 ∷ 0 ∷ 2 ∷ 1 ∷ []) $
    by ! (leaves 𝓛 En stayed c y (word null_ptr false h) (record { at = null_ptr; held = false; alloc = a; value = None }) (tt, tt) (tt, tt)))))

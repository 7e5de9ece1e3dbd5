-- If something is held, the box is made of it by its own call; else the allocator alone is left.
use Rattle.c_handle.proofs.Steps.{is_false, lit<, calls_at_last, and_tt, ok_of, err_of, ◌≡◌, List, [], ◌∷◌, ◌++◌, Some, refl, sym, ap, ◌∙◌, subst}
use Rattle.c_handle.proofs.Steps.{true, false, a_type, dcons, dnil, Val, vcons, vnil, inst_fn, SProp, ent, emp, id⊢, ftrue, flft, WpFn, ‵, raw, ◌⊛◌}
use Rattle.c_handle.proofs.Steps.{some, later, at_ret, ◌$◌, ◌∵◌, !, qed, by, move, keep, drop, split, split3, join, fsplit, fjoin, fpick, feq_l}
use Rattle.c_handle.proofs.Steps.{vstruct, of_list, pick, suffices, use0, use1, await, rewrite, feq_i, stop, fld, lit, of_opd, un, no_more, and_then}
use Rattle.c_handle.proofs.Steps.{first, blocks, branches, skips, exec, returns, returns_within, enter, alloc_all, pass_all, free_all, look_at, get}
use Rattle.c_handle.proofs.Steps.{get_in, sets, lands_last, env, agg, sub, whole, fact, fact_i, tables, no, RattleType, owns, types_at, type_at}
use Rattle.c_handle.proofs.Steps.{plain, ptr_val, nothing, only, heard, param, layout, bounded, Lasts, lasts, triple_of, Stays, stay_dropped}
use Rattle.c_handle.proofs.Steps.{walk_of, Goes-blank, handle_tells, fm, Ptr-Good, Good, proved_at, leaves}
use types.Match.{live}
use contract.BorrowLft.{◌⊑◌}
use Rattle.core.specs.declared.result.Result.TheVariants.{Ok, Err}
use Rattle.core.proofs.alloc.Shapes.{after}
use Rattle.std_alloc.proofs.BoxSteps.Form as box
use Rattle.std_alloc.proofs.BoxSteps.Steps.{box_out, box_in}
use Rattle.c_handle.proofs.Words.{word, word_good, held_out, Handle}
use Rattle.std_alloc.specs.contracts.boxed.Box.from_raw as callee
use Rattle.std_alloc.proofs.boxed.Box.from_raw.Met.{met}
use Rattle.c_handle.specs.contracts.handle.Handle.into_box as f
use Rattle.c_handle.proofs.handle.Handle.into_box.Statement.{statement}
use Rattle.c_handle.proofs.handle.Handle.into_box.Code as code

pub into_box_spec : {M : Type 1} → statement M
into_box_spec 𝓤 𝓛 𝓜 𝓡 wired T A L LA g d dT dA allocator glueT glueA =
    let R : RattleType = param 0 T in let Z : RattleType = param 1 A in
    let 𝓣 = tables 𝓤 𝓛.H 𝓜 𝓡 𝓡.env in let En = f.ended T A g d dT dA in let c = f.clauses T A g d dT dA 𝓛 𝓜.mem 𝓡.returns in
    let inst = bounded (a_type ∷ a_type ∷ []) (T, (A, tt)) (dcons d (dcons dT (dcons dA dnil))) in let fn = inst_fn inst code.function in
    let E : box.Bx = record { row = T; laws = L; al = record { row = A; laws = LA; g = g; d = d; drops = dA } } in
    let stayed : Stays En.signature.params En.kept = (stay_dropped (plain (λ _. Handle R Z g)) no, tt) in
    let B = triple_of 𝓛 (callee.signature T A g d dA) (callee.spec T A g d dA 𝓛 𝓜.mem 𝓡.returns) in
    proved_at 𝓛 En stayed c 𝓜 𝓡 (Goes-blank 𝓛 2 (plain (λ _. Handle R Z g)) no (λ κs x w. tt), tt) (f.Key.name inst) fn
    (code.unfolded 𝓤 𝓛.H 𝓜 𝓡 wired (T, (A, tt)) d dT dA) (λ y are.
    let κs = y.0.0 in let qs = y.0.1 in let v = y.0.3.0 in let a = v.alloc in let tokens = ‵ (flft κs.0 qs.0) ⊛ ‵ (flft κs.1.0 qs.1.0) ⊛ ‵ ftrue in
    let Post : Val → SProp 𝓤 = (walk_of 𝓛 En stayed c).post y in let Run : List Val → SProp 𝓤 = λ ws. WpFn 𝓤 𝓛.H 𝓣.C 𝓣.Λ fn ws Post in
    let Out : RattleType = type_at En.signature.result κs in
    qed 𝓛 ((tokens ⊛ ‵ (owns (types_at En.signature.params κs) y.0.3 y.0.4)) ∷ raw ((c κs y.0.3).requires y.1) ∷ []) ∵
    split ! $ move ! (1 ∷ []) $ fsplit ! $ fsplit ! $ fpick !
    (λ vss. fsplit ! $ feq_l ! (λ is_word. fsplit ! $ feq_l ! (λ is_at. fsplit ! $ feq_l ! (λ is_held. fsplit ! $
    handle_tells E.al ! a vss.1.1.0 (λ h is_alloc fits. move ! (1 ∷ []) $ drop ! $ move ! (1 ∷ []) $
    -- [what is held; the allocator; nothing; the tokens; the `requires`]
    let w : Val = word v.at v.held h in let is : y.0.4.0 ≡ w ∷ [] = is_word
    ∙ (λ j. vstruct (of_list (is_at j ++ (is_held j ++ (is_alloc j ++ [])))) ∷ []) in
    suffices ! (Run (w ∷ [])) (subst (λ (us : List Val). ent 𝓤 (Run (w ∷ [])) (Run us)) (sym (λ i. is i ++ [])) (id⊢ 𝓤 (Run (w ∷ [])))) $
    enter ! 𝓣.C 𝓣.Λ fn (w ∷ []) Post $ alloc_all ! (λ l. let Ev = env fn.locals l in pass_all ! refl (word_good Z v.at v.held h fits, tt) $
    sets ! (of_opd ! (get_in ! (fld ! refl (stop !)) (sub ! 0 refl (whole !)))) refl (Ptr-Good v.at) $
    sets ! (of_opd ! (get_in ! (fld ! refl (stop !)) (sub ! 1 refl (whole !)))) refl (tt, tt) $
    sets ! (of_opd ! (get_in ! (fld ! refl (stop !)) (sub ! 2 refl (whole !)))) refl fits $ sets ! (of_opd ! (get ! refl)) refl (tt, tt) $
    sets ! (un ! (get ! refl) tt) refl (tt, tt) $
    first ! $ branches ! (get ! refl)
    (λ empty. let v₁ : Val = live 1 (vcons h vnil) in sets ! (of_opd ! (get ! refl)) refl fits $
    sets ! (agg ! (and_then ! (lit ! tt) (and_then ! (get ! refl) (no_more !)))) refl (and_tt _ fits.0, (record { fits = lit< tt }, (fits.1, tt))) $
    move ! (1 ∷ []) $ use1 𝓛 (‵ (Out.own_val (Err a) (v₁ ∷ []))) (err_of 𝓛 (box.B E) Z a h) $
    use0 𝓛 (raw (fact 𝓤 (v.held ≡ false))) (fact_i 𝓤 (v.held ≡ false) (emp 𝓤) (is_false v.held empty)) $ nothing ! $ nothing ! $ fjoin ! $
    returns_within ! Post refl (look_at ! 0 refl) $ free_all ! refl $ keep ! (5 ∷ 0 ∷ 2 ∷ 1 ∷ []) $ by !
    (leaves 𝓛 En stayed c y v₁ (Err a) ((tt, (tt, (tt, tt))), tt) (tt, tt)))
    (λ some_held. held_out R Z g ! a v.held v.at v.value some_held
    (λ whole held is_whole. let x : B.Ghost = ((κs, qs, tt, (a, (v.at, tt)), (h ∷ [], (ptr_val v.at ∷ [], tt))), whole) in
    skips ! $ exec ! 𝓣.C 𝓣.Λ Ev (after 6 fn.body) (at_ret Ev Post) $ first ! $ blocks ! $
    sets ! (of_opd ! (get ! refl)) refl fits $ sets ! (of_opd ! (get ! refl)) refl (Ptr-Good v.at) $
    -- the `requires` of `from_raw`, and what it is passed
    move ! (4 ∷ []) $ use1 𝓛 (raw (fact 𝓤 (κs.0 ⊑ T.lives)) ⊛ raw (fact 𝓤 (κs.1.0 ⊑ A.lives)) ⊛ ‵ ftrue) (id⊢ 𝓤 _) $ split3 ! $ move !
    (2 ∷ []) $ drop ! $
    move ! (1 ∷ 2 ∷ []) $ join ! $ move ! (1 ∷ 0 ∷ []) $ join ! $
    move ! (2 ∷ []) $ feq_i ! (List Val) (ptr_val v.at ∷ []) (ptr_val v.at ∷ []) refl $ fjoin ! $ move ! (2 ∷ 0 ∷ []) $ fjoin ! $
    move ! (2 ∷ 0 ∷ []) $ join ! $ join ! $ use1 𝓛 (raw (B.pre x)) (id⊢ 𝓤 _) $
    calls_at_last ! (fm 𝓛 𝓜 𝓡) B (met 𝓤 𝓛 𝓜 𝓡 (code.calls-std_alloc::boxed::Box::from_raw 𝓡.env wired) T A L LA g d dA allocator glueA) x
    (and_then ! (get ! refl) (and_then ! (get ! refl) (no_more !))) (λ u.
    use1 𝓛 (later (some (λ (r : (box.B E).Denot). (tokens ⊛ ‵ ((box.B E).own_val r (u ∷ []))) ⊛ some
    (λ (ls : Lasts (callee.ended T A g d dA) κs x.0.3).
    ‵ (lasts (callee.ended T A g d dA) κs x.0.3 ls) ⊛ (raw (fact 𝓤 (r.value ≡ whole)) ⊛ raw (fact 𝓤 (r.alloc ≡ a))))))) (id⊢ 𝓤 (B.post x u)) $
    await ! tt $ pick ! (λ r. split ! $ move ! (1 ∷ []) $ pick !
    (λ _. split3 ! $ drop ! $ heard ! (r.value ≡ whole) (λ same. drop ! $ split ! $ move ! (1 ∷ []) $
    box_out E ! r (u ∷ []) (λ b o h' at us fits'. box_in E ! r b o r.value at refl $ rewrite ! 0 (λ (xs : List Val). ‵ ((box.B E).own_val r xs))
    (sym us) refl $
    let good : Good (layout (box.B E)) u = subst (Good (layout (box.B E))) (sym (ap only us)) (box.box_typed E h' b o fits') in
    let v₁ : Val = live 0 (vcons u vnil) in
    let outcome : (v.held ≡ true) × (v.value ≡ Some r.value) = (held, is_whole ∙ ap Some (sym same)) in
    lands_last ! refl good $ exec ! 𝓣.C 𝓣.Λ Ev (after 7 fn.body) (at_ret Ev Post) $ sets ! (of_opd ! (get ! refl)) refl good $
    sets ! (agg ! (and_then ! (lit ! tt) (and_then ! (get ! refl) (no_more !)))) refl (and_tt _ good.0, (record { fits = lit< tt }, (good.1, tt))) $
    use1 𝓛 (‵ (Out.own_val (Ok r) (v₁ ∷ []))) (ok_of 𝓛 (box.B E) Z r u) $
    use0 𝓛 (raw (fact 𝓤 ((v.held ≡ true) × (v.value ≡ Some r.value))))
    (fact_i 𝓤 ((v.held ≡ true) × (v.value ≡ Some r.value)) (emp 𝓤) outcome) $ nothing ! $ nothing ! $ fjoin ! $
    returns ! (look_at ! 0 refl) $ free_all ! refl $ keep ! (3 ∷ 0 ∷ 2 ∷ 1 ∷ []) $ by !
    (leaves 𝓛 En stayed c y v₁ (Ok r) ((tt, (tt, (tt, tt))), tt) (tt, tt))))))))))))))))

-- The box is taken apart by its own call, and what it owned is held.
use Rattle.c_handle.proofs.Steps.{and_in, and_tt, calls_at, ◌≡◌, Some, List, [], ◌∷◌, ◌++◌, refl, sym, ap, ◌∙◌, subst, true, a_type, dcons, dnil}
use Rattle.c_handle.proofs.Steps.{Val, vstruct, of_list, inst_fn, SProp, ent, emp, id⊢, ftrue, flft, WpFn, ‵, raw, ◌⊛◌, some, later, ◌$◌, ◌∵◌, ! }
use Rattle.c_handle.proofs.Steps.{qed, by, move, keep, drop, split, split3, join, fsplit, fjoin, fpick, pick, suffices, use0, use1, await, rewrite}
use Rattle.c_handle.proofs.Steps.{feq_l, stop, fld, of_opd, no_more, and_then, true_lit, returns, enter, alloc_all, pass_all, free_all, look_at, get}
use Rattle.c_handle.proofs.Steps.{get_in, sets, lands_as, agg, sub, whole, fact, fact_i, tables, no, RattleType, owns, types_at, plain, RawPtr, Ptr}
use Rattle.c_handle.proofs.Steps.{nothing, only, heard, param, bounded, Lasts, lasts, triple_of, Stays, stay_dropped, walk_of, Goes-blank}
use Rattle.c_handle.proofs.Steps.{handle_tells, fm, Ptr-Good, box_owns, proved_at, leaves}
use denote.Struct.Tuple.{Tuple}
use Rattle.std_alloc.proofs.BoxSteps.Form as box
use Rattle.std_alloc.proofs.BoxSteps.Steps.{box_out, box_in}
use Rattle.c_handle.proofs.Words.{word, word_good, handle_in}
use Rattle.std_alloc.specs.contracts.boxed.Box.into_raw_with_allocator as callee
use Rattle.std_alloc.proofs.boxed.Box.into_raw_with_allocator.Met.{met}
use Rattle.c_handle.specs.contracts.handle.Handle.of as f
use Rattle.c_handle.proofs.handle.Handle.of.Statement.{statement}
use Rattle.c_handle.proofs.handle.Handle.of.Code as code

pub of_spec : {M : Type 1} → statement M
of_spec 𝓤 𝓛 𝓜 𝓡 wired T A L LA g d dT dA allocator glueT glueA =
    let R : RattleType = param 0 T in let Z : RattleType = param 1 A in
    let 𝓣 = tables 𝓤 𝓛.H 𝓜 𝓡 𝓡.env in let En = f.ended T A g d dT dA in let c = f.clauses T A g d dT dA 𝓛 𝓜.mem 𝓡.returns in
    let inst = bounded (a_type ∷ a_type ∷ []) (T, (A, tt)) (dcons d (dcons dT (dcons dA dnil))) in let fn = inst_fn inst code.function in
    let E : box.Bx = record { row = T; laws = L; al = record { row = A; laws = LA; g = g; d = d; drops = dA } } in
    let stayed : Stays En.signature.params En.kept = (stay_dropped (plain (λ _. box.B E)) no, tt) in
    let B = triple_of 𝓛 (callee.signature T A g d dA dT) (callee.spec T A g d dA dT 𝓛 𝓜.mem 𝓡.returns) in
    proved_at 𝓛 En stayed c 𝓜 𝓡 (Goes-blank 𝓛 2 (plain (λ _. box.B E)) no (λ κs x w. tt), tt) (f.Key.name inst) fn
    (code.unfolded 𝓤 𝓛.H 𝓜 𝓡 wired (T, (A, tt)) d dT dA) (λ y are.
    let κs = y.0.0 in let qs = y.0.1 in let v = y.0.3.0 in let a = v.alloc in let tokens = ‵ (flft κs.0 qs.0) ⊛ ‵ (flft κs.1.0 qs.1.0) ⊛ ‵ ftrue in
    let Post : Val → SProp 𝓤 = (walk_of 𝓛 En stayed c).post y in let Run : List Val → SProp 𝓤 = λ ws. WpFn 𝓤 𝓛.H 𝓣.C 𝓣.Λ fn ws Post in
    qed 𝓛 ((tokens ⊛ ‵ (owns (types_at En.signature.params κs) y.0.3 y.0.4)) ∷ raw ((c κs y.0.3).requires y.1) ∷ []) ∵
    split ! $ move ! (1 ∷ []) $ fsplit ! $ box_out E ! v y.0.4.0 (λ b o h at is fits. box_in E ! v b o v.value at refl $
    let w : Val = box.word E h b o in let x : B.Ghost = ((κs, qs, tt, (v, tt), (w ∷ [], tt)), tt) in
    fjoin ! $ move ! (1 ∷ 0 ∷ []) $ join ! $ join ! $ use1 𝓛 (raw (B.pre x)) (id⊢ 𝓤 _) $
    suffices ! (Run (w ∷ [])) (subst (λ (us : List Val). ent 𝓤 (Run (w ∷ [])) (Run us)) (sym (λ i. is i ++ [])) (id⊢ 𝓤 (Run (w ∷ [])))) $
    enter ! 𝓣.C 𝓣.Λ fn (w ∷ []) Post $ alloc_all ! (λ l. pass_all ! refl (box.box_typed E h b o fits, tt) $
    sets ! (of_opd ! (get ! refl)) refl (box.box_typed E h b o fits) $
    calls_at ! (fm 𝓛 𝓜 𝓡) B (met 𝓤 𝓛 𝓜 𝓡
    (code.calls-std_alloc::boxed::Box::into_raw_with_allocator 𝓡.env wired) T A L LA g d dA dT allocator glueA glueT) x
    (and_then ! (get ! refl) (no_more !)) (λ u.
    use1 𝓛 (later (some (λ (r : Ptr × A.Denot). (tokens ⊛ ‵ ((Tuple (RawPtr ∷ Z ∷ [])).own_val r (u ∷ []))) ⊛ some
    (λ (ls : Lasts (callee.ended T A g d dA dT) κs x.0.3).
    ‵ (lasts (callee.ended T A g d dA dT) κs x.0.3 ls) ⊛ (raw (fact 𝓤 (r.1 ≡ a)) ⊛ ‵ (box_owns (g.dealloc_token a) R r.0 v.value))))))
    (id⊢ 𝓤 (B.post x u)) $
    await ! tt $ pick ! (λ r. split ! $ move ! (1 ∷ []) $ pick ! (λ _. split3 ! $ drop ! $ heard ! (r.1 ≡ a) (λ same.
    -- [what the box owned; the tokens with the pair]
    move ! (1 ∷ []) $ split ! $ move ! (1 ∷ []) $ fpick ! (λ vss. fsplit ! $ feq_l ! (λ is_pair. fsplit ! $ feq_l ! (λ is_at. fsplit ! $
    rewrite ! 0 (λ (s : A.Denot). ‵ (A.own_val s vss.1.0)) same refl $ handle_tells E.al ! a vss.1.0 (λ h' is_alloc fits'.
    lands_as ! (ap only (is_pair ∙ (λ j. vstruct (of_list (is_at j ++ (is_alloc j ++ []))) ∷ []))) refl
    (and_in _ _ (Ptr-Good r.0).0 (and_tt _ fits'.0), ((Ptr-Good r.0).1, (fits'.1, tt))) $
    sets ! (of_opd ! (get_in ! (fld ! refl (stop !)) (sub ! 0 refl (whole !)))) refl (Ptr-Good r.0) $
    sets ! (of_opd ! (get_in ! (fld ! refl (stop !)) (sub ! 1 refl (whole !)))) refl fits' $ sets ! (of_opd ! (get ! refl)) refl fits' $
    sets ! (agg ! (and_then ! (get ! refl) (and_then ! (true_lit !) (and_then ! (get ! refl) (no_more !))))) refl (word_good Z r.0 true h' fits') $
    move ! (3 ∷ 0 ∷ []) $ handle_in R Z g ! r.0 true h' a (Some v.value) $
    use0 𝓛 (raw (fact 𝓤 ((true ≡ true) × (Some v.value ≡ Some v.value))))
    (fact_i 𝓤 ((true ≡ true) × (Some v.value ≡ Some v.value)) (emp 𝓤) (refl, refl)) $ nothing ! $ nothing ! $ fjoin ! $
    returns ! (look_at ! 0 refl) $ free_all ! refl $ keep ! (4 ∷ 0 ∷ 2 ∷ 1 ∷ []) $
    by ! (leaves 𝓛 En stayed c y (word r.0 true h') (record { at = r.0; held = true; alloc = a; value = Some v.value }) ((tt, (tt, tt)), tt)
    (tt, tt)))))))))))))

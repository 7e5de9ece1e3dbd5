-- The structs of C that are handles of one type: a function that makes one of a `Handle`, or a `Handle` of one, keeps the
-- pointer, the flag and the allocator; and they may go to another thread. Assumes `Logic`.
use Rattle.c_handle.proofs.Steps.{◌≡◌, List, [], ◌∷◌, sym, Ura, ty_ptr, ty_bool, Val, vstruct, of_list, ent, emp, ftrue, Closed, Model, Logic, sem}
use Rattle.c_handle.proofs.Steps.{‵, raw, ◌⊛◌, ◌$◌, ◌∵◌, !, qed, by, move, keep, split, fsplit, fjoin, use0, use1, rewrite, stop, fld, of_opd}
use Rattle.c_handle.proofs.Steps.{no_more, and_then, returns, enter, alloc_all, pass_all, free_all, look_at, get, get_in, sets, agg, sub, whole}
use Rattle.c_handle.proofs.Steps.{fact, fact_i, Running, tables, yes, under, hidden, owns, layout, Signature, types_at, plain, nothing, Values}
use Rattle.c_handle.proofs.Steps.{intos, Struct, exits_of, Owning, row, shape, Ended, Clauses, closing, Meets, Stays, stay_dropped, walk_of}
use Rattle.c_handle.proofs.Steps.{Goes-dropped, Ptr-Good, proved, leaves, refl, Option, Some, None, ◌∙◌, subst, Bool, true, false, id⊢, never_e, Fml}
use Rattle.c_handle.proofs.Steps.{RattleType, Ptr, IfSome}
use base.Shift.{Keyless}
use denote.Memory.{lone}
use denote.Param.Send.{IsSend, owning_send, sendable}
use denote.Struct.Field.{Field, RawPtr-field, bool-field, rows}
use denote.Struct.Laws.{RawPtr-laws, bool-laws, lows}
use denote.Struct.OwningLaws.{Tells-lowered, lawful, Laws}
use mir.Raw.{raw as bare}
use mir.Syntax.{Fn, local, value_local, assign, place, field, rv_opd, copy, aggregate, seq, return, Callee}
use Rattle.c_handle.specs.Handles.{held_owns, c_owns}
use Rattle.std.proofs.Crossing.{frees}
use Rattle.std.proofs.alloc.Global.TheSendSync.{the_field_send as heap_sent}
use Rattle.std.specs.contracts.impls.GlobalAllocator.TheImpl.{ghosts}
use Rattle.std.specs.declared.alloc.Global.{Global}
use Rattle.std.specs.contracts.alloc.Global as heap
use Rattle.std.proofs.alloc.Global.TheLaws as heap_laws
use Rattle.std_alloc.proofs.SendSync as any
use Rattle.c_handle.specs.contracts.handle.Handle as handle

abbrev pub parts : List Field
parts = RawPtr-field ∷ bool-field ∷ heap.the_field ∷ []

-- a struct that owns memory, and whose fields are the three
abbrev pub of_three : (T : Owning) → (T.D → Values parts) → Owning
of_three T three = record T { parts = parts; as_values = three; exit = λ k. hidden (under (λ d. intos parts (three d)) (exits_of k (rows parts))) }

-- from A to B by f, which keeps the three, and of which Q holds
pub record Move : Type 2 where
  pub A : Owning
  pub B : Owning
  pub of_a : A.D → Values parts
  pub of_b : B.D → Values parts
  pub f : A.D → B.D
  pub Q : A.D → B.D → Type 0
  pub same : (d : A.D) → of_b (f d) ≡ of_a d
  pub holds : (d : A.D) → Q d (f d)
  pub hands : {M : Type 1} {𝓤 : Ura M} (𝓛 : Logic 𝓤) (d : A.D) → ent 𝓤 (sem 𝓛 (A.heap d)) (sem 𝓛 (B.heap (f d)))

module _ (m : Move) where
  abbrev From : Owning
  From = of_three m.A m.of_a

  abbrev Into : Owning
  Into = of_three m.B m.of_b

  abbrev pub signature : Signature
  signature = record { lifetimes = 0; outlives = []; params = plain (λ κs. row From) ∷ []; result = plain (λ κs. row Into) }

  abbrev pub ended : Ended
  ended = record { signature = signature; kept = (yes, tt) }

  abbrev pub function : Fn
  function =
      let locals = local (layout (row Into)) value_local ∷ local
      (layout (row From)) value_local ∷ local ty_ptr value_local ∷ local ty_bool value_local ∷ local
      (layout heap.the_row) value_local ∷ local ty_ptr value_local ∷ [] in
      let body =
      seq (assign (place 2 []) (rv_opd (copy (place 1 (field 0 ∷ []))))) (seq (assign (place 3 []) (rv_opd (copy (place 1 (field 1 ∷ []))))) (
      seq (assign (place 4 []) (rv_opd (copy (place 1 (field 2 ∷ []))))) (seq (assign (place 5 []) (rv_opd (copy (place 2 [])))) (
      seq (assign (place 0 []) (aggregate (copy (place 5 []) ∷ copy (place 3 []) ∷ copy (place 4 []) ∷ []))) return)))) in
      record { lifetimes = 0; outlives = []; ty_params = []; givens = 0; params = 1; locals = locals; body = body }

  module _ {M : Type 1} (𝓤 : Ura M) (𝓛 : Logic 𝓤) (𝓜 : Model 𝓤 𝓛.H) (𝓡 : Running 𝓤 𝓛.H 𝓜) where
    abbrev pub clauses : Clauses 𝓤 ended
    clauses κs a = record { ghost = Unit {0}; requires = λ _. emp 𝓤; ensures = λ _ r _. fact 𝓤 (m.Q a.0 r) }

    pub moved : (k : Callee) → Closed 𝓤 𝓛.H (tables 𝓤 𝓛.H 𝓜 𝓡 𝓡.env).C (tables 𝓤 𝓛.H 𝓜 𝓡 𝓡.env).Λ k function
        → Meets 𝓛 signature ((tables 𝓤 𝓛.H 𝓜 𝓡 𝓡.env).C k) (closing 𝓛 ended clauses)
    moved k closed =
        let stayed : Stays signature.params ended.kept = (stay_dropped (plain (λ κs. row From)) yes, tt) in
        let laws : Laws From = (RawPtr-laws, (bool-laws, (heap_laws.the_field_laws, tt))) in
        let word : Values parts → Val = λ u. vstruct (of_list (lows parts laws u)) in
        proved 𝓛 ended stayed clauses 𝓜 𝓡 (Goes-dropped 𝓛 0 (plain (λ κs. row From)) yes (λ κs x w. refl), tt) k function closed
        (λ κs. ((λ d. word (m.of_a d) ∷ []), tt)) (λ κs. (Tells-lowered From laws, tt)) (λ κs qs bounds a g are.
        let d = a.0 in let e = m.f d in let v = m.of_a d in let w : Val = word v in let good = ((lawful From laws 𝓛).typed d (w ∷ []) are.0).0 in
        let y : (walk_of 𝓛 ended stayed clauses).Ghost = ((κs, qs, bounds, a, (w ∷ [], tt)), g) in
        qed 𝓛 ((‵ ftrue ⊛ ‵ (owns (types_at signature.params κs) a y.0.4)) ∷ raw (emp 𝓤) ∷ []) ∵ split ! $ move ! (1 ∷ []) $ fsplit ! $ fsplit ! $
        -- [the three fields; what is held; nothing; the tokens; the `requires`]
        enter ! _ _ function (w ∷ []) _ $ alloc_all ! (λ l. pass_all ! refl (good, tt) $
        sets ! (of_opd ! (get_in ! (fld ! refl (stop !)) (sub ! 0 refl (whole !)))) refl (Ptr-Good v.0) $
        sets ! (of_opd ! (get_in ! (fld ! refl (stop !)) (sub ! 1 refl (whole !)))) refl (tt, tt) $
        sets ! (of_opd ! (get_in ! (fld ! refl (stop !)) (sub ! 2 refl (whole !)))) refl (tt, ((tt, tt), tt)) $ sets ! (of_opd ! (get ! refl)) refl
        (Ptr-Good v.0) $
        sets ! (agg ! (and_then ! (get ! refl) (and_then ! (get ! refl) (and_then ! (get ! refl) (no_more !))))) refl good $
        rewrite ! 0 (λ (u : Values parts). ‵ ((Struct (shape From)).own_val (intos parts u) (w ∷ []))) (sym (m.same d)) refl $
        move ! (1 ∷ []) $ use1 𝓛 (‵ (m.B.heap e)) (m.hands 𝓛 d) $ move ! (1 ∷ []) $ fjoin ! $
        use0 𝓛 (raw (fact 𝓤 (m.Q d e))) (fact_i 𝓤 (m.Q d e) (emp 𝓤) (m.holds d)) $ nothing ! $ nothing ! $ fjoin ! $
        returns ! (look_at ! 0 refl) $ free_all ! refl $ keep ! (4 ∷ 0 ∷ 2 ∷ 1 ∷ []) $ by ! (leaves 𝓛 ended stayed clauses y w e (tt, tt) (tt, tt))))

-- T is the three fields and a value of the row R, and owns what its handle owns
pub record CStruct : Type 2 where
  pub R : RattleType
  pub T : Owning
  pub parts_of : T.D → Values parts × R.Denot
  pub make : Values parts × R.Denot → T.D
  pub any : R.Denot
  pub made : (u : Values parts × R.Denot) → parts_of (make u) ≡ u
  pub owns : (d : T.D) → T.heap d ≡ c_owns R (parts_of d).0.1.1.0 (parts_of d).0.1.0 (parts_of d).0.0 (parts_of d).1

abbrev pub value_or : {X : Type 0} → X → Option X → X
value_or x None = x
value_or x (Some y) = y

pub is_some : {X : Type 0} (x : X) (v : Option X) → IfSome v (λ y. value_or x v ≡ y)
is_some x None = tt
is_some x (Some y) = refl

pub owns_some : (R : RattleType) (a : Global) (held : Bool) (p : Ptr) (x : R.Denot) (v : Option R.Denot) {M : Type 1} {𝓤 : Ura M} (𝓛 : Logic 𝓤)
    → ent 𝓤 (sem 𝓛 (held_owns (ghosts.dealloc_token a) R held p v)) (sem 𝓛 (c_owns R a held p (value_or x v)))
owns_some R a true p x (Some y) {𝓤 = 𝓤} 𝓛 = id⊢ 𝓤 _
owns_some R a true p x None {𝓤 = 𝓤} 𝓛 = never_e 𝓤 _
owns_some R a false p x v {𝓤 = 𝓤} 𝓛 = id⊢ 𝓤 _

keyless : (R : RattleType) → IsSend R → (a : Global) (held : Bool) (p : Ptr) (x : R.Denot) → Keyless (c_owns R a held p x)
keyless R s a true p x = (any.lies R s p x, frees.frees a (bare (lone R.mir)) p)
keyless R s a false p x = tt

module _ (C : CStruct) where
  abbrev H : Owning
  H = handle.the_type C.R heap.the_row ghosts

  abbrev three : C.T.D → Values parts
  three d = (C.parts_of d).0

  abbrev value : C.T.D → C.R.Denot
  value d = (C.parts_of d).1

  abbrev kept : H.D → Values parts × C.R.Denot
  kept h = ((h.at, (h.held, (h.alloc, tt))), value_or C.any h.value)

  abbrev pub of_handle : Move
  of_handle = record {
    A = H;
    B = C.T;
    of_a = λ h. (kept h).0;
    of_b = three;
    f = λ h. C.make (kept h);
    Q = λ h d. ((three d).1.0 ≡ h.held) × IfSome h.value (λ x. value d ≡ x);
    same = λ h i. (C.made (kept h) i).0;
    holds = λ h. (
      (λ i. (C.made (kept h) i).0.1.0),
      subst (λ (y : C.R.Denot). IfSome h.value (λ x. y ≡ x)) (λ i. (sym (C.made (kept h)) i).1)
          (is_some C.any h.value),
    );
    hands = λ {𝓤 = 𝓤} 𝓛 h. subst (λ (F : Fml). ent 𝓤 (sem 𝓛 (H.heap h)) (sem 𝓛 F))
        (sym (C.owns (C.make (kept h)) ∙ (λ i. let u = C.made (kept h) i in c_owns C.R u.0.1.1.0 u.0.1.0 u.0.0 u.1)))
        (owns_some C.R h.alloc h.held h.at C.any h.value 𝓛);
  }

  abbrev pub into_handle : Move
  into_handle = record {
    A = C.T;
    B = H;
    of_a = three;
    of_b = λ h. (kept h).0;
    f = λ d. record { at = (three d).0; held = (three d).1.0; alloc = (three d).1.1.0; value = Some (value d) };
    Q = λ d h. (h.held ≡ (three d).1.0) × (h.value ≡ Some (value d));
    same = λ d. refl;
    holds = λ d. (refl, refl);
    hands = λ {𝓤 = 𝓤} 𝓛 d. subst (λ (F : Fml). ent 𝓤 (sem 𝓛 (C.T.heap d)) (sem 𝓛 F)) (C.owns d) (id⊢ 𝓤 _);
  }

  abbrev pub Sends : Type 0
  Sends = IsSend (row (of_three C.T three))

  pub sent : IsSend C.R → Sends
  sent s = owning_send (of_three C.T three) (search sendable, (search sendable, (heap_sent, tt)))
      (λ d. subst Keyless (sym (C.owns d)) (keyless C.R s (three d).1.1.0 (three d).1.0 (three d).0 (value d))) (λ k x w. tt)

-- A pointer, a flag and an allocator as a machine value, and the `Handle` that has them. Assumes `Logic`.
use Rattle.c_handle.proofs.Steps.{and_in, and_tt, ◌≡◌, List, [], ◌∷◌, refl, Option, Some, None, Bool, true, false, not, ◌&&◌, T, Ura, ty_ptr, Val}
use Rattle.c_handle.proofs.Steps.{vbool, vstruct, vcons, vnil, has_ty, WT, Logic, never_e, ftrue, given, use1, learn, Item, Goal, Seq, Step, step, ‵}
use Rattle.c_handle.proofs.Steps.{◌$◌, move, fjoin, fpack, feq_i, RattleType, Valss, RawPtr, bool, Ptr, ptr_val, nothing, layout, within, shape}
use Rattle.c_handle.proofs.Steps.{Ptr-Good, Good, box_owns}
use Rattle.core.specs.declared.alloc.Allocator.{Ghosts}
use Rattle.c_handle.specs.Handles.{held_owns}
use Rattle.c_handle.specs.contracts.handle.Handle as handle

-- the machine value of the three
abbrev pub word : Ptr → Bool → Val → Val
word p held h = vstruct (vcons (ptr_val p) (vcons (vbool held) (vcons h vnil)))

-- it has its layout
pub word_good : (Z : RattleType) (p : Ptr) (held : Bool) (h : Val) → Good (layout Z) h
    → T (has_ty ty_ptr (ptr_val p) && (has_ty (layout Z) h && true)) × WT (word p held h)
word_good Z p held h fits = (and_in _ _ (Ptr-Good p).0 (and_tt _ fits.0), ((Ptr-Good p).1, (tt, (fits.1, tt))))

module _ (R Z : RattleType) (g : Ghosts Z.Denot) where
  abbrev pub Handle : RattleType
  Handle = handle.the_row R Z g

  module _ {M : Type 1} {𝓤 : Ura M} {𝓛 : Logic 𝓤} {K : Type 0} {Γ : List (Item 𝓤)} {G : Goal 𝓤 𝓛.H} where
    -- what a handle owns, of what is held and the allocator
    pub handle_in : K → (p : Ptr) (held : Bool) (h : Val) (a : Z.Denot) (x : Option R.Denot)
        → Step K 𝓛 (‵ (Handle.own_val (record { at = p; held = held; alloc = a; value = x }) (word p held h ∷ [])) ∷ Γ) G
        (‵ (held_owns (g.dealloc_token a) R held p x) ∷ ‵ (Z.own_val a (h ∷ [])) ∷ Γ) G
    handle_in t p held h a x = step (λ s.
        nothing t $ move t (2 ∷ 0 ∷ []) $ fjoin t $ feq_i t (List Val) (vbool held ∷ []) (vbool held ∷ []) refl $ fjoin t $
        feq_i t (List Val) (ptr_val p ∷ []) (ptr_val p ∷ []) refl $ fjoin t $ feq_i t (List Val) (word p held h ∷ [])
        (word p held h ∷ []) refl $ fjoin t $
        fpack t (Valss (RawPtr ∷ bool ∷ Z ∷ [])) (within (shape (handle.the_type R Z g)) (p, (held, (a, tt))) (word p held h ∷ []))
        (ptr_val p ∷ [], (vbool held ∷ [], (h ∷ [], tt))) $
        fjoin t $ s)

    -- what is held, after a branch on `!held`
    pub held_out : K → (a : Z.Denot) (held : Bool) (p : Ptr) (v : Option R.Denot) → T (not (not held))
        → ((x : R.Denot) → held ≡ true → v ≡ Some x → Seq K 𝓛 (‵ (box_owns (g.dealloc_token a) R p x) ∷ Γ) G)
        → Seq K 𝓛 (‵ (held_owns (g.dealloc_token a) R held p v) ∷ Γ) G
    held_out t a true p (Some x) _ k = k x refl refl
    held_out t a true p None _ k = use1 𝓛 (given ⊥ (‵ ftrue)) (never_e 𝓤 _) $ learn t (λ z. absurd z)
    held_out t a false p v is _ = absurd is

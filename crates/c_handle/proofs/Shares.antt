-- What a `&` to a handle of a share has. Assumes `Logic`.
use Rattle.c_handle.proofs.Steps.{◌≡◌, T, not, subst, ◌$◌, Ura, List, ◌∷◌, Item, Goal, Seq, given, use1, learn, ‵, never_e, Logic, ftrue, Option}
use Rattle.c_handle.proofs.Steps.{Some, None, Bool, true, false, RattleType, Ptr, refl}
use Prim.Native.Nat.{ℕ}
use base.Fml.{Lft, ffalse}
use denote.Param.Laws.{Laws}
use denote.Sharing.{ShrLaws}
use denote.SharingLaws.{nothing_shr_laws, said_shr_laws}
use denote.Struct.Lending.{Lends, Lends-nothing, Lends-false, lent_at, lent_at_shr_laws}
use Rattle.left_right.proofs.PartSteps.{lent_laws, Lends-part}
use Rattle.left_right.specs.Parted.{part_shares}
use Rattle.c_handle.specs.Shares.{share_owns, share_shares}

pub share_laws : (R : RattleType) → Laws R → (held : Bool) (p : Ptr) (v : Option R.Denot) (round : ℕ) → ShrLaws (share_shares R held p v round)
share_laws R L true p (Some x) round = lent_laws (lent_at R p x) (lent_at_shr_laws R L.shr_laws p x) round
share_laws R L true p None round = said_shr_laws ffalse tt
share_laws R L false p v round = nothing_shr_laws

module _ {M : Type 1} {𝓤 : Ura M} (𝓛 : Logic 𝓤) (R : RattleType) (L : Laws R) where
  pub Lends-share : (held : Bool) (p : Ptr) (v : Option R.Denot) (round count : ℕ) (l : Lft)
      → Lends 𝓛 (share_owns R held p v round count) (share_shares R held p v round) l
  Lends-share true p (Some x) round count l = Lends-part (lent_at R p x) (lent_at_shr_laws R L.shr_laws p x) 𝓛 round count l
  Lends-share true p None round count l = Lends-false 𝓛 (share_shares R true p None round) l
  Lends-share false p v round count l = Lends-nothing 𝓛 ftrue l

-- the value, if a share is held
pub seen_out : {M : Type 1} {𝓤 : Ura M} {𝓛 : Logic 𝓤} {K : Type 0} {Γ : List (Item 𝓤)} {G : Goal 𝓤 𝓛.H} (R : RattleType) → K
    → (held : Bool) (p : Ptr) (v : Option R.Denot) (round : ℕ) (κ : Lft) → held ≡ true
    → ((x : R.Denot) → v ≡ Some x → Seq K 𝓛 (‵ (part_shares R p x round κ) ∷ Γ) G) → Seq K 𝓛 (‵ (share_shares R held p v round κ) ∷ Γ) G
seen_out R t true p (Some x) round κ e k = k x refl
seen_out {𝓤 = 𝓤} {𝓛 = 𝓛} R t true p None round κ e k = use1 𝓛 (given ⊥ (‵ ftrue)) (never_e 𝓤 _) $ learn t (λ z. absurd z)
seen_out R t false p v round κ e k = absurd (subst (λ (h : Bool). T (not h)) e tt)

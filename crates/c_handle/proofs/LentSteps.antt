-- The data fields of a `Lent`. Assumes `Logic`.
use Rattle.c_handle.proofs.Steps.{◌≡◌, List, ◌∷◌, ◌++◌, [], refl, ◌∙◌, Bool, Ura, Val, vbool, vstruct, vcons, vnil, of_list, ent, emp, sem, Logic}
use Rattle.c_handle.proofs.Steps.{RattleType, Ptr, ptr_val, shape}
use denote.Copied.{Struct-Copied}
use denote.Laws.{Is}
use denote.Opens.{Opens}
use denote.Shadow.{makes_shadow}
use denote.Struct.Laws.{RawPtr-copy, bool-copy}
use denote.Struct.Struct.{Struct}
use Rattle.c_handle.specs.contracts.lent.Lent as lent

abbrev pub word : Ptr → Bool → Val
word p held = vstruct (vcons (ptr_val p) (vcons (vbool held) vnil))

module _ (R : RattleType) where
  abbrev pub Data : RattleType
  Data = Struct (shape (lent.the_type R))

  pub told : (p : Ptr) (held : Bool) (vs : List Val) → Is Data (p, (held, tt)) vs → vs ≡ word p held ∷ []
  told p held vs is = is.1.0 ∙ (λ i. vstruct (of_list (is.1.1.0 i ++ (is.1.1.1.0 i ++ []))) ∷ [])

  pub made : {M : Type 1} {𝓤 : Ura M} (𝓛 : Logic 𝓤) (p : Ptr) (held : Bool) → ent 𝓤 (emp 𝓤) (sem 𝓛 (Data.own_val (p, (held, tt)) (word p held ∷ [])))
  made 𝓛 p held = makes_shadow 𝓛 (Data.own_val (p, (held, tt)) (word p held ∷ [])) (λ vss. (tt, (tt, (tt, tt))))
      ((ptr_val p ∷ [], (vbool held ∷ [], tt)), (refl, (refl, (refl, tt))))

  pub opened : {M : Type 1} {𝓤 : Ura M} (𝓛 : Logic 𝓤) → Opens 𝓛 Data
  opened {M} {𝓤 = 𝓤} 𝓛 = (Struct-Copied 𝓛 (shape (lent.the_type R)) (refl, (refl, tt)) (RawPtr-copy.copied M 𝓤 𝓛, (bool-copy.copied M 𝓤 𝓛, tt))).opens

-- A `&` to a handle of a share holds a share of its tokens. Assumes `Logic`.
use denote.RattleType.{RattleType}
use denote.Param.Laws.{Laws}
use denote.Param.Shared.{copy_shared}
use denote.Struct.Field.{RawPtr-field, bool-field}
use denote.Struct.Laws.{RawPtr-copy, bool-copy}
use denote.Struct.Lending.{of_Lends}
use Rattle.c_handle.proofs.Shares.{share_laws, Lends-share}
use Rattle.c_handle.specs.contracts.lent.Lent as C
use Rattle.c_handle.proofs.lent.Lent.TheLaw.Statement.{statement}

pub shares : (T : RattleType) (L : Laws T) → statement T L
shares T L = of_Lends (C.struct T) (C.the_codes T.Denot T.coded) (C.the_heap T) (C.the_lent T) (λ d p. share_laws T L d.held d.at d.value d.round)
    (copy_shared RawPtr-field RawPtr-copy, (copy_shared bool-field bool-copy, tt))
    (λ M 𝓤 𝓛 d p. Lends-share 𝓛 T L d.held d.at d.value d.round d.count (C.the_row T).lives)

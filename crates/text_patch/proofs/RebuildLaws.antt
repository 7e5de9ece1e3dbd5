-- Steps that make no text of a node's parts make none of the node.
use Rattle.std.proofs.Common.{◌≡◌, ℕ, List, Err, subst, sym}
use Rattle.vclock.specs.declared.refusal.Refusal.{Refusal}
use Rattle.vclock.specs.declared.refusal.Refusal.TheVariants as refusals
use Rattle.tree_nodes.specs.Nodes.{Node}
use Rattle.snapshot.specs.RowMaps.{RowMap}
use Rattle.text_patch.specs.Parts.{parts_at}
use Rattle.text_patch.specs.Patches.{Makes, Rebuilds}
use Rattle.text_patch.specs.Steps.{Make}

pub no_text : {T : Type 0} (P : List ℕ → T → Type 0) (own : RowMap) (n : Node) (parts : List (List ℕ)) (steps : List ℕ) (e : Refusal)
    → parts ≡ parts_at own n → Makes parts steps P (Err e) → Rebuilds own n steps (Err e)
no_text P own n parts steps refusals.BadMessage is none =
    λ text m. none m.body (subst (λ (ps : List (List ℕ)). Make ps 0 steps m.body) (sym is) m.makes)
no_text P own n parts steps refusals.NoMemory is none = tt
no_text P own n parts steps e is none = none

-- What the installing of a portion owes, from what its parts did.
use Rattle.std.proofs.Common.{◌≡◌, ℕ, List, subst}
use Rattle.std.specs.Prelude.{Bool, true, false}
use Rattle.rehash.specs.Jobs.{NodeText}
use Rattle.range_state.specs.State.{State}
use Rattle.range_state.specs.Moments.{dirty_in}
use Rattle.range_state.specs.Portions.{installed_all}
use Rattle.c_calls.specs.Numbers.{EMPTY}
use Rattle.antientropy_c.specs.Portions.{Installs, InstallsNodes}

nodes_installed : (was : Bool) (code : ℕ) (nodes : List NodeText) (s t : State) (old new : ℕ) → was ≡ true → code ≡ 0 → t ≡ installed_all s nodes
    → new ≡ dirty_in t.moment → InstallsNodes was code nodes s t old new
nodes_installed true code nodes s t old new is number after left = (number, after, left)
nodes_installed false code nodes s t old new is number after left = absurd (cc)

no_nodes : (was : Bool) (code : ℕ) (nodes : List NodeText) (s t : State) (old new : ℕ) → was ≡ false → code ≡ EMPTY → t ≡ s → new ≡ old
    → InstallsNodes was code nodes s t old new
no_nodes true code nodes s t old new is number same kept = absurd (cc)
no_nodes false code nodes s t old new is number same kept = (number, same, kept)

-- a portion was held
pub installed : (code : ℕ) (portion after : Bool × List NodeText) (s t : State) (old new : ℕ) (nodes : List NodeText)
    → portion.0 ≡ true → after.0 ≡ false → nodes ≡ portion.1 → code ≡ 0 → t ≡ installed_all s nodes → new ≡ dirty_in t.moment
    → Installs code portion after s t old new
unfolding Installs
installed code portion after s t old new nodes was now are number state left =
    (now, nodes_installed portion.0 code portion.1 s t old new was number (subst (λ (xs : List NodeText). t ≡ installed_all s xs) are state) left)

-- none was
pub none : (code : ℕ) (portion after : Bool × List NodeText) (s t : State) (old new : ℕ)
    → portion.0 ≡ false → after.0 ≡ false → code ≡ EMPTY → t ≡ s → new ≡ old → Installs code portion after s t old new
unfolding Installs
none code portion after s t old new was now number same kept = (now, no_nodes portion.0 code portion.1 s t old new was number same kept)

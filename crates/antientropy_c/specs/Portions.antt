-- Portions of a replica's moment, in handles of C.
use Rattle.std.specs.Prelude.{◌≡◌, ℕ, Bool, true, false, List}
use Rattle.rehash.specs.Jobs.{NodeText}
use Rattle.range_state.specs.State.{State}
use Rattle.range_state.specs.Moments.{dirty_in}
use Rattle.range_state.specs.Portions.{installed_all}
use Rattle.c_calls.specs.Numbers.{EMPTY}
use Rattle.antientropy_c.specs.declared.portion_handle.PortionHandle.{PortionHandle}

abbrev pub nodes_in : PortionHandle → Bool × List NodeText
nodes_in h = (h.held, h.nodes)

-- The digests of a portion's nodes are installed in the moment, and the number of its nodes that are dirty afterwards
-- is stored; without a portion nothing changes, and the result is EMPTY.
abbrev pub InstallsNodes : Bool → ℕ → List NodeText → State → State → ℕ → ℕ → Type 0
InstallsNodes true code nodes s t old new = (code ≡ 0) × (t ≡ installed_all s nodes) × (new ≡ dirty_in t.moment)
InstallsNodes false code nodes s t old new = (code ≡ EMPTY) × (t ≡ s) × (new ≡ old)

-- the portion of a handle is installed, and the handle is emptied
unfoldable pub Installs : ℕ → Bool × List NodeText → Bool × List NodeText → State → State → ℕ → ℕ → Type 0
Installs code portion after s t old new = (after.0 ≡ false) × InstallsNodes portion.0 code portion.1 s t old new

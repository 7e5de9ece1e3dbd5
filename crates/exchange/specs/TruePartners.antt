-- Exchanges with a true partner, which sends only the texts of its own nodes.
use Rattle.std.specs.Prelude.{◌≡◌, ◌≤◌, ℕ, ◌+◌, true, List}
use Rattle.std.specs.List.{AllByRecursion}
use Rattle.tree_nodes.specs.Nodes.{Node, contains_node}
use Rattle.snapshot.specs.RowMaps.{RowMap}
use Rattle.sync_session.specs.Walks.{Walk, IsPartners}
use Rattle.sync_session.specs.Differing.{IsTraced, IsHonest}
use Rattle.exchange.specs.declared.tally.Tally.{Tally}
use Rattle.exchange.specs.Steps.{Step, Asks, Loses, Retracts, GoesOn, Closes, Sorts, Judges}

-- a walk that compares these rows with a true partner's
pub record IsTrueWalk (own other : RowMap) (w : Walk) : Type 0 where
  pub own_is : w.own ≡ own
  pub traced : IsTraced w
  pub partner : IsPartners w other
  pub honest : IsHonest w other
  pub asked : (n : Node) → contains_node n w.outstanding ≡ true → contains_node n w.asked ≡ true

-- asks are sent only for such walks
abbrev pub IsTrueStep : RowMap → RowMap → Step → Type 0
IsTrueStep own other (Asks w) = IsTrueWalk own other w
IsTrueStep own other (Loses n) = Unit {0}
IsTrueStep own other (Retracts n) = Unit {0}
IsTrueStep own other GoesOn = Unit {0}
IsTrueStep own other Closes = Unit {0}
IsTrueStep own other (Sorts read) = Unit {0}
IsTrueStep own other (Judges n leaf len said) = Unit {0}

abbrev pub AreTrueSteps : RowMap → RowMap → List Step → Type 0
AreTrueSteps own other steps = AllByRecursion (λ step. IsTrueStep own other step) steps

-- at most one ask was sent for each of `nodes` nodes, bad answers, lost asks and refused answers
abbrev pub AsksFew : ℕ → Tally → Type 0
AsksFew nodes t = t.asks ≤ nodes + t.bad + t.lost + t.refused

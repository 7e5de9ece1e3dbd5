-- The steps of a walk, and their results.
use Rattle.std.specs.Prelude.{◌≡◌, ◌≢◌, ℕ, ◌<◌, true, false, not, Some, Result, Ok, Err, IsTrue, List, [], ◌∷◌, ◌++◌}
use Rattle.std.specs.List.{filter}
use Rattle.sha2.specs.Sha256.{sha256}
use Rattle.vclock.specs.declared.refusal.Refusal.{Refusal}
use Rattle.vclock.specs.declared.refusal.Refusal.TheVariants as refusals
use Rattle.version_set.specs.Version.{covered}
use Rattle.version_set.specs.declared.version.Version.{Version}
use Rattle.tree_nodes.specs.Nodes.{Node, is_same_node, contains_node, tree_depth}
use Rattle.snapshot.specs.RowMaps.{RowMap}
use Rattle.sync_session.specs.declared.state.SessionState.{SessionState}
use Rattle.sync_session.specs.declared.state.SessionState.TheVariants.{Open, Finished, Failed, Cancelled}
use Rattle.sync_session.specs.declared.session.Answered.{Answered}
use Rattle.sync_session.specs.declared.session.Answered.TheVariants.{Inner, Leaf}
use Rattle.sync_session.specs.Walks.{TakenText, Walk, expected, first_asked, asks, IsCanonical, IsInnerText, AreSpelled}

-- open, or finished if nothing is outstanding
abbrev pub state_by : List Node → SessionState
state_by [] = Finished
state_by (n ∷ nodes) = Open

-- a new session's walk
abbrev pub started : RowMap → List ℕ → Walk
started own offered = record { own = own; root = offered; asked = first_asked own offered; outstanding = first_asked own offered; taken = []; state = state_by (first_asked own offered) }

-- the outstanding nodes after a text was taken: without its node, and with the nodes that it asks at the end
abbrev pub left_after : Walk → TakenText → List Node
left_after w t = filter (λ n. not (is_same_node n t.node)) w.outstanding ++ asks w.own t

-- the walk after a text was taken
abbrev pub after : Walk → TakenText → Walk
after w t = record { own = w.own; root = w.root; asked = w.asked ++ asks w.own t; outstanding = left_after w t; taken = w.taken ++ t ∷ []; state = state_by (left_after w t) }

-- the walk after a text that no node can have
abbrev pub failed : Walk → Walk
failed w = record { own = w.own; root = w.root; asked = w.asked; outstanding = []; taken = w.taken; state = Failed }

-- the walk after a cancel: an open one ends, any other is unchanged
abbrev pub cancelled_by : Walk → SessionState → Walk
cancelled_by w Open = record { own = w.own; root = w.root; asked = w.asked; outstanding = []; taken = w.taken; state = Cancelled }
cancelled_by w Finished = w
cancelled_by w Failed = w
cancelled_by w Cancelled = w

-- the node is outstanding, and the text has the digest that is expected there
pub record IsDue (w : Walk) (t : TakenText) : Type 0 where
  pub asked : contains_node t.node w.outstanding ≡ true
  pub digest : expected w.root w.taken t.node ≡ Some (sha256 t.text)

-- The faults of a text; the first one is returned. Reading a leaf allocates, so at a leaf NoMemory may replace
-- NotCanonical.
abbrev pub IsTakeFault : Walk → TakenText → Refusal → Type 0
IsTakeFault w t refusals.NotAsked = contains_node t.node w.outstanding ≡ false
IsTakeFault w t refusals.WrongDigest = (contains_node t.node w.outstanding ≡ true) × (expected w.root w.taken t.node ≢ Some (sha256 t.text))
IsTakeFault w t refusals.NotCanonical = IsDue w t × (IsCanonical w.own t.node t.text → ⊥)
IsTakeFault w t refusals.NoMemory = IsDue w t × (t.node.depth < tree_depth w.own.format → IsInnerText w.own.format t.text)
IsTakeFault w t e = ⊥

-- the walk after a refusal: it fails by a text that no node can have, and is otherwise unchanged
abbrev pub after_refusal : Walk → Refusal → Walk
after_refusal w refusals.NotCanonical = failed w
after_refusal w e = w

-- the result for a text that is taken: its kind, and for a leaf the rows that the text spells
abbrev pub IsAnswerTo : Walk → TakenText → Answered → Type 0
IsAnswerTo w t Inner = (t.node.depth < tree_depth w.own.format) × IsInnerText w.own.format t.text
IsAnswerTo w t (Leaf rows) = (t.node.depth ≡ tree_depth w.own.format) × AreSpelled w.own t.node t.text rows

-- the result of taking a text, and the walk afterwards
abbrev pub Takes : Walk → TakenText → Result Answered Refusal → Walk → Type 0
Takes w t (Ok answer) new = IsDue w t × IsAnswerTo w t answer × (new ≡ after w t)
Takes w t (Err e) new = IsTakeFault w t e × (new ≡ after_refusal w e)

-- all versions covered before are covered now
abbrev pub Grows : (List ℕ → List Version) → (List ℕ → List Version) → Type 0
Grows before now = (v : Version) (key : List ℕ) → IsTrue (covered v (before key)) → IsTrue (covered v (now key))

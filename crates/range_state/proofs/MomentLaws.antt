-- Moments stay right while the entries of a store grow, and their rows are held.
use Rattle.std.proofs.Common.{◌≡◌, ◌≤◌, ℕ, Bool, true, false, cond, Option, None, Some, Result, Ok, Err, List, ◌++◌, length, take, drop, sym, ap}
use Rattle.std.proofs.Common.{subst, ◌∙◌, arith}
use Rattle.std.specs.Option.{IfSome}
use Rattle.std.proofs.lemmas.List.{length-append, take-append-le, take-append-drop, take_all}
use Rattle.vclock.specs.Outcome.{DoesAtOnce, gives, refuses, through}
use Rattle.vclock.specs.declared.refusal.Refusal.{Refusal}
use Rattle.vclock.specs.declared.refusal.Refusal.TheVariants.{Stale}
use Rattle.tree_nodes.specs.Nodes.{Node}
use Rattle.range_journal.specs.declared.journal.Entry.{Entry}
use Rattle.range_journal.specs.Journal.{held}
use Rattle.sync_session.specs.Walks.{Held}
use Rattle.sync_session.proofs.StepLaws.{Held-grows}
use Rattle.range_tree.specs.Trees.{RangeTree, IsRangeTree}
use Rattle.range_store.specs.Rows.{rows_of}
use Rattle.range_tree.specs.Jobs as trees
use Rattle.range_store.specs.Store.{Store, IsSound, rows_now, tree_in, with_tree}
use Rattle.range_store.proofs.HeldLaws.{grows}
use Rattle.range_store.proofs.OfferLaws.{tree_now}
use Rattle.range_state.specs.declared.moment.Moment.{Moment}
use Rattle.range_state.specs.State.{State, IsRight, rows_at, IsMomentOf, install, with_store}
use Rattle.range_state.specs.Moments.{with_digest}
use Rattle.range_state.proofs.HeldRows.{rows_held}

-- the rows of the first entries are those of a store with entries more
rows_later : (s t : Store) (more : List Entry) (front : ℕ) → t.config ≡ s.config → t.entries ≡ s.entries ++ more → front ≤ length s.entries
    → rows_at s front ≡ rows_at t front
rows_later s t more front config entries within =
    let first : take front s.entries ≡ take front t.entries = sym (ap (take front) entries ∙ take-append-le front s.entries more within) in
    let c : s.config ≡ t.config = sym config in
    λ i. record { format = (c i).format; bits = (c i).bits; range = (c i).range; rows = rows_of (first i) }

-- a moment of a store is one of the store with entries more
pub moment_grows : (s t : Store) (more : List Entry) (m : Option Moment) → t.config ≡ s.config → t.entries ≡ s.entries ++ more
    → IfSome m (IsMomentOf s) → IfSome m (IsMomentOf t)
moment_grows s t more None config entries is = tt
moment_grows s t more (Some m) config entries is = record {
  front = omega (arith, is.front, ap length entries, length-append s.entries more);
  rows = is.rows ∙ rows_later s t more m.front config entries is.front;
  right = is.right;
}

-- the rows now are those of all entries
pub all_rows_at : (s : Store) → rows_at s (length s.entries) ≡ rows_now s
all_rows_at s = ap (λ es. record { format = s.config.format; bits = s.config.bits; range = s.config.range; rows = rows_of es })
    (take_all (length s.entries) s.entries (omega arith))

-- the tree now is a moment's
pub moment_now : (s : Store) → IsSound s → IsMomentOf s (record { tree = tree_in s; front = length s.entries })
moment_now s ok = record { front = omega arith; rows = sym (all_rows_at s); right = tree_now s ok }

-- the rows of the first entries are held, or below those that are
pub held_at : (s : Store) (front : ℕ) → Held (rows_at s front).rows (held s.entries)
held_at s front =
    let first = take front s.entries in
    subst (λ (es : List Entry). Held (rows_of first) (held es)) (take-append-drop front s.entries)
    (Held-grows (held first) (held (first ++ drop front s.entries)) (rows_of first) (grows first (drop front s.entries)) (rows_held first))

-- ---- a state with another moment

pub right_held : (s : State) (m : Option Moment) → IsRight s → IfSome m (IsMomentOf s.store) → IsRight (record s { moment = m })
right_held s m ok is = record {
  store = ok.store;
  records = ok.records;
  few = ok.few;
  few_open = ok.few_open;
  numbers = ok.numbers;
  partners = ok.partners;
  settled = ok.settled;
  moment = is;
}

-- a moment with the digest of a text
pub hashed_moment : (s : Store) (m : Moment) (t : RangeTree) → IsMomentOf s m → t.map ≡ m.tree.map → IsRangeTree t
    → IsMomentOf s (record m { tree = t })
hashed_moment s m t is map right = record { front = is.front; rows = map ∙ is.rows; right = right }

-- ---- a digest that is installed

-- the digest is that of the node's text now, or nothing changes
pub digest_after : (r : Result (Unit {0}) Refusal) (s t : State) (node : Node) (text : List ℕ) → DoesAtOnce r s t (install s node text)
    → t ≡ record s { store = with_digest s.store node text }
digest_after r s t node text h = by_test r (trees.is_current (tree_in s.store) node text) h
  where
    by_test : (r : Result (Unit {0}) Refusal) (b : Bool)
        → DoesAtOnce r s t (through (with_store s)
        (through (with_tree s.store) (cond b (gives tt (trees.installed (tree_in s.store) node text)) (refuses Stale))))
        → t ≡ record s { store = cond b (with_tree s.store (trees.installed (tree_in s.store) node text)) s.store }
    by_test (Ok x) true is = let now : with_store s (with_tree s.store (trees.installed (tree_in s.store) node text)) ≡ t = cc in sym now
    by_test (Ok x) false is = absurd (cc)
    by_test (Err e) true is = absurd (let clash = is.1 in cc)
    by_test (Err e) false is = is.0

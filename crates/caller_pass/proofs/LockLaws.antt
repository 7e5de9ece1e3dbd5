-- What a locked range keeps.
use Rattle.std.proofs.Common.{◌≡◌, ℕ, Bool, true, false, cond, Option, None, Some, List, length, refl, sym, ap, ◌∙◌, Result, Ok, Err, arith}
use Rattle.std.proofs.lemmas.List.{length-append}
use Rattle.vclock.specs.Outcome.{Does, DoesAtOnce, gives, refuses, through}
use Rattle.vclock.specs.declared.refusal.Refusal.{Refusal}
use Rattle.vclock.specs.declared.refusal.Refusal.TheVariants.{Stale}
use Rattle.tree_nodes.specs.Nodes.{Node}
use Rattle.range_journal.specs.declared.journal.Entry.{Entry}
use Rattle.walk_messages.specs.declared.message.Offer.{Offer}
use Rattle.range_tree.specs.Trees.{RangeTree}
use Rattle.range_tree.specs.Jobs as trees
use Rattle.range_store.specs.Store.{dirty_fault, tree_in, with_tree}
use Rattle.range_store.proofs.PutLaws.{past}
use Rattle.range_state.specs.Sessions.{crowd_fault, foreign_fault, open_session, opened, standings}
use Rattle.range_state.specs.declared.moment.Moment.{Moment}
use Rattle.range_state.specs.Moments.{install_in, install_moment, with_hashed}
use Rattle.range_state.specs.State.{State, IsRight}
use Rattle.caller_pass.specs.Passes.{BookView, counted}
use Rattle.caller_pass.specs.Locks.{Locked, IsLocked}
use Rattle.caller_pass.proofs.GrowthLaws.{IsGrownBy}

-- a session that is opened makes no entry
pub opened_beside : (s t : State) (partner : ℕ) (offer : Offer) (r : Result ℕ Refusal) → Does r s t (open_session s partner offer) → t.store ≡ s.store
opened_beside s t partner offer (Err e) h = ap (λ (x : State). x.store) h.0
opened_beside s t partner offer (Ok id) h =
    let opens = past (dirty_fault s.store) _ id t
    (past (crowd_fault (standings s.records)) _ id t (past (foreign_fault s.store.config offer) _ id t h)) in
    let now : opened s partner offer.root ≡ t = cc in
    ap (λ (x : State). x.store) (sym now)

-- a digest that is installed in the moment makes no entry
pub hashed_beside : (s t : State) (node : Node) (text : List ℕ) (r : Result (Unit {0}) Refusal) → DoesAtOnce r s t (install_moment s node text)
    → t.store.entries ≡ s.store.entries
hashed_beside s t node text (Err e) h = ap (λ (x : State). x.store.entries) h.0
hashed_beside s t node text (Ok x) h = by_moment s.moment h
  where
    by_text : (b : Bool) (u : RangeTree) → (cond b (with_tree s.store u) s.store).entries ≡ s.store.entries
    by_text true u = refl
    by_text false u = refl

    by_test : (m : Moment) (b : Bool)
        → through (with_hashed s node text m) (cond b (gives tt (trees.installed m.tree node text)) (refuses Stale)) ≡ gives x t
        → t.store.entries ≡ s.store.entries
    by_test m true e =
        let now : with_hashed s node text m (trees.installed m.tree node text) ≡ t = cc in
        ap (λ (y : State). y.store.entries) (sym now)
        ∙ by_text (trees.is_current (tree_in s.store) node text) (trees.installed (tree_in s.store) node text)
    by_test m false e = absurd (cc)

    by_moment : (o : Option Moment) → install_in o s node text ≡ gives x t → t.store.entries ≡ s.store.entries
    by_moment None e = absurd (cc)
    by_moment (Some m) e = by_test m (trees.is_current m.tree node text) e

-- entries came, and the book counted them
pub locked_grown : (n : ℕ) (l : Locked) (es : List Entry) (t : State) (b : BookView) (count : ℕ) → IsLocked n l → IsGrownBy n l.state.store es t.store
    → count ≡ length es → b ≡ counted l.book count → IsRight t → IsLocked n (record { state = t; book = b })
locked_grown n l es t b count ok grown is book right = record {
  right = right;
  counted = omega (arith, ap (λ (x : BookView). x.number) book, is, ok.counted, ap length grown.entries, length-append l.state.store.entries es);
  seated = grown.seated;
}

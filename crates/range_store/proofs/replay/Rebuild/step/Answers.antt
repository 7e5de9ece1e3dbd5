use Rattle.std.proofs.Common.{◌<◌, length, get_or, sym, ap, subst, ◌∙◌, arith}
use Rattle.hash_tree.proofs.OutcomeLaws.{given}
use Rattle.range_journal.specs.declared.journal.Entry.{Entry}
use Rattle.range_store.specs.Store.{leaf_in}
use Rattle.range_store.specs.Replays.{Replayed}
use Rattle.range_store.proofs.ReplayLaws.{IsNext, next_is, next_tree}
use Rattle.range_store.proofs.replay.Rebuild.step.Goals as goal
use Rattle.range_store.proofs.replay.Rebuild.step.Goals.{After-leaf_of-leaf}

-- the key and the version that are offered
next : (c : After-leaf_of-leaf)
    → IsNext c.self.inside.tree c.leaf_of-leaf.result
    (get_or c.self.inside.entries.now c.self.inside.front c.index-self-self.result).key c.in_ok-version.version
next c =
    let r : Replayed = record { config = c.self.inside.config; entries = c.self.inside.entries.now; front = c.self.inside.front } in
    let e : Entry = c.index-self-self.result in
    let is = c.index-self-self.is in
    let below : r.front < length r.entries = subst (λ (x : Replayed). x.front < length x.entries) (sym c.self.view_is) c.requires in
    next_is r e c.self.inside.tree c.leaf_of-leaf.result _ c.in_ok-version.version c.self.invariant.0 below is
    (record {
      tree = c.self.invariant.1;
      leaf = c.leaf_of-leaf.ensures ∙ (λ i. leaf_in (sym c.self.view_is i).config (c.as_slice.ensures i));
      key = ap (λ (x : Entry). x.key) (sym is);
      version = c.in_ok-version.ensures.1 ∙ ap (λ (x : Entry). x.version) (sym is);
    })

pub offer-requires-clause-leaf : goal.offer-requires-clause-leaf
offer-requires-clause-leaf c = (next (goal.at.offer-requires-clause-leaf c).After-leaf_of-leaf).leaf

pub offer-requires-clause-here : goal.offer-requires-clause-here
offer-requires-clause-here c = (next (goal.at.offer-requires-clause-here c).After-leaf_of-leaf).here

pub offer-requires-clause-key : goal.offer-requires-clause-key
offer-requires-clause-key c = (next (goal.at.offer-requires-clause-key c).After-leaf_of-leaf).key

pub offer-requires-clause-value : goal.offer-requires-clause-value
offer-requires-clause-value c = (next (goal.at.offer-requires-clause-value c).After-leaf_of-leaf).value

pub offer-requires-clause-room : goal.offer-requires-clause-room
offer-requires-clause-room c = (next (goal.at.offer-requires-clause-room c).After-leaf_of-leaf).room

pub invariant_of-self-2 : goal.invariant_of-self-2
invariant_of-self-2 c =
    let r : Replayed = record { config = c.self.inside.config; entries = c.self.inside.entries.now; front = c.self.inside.front } in
    let e : Entry = c.index-self-self.result in
    let is = c.index-self-self.is in
    let ok = c.self.invariant.0 in
    let below : r.front < length r.entries = subst (λ (x : Replayed). x.front < length x.entries) (sym c.self.view_is) c.requires in (
      record {
        config = ok.config;
        own = ok.own;
        short = ok.short;
        within = omega (arith, below);
      },
      next_tree r e c.self.inside.tree _ _ c.in_ok-version.version c.self.invariant.1 below is
          (ap (λ (x : Entry). x.key) (sym is)) (c.in_ok-version.ensures.1 ∙ ap (λ (x : Entry). x.version) (sym is))
          (given _ _ _ _ c.in_ok-offer.ensures).1,
    )

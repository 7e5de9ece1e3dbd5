use Rattle.std.proofs.Common.{◌≡◌, ◌+◌, [], ◌∷◌, ◌++◌, None, Some, true, false, length, ap, ◌∙◌, inr, arith}
use Rattle.vclock.specs.declared.refusal.Refusal.TheVariants.{Crowded}
use Rattle.version_set.specs.Version.{covered, offer_fault}
use Rattle.range_journal.specs.declared.journal.Source.TheVariants.{Copy}
use Rattle.hash_tree.specs.Leaves.{versions_in}
use Rattle.hash_tree.proofs.OutcomeLaws.{given}
use Rattle.range_tree.specs.Trees.{offered_to}
use Rattle.range_store.specs.declared.store.format_loading.Spread.{Spread}
use Rattle.range_store.specs.Store.{Store}
use Rattle.range_store.proofs.SpreadLaws.{spread_leaf, spread_place, spread_known, spread_crowded, spread_news}
use Rattle.range_store.proofs.store.RangeStore.spread_version.Goals as goal

pub find-held-requires : goal.find-held-requires
find-held-requires c = rw c.as_slice.ensures
    (spread_leaf c.args.self.now c.args.seat c.requires.before.0 c.args.spread.now c.args.leaf c.args.key.now c.requires.before.1 c.requires.leaf)

pub returns-then-covers : goal.returns-then-covers
returns-then-covers c =
    λ offers is.
    let a = c.args.spread.now in
    let known : covered c.args.version.now (versions_in c.args.key.now a.tree.map.rows) ≡ true = cc
    (c.covers.ensures, c.if-covers.true, c.find-held.ensures, c.as_slice.ensures) in
    let next = spread_known c.args.self.now c.args.seat offers c.args.key.now c.args.version.now a is known in
    (next.fits, next)

pub returns-then-crowds : goal.returns-then-crowds
returns-then-crowds c =
    λ offers is.
    let a = c.args.spread.now in
    let full : offer_fault c.args.version.now (versions_in c.args.key.now a.tree.map.rows) ≡ Some Crowded = rw
    (c.find-held.ensures, c.as_slice.ensures, c.if-crowds.true) at c.crowds.ensures in
    inr (spread_crowded c.args.self.now c.args.seat offers a c.args.key.now c.args.version.now Crowded is full)

pub offer-requires-clause-leaf : goal.offer-requires-clause-leaf
offer-requires-clause-leaf c =
    spread_leaf c.args.self.now c.args.seat c.requires.before.0 c.args.spread.now c.args.leaf c.args.key.now c.requires.before.1 c.requires.leaf

pub offer-requires-clause-here : goal.offer-requires-clause-here
offer-requires-clause-here c =
    (spread_place c.args.self.now c.args.seat c.requires.before.0 c.args.spread.now c.args.key.now c.args.version.now.kind c.args.version.now.value
    c.requires.before.1 c.requires.here).here

pub offer-requires-clause-value : goal.offer-requires-clause-value
offer-requires-clause-value c =
    let fits = (spread_place c.args.self.now c.args.seat c.requires.before.0 c.args.spread.now c.args.key.now c.args.version.now.kind
    c.args.version.now.value c.requires.before.1 c.requires.here).value_fits in
    rw c.in_ok-row_version.ensures.1 fits

pub returns : goal.returns
returns c =
    λ offers is.
    let s = c.args.self.now in
    let a = c.args.spread.now in
    let key = c.args.key.now in
    let v = c.args.version.now in
    let b : Spread = record { tree = c.offer.new.self; entries = c.push_reserved.new.self; known = a.known } in
    let fresh : covered v (versions_in key a.tree.map.rows) ≡ false = cc
    (c.covers.ensures, c.if-covers.false, c.find-held.ensures, c.as_slice.ensures) in
    let fits : offer_fault v (versions_in key a.tree.map.rows) ≡ None = rw
    (c.find-held.ensures, c.as_slice.ensures, c.if-crowds.false) at c.crowds.ensures in
    let number : c.len.result + c.len-2.result ≡ length s.entries + length a.entries.items = omega
    (arith, c.len.ensures.count, c.len-2.ensures, ap (λ (t : Store). length t.entries) c.self.view_is) in
    let tree = (given _ _ _ _ c.in_ok-offer.ensures).1 ∙ ap (offered_to a.tree key) c.in_ok-row_version.ensures.1 in
    let entries = c.push_reserved.ensures.items ∙ (λ i. c.in_ok-reserve.ensures.items i ++ record {
      number = number i;
      seat = c.args.seat;
      source = Copy;
      key = c.in_ok-try_clone.ensures.1 i;
      version = c.in_ok-try_clone-2.ensures.1 i;
    } ∷ []) in
    let next = spread_news s c.args.seat offers key v a b is fresh fits tree entries (λ i. a.known) in
    (next.fits, next)

use Rattle.std.proofs.Common.{◌≡◌, ℕ, ◌+◌, None, Some, true, false, List, [], ◌∷◌, ◌++◌, length, ap, ◌∙◌, refl, inr, arith}
use Rattle.vclock.specs.declared.refusal.Refusal.TheVariants.{Crowded}
use Rattle.version_set.specs.declared.version.Version.{Version}
use Rattle.version_set.specs.Version.{covered, offer_fault}
use Rattle.hash_tree.specs.Leaves.{versions_in, with_offer}
use Rattle.hash_tree.proofs.OutcomeLaws.{given}
use Rattle.range_store.specs.declared.store.batch.Batch.{Batch}
use Rattle.range_store.specs.Store.{Store}
use Rattle.range_store.specs.Offers.{crowded_in}
use Rattle.range_store.specs.Batches.{ahead, IsPrepared}
use Rattle.range_store.proofs.BatchLaws.{known_next, crowded_next, news_next}
use Rattle.range_store.proofs.store.RangeStore.prepare_version.Goals as goal
use Rattle.range_store.proofs.store.RangeStore.prepare_version.Goals.{In_ok-push}

pub returns-then-covers-clause-answers : goal.returns-then-covers-clause-answers
returns-then-covers-clause-answers c =
    let a = c.args.batch.now in
    let known : covered c.args.version.now (versions_in c.args.key.now a.leaf.rows) ≡ true = cc
    (c.covers.ensures, c.if-covers.true, c.new-held.ensures, c.find.ensures.found, c.as_slice.ensures) in
    let b : Batch = record { leaf = a.leaf; entries = a.entries; known = a.known + 1 } in (
      (known_next c.args.self.now c.args.seat c.args.source c.args.leaf c.args.key.now c.args.version.now a b c.requires.batch c.requires.leaf known
          (λ i. b)).0,
      tt,
    )

pub returns-then-covers-clause-ok : goal.returns-then-covers-clause-ok
returns-then-covers-clause-ok c =
    let a = c.args.batch.now in
    let known : covered c.args.version.now (versions_in c.args.key.now a.leaf.rows) ≡ true = cc
    (c.covers.ensures, c.if-covers.true, c.new-held.ensures, c.find.ensures.found, c.as_slice.ensures) in
    let b : Batch = record { leaf = a.leaf; entries = a.entries; known = a.known + 1 } in
    (known_next c.args.self.now c.args.seat c.args.source c.args.leaf c.args.key.now c.args.version.now a b c.requires.batch c.requires.leaf known
    (λ i. b)).1

pub returns-then-crowds-clause-answers : goal.returns-then-crowds-clause-answers
returns-then-crowds-clause-answers c =
    let a = c.args.batch.now in
    let full : offer_fault c.args.version.now (versions_in c.args.key.now a.leaf.rows) ≡ Some Crowded = rw
    (c.new-held.ensures, c.find.ensures.found, c.as_slice.ensures, c.if-crowds.true) at c.crowds.ensures in
    inr (crowded_next c.args.self.now c.args.seat c.args.source c.args.leaf c.args.key.now c.args.version.now a Crowded c.requires.batch
    c.requires.leaf full)

pub offer-requires-clause-room : goal.offer-requires-clause-room
offer-requires-clause-room c =
    let fits : offer_fault c.args.version.now (versions_in c.args.key.now c.args.batch.now.leaf.rows) ≡ None = rw
    (c.new-held.ensures, c.find.ensures.found, c.as_slice.ensures, c.if-crowds.false) at c.crowds.ensures in
    ap (λ (v : Version). offer_fault v (versions_in c.args.key.now c.args.batch.now.leaf.rows)) c.in_ok-row_version.ensures.1 ∙ fits

-- what a version that is prepared adds to the batch
added : (c : In_ok-push)
    → (crowded_in (ahead c.args.self.now c.args.batch.now) c.args.seat c.args.source ((c.args.key.now, c.args.version.now) ∷ []) ≡ None)
    × IsPrepared c.args.self.now c.args.seat c.args.source c.args.leaf ((c.args.key.now, c.args.version.now) ∷ []) c.args.batch.now
    (record { leaf = c.offer.new.self; entries = c.push.new.self; known = c.args.batch.now.known })
added c =
    let s = c.args.self.now in
    let a = c.args.batch.now in
    let b : Batch = record { leaf = c.offer.new.self; entries = c.push.new.self; known = a.known } in
    let set = c.new-held.ensures ∙ c.find.ensures.found ∙ ap (λ (k : List ℕ). versions_in k a.leaf.rows) c.as_slice.ensures in
    let fresh : covered c.args.version.now (versions_in c.args.key.now a.leaf.rows) ≡ false = cc (c.covers.ensures, c.if-covers.false, set) in
    let fits : offer_fault c.args.version.now (versions_in c.args.key.now a.leaf.rows) ≡ None = rw (set, c.if-crowds.false) at c.crowds.ensures in
    let number : c.len.result + c.len-2.result ≡ length s.entries + length a.entries.items = omega
    (arith, c.len.ensures.count, c.len-2.ensures, ap (λ (t : Store). length t.entries) c.self.view_is) in
    let leaf = (given _ _ _ _ c.in_ok-offer.ensures).1
    ∙ (λ i. record { format = a.leaf.format; rows = with_offer c.args.key.now (c.in_ok-row_version.ensures.1 i) a.leaf.rows }) in
    let entries = c.in_ok-push.ensures.items ∙ (λ i. a.entries.items ++ record {
      number = number i;
      seat = c.args.seat;
      source = c.args.source;
      key = c.in_ok-try_clone.ensures.1 i;
      version = c.in_ok-try_clone-2.ensures.1 i;
    } ∷ []) in
    news_next s c.args.seat c.args.source c.args.leaf c.args.key.now c.args.version.now a b
    (record { batch = c.requires.batch; leaf_is = c.requires.leaf; fresh = fresh; fits = fits }) leaf entries refl

pub returns-clause-answers : goal.returns-clause-answers
returns-clause-answers c = ((added (goal.at.returns-clause-answers c).In_ok-push).0, tt)

pub returns-clause-ok : goal.returns-clause-ok
returns-clause-ok c = (added (goal.at.returns-clause-ok c).In_ok-push).1

use Rattle.std.proofs.Common.{◌≡◌, ◌∷◌, [], List, length, refl, sym, ap, subst, ◌∙◌}
use Rattle.std.specs.Prelude.{Ok}
use Rattle.vclock.specs.Outcome.{gives}
use Rattle.range_journal.specs.declared.journal.Entry.{Entry}
use Rattle.range_store.specs.declared.receipt.Accepted.TheVariants.{Taken, Known}
use Rattle.range_state.specs.State.{State, with_store, accept}
use Rattle.range_store.specs.Store.{Store, entry_of}
use Rattle.range_store.specs.Receipts.{with_sent}
use Rattle.caller_pass.specs.Indexes.{IsIndex}
use Rattle.caller_pass.specs.Locks.{Locked, IsLocked}
use Rattle.caller_pass.specs.Passes.{PassView}
use Rattle.range_store.proofs.PutLaws.{accept_gives}
use Rattle.caller_pass.proofs.GrowthLaws.{of_store, grown_by_one}
use Rattle.caller_pass.proofs.LockLaws.{locked_grown}
use Rattle.caller_pass.proofs.PassLaws.{pass_after}
use Rattle.caller_pass.proofs.IndexLaws.{grown, last_hash}
use Rattle.caller_pass.proofs.locked_range.LockedRange.accept_hashed.Goals as goal

pub invariant_of-self-in-Known : goal.invariant_of-self-in-Known
invariant_of-self-in-Known g c =
    let l : Locked = record { state = c.self.inside.state; book = c.self.inside.book } in
    let new = c.accept_into.new.self in
    let known : accept l.state c.pass.inside.seat c.args.source c.args.key.now c.args.version ≡ gives Known new = cc
    (c.in_ok-accept_into.ensures.accepts, c.in-Known.is) in
    let part = of_store l.state _ Known new known in
    let same : new ≡ l.state = part.1
    ∙ ap (λ (x : Store). with_store l.state x)
    (accept_gives l.state.store c.pass.inside.seat c.args.source c.args.key.now c.args.version Known new.store part.0) in
    subst (λ (s : State). IsLocked g.L.Ledger.parts (record { state = s; book = l.book })) (sym same) c.self.invariant

pub note-requires-clause-index : goal.note-requires-clause-index
note-requires-clause-index g c =
    let shown : c.accept_into.new.receipts.items ≡ with_sent c.pass.inside.receipts.items (Ok (Taken c.in-Taken.receipt)) = cc
    (c.in_ok-accept_into.ensures.appended, c.in-Taken.is) in
    grown c.pass.inside.receipts.items (c.in-Taken.receipt ∷ []) c.deref.result.now c.pass.inside.by_key c.pass.invariant.2
    (c.deref.ensures.value ∙ shown)

pub note-requires-clause-last : goal.note-requires-clause-last
note-requires-clause-last g c =
    let l : Locked = record { state = c.self.inside.state; book = c.self.inside.book } in
    let seat = c.pass.inside.seat in
    let shown : c.accept_into.new.receipts.items ≡ with_sent c.pass.inside.receipts.items (Ok (Taken c.in-Taken.receipt)) = cc
    (c.in_ok-accept_into.ensures.appended, c.in-Taken.is) in
    let taken : accept l.state seat c.args.source c.args.key.now c.args.version ≡ gives (Taken c.in-Taken.receipt) c.accept_into.new.self = cc
    (c.in_ok-accept_into.ensures.accepts, c.in-Taken.is) in
    let part = of_store l.state _ (Taken c.in-Taken.receipt) c.accept_into.new.self taken in
    let came = accept_gives l.state.store seat c.args.source c.args.key.now c.args.version
    (Taken c.in-Taken.receipt) c.accept_into.new.self.store part.0 in
    last_hash c.pass.inside.receipts.items c.deref.result.now c.in-Taken.receipt c.args.key.now c.hash.result (c.deref.ensures.value ∙ shown)
    (ap (λ (e : Entry). e.key) came.0) c.hash.ensures

pub invariant_of-self-2 : goal.invariant_of-self-2
invariant_of-self-2 g c =
    let l : Locked = record { state = c.self.inside.state; book = c.self.inside.book } in
    let seat = c.pass.inside.seat in
    let new = c.accept_into.new.self in
    let entry = entry_of l.state.store seat c.args.source c.args.key.now c.args.version in
    let taken : accept l.state seat c.args.source c.args.key.now c.args.version ≡ gives (Taken c.in-Taken.receipt) new = cc
    (c.in_ok-accept_into.ensures.accepts, c.in-Taken.is) in
    let part = of_store l.state _ (Taken c.in-Taken.receipt) new taken in
    let came = accept_gives l.state.store seat c.args.source c.args.key.now c.args.version (Taken c.in-Taken.receipt) new.store part.0 in
    let one = grown_by_one g.L.Ledger.parts l.state.store entry new.store c.self.invariant.seated c.pass.invariant.1.seated came.1 in
    locked_grown g.L.Ledger.parts l (entry ∷ []) new c.count.new.self 1 c.self.invariant one refl c.count.ensures.book c.journal.ensures.valid

pub invariant_of-pass-2 : goal.invariant_of-pass-2
invariant_of-pass-2 g c =
    let p : PassView = record {
      seat = c.pass.inside.seat;
      seen = c.pass.inside.seen;
      share = c.pass.inside.share.amount;
      receipts = c.pass.inside.receipts.items;
      readings = c.pass.inside.readings.items;
    } in
    let shown : c.accept_into.new.receipts.items ≡ with_sent p.receipts (Ok (Taken c.in-Taken.receipt)) = cc
    (c.in_ok-accept_into.ensures.appended, c.in-Taken.is) in (
      c.count.ensures.parts ∙ c.pass.invariant.0,
      pass_after g.L.Ledger.parts p (length c.journal.result.now.entries) c.count.new.seen c.count.new.share.amount c.accept_into.new.receipts.items
          (c.in-Taken.receipt ∷ []) c.pass.invariant.1 c.count.ensures.seen c.count.ensures.amount shown,
      subst (λ (es : List Entry). IsIndex es c.note.new.self) c.deref.ensures.value c.note.ensures,
    )

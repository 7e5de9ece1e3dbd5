use Rattle.std.proofs.Common.{◌≡◌, ◌∷◌, ◌++◌, [], List, length, refl, ap, subst, ◌∙◌}
use Rattle.range_journal.specs.declared.journal.Entry.{Entry}
use Rattle.range_store.specs.Store.{put_entry}
use Rattle.caller_pass.specs.Indexes.{IsIndex}
use Rattle.caller_pass.specs.Locks.{Locked}
use Rattle.caller_pass.specs.Passes.{PassView}
use Rattle.range_store.proofs.PutLaws.{put_by_gives}
use Rattle.caller_pass.proofs.GrowthLaws.{of_store, grown_by_one}
use Rattle.caller_pass.proofs.LockLaws.{locked_grown}
use Rattle.caller_pass.proofs.PassLaws.{pass_after}
use Rattle.caller_pass.proofs.IndexLaws.{grown, last_hash}
use Rattle.caller_pass.proofs.locked_range.LockedRange.put_hashed.Goals as goal

pub note-requires-clause-index : goal.note-requires-clause-index
note-requires-clause-index g c =
    grown c.pass.inside.receipts.items (c.in_ok-receipt.receipt ∷ []) c.deref.result.now c.pass.inside.by_key c.pass.invariant.2
    (c.deref.ensures.value ∙ c.in_ok-receipt.ensures.appended)

pub note-requires-clause-last : goal.note-requires-clause-last
note-requires-clause-last g c =
    let l : Locked = record { state = c.self.inside.state; book = c.self.inside.book } in
    let part = of_store l.state _ c.in_ok-receipt.receipt c.put_into.new.self c.in_ok-receipt.ensures.puts in
    let came = put_by_gives c.args.test l.state.store c.pass.inside.seat c.args.at c.args.key.now c.args.context.now c.args.kind c.args.value
    c.in_ok-receipt.receipt c.put_into.new.self.store part.0 in
    let shown : c.put_into.new.receipts.items ≡ c.pass.inside.receipts.items ++ c.in_ok-receipt.receipt ∷ [] = c.in_ok-receipt.ensures.appended in
    last_hash c.pass.inside.receipts.items c.deref.result.now c.in_ok-receipt.receipt c.args.key.now c.hash.result (c.deref.ensures.value ∙ shown)
    (ap (λ (e : Entry). e.key) came.0) c.hash.ensures

pub invariant_of-self-2 : goal.invariant_of-self-2
invariant_of-self-2 g c =
    let l : Locked = record { state = c.self.inside.state; book = c.self.inside.book } in
    let seat = c.pass.inside.seat in
    let new = c.put_into.new.self in
    let entry = put_entry l.state.store seat c.args.at c.args.key.now c.args.context.now c.args.kind c.args.value in
    let part = of_store l.state _ c.in_ok-receipt.receipt new c.in_ok-receipt.ensures.puts in
    let came = put_by_gives c.args.test l.state.store seat c.args.at c.args.key.now c.args.context.now c.args.kind c.args.value
    c.in_ok-receipt.receipt new.store part.0 in
    let one = grown_by_one g.L.Ledger.parts l.state.store entry new.store c.self.invariant.seated c.pass.invariant.1.seated came.1 in
    locked_grown g.L.Ledger.parts l (entry ∷ []) new c.count.new.self 1 c.self.invariant one refl c.count.ensures.book c.store.ensures.valid

pub invariant_of-pass-2 : goal.invariant_of-pass-2
invariant_of-pass-2 g c =
    let p : PassView = record {
      seat = c.pass.inside.seat;
      seen = c.pass.inside.seen;
      share = c.pass.inside.share.amount;
      receipts = c.pass.inside.receipts.items;
      readings = c.pass.inside.readings.items;
    } in (
      c.count.ensures.parts ∙ c.pass.invariant.0,
      pass_after g.L.Ledger.parts p (length c.journal.result.now.entries) c.count.new.seen c.count.new.share.amount c.put_into.new.receipts.items
          (c.in_ok-receipt.receipt ∷ []) c.pass.invariant.1 c.count.ensures.seen c.count.ensures.amount c.in_ok-receipt.ensures.appended,
      subst (λ (es : List Entry). IsIndex es c.note.new.self) c.deref.ensures.value c.note.ensures,
    )

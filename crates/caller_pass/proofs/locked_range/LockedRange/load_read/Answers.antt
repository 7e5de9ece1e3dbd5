use Rattle.std.proofs.Common.{◌≡◌, ℕ, ◌+◌, length, drop, sym, ap, subst, ◌∙◌}
use Rattle.vclock.specs.Outcome.{gives}
use Rattle.caller_pass.specs.Loads.{load_in, after_load}
use Rattle.caller_pass.specs.Locks.{Locked}
use Rattle.caller_pass.specs.Passes.{PassView, counted, seen_after}
use Rattle.caller_pass.proofs.GrowthLaws.{of_store, grown_by_load}
use Rattle.caller_pass.proofs.LockLaws.{locked_grown}
use Rattle.caller_pass.proofs.PassLaws.{pass_after}
use Rattle.caller_pass.proofs.IndexLaws.{grown}
use Rattle.caller_pass.proofs.locked_range.LockedRange.load_read.Goals as goal

pub invariant_of-self-2 : goal.invariant_of-self-2
invariant_of-self-2 g c =
    let l : Locked = record { state = c.self.inside.state; book = c.self.inside.book } in
    let new = c.load_into.new.self in
    let more = grown_by_load g.L.Ledger.parts l.state.store c.pass.inside.seat c.args.rows.now.rows c.in_ok-loaded.loaded new.store
    c.pass.invariant.1.seated c.self.invariant.seated (of_store l.state _ c.in_ok-loaded.loaded new c.in_ok-loaded.ensures.loads).0 in
    locked_grown g.L.Ledger.parts l
    (drop (length l.state.store.entries) new.store.entries) new c.count.new.self c.in_ok-loaded.loaded.taken c.self.invariant more.0 more.1
    c.count.ensures.book c.journal-journal.ensures.valid

pub invariant_of-pass-2 : goal.invariant_of-pass-2
invariant_of-pass-2 g c =
    let p : PassView = record {
      seat = c.pass.inside.seat;
      seen = c.pass.inside.seen;
      share = c.pass.inside.share.amount;
      receipts = c.pass.inside.receipts.items;
      readings = c.pass.inside.readings.items;
    } in
    let s = c.self.inside.state in
    let new = c.load_into.new.self in
    let es = drop (length s.store.entries) new.store.entries in
    let count = (grown_by_load g.L.Ledger.parts s.store c.pass.inside.seat c.args.rows.now.rows c.in_ok-loaded.loaded new.store
    c.pass.invariant.1.seated c.self.invariant.seated (of_store s _ c.in_ok-loaded.loaded new c.in_ok-loaded.ensures.loads).0).1 in
    let journal = length c.journal-journal.result.now.entries in
    let seen : c.count.new.seen ≡ seen_after p.seen journal (length es) = c.count.ensures.seen ∙ ap (seen_after p.seen journal) count in
    let share : c.count.new.share.amount ≡ p.share + length es = c.count.ensures.amount ∙ ap (λ (n : ℕ). p.share + n) count in (
      c.count.ensures.parts ∙ c.pass.invariant.0,
      pass_after g.L.Ledger.parts p journal c.count.new.seen c.count.new.share.amount c.load_into.new.receipts.items es c.pass.invariant.1 seen
          share c.in_ok-loaded.ensures.appended,
      grown p.receipts es c.load_into.new.receipts.items c.pass.inside.by_key c.pass.invariant.2 c.in_ok-loaded.ensures.appended,
    )

pub returns : goal.returns
returns g c =
    let l : Locked = record { state = c.self.inside.state; book = c.self.inside.book } in
    let p : PassView = record {
      seat = c.pass.inside.seat;
      seen = c.pass.inside.seen;
      share = c.pass.inside.share.amount;
      receipts = c.pass.inside.receipts.items;
      readings = c.pass.inside.readings.items;
    } in
    let new = c.load_into.new.self in
    let es = drop (length l.state.store.entries) new.store.entries in
    let q : PassView = record p { seen = c.count.new.seen; share = c.count.new.share.amount; receipts = c.load_into.new.receipts.items } in
    let count = (grown_by_load g.L.Ledger.parts l.state.store p.seat c.args.rows.now.rows c.in_ok-loaded.loaded new.store c.pass.invariant.1.seated
    c.self.invariant.seated (of_store l.state _ c.in_ok-loaded.loaded new c.in_ok-loaded.ensures.loads).0).1 in
    let journal : length c.journal-journal.result.now.entries ≡ length new.store.entries = ap length c.journal-journal.ensures.entries in
    let book : c.count.new.self ≡ counted l.book (length es) = c.count.ensures.book ∙ ap (counted l.book) count in
    let seen : c.count.new.seen ≡ seen_after p.seen (length new.store.entries) (length es) = c.count.ensures.seen
    ∙ (λ i. seen_after p.seen (journal i) (count i)) in
    let share : c.count.new.share.amount ≡ p.share + length es = c.count.ensures.amount ∙ ap (λ (n : ℕ). p.share + n) count in
    let both : after_load l p new ≡ (record { state = new; book = c.count.new.self }, q) =
    λ i. (
      record { state = new; book = (sym book) i },
      record p { seen = (sym seen) i; share = (sym share) i; receipts = (sym c.in_ok-loaded.ensures.appended) i },
    ) in
    let done : load_in l p c.args.rows.now.rows ≡ gives c.in_ok-loaded.loaded (record { state = new; book = c.count.new.self }, q) =
    rw c.in_ok-loaded.ensures.loads (ap (λ (x : Locked × PassView). gives c.in_ok-loaded.loaded x) both) in
    subst (λ (x : Locked). load_in x c.args.pass.now c.args.rows.now.rows ≡ gives c.in_ok-loaded.loaded
    (record { state = new; book = c.count.new.self }, q)) c.self.view_is
    (subst (λ (x : PassView). load_in l x c.args.rows.now.rows ≡ gives c.in_ok-loaded.loaded (record { state = new; book = c.count.new.self }, q))
    c.pass.view_is done)

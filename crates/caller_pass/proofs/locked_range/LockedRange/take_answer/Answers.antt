use Rattle.std.proofs.Common.{◌≡◌, ℕ, ◌+◌, length, ap, subst, ◌∙◌}
use Rattle.sync_session.specs.Walks.{TakenText}
use Rattle.range_state.specs.declared.event.AnswerCounted.{AnswerCounted}
use Rattle.caller_pass.specs.Locks.{Locked, IsRecorded}
use Rattle.caller_pass.specs.Passes.{PassView, counted, seen_after}
use Rattle.caller_pass.proofs.GrowthLaws.{grown_by_text}
use Rattle.caller_pass.proofs.LockLaws.{locked_grown}
use Rattle.caller_pass.proofs.PassLaws.{pass_after}
use Rattle.caller_pass.proofs.IndexLaws.{grown}
use Rattle.caller_pass.proofs.locked_range.LockedRange.take_answer.Goals as goal

pub invariant_of-self-2 : goal.invariant_of-self-2
invariant_of-self-2 g c =
    let l : Locked = record { state = c.self.inside.state; book = c.self.inside.book } in
    let t : TakenText = record { node = c.args.node; text = c.args.text } in
    let is = c.in_ok-taken.ensures in
    let new = c.take_answer_into-answered.new.self in
    let more = grown_by_text g.L.Ledger.parts l.state c.pass.inside.seat c.args.id t is.taken new c.pass.invariant.1.seated c.self.invariant.seated
    is.takes in
    locked_grown g.L.Ledger.parts l is.taken.receipts.items new c.count.new.self c.in_ok-taken.taken.receipts c.self.invariant more
    (ap (λ (a : AnswerCounted). a.receipts) is.count) c.count.ensures.book c.journal-journal.ensures.valid

pub invariant_of-pass-2 : goal.invariant_of-pass-2
invariant_of-pass-2 g c =
    let p : PassView = record {
      seat = c.pass.inside.seat;
      seen = c.pass.inside.seen;
      share = c.pass.inside.share.amount;
      receipts = c.pass.inside.receipts.items;
      readings = c.pass.inside.readings.items;
    } in
    let is = c.in_ok-taken.ensures in
    let count : c.in_ok-taken.taken.receipts ≡ length is.taken.receipts.items = ap (λ (a : AnswerCounted). a.receipts) is.count in
    let journal = length c.journal-journal.result.now.entries in
    let seen : c.count.new.seen ≡ seen_after p.seen journal (length is.taken.receipts.items) = c.count.ensures.seen
    ∙ ap (seen_after p.seen journal) count in
    let share : c.count.new.share.amount ≡ p.share + length is.taken.receipts.items = c.count.ensures.amount ∙ ap (λ (n : ℕ). p.share + n) count in (
      c.count.ensures.parts ∙ c.pass.invariant.0,
      pass_after g.L.Ledger.parts p journal c.count.new.seen c.count.new.share.amount c.take_answer_into-answered.new.receipts.items
          is.taken.receipts.items c.pass.invariant.1 seen share is.appended,
      grown p.receipts is.taken.receipts.items c.take_answer_into-answered.new.receipts.items c.pass.inside.by_key c.pass.invariant.2 is.appended,
    )

pub returns : goal.returns
returns g c =
    let l : Locked = record { state = c.self.inside.state; book = c.self.inside.book } in
    let p : PassView = record {
      seat = c.pass.inside.seat;
      seen = c.pass.inside.seen;
      share = c.pass.inside.share.amount;
      receipts = c.pass.inside.receipts.items;
      readings = c.pass.inside.readings.items;
    } in
    let t : TakenText = record { node = c.args.node; text = c.args.text } in
    let is = c.in_ok-taken.ensures in
    let new = c.take_answer_into-answered.new.self in
    let es = is.taken.receipts.items in
    let m : Locked = record { state = new; book = c.count.new.self } in
    let q : PassView = record p {
      seen = c.count.new.seen;
      share = c.count.new.share.amount;
      receipts = c.take_answer_into-answered.new.receipts.items;
    } in
    let count : c.in_ok-taken.taken.receipts ≡ length es = ap (λ (a : AnswerCounted). a.receipts) is.count in
    let journal : length c.journal-journal.result.now.entries ≡ length new.store.entries = ap length c.journal-journal.ensures.entries in
    let book : c.count.new.self ≡ counted l.book (length es) = c.count.ensures.book ∙ ap (counted l.book) count in
    let seen : c.count.new.seen ≡ seen_after p.seen (length new.store.entries) (length es) = c.count.ensures.seen
    ∙ (λ i. seen_after p.seen (journal i) (count i)) in
    let share : c.count.new.share.amount ≡ p.share + length es = c.count.ensures.amount ∙ ap (λ (n : ℕ). p.share + n) count in
    let shown : IsRecorded l p c.args.id t c.in_ok-taken.taken m q = record {
      taken = is.taken;
      takes = is.takes;
      count = is.count;
      range = λ i. record { state = new; book = book i };
      pass = λ i. record p { seen = seen i; share = share i; receipts = is.appended i };
    } in
    subst (λ (x : Locked). IsRecorded x c.args.pass.now c.args.id t c.in_ok-taken.taken m q) c.self.view_is
    (subst (λ (x : PassView). IsRecorded l x c.args.id t c.in_ok-taken.taken m q) c.pass.view_is shown)

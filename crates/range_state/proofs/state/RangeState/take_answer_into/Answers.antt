use Rattle.std.proofs.Common.{◌≡◌, ◌++◌, ◌∙◌, ap, subst, List, ℕ, length, Ok, arith}
use Rattle.range_journal.specs.declared.journal.Entry.{Entry}
use Rattle.range_state.specs.declared.event.AnswerCounted.{AnswerCounted}
use Rattle.range_state.specs.Sessions.{TakesAt}
use Rattle.range_state.proofs.state.RangeState.take_answer_into.Goals as goal

pub returns : goal.returns
returns c =
    let taken = c.in_ok-added.field-0 in
    let count : c.len-count.result ≡ length taken.receipts.items = omega (arith, c.len-count.ensures, c.in_ok-added.added.ok) in
    let a : ℕ → AnswerCounted = λ n. record { receipts = n; known = taken.known; state = taken.state } in
    record {
      taken = taken;
      takes = subst (λ (place : ℕ). TakesAt c.args.self.now c.args.seat place (record { node = c.args.node; text = c.args.text })
          (Ok taken) c.take_answer_beside.new.self) c.place-place.ensures c.in_ok-added.ensures.answers;
      count = ap a count;
      appended = c.move_to.ensures ∙ ap (λ (xs : List Entry). xs ++ taken.receipts.items) c.in_ok-added.ensures.same;
    }

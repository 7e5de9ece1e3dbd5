use Rattle.std.proofs.Common.{◌-◌, take, ap, ◌∙◌}
use Rattle.range_journal.specs.Counters.{top_counter}
use Rattle.range_state.specs.State.{State}
use Rattle.c_calls.proofs.LengthLaws.{no_counter}
use Rattle.c_calls.proofs.counters.top_counter.Goals.{in-Ok, in-Err}
use Rattle.c_calls.proofs.counters.top_counter.Goals as goal

pub returns : goal.returns
returns c =
    let s = c.state.result.now in
    let n = c.args.entries - c.args.kept.now.first in
    let kept = ap (λ (x : State). top_counter (take n x.store.entries) c.args.key.now c.args.node) c.state.ensures in
    elim c.match-check_key.branch [
      | in-Ok w ↦ rw w.result-is (
        c.in_ok-node.ensures.0,
        w.top_counter.ensures
            ∙ (λ i. top_counter (take (c.below-front.ensures i) (c.journal-journal.ensures.entries i)) c.args.key.now (c.in_ok-node.ensures.1 i))
            ∙ kept,
      )
      | in-Err w ↦ rw w.result-is (
        c.in_ok-node.ensures.0,
        no_counter s.store.config n s.store.entries c.args.key.now c.args.node c.journal-journal.ensures.valid.store.own
            (λ none. cc (none, w.in-Err.ensures)) ∙ kept,
      )
    ]

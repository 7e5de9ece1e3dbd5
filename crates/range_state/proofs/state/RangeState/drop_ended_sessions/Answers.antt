use Rattle.std.proofs.Common.{rules, length, sym, ap, subst, ◌∙◌}
use Rattle.std.proofs.lemmas.Fn.{filter_same}
use Rattle.range_state.specs.Records.{is_open}
use Rattle.range_state.specs.State.{State, IsRight}
use Rattle.range_state.specs.Endings.{without_ended_sessions}
use Rattle.range_state.proofs.EndingLaws.{dropped, right_without}
use Rattle.range_state.proofs.state.RangeState.drop_ended_sessions.Goals as goal

pub invariant_of-self : goal.invariant_of-self
invariant_of-self c =
    let s : State = record {
      store = c.self.inside.store;
      records = c.self.inside.records.items;
      moment = c.self.inside.moment;
      whole_before = c.self.inside.whole_before;
      next_session = c.self.inside.next_session;
      settled = c.self.inside.settled;
    } in
    let kept = filter_same _ is_open _ (λ x r f' k. search rules) _ _ c.retain.ensures.filtered in
    let count = c.len-entries.ensures.count ∙ ap length c.journal.ensures.entries in
    subst IsRight (sym (dropped s c.make_copies.ensures kept count)) (right_without s c.self.invariant)

pub returns : goal.returns
returns c =
    let s : State = record {
      store = c.self.inside.store;
      records = c.self.inside.records.items;
      moment = c.self.inside.moment;
      whole_before = c.self.inside.whole_before;
      next_session = c.self.inside.next_session;
      settled = c.self.inside.settled;
    } in
    let kept = filter_same _ is_open _ (λ x r f' k. search rules) _ _ c.retain.ensures.filtered in
    let count = c.len-entries.ensures.count ∙ ap length c.journal.ensures.entries in
    dropped s c.make_copies.ensures kept count ∙ ap without_ended_sessions c.self.view_is

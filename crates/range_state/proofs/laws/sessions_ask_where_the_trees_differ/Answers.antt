use Rattle.range_state.proofs.SessionResults.{expected_texts, asked_once, asked_ordered, asked_only, still_due, asked_all, finished_done, ended_done}
use Rattle.range_state.proofs.laws.sessions_ask_where_the_trees_differ.Goals as goal

pub returns : goal.returns
returns c = record {
  texts = expected_texts;
  once = asked_once;
  ordered = asked_ordered;
  only = asked_only;
  due = still_due;
  all = λ s ok r has on other partner honest near.
      asked_all s r other (record { right = ok; has = has; on = on; partner = partner; honest = honest; near = near });
  done = finished_done;
  ended = ended_done;
}

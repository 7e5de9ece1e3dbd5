use Rattle.std.proofs.Common.{ℕ, List, sym, subst}
use Rattle.version_set.specs.declared.version.Version.{Version}
use Rattle.range_journal.proofs.CopyLaws.{copies_held}
use Rattle.sync_session.specs.Walks.{Held}
use Rattle.range_store.proofs.CopyLaws.{copies_rows_now}
use Rattle.range_state.proofs.EndingLaws.{held_alike, names_open}
use Rattle.range_state.proofs.SessionResults.{finished}
use Rattle.range_state.proofs.laws.ranges_without_ended_sessions_hold_the_same.Goals as goal

pub returns : goal.returns
returns c = record {
  held = λ s key. copies_held s.store.entries key;
  rows = λ s. sym (copies_rows_now s.store);
  numbers = λ s ok id. names_open s.records id ok.numbers.ascending;
  finished = λ s ok r there ended other partners apart. subst (λ (h : List ℕ → List Version). Held other.rows h) (sym (held_alike s.store.entries))
      (finished s ok r there ended other partners apart);
}

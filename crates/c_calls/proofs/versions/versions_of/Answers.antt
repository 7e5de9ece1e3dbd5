use Rattle.std.proofs.Common.{List, ap, ◌∙◌, Bor}
use Rattle.version_set.specs.declared.version.Version.{Version}
use Rattle.range_journal.specs.Journal.{held}
use Rattle.range_store.specs.Store.{Store}
use Rattle.c_calls.proofs.LengthLaws.{none_held}
use Rattle.c_calls.proofs.versions.versions_of.Goals.{in-Ok, in-Err}
use Rattle.c_calls.proofs.versions.versions_of.Goals as goal

pub returns : goal.returns
returns c = elim c.match-check_key.branch [
  | in-Ok w ↦ ap (λ (b : Bor (List Version)). b.now) w.result-is ∙ w.versions.ensures.held
      ∙ ap (λ (s : Store). held s.entries c.args.key.now) w.store.ensures.store
  | in-Err w ↦
      ap (λ (b : Bor (List Version)). b.now) w.result-is
      ∙ none_held c.args.state.now.store.config c.args.state.now.store.entries c.args.key.now c.journal-valid.ensures.valid.store.own
      (λ none. cc (none, w.in-Err.ensures))
]

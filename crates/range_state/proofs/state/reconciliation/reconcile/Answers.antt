use Rattle.range_state.proofs.PairLaws.{hold_both, equal_roots, asked_alike}
use Rattle.range_state.proofs.state.reconciliation.reconcile.Goals as goal

pub returns : goal.returns
returns c = record {
  sessions = c.run_both.ensures;
  asked = asked_alike c.args.a.now c.args.b.now c.run_both.new.a c.run_both.new.b c.args.at_a c.args.at_b c.args.seat c.run_both.result c.requires
      c.run_both.ensures;
  union = hold_both c.args.a.now c.args.b.now c.run_both.new.a c.run_both.new.b c.args.at_a c.args.at_b c.args.seat c.run_both.result
      c.journal-right.ensures.valid c.journal-other.ensures.valid c.requires c.run_both.ensures;
  roots = equal_roots c.args.a.now c.args.b.now c.run_both.new.a c.run_both.new.b c.args.at_a c.args.at_b c.args.seat c.run_both.result
      c.journal-right.ensures.valid c.journal-other.ensures.valid c.requires c.run_both.ensures;
}

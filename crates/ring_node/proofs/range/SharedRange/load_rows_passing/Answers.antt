use Rattle.std.proofs.Common.{rules, ◌≡◌, sym, ◌∙◌}
use Rattle.ring_node.proofs.LoadLaws.{gains_kept, did_text}
use Rattle.ring_node.proofs.range.SharedRange.load_rows_passing.Goals as goal

pub returns-then-eq-clause-reply : goal.returns-then-eq-clause-reply
returns-then-eq-clause-reply g c =
    let l = c.deref_mut.result.now in
    let same : c.in_ok-rows.rows.config ≡ l.state.store.config = search rules in
    let did = did_text l c.load_read.new.self c.args.pass.now c.load_read.new.pass c.args.text.now c.config-config.result c.in_ok-rows.rows.rows
    c.load_read.result (sym c.in_ok-rows.ensures.1.0 ∙ same) c.in_ok-rows.ensures.1.2 c.load_read.ensures in
    gains_kept l c.load_read.new.self c.args.pass.now c.load_read.new.pass c.args.text.now c.load_read.result did

pub returns-then-eq-clause-moment : goal.returns-then-eq-clause-moment
returns-then-eq-clause-moment g c =
    let l = c.deref_mut.result.now in
    let same : c.in_ok-rows.rows.config ≡ l.state.store.config = search rules in
    record {
      before = l;
      after = c.load_read.new.self;
      right = search rules;
      step = did_text l c.load_read.new.self c.args.pass.now c.load_read.new.pass c.args.text.now c.config-config.result c.in_ok-rows.rows.rows
          c.load_read.result (sym c.in_ok-rows.ensures.1.0 ∙ same) c.in_ok-rows.ensures.1.2 c.load_read.ensures;
    }

pub returns-clause-reply : goal.returns-clause-reply
returns-clause-reply g c =
    gains_kept c.deref_mut-else-eq.result.now c.load_rows.new.self c.args.pass.now c.load_rows.new.pass c.args.text.now c.load_rows.result
    c.load_rows.ensures

use Rattle.std.proofs.Common.{◌∙◌, sym}
use Rattle.c_calls.proofs.FrameLaws.{on_held}
use Rattle.c_calls.proofs.frame.with.Goals as goal

pub returns : goal.returns
returns g c =
    on_held (g.H.InC.held c.args.handle.now) (g.H.InC.held c.hold.new.self) c.call-result.result _ _ c.in-Some.ensures.value.0 c.hold.ensures.held
    (record {
      shown = c.deref_mut.result;
      shows = c.deref_mut.ensures.value ∙ c.in-Some.ensures.value.1;
      left = _;
      called = c.call-result.ensures;
      leaves = sym c.hold.ensures.value;
    })

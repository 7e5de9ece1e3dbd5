use Rattle.std.proofs.Common.{refl}
use Rattle.c_calls.proofs.FrameLaws.{fills}
use Rattle.c_calls.proofs.frame.fill_of.Goals as goal

pub returns : goal.returns
returns g c = fills (g.H.InC.held c.args.handle.now) c.fill.result _ _ _ _ c.make.result c.in_default.ensures.value
    (c.args.value, c.make.ensures, refl) c.fill.ensures.number c.fill.ensures.filled

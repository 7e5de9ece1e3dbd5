use Rattle.std.proofs.Common.{ℕ, refl, sym, subst}
use denote.Param.Members.{Called}
use Rattle.c_calls.proofs.FrameLaws.{share_read, share_empty}
use Rattle.c_calls.proofs.frame.read.Goals.{in-None, in-Some}
use Rattle.c_calls.proofs.frame.read.Goals as goal

pub returns-clause-called : goal.returns-clause-called
returns-clause-called g c = elim c.match-get.branch [
  | in-Some w ↦ let x = w.in-Some.value in
      share_read (g.H.ReadInC.lent c.args.handle.now) c.take-share.result c.match-get.result _ _ x.now c.take-share.ensures w.in-Some.ensures.0
      w.in-Some.ensures.1
      (record {
        shown = x;
        shows = refl;
        called = subst (λ (r : ℕ). Called g.F.FnMut c.args.call.now (x, tt) r c.match-get.call) (sym w.result-is)
            (subst (λ (f : g.row.F.Denot). Called g.F.FnMut c.args.call.now (x, tt) w.call-result.result f) (sym w.call-is) w.call-result.ensures);
      })
  | in-None w ↦ share_empty
      (g.H.ReadInC.lent c.args.handle.now) c.take-share.result c.match-get.result _ _ c.take-share.ensures w.in-None.ensures w.result-is w.call-is
]

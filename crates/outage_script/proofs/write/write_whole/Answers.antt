use Rattle.std.proofs.Common.{rules, ◌++◌, take, refl}
use Rattle.outage_script.proofs.write.write_whole.Goals as goal
use Rattle.outage_script.proofs.Known.{appends_both, moved_on}

-- src/write.rt:14:5
pub loop-rest-preserved : goal.loop-rest-preserved
loop-rest-preserved g c =
    let old = c.loop-rest.invariant in
    let now = c.in-Ok.ensures.bytes in (
      old.0 ++ take c.in-Ok.n c.loop-rest.rest.now,
      appends_both _ _ _ _ _ old.1 now,
      moved_on _ old.0 c.loop-rest.rest.now c.in-Ok.n _ old.2
          (search rules) refl,
    )

use mir.Val.{bool_byte}
use Rattle.std.proofs.Common.{◌≡◌, ◌<◌, ◌+◌, length, cond, set, sym, ◌∙◌, ap, arith, get_or}
use Rattle.outage_cluster.specs.Acts.{takes, after_copy}
use Rattle.outage_cluster.proofs.ReplicaLaws.{of_set, changed_get, changed_next, changed_length, counted_more, byte_is, byte-le}
use Rattle.outage_cluster.proofs.replicas.send_to.Goals as goal

pub loop-i-preserved : goal.loop-i-preserved
loop-i-preserved c =
    let f = after_copy c.args.down.now c.args.node c.args.lose.now c.args.entry.now in
    let p = takes c.args.down.now c.args.node c.args.lose.now c.args.entry.now in
    let xs = c.args.replicas.now in
    let i = c.loop-i.i in
    let r = c.index-replicas-i.result in
    let inv = c.loop-i.invariant in
    let long = ap length inv.all ∙ changed_length f xs i in
    let lt : i < length xs = omega (arith, c.loop-i-test.true, long) in
    let here : get_or c.loop-i.replicas i r ≡ get_or xs i r = ap (λ t. get_or t i r) inv.all ∙ changed_get f xs i r lt in
    let one : c.from.result ≡ cond (p (get_or xs i r)) 1 0 = c.from.ensures ∙ ap bool_byte (c.in_ok-send.ensures.taken.1 ∙ ap p here)
    ∙ byte_is (p (get_or xs i r)) in
    record {
      all = ap (λ t. set t i c.send.new.self) inv.all ∙ changed_next f xs i c.send.new.self r lt (c.in_ok-send.ensures.after ∙ ap f here);
      count = (λ k. inv.count k + one k) ∙ sym (counted_more p xs i r lt);
      most = omega (arith, inv.most, c.from.ensures, byte-le c.in_ok-send.field-0);
      kept = λ config are. of_set config c.loop-i.replicas i c.send.new.self r (inv.kept config are)
          (omega (arith, lt, long)) c.in_ok-send.ensures.config;
    }

pub returns-in_err-send-clause-config : goal.returns-in_err-send-clause-config
returns-in_err-send-clause-config c =
    let f = after_copy c.args.down.now c.args.node c.args.lose.now c.args.entry.now in
    let long = ap length c.loop-i.invariant.all ∙ changed_length f c.args.replicas.now c.loop-i.i in
    let lt : c.loop-i.i < length c.loop-i.replicas = omega (arith, c.loop-i-test.true, long) in
    λ config are. of_set config c.loop-i.replicas c.loop-i.i c.send.new.self c.index-replicas-i.result
    (c.loop-i.invariant.kept config are) lt c.in_err-send.ensures.config

pub returns-clause-config : goal.returns-clause-config
returns-clause-config c = c.loop-i.invariant.kept

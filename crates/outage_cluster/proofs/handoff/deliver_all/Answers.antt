use Rattle.std.proofs.Common.{rules, refl, ◌≡◌, ◌<◌, ◌^◌, sym, ap, ◌∙◌, arith, Some, None}
use Rattle.std.specs.Prelude.{fold, drop}
use Rattle.hint_store.specs.Hints.{next_hint}
use Rattle.outage_cluster.specs.Handoff.{Round, first_round, offer_one}
use Rattle.outage_cluster.specs.Offers.{round_at}
use Rattle.outage_cluster.proofs.HandoffLaws.{next_is, last_is, stepped}
use Rattle.outage_cluster.proofs.handoff.deliver_all.Goals as goal

pub offer-requires-clause-pending : goal.offer-requires-clause-pending
offer-requires-clause-pending c =
    let l = c.loop-hint in
    let e : next_hint c.args.up.now l.after l.hints ≡ Some c.in-Some.hint = sym c.in_ok-hint.ensures.found.1 ∙ c.in-Some.is in
    (next_is c.args.up.now c.args.ring.now.bits l.after l.hints
    (round_at l.ranges l.hints l.done.taken l.done.known) c.in-Some.hint c.next.ensures.valid.numbered e).awaited

pub count-requires : goal.count-requires
count-requires c = let inv = c.loop-hint.invariant in omega (arith, inv.counts, inv.small)

pub loop-hint-smaller : goal.loop-hint-smaller
loop-hint-smaller c =
    let l = c.loop-hint in
    let e : next_hint c.args.up.now l.after l.hints ≡ Some c.in-Some.hint = sym c.in_ok-hint.ensures.found.1 ∙ c.in-Some.is in
    let ahead = (next_is c.args.up.now c.args.ring.now.bits l.after l.hints
    (round_at l.ranges l.hints l.done.taken l.done.known) c.in-Some.hint c.next.ensures.valid.numbered e).ahead in
    let small : c.in-Some.hint.id < 2 ^ 32 = search rules in
    omega (arith, ahead, small)

pub loop-hint-preserved : goal.loop-hint-preserved
loop-hint-preserved c =
    let l = c.loop-hint in
    let bits = c.args.ring.now.bits in
    let up = c.args.up.now in
    let hint = c.in-Some.hint in
    let e : next_hint up l.after l.hints ≡ Some hint = sym c.in_ok-hint.ensures.found.1 ∙ c.in-Some.is in
    let ahead = (next_is up bits l.after l.hints (round_at l.ranges l.hints l.done.taken l.done.known) hint c.next.ensures.valid.numbered e).ahead in
    let counted = c.count.ensures.counted c.offer.new.ranges c.offer.new.hints in
    record {
      ranges = search rules;
      small = search rules;
      counts = omega (arith, l.invariant.counts, c.count.ensures.most, ahead);
      rest = ap (λ (r : Round). fold (offer_one up bits) r (drop hint.id c.offer.new.hints)) (sym counted)
          ∙ stepped up bits l.after l.hints c.offer.new.hints l.ranges c.offer.new.ranges l.done.taken l.done.known c.in_ok-known.known hint
          (fold (offer_one up bits) (first_round c.args.ranges.now c.args.hints.now) c.args.hints.now) c.next.ensures.valid.numbered e
          l.invariant.rest (c.in_ok-known.ensures.done.1 l.done.taken l.done.known) (ap (λ (r : Round). r.hints) counted);
    }

pub returns-clause-done : goal.returns-clause-done
returns-clause-done c =
    let l = c.loop-hint in
    let none : next_hint c.args.up.now l.after l.hints ≡ None = search rules in (
      refl,
      sym (last_is c.args.up.now c.args.ring.now.bits l.after l.hints
          (round_at l.ranges l.hints l.done.taken l.done.known) c.next.ensures.valid.numbered none) ∙ l.invariant.rest,
    )

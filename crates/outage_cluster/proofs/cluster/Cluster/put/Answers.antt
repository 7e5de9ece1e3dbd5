use Rattle.std.proofs.Common.{rules, ◌≡◌, ◌<◌, [], inl, inr, refl, sym, length, get_or, set, slice_set, ap, ◌∙◌, List, None}
use Rattle.std.proofs.lemmas.List.{set-get_or}
use Rattle.std.proofs.lemmas.Result.{err_from_is_err_and}
use Rattle.hint_store.proofs.HintLaws.{get_or_same}
use Rattle.key_ring.specs.Places.{range_at}
use Rattle.vclock.specs.Outcome.{gives}
use Rattle.outage_cluster.specs.Acts.{put_fault, gets_hint, put_into}
use Rattle.outage_cluster.specs.Handoff.{carrier_of, hinted, owners_of}
use Rattle.outage_cluster.specs.State.{Replica, replicas_of, with_replicas}
use Rattle.outage_cluster.proofs.DeliveryLaws.{put_refused, put_result, put_unasked}
use Rattle.outage_cluster.proofs.cluster.Cluster.put.Goals as goal

pub returns-in_err-context : goal.returns-in_err-context
returns-in_err-context c =
    let p = err_from_is_err_and c.from_residual.result c.from_residual.ensures.1 in
    rw (p.1, p.2) (elim c.in_err-context.ensures [
      | inl memory ↦ inl memory
      | inr cause ↦ inr (refl, put_unasked c.args.put c.args.self.now c.in_err-context.field-0.0 cause)
    ])

pub returns-in_err-sent : goal.returns-in_err-sent
returns-in_err-sent c =
    let s = c.args.self.now in
    let ask = c.args.put in
    let reps = c.index_mut.result.now in
    let items = c.self.inside.ranges.items in
    let i = c.from.result in
    let e = c.in_err-sent.field-0.0 in
    let index : i ≡ range_at s.ring.bits ask.key = search rules in
    let inside : i < length items = search rules in
    let here : reps ≡ get_or items i reps = search rules in
    let same : items ≡ s.replicas = search rules in
    let down : c.deref.result.now ≡ s.down = search rules in
    let at : reps ≡ replicas_of s ask.key = here ∙ get_or_same items i reps [] inside ∙ ap (λ xs. get_or xs i []) same
    ∙ ap (λ j. get_or s.replicas j []) index in
    let asked : put_fault ask s ≡ None = c.in_ok-context.ensures.0 in
    let p = err_from_is_err_and c.from_residual-in_err-sent.result c.from_residual-in_err-sent.ensures.1 in
    rw (p.1, p.2) (elim c.in_err-sent.ensures.puts [
      | inl memory ↦ inl memory
      | inr refused ↦
          let back : set items i c.put.new.self ≡ items = ap (set items i) (refused.0 ∙ here) ∙ set-get_or items i reps in
          inr (
            ap (λ (xs : List (List Replica)). record {
              ring = c.self.inside.ring;
              format = c.self.inside.format;
              down = c.self.inside.down.items;
              hints = c.self.inside.carriers.items;
              replicas = xs;
            }) back ∙ c.self.view_is,
            put_refused ask s e asked (ap (λ d. put_into d ask (replicas_of s ask.key)) (sym down) ∙ ap (put_into c.deref.result.now ask) (sym at)
                ∙ refused.1),
          )
    ])

pub returns : goal.returns
returns c =
    let s = c.args.self.now in
    let p = c.args.put in
    let reps = c.index_mut.result.now in
    let new = c.put.new.self in
    let receipt = c.in_ok-sent.sent.receipt in
    let owners = c.deref-2.result.now in
    let after = c.keep_hints.new.self in
    let i = c.from.result in
    let r = c.range_of-range.result in
    let place : r ≡ range_at s.ring.bits p.key = search rules in
    let index : i ≡ range_at s.ring.bits p.key = search rules in
    let inside : i < length s.replicas = search rules in
    let here : reps ≡ get_or s.replicas i reps = search rules in
    let at : reps ≡ replicas_of s p.key = here ∙ get_or_same s.replicas i reps [] inside ∙ ap (λ j. get_or s.replicas j []) index in
    let down : c.deref.result.now ≡ s.down = search rules in
    let made : put_into s.down p (replicas_of s p.key) ≡ gives (receipt, c.in_ok-sent.sent.copied) new = ap (λ d. put_into d p (replicas_of s p.key))
    (sym down) ∙ ap (put_into c.deref.result.now p) (sym at) ∙ c.in_ok-sent.ensures.puts in
    let own : owners ≡ owners_of (gets_hint s.down p.node p.lose) (replicas_of s p.key) = c.deref-2.ensures.value ∙ c.in_ok-sent.ensures.owners
    ∙ ap (λ d. owners_of (gets_hint d p.node p.lose) reps) down ∙ ap (owners_of (gets_hint s.down p.node p.lose)) at in
    let said : (c.in_ok-hinted.hinted, after) ≡ hinted receipt owners (record s { replicas = slice_set s.replicas i new }) (carrier_of s r) = rw
    (← c.self.view_is) c.in_ok-hinted.ensures.1 in
    let same : hinted receipt owners (record s { replicas = slice_set s.replicas i new }) (carrier_of s r) ≡ hinted receipt owners
    (with_replicas s p.key new) (carrier_of s (range_at s.ring.bits p.key)) =
    ap (λ j. hinted receipt owners (record s { replicas = slice_set s.replicas j new }) (carrier_of s r)) index
    ∙ ap (λ j. hinted receipt owners (with_replicas s p.key new) (carrier_of s j)) place in
    put_result p s receipt c.in_ok-sent.sent.copied c.in_ok-hinted.hinted owners new after c.in_ok-context.ensures.0 made own (said ∙ same)

use Rattle.std.proofs.Common.{◌≡◌, ◌<◌, length, take, cond, refl, sym, ap, subst, ◌∙◌, arith}
use Rattle.std.specs.Prelude.{bytes_eq}
use Rattle.std.proofs.lemmas.Slice.Eq.{bytes_eq-Decides}
use Rattle.version_set.specs.Version.{offered}
use Rattle.range_journal.specs.declared.journal.Entry.{Entry}
use Rattle.range_journal.specs.Journal.{held}
use Rattle.range_journal.specs.Replays.{Replayed}
use Rattle.range_journal.proofs.JournalLaws.{held_more, never_refused}
use Rattle.range_journal.proofs.replay.Replay.step.Goals as goal

pub offer_to-requires : goal.offer_to-requires
offer_to-requires c =
    let r : Replayed = record { entries = c.self.inside.entries.now; front = c.self.inside.front } in
    let e : Entry = c.index-entries-self.result in
    let below : r.front < length r.entries = subst (λ (x : Replayed). x.front < length x.entries) (sym c.self.view_is) c.requires in
    let key : c.as_slice.result.now ≡ e.key = c.as_slice.ensures in
    let copy : c.in_ok-try_clone.field-0 ≡ e.version = c.in_ok-try_clone.ensures.1 in
    record {
      room = never_refused r.entries r.front e e.key _ c.in_ok-try_clone.field-0 below c.index-entries-self.is ((bytes_eq-Decides e.key e.key).1 refl)
          (c.self.invariant.1 c.as_slice.result.now ∙ ap (held (take r.front r.entries)) key) copy (c.self.invariant.0.short e.key);
    }

pub invariant_of-self-2 : goal.invariant_of-self-2
invariant_of-self-2 c =
    let r : Replayed = record { entries = c.self.inside.entries.now; front = c.self.inside.front } in
    let e : Entry = c.index-entries-self.result in
    let below : r.front < length r.entries = subst (λ (x : Replayed). x.front < length x.entries) (sym c.self.view_is) c.requires in
    let same : c.as_slice.result.now ≡ e.key = c.as_slice.ensures in
    let copy : c.in_ok-try_clone.field-0 ≡ e.version = c.in_ok-try_clone.ensures.1 in (
      record { short = c.self.invariant.0.short; within = omega (arith, below) },
      λ key.
          c.in_ok-offer_to.ensures.ok key
          ∙ (λ i. cond (bytes_eq (same i) key) (offered (copy i) (c.self.invariant.1 key i)) (c.self.invariant.1 key i))
          ∙ sym (held_more r.entries r.front e key below c.index-entries-self.is),
    )

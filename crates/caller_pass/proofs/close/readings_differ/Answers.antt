use Rattle.std.proofs.Common.{◌≡◌, ◌≤◌, ◌<◌, ℕ, length, get_or, refl, sym, ap, ◌∙◌, arith, true≢false}
use borrow.Author.Count.{below_more}
use Rattle.range_journal.specs.Replays.{Replayed}
use Rattle.caller_pass.specs.declared.reading.Reading.{Reading}
use Rattle.caller_pass.specs.Closings.{IsTrueReading}
use Rattle.caller_pass.proofs.PassLaws.{fronts_rise}
use Rattle.caller_pass.proofs.ReplayLaws.{true_at, false_at}
use Rattle.caller_pass.proofs.close.readings_differ.Goals as goal

pub loop-i-preserved : goal.loop-i-preserved
loop-i-preserved c =
    let s = c.args.state.now.store in
    let rs = c.args.readings.now in
    let i = c.loop-i.i in
    let r : Reading = c.index-readings-i.result in
    let new = c.advance.new.self in
    let below : i < length rs = c.loop-i-test.true in
    let moved : new ≡ record c.loop-i.replay { front = r.front } = cc c.in_ok-advance.ensures.advances in
    let now : new ≡ record { entries = s.entries; front = r.front } = moved
    ∙ ap (λ (x : Replayed). record x { front = r.front }) c.loop-i.invariant.replay in
    let within : r.front ≤ length s.entries = omega
    (arith, c.if-reading-len.false, c.len.ensures.count, ap length c.journal-journal.ensures.entries) in
    let key : c.as_slice.result.now ≡ r.key = c.as_slice.ensures in
    let holds = c.holds.ensures.0 c.if-not-holds.false in
    record {
      before = λ d. below_more (λ k. IsTrueReading s.entries (get_or rs k d)) i (c.loop-i.invariant.before d)
          (true_at s.entries rs i r d new c.as_slice.result.now below c.index-readings-i.is now within key holds);
      replay = now ∙ ap (λ (n : ℕ). record { entries = s.entries; front = n }) (sym (ap (λ (x : Replayed). x.front) now));
      later = λ d k le more. omega (
        arith,
        ap (λ (x : Replayed). x.front) now,
        ap (λ (x : Reading). x.front) c.index-readings-i.is,
        fronts_rise rs i k r d c.requires (omega arith) more,
      );
    }

pub returns-then-not-holds : goal.returns-then-not-holds
returns-then-not-holds c =
    let es = c.args.state.now.store.entries in
    let r : Reading = c.index-readings-i.result in
    let new = c.advance.new.self in
    let moved : new ≡ record c.loop-i.replay { front = r.front } = cc c.in_ok-advance.ensures.advances in
    let now : new ≡ record { entries = es; front = r.front } = moved
    ∙ ap (λ (x : Replayed). record x { front = r.front }) c.loop-i.invariant.replay in
    let key : c.as_slice.result.now ≡ r.key = c.as_slice.ensures in (
      refl,
      false_at es c.args.readings.now c.loop-i.i r new c.as_slice.result.now c.loop-i-test.true c.index-readings-i.is now key
          c.loop-i.invariant.before (λ e. true≢false (sym (c.holds.ensures.1 e) ∙ c.if-not-holds.true)),
    )

use Rattle.std.proofs.Common.{rules, ◌≡◌, ◌≢◌, inl, inr, refl}
use Rattle.vclock.specs.declared.refusal.Refusal.TheVariants.{Crowded, NoMemory}
use Rattle.range_journal.specs.declared.journal.Source.TheVariants.{Partner}
use Rattle.range_store.specs.Offers.{offers_in}
use Rattle.range_store.proofs.ChangeLaws.{crowded_is}
use Rattle.range_state.proofs.JudgementLaws.{counted_more, counted_crowds, counted_stays}
use Rattle.range_state.proofs.state.RangeState.with_news.Goals as goal

pub returns-in_default : goal.returns-in_default
returns-in_default c = λ seat others counted apart.
    (refl, counted_stays c.args.self.now.store seat others c.args.row.now (rw c.in_default.is at counted) apart)

pub returns-in_ok-sum-in-Ok : goal.returns-in_ok-sum-in-Ok
returns-in_ok-sum-in-Ok c =
    λ seat others counted apart.
    let one = c.in-Ok.ensures seat in (
      refl,
      counted_more c.args.self.now.store seat others c.args.row.now c.in-Some.count c.in-Ok.more c.in_ok-sum-in-Ok.field-0
          (rw c.in-Some.is at counted) apart one.0 one.1 c.in_ok-sum-in-Ok.ensures.1,
    )

pub returns-in-Err-Crowded : goal.returns-in-Err-Crowded
returns-in-Err-Crowded c =
    λ seat others counted apart.
    let shown = rw c.in-Err-Crowded.field-0-is at c.in-Err-Crowded.ensures seat in (
      refl,
      elim shown [
        | inl memory ↦ absurd (let clash : Crowded ≡ NoMemory = memory in cc)
        | inr full ↦ counted_crowds c.args.self.now.store seat others c.args.row.now c.in-Some.count (rw c.in-Some.is at counted) apart full
      ],
    )

pub returns-in-Err : goal.returns-in-Err
returns-in-Err c =
    λ seat others counted apart.
    let other : c.in-Err.refusal ≢ Crowded = search rules in
    elim (c.in-Err.ensures seat) [
      | inl memory ↦ inl memory
      | inr full ↦ absurd (other (crowded_is c.args.self.now.store seat Partner (offers_in c.args.row.now) c.in-Err.refusal full))
    ]

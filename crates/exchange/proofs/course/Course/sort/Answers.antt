use Rattle.std.proofs.Common.{◌≡◌, true, refl, sym, subst, ap, ◌∙◌}
use Rattle.std.specs.Prelude.{nat_eq, Some}
use Rattle.std.proofs.lemmas.Bool.{eq-eqb, ne_eqb}
use Rattle.vclock.specs.declared.refusal.Refusal.TheVariants as refusals
use Rattle.walk_messages.specs.declared.message.Answer.{Answer}
use Rattle.exchange.specs.declared.verdict.Verdict.TheVariants as verdicts
use Rattle.exchange.specs.Standings.{standing_of, may_take, was_asked}
use Rattle.exchange.specs.Courses.{Course}
use Rattle.exchange.specs.Answers.{sorted, with_bad, IsVerdictBy, IsDueBy}
use Rattle.exchange.proofs.SortLaws.{sorts_other, sorts_verdict, sorts_due, due_when, late_when, bad_when}
use Rattle.exchange.proofs.course.Course.sort.Goals as goal

pub returns-then-ask-self : goal.returns-then-ask-self
returns-then-ask-self c =
    let x : Course = record {
      offer = c.self.inside.offer;
      bounds = c.self.inside.bounds;
      standings = c.self.inside.standings;
      tally = c.self.inside.tally;
      stop = c.self.inside.stop;
      end = c.self.inside.end;
    } in
    let a : Answer = record { offer = c.in-Some.ask.offer; node = c.in-Some.ask.node; text = c.in-Some.text.now } in (
      Some a,
      c.in-Some.ensures,
      subst (λ (y : Course). IsVerdictBy (sorted y (Some a)) verdicts.Late y) c.self.view_is
          (sorts_other x a (ne_eqb a.offer x.offer.offer c.if-ask-self.true)),
    )

pub returns-then-may_take : goal.returns-then-may_take
returns-then-may_take c =
    let x : Course = record {
      offer = c.self.inside.offer;
      bounds = c.self.inside.bounds;
      standings = c.self.inside.standings;
      tally = c.self.inside.tally;
      stop = c.self.inside.stop;
      end = c.self.inside.end;
    } in
    let a : Answer = record { offer = c.in-Some.ask.offer; node = c.in-Some.ask.node; text = c.in-Some.text.now } in
    let ours : nat_eq a.offer x.offer.offer ≡ true = eq-eqb a.offer x.offer.offer c.if-ask-self.false in (
      Some a,
      c.in-Some.ensures,
      subst (λ (y : Course). IsDueBy (sorted y (Some a)) (a.node, a.text) y) c.self.view_is
          (sorts_due x a (standing_of x.standings a.node) ours refl x
          (due_when x a (standing_of x.standings a.node)
          (sym (ap may_take c.get-standing.ensures) ∙ (sym c.may_take.ensures ∙ c.if-may_take.true)))),
    )

pub returns-then-was_asked : goal.returns-then-was_asked
returns-then-was_asked c =
    let x : Course = record {
      offer = c.self.inside.offer;
      bounds = c.self.inside.bounds;
      standings = c.self.inside.standings;
      tally = c.self.inside.tally;
      stop = c.self.inside.stop;
      end = c.self.inside.end;
    } in
    let a : Answer = record { offer = c.in-Some.ask.offer; node = c.in-Some.ask.node; text = c.in-Some.text.now } in
    let ours : nat_eq a.offer x.offer.offer ≡ true = eq-eqb a.offer x.offer.offer c.if-ask-self.false in (
      Some a,
      c.in-Some.ensures,
      subst (λ (y : Course). IsVerdictBy (sorted y (Some a)) verdicts.Late y) c.self.view_is
          (sorts_verdict x a (standing_of x.standings a.node) ours refl verdicts.Late x
          (late_when x a (standing_of x.standings a.node)
          (sym (ap may_take c.get-standing.ensures) ∙ (sym c.may_take.ensures ∙ c.if-may_take.false))
          (sym (ap was_asked c.get-standing.ensures) ∙ (sym c.was_asked.ensures ∙ c.if-was_asked.true)))),
    )

pub returns : goal.returns
returns c =
    let x : Course = record {
      offer = c.self.inside.offer;
      bounds = c.self.inside.bounds;
      standings = c.self.inside.standings;
      tally = c.self.inside.tally;
      stop = c.self.inside.stop;
      end = c.self.inside.end;
    } in
    let a : Answer = record { offer = c.in-Some.ask.offer; node = c.in-Some.ask.node; text = c.in-Some.text.now } in
    let ours : nat_eq a.offer x.offer.offer ≡ true = eq-eqb a.offer x.offer.offer c.if-ask-self.false in (
      Some a,
      c.in-Some.ensures,
      subst (λ (y : Course). IsVerdictBy (sorted y (Some a)) (verdicts.Bad refusals.NotAsked) (with_bad x)) c.self.view_is
          (sorts_verdict x a (standing_of x.standings a.node) ours refl (verdicts.Bad refusals.NotAsked) (with_bad x)
          (bad_when x a (standing_of x.standings a.node)
          (sym (ap was_asked c.get-standing.ensures) ∙ (sym c.was_asked.ensures ∙ c.if-was_asked.false)))),
    )

use Rattle.std.proofs.Common.{◌≡◌, ◌+◌, ℕ, List, Bool, true, false, refl, sym, subst, ap, ◌∙◌}
use Rattle.std.specs.Prelude.{Option, Some, None, if◌then◌else◌}
use Rattle.std.specs.Option.{option_or}
use mir.Val.{bool_byte}
use Rattle.exchange.specs.declared.report.Stop.{Stop}
use Rattle.exchange.specs.declared.standing.Standing.{Standing}
use Rattle.exchange.specs.Standings.{standing_of, is_sent, lost_in}
use Rattle.exchange.specs.Courses.{Course, IsFair}
use Rattle.exchange.specs.Answers.{stop_by}
use Rattle.exchange.proofs.FairLaws.{fair_refused}
use Rattle.exchange.proofs.course.Course.refuse.Goals as goal

byte : (b : Bool) → bool_byte b ≡ (if b then 1 else 0)
byte true = refl
byte false = refl

first : (s : Option Stop) (cause : Stop) → option_or s (Some cause) ≡ stop_by s cause
first None cause = refl
first (Some before) cause = refl

pub invariant_of-self : goal.invariant_of-self
invariant_of-self c =
    let x : Course = record {
      offer = c.self.inside.offer;
      bounds = c.self.inside.bounds;
      standings = c.self.inside.standings;
      tally = c.self.inside.tally;
      stop = c.self.inside.stop;
      end = c.self.inside.end;
    } in
    let count : c.from.result ≡ (if is_sent (standing_of x.standings c.args.node) then 1 else 0) = c.from.ensures
    ∙ (ap bool_byte c.lose-was_sent.ensures.was ∙ byte (is_sent (standing_of x.standings c.args.node))) in
    let stop : c.or-self-inside.result ≡ stop_by x.stop c.args.cause = c.or-self-inside.ensures ∙ first x.stop c.args.cause in
    subst (λ (s : List Standing). IsFair
    (record x { standings = s; tally = record x.tally { refused = x.tally.refused + c.from.result }; stop = c.or-self-inside.result }))
    (sym c.lose-was_sent.ensures.now)
    (subst (λ (n : ℕ). IsFair
    (record x {
      standings = lost_in x.standings c.args.node;
      tally = record x.tally { refused = x.tally.refused + n };
      stop = c.or-self-inside.result;
    })) (sym count)
    (subst (λ (o : Option Stop). IsFair
    (record x {
      standings = lost_in x.standings c.args.node;
      tally = record x.tally { refused = x.tally.refused + (if is_sent (standing_of x.standings c.args.node) then 1 else 0) };
      stop = o;
    }))
    (sym stop)
    (fair_refused x c.args.node c.args.cause c.self.invariant)))

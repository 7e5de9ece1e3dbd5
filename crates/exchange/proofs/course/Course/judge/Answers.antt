use Rattle.std.proofs.Common.{◌≡◌, ◌+◌, List, true, false, sym, subst, ◌∙◌, ap}
use Rattle.exchange.specs.declared.standing.Standing.{Standing}
use Rattle.exchange.specs.declared.standing.Standing.TheVariants.{Left, Settled}
use Rattle.exchange.specs.declared.tally.Tally.{Tally}
use Rattle.exchange.specs.Standings.{standing_of, with_standing, may_take}
use Rattle.exchange.specs.Courses.{Course, IsFair, is_over}
use Rattle.exchange.specs.Answers.{after_taken}
use Rattle.exchange.proofs.FairLaws.{goes, fair_failed, fair_ended, fair_taken, fair_wrong, settled, left}
use Rattle.exchange.proofs.course.Course.judge.Goals as goal

pub invariant_of-self : goal.invariant_of-self
invariant_of-self c =
    let x : Course = record {
      offer = c.self.inside.offer;
      bounds = c.self.inside.bounds;
      standings = c.self.inside.standings;
      tally = c.self.inside.tally;
      stop = c.self.inside.stop;
      end = c.self.inside.end;
    } in
    let may : may_take (standing_of x.standings c.args.node) ≡ true = ap
    (λ (y : Course). may_take (standing_of y.standings c.args.node)) c.self.view_is ∙ c.requires.due in
    subst (λ (s : List Standing). IsFair (record x { standings = s; tally = c.count.new.self; end = c.end_by-self-inside.result }))
    (sym c.end.ensures)
    (subst (λ (t : Tally). IsFair
    (record x { standings = with_standing x.standings c.args.node Settled; tally = t; end = c.end_by-self-inside.result })) (sym c.count.ensures)
    (fair_failed (after_taken x c.args.node c.args.is_leaf c.args.len c.in-Ok.taken) c.end_by-self-inside.result
    (fair_taken x c.args.node c.args.is_leaf c.args.len c.in-Ok.taken c.self.invariant may)))

pub invariant_of-self-in-Err-Crowded : goal.invariant_of-self-in-Err-Crowded
invariant_of-self-in-Err-Crowded c =
    let x : Course = record {
      offer = c.self-in-Err-Crowded.inside.offer;
      bounds = c.self-in-Err-Crowded.inside.bounds;
      standings = c.self-in-Err-Crowded.inside.standings;
      tally = c.self-in-Err-Crowded.inside.tally;
      stop = c.self-in-Err-Crowded.inside.stop;
      end = c.self-in-Err-Crowded.inside.end;
    } in
    let may : may_take (standing_of x.standings c.args.node) ≡ true = ap
    (λ (y : Course). may_take (standing_of y.standings c.args.node)) c.self-in-Err-Crowded.view_is ∙ c.requires.due in
    subst (λ (s : List Standing). IsFair (record x { standings = s })) (sym c.end-in-Err-Crowded.ensures)
    (fair_ended x c.args.node Left c.self-in-Err-Crowded.invariant may left)

pub invariant_of-self-in-Err-NotAsked : goal.invariant_of-self-in-Err-NotAsked
invariant_of-self-in-Err-NotAsked c =
    let x : Course = record {
      offer = c.self-in-Err-NotAsked.inside.offer;
      bounds = c.self-in-Err-NotAsked.inside.bounds;
      standings = c.self-in-Err-NotAsked.inside.standings;
      tally = c.self-in-Err-NotAsked.inside.tally;
      stop = c.self-in-Err-NotAsked.inside.stop;
      end = c.self-in-Err-NotAsked.inside.end;
    } in
    let may : may_take (standing_of x.standings c.args.node) ≡ true = ap
    (λ (y : Course). may_take (standing_of y.standings c.args.node)) c.self-in-Err-NotAsked.view_is ∙ c.requires.due in
    subst (λ (s : List Standing). IsFair (record x { standings = s })) (sym c.end-in-Err-NotAsked.ensures)
    (fair_ended x c.args.node Settled c.self-in-Err-NotAsked.invariant may settled)

pub invariant_of-self-in-Err-WrongDigest : goal.invariant_of-self-in-Err-WrongDigest
invariant_of-self-in-Err-WrongDigest c =
    let x : Course = record {
      offer = c.self-in-Err-WrongDigest.inside.offer;
      bounds = c.self-in-Err-WrongDigest.inside.bounds;
      standings = c.self-in-Err-WrongDigest.inside.standings;
      tally = c.self-in-Err-WrongDigest.inside.tally;
      stop =
          c.self-in-Err-WrongDigest.inside.stop;
      end = c.self-in-Err-WrongDigest.inside.end;
    } in
    let going : is_over x ≡ false = ap is_over c.self-in-Err-WrongDigest.view_is ∙ c.requires.going in
    subst (λ (s : List Standing). IsFair (record x { standings = s; tally = record x.tally { bad = x.tally.bad + 1 } })) (sym c.lose.ensures.now)
    (fair_wrong x c.args.node c.self-in-Err-WrongDigest.invariant (goes x going))

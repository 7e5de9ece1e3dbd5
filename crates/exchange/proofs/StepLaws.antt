-- Courses stay fair in each step.
use Rattle.std.proofs.Common.{◌≡◌, ◌+◌, ◌≤◌, ℕ, List, [], ◌∷◌, zero, suc, length, replicate, Bool, true, false, refl, ap, ◌∙◌, arith}
use Rattle.std.specs.Prelude.{nat_eq, ◌||◌, is_some, Option, Some, None, Result, Ok, Err, if◌then◌else◌}
use Rattle.std.specs.List.{count_by}
use Rattle.std.proofs.lemmas.Bool.{or_parts}
use Rattle.std.proofs.lemmas.List.{length-set, length-replicate}
use Rattle.std.proofs.lemmas.List.Sums.{sum_by-cons}
use Rattle.vclock.specs.declared.format.Format.{Format}
use Rattle.vclock.specs.declared.format.Format.TheVariants.{One, Two}
use Rattle.vclock.specs.declared.refusal.Refusal.{Refusal}
use Rattle.vclock.specs.declared.refusal.Refusal.TheVariants as refusals
use Rattle.tree_nodes.specs.Nodes.{Node, place_of, node_count}
use Rattle.snapshot.specs.RowMaps.{RowMap}
use Rattle.walk_messages.specs.declared.message.Answer.{Answer}
use Rattle.walk_messages.specs.declared.message.Offer.{Offer}
use Rattle.sync_session.specs.Walks.{Walk}
use Rattle.range_state.specs.declared.event.AnswerTaken.{AnswerTaken}
use Rattle.exchange.specs.declared.bounds.Bounds.{Bounds}
use Rattle.exchange.specs.declared.standing.Standing.{Standing}
use Rattle.exchange.specs.declared.standing.Standing.TheVariants as standings
use Rattle.exchange.specs.declared.verdict.Verdict.TheVariants as verdicts
use Rattle.exchange.specs.declared.report.Stop.{Stop}
use Rattle.exchange.specs.declared.report.Stop.TheVariants as stops
use Rattle.exchange.specs.declared.report.End.TheVariants as ends
use Rattle.exchange.specs.Standings.{is_in_flight, is_lost, standing_of, may_ask, may_take, is_sent, was_left, first_askable}
use Rattle.exchange.specs.Courses.{Course, IsFair, is_over, unasked, with_lost, after_loss, gone_on, after_go_on, closed_end}
use Rattle.exchange.specs.Asks.{next_in, fitting, has_room, estimate, is_leaf, after_ask}
use Rattle.exchange.specs.Answers.{sorted, sorted_at, with_bad, judged}
use Rattle.exchange.specs.Steps.{Step, Asks, Loses, Retracts, GoesOn, Closes, Sorts, Judges, after, May, MayAll, after_all, at_start}
use Rattle.exchange.proofs.StandingLaws.{one, losing, first_may}
use Rattle.exchange.proofs.FairLaws.{goes, fair_asked, fair_ended, fair_failed, fair_bad, fair_wrong, fair_lost, fair_retracted, fair_on}
use Rattle.exchange.proofs.FairLaws.{fair_refused, fair_taken, settled, left}

-- the node of the next ask may be asked, and asks go on
pub record IsNext (x : Course) (n : Node) : Type 0 where
  pub may : may_ask (standing_of x.standings n) ≡ true
  pub stop : x.stop ≡ None
  pub over : is_over x ≡ false

fitting_is : (x : Course) (own : RowMap) (o : Option Node) (p : Node × ℕ) → fitting x own o ≡ Some p → o ≡ Some p.0
fitting_is x own None p e = absurd (cc)
fitting_is x own (Some n) p e = by (has_room x (is_leaf own n) (estimate x own n)) e
  where
    by : (b : Bool) → (if b then Some (n, estimate x own n) else None) ≡ Some p → Some n ≡ Some p.0
    by true is = ap (λ (o : Option (Node × ℕ)). first_of o) is
      where
        first_of : Option (Node × ℕ) → Option Node
        first_of None = None
        first_of (Some q) = Some q.0
    by false is = absurd (cc)

no_stop : (s : Option Stop) → is_some s ≡ false → s ≡ None
no_stop None e = refl
no_stop (Some cause) e = absurd (cc)

pub next_is : (x : Course) (w : Walk) (p : Node × ℕ) → next_in x w ≡ Some p → IsNext x p.0
next_is x w p e = by (is_some x.stop || is_over x) refl e
  where
    by : (b : Bool) → (is_some x.stop || is_over x) ≡ b → (if b then None else fitting x w.own (first_askable x.standings w.outstanding)) ≡ Some p
        → IsNext x p.0
    by true is none = absurd (cc)
    by false is some =
        let parts = or_parts (is_some x.stop) (is_over x) is in
        record {
          may = first_may x.standings w.outstanding p.0 (fitting_is x w.own (first_askable x.standings w.outstanding) p some);
          stop = no_stop x.stop parts.0;
          over = parts.1;
        }

-- it is the first of the outstanding nodes that may be asked
pub next_first : (x : Course) (w : Walk) (p : Node × ℕ) → next_in x w ≡ Some p → first_askable x.standings w.outstanding ≡ Some p.0
next_first x w p e = by (is_some x.stop || is_over x) e
  where
    by : (b : Bool) → (if b then None else fitting x w.own (first_askable x.standings w.outstanding)) ≡ Some p
        → first_askable x.standings w.outstanding ≡ Some p.0
    by true none = absurd (cc)
    by false some = fitting_is x w.own (first_askable x.standings w.outstanding) p some

-- a fair course with the bounds and the number of nodes of another one
pub record Follows (x y : Course) : Type 0 where
  pub fair : IsFair y
  pub bounds : y.bounds ≡ x.bounds
  pub nodes : length y.standings ≡ length x.standings

same : (x : Course) → IsFair x → Follows x x
same x fair = record { fair = fair; bounds = refl; nodes = refl }

follow_ask : (x : Course) (w : Walk) → IsFair x → Follows x (after_ask x (next_in x w))
follow_ask x w fair = by (next_in x w) refl
  where
    by : (o : Option (Node × ℕ)) → next_in x w ≡ o → Follows x (after_ask x o)
    by None e = same x fair
    by (Some p) e = let n = next_is x w p e in
        record {
          fair = fair_asked x p.0 p.1 fair (goes x n.over) n.stop n.may;
          bounds = refl;
          nodes = length-set x.standings (place_of p.0) (standings.InFlight p.1);
        }

follow_loss : (x : Course) (n : Node) → IsFair x → Follows x (after_loss x n)
follow_loss x n fair = by (is_over x) refl (is_sent (standing_of x.standings n))
  where
    by : (over : Bool) → is_over x ≡ over → (sent : Bool) → Follows x (if over then x else if sent then with_lost x n else x)
    by true e sent = same x fair
    by false e true = record { fair = fair_lost x n fair (goes x e); bounds = refl; nodes = (losing x.standings n).len }
    by false e false = same x fair

follow_on : (x : Course) → IsFair x → Follows x (after_go_on x)
follow_on x fair = by (is_over x) refl
  where
    by : (over : Bool) → is_over x ≡ over → Follows x (if over then x else gone_on x)
    by true e = same x fair
    by false e = record { fair = fair_on x fair (goes x e); bounds = refl; nodes = refl }

follow_bad : (x : Course) → IsFair x → is_over x ≡ false → Follows x (with_bad x)
follow_bad x fair over = record { fair = fair_bad x fair (goes x over); bounds = refl; nodes = refl }

follow_sorted_at : (x : Course) (a : Answer) (o : Option Standing) → IsFair x → is_over x ≡ false → Follows x (sorted_at x a o).1
follow_sorted_at x a (Some (standings.InFlight bytes)) fair over = same x fair
follow_sorted_at x a (Some standings.Lost) fair over = same x fair
follow_sorted_at x a (Some standings.Left) fair over = same x fair
follow_sorted_at x a (Some standings.Settled) fair over = same x fair
follow_sorted_at x a (Some standings.Unasked) fair over = follow_bad x fair over
follow_sorted_at x a None fair over = follow_bad x fair over

follow_sorted : (x : Course) (read : Option Answer) → IsFair x → is_over x ≡ false → Follows x (sorted x read).1
follow_sorted x None fair over = follow_bad x fair over
follow_sorted x (Some a) fair over = by (nat_eq a.offer x.offer.offer)
  where
    by : (ours : Bool) → Follows x (if ours then sorted_at x a (standing_of x.standings a.node) else (Err verdicts.Late, x)).1
    by true = follow_sorted_at x a (standing_of x.standings a.node) fair over
    by false = same x fair

follow_judged : (x : Course) (n : Node) (leaf : Bool) (len : ℕ) (said : Result AnswerTaken Refusal) → IsFair x → is_over x ≡ false
    → may_take (standing_of x.standings n) ≡ true → Follows x (judged x n leaf len said).1
follow_judged x n leaf len (Ok taken) fair over may =
    record { fair = fair_taken x n leaf len taken fair may; bounds = refl; nodes = length-set x.standings (place_of n) standings.Settled }
follow_judged x n leaf len (Err refusals.Crowded) fair over may =
    record { fair = fair_ended x n standings.Left fair may left; bounds = refl; nodes = length-set x.standings (place_of n) standings.Left }
follow_judged x n leaf len (Err refusals.NotAsked) fair over may =
    record { fair = fair_ended x n standings.Settled fair may settled; bounds = refl; nodes = length-set x.standings (place_of n) standings.Settled }
follow_judged x n leaf len (Err refusals.WrongDigest) fair over may =
    record { fair = fair_wrong x n fair (goes x over); bounds = refl; nodes = (losing x.standings n).len }
follow_judged x n leaf len (Err refusals.NotCanonical) fair over may =
    record { fair = fair_failed x (Some ends.Failed) fair; bounds = refl; nodes = refl }
follow_judged x n leaf len (Err refusals.JournalFull) fair over may =
    record { fair = fair_refused x n stops.JournalFull fair; bounds = refl; nodes = (losing x.standings n).len }
follow_judged x n leaf len (Err refusals.NoMemory) fair over may =
    record { fair = fair_refused x n stops.NoMemory fair; bounds = refl; nodes = (losing x.standings n).len }
follow_judged x n leaf len (Err e) fair over may = same x fair

pub follow : (x : Course) (step : Step) → IsFair x → May x step → Follows x (after x step)
follow x (Asks w) fair may = follow_ask x w fair
follow x (Loses n) fair may = follow_loss x n fair
follow x (Retracts n) fair may = record { fair = fair_retracted x n fair may; bounds = refl; nodes = (losing x.standings n).len }
follow x GoesOn fair may = follow_on x fair
follow x Closes fair may = record { fair = fair_failed x (closed_end x.end) fair; bounds = refl; nodes = refl }
follow x (Sorts read) fair may = follow_sorted x read fair may
follow x (Judges n leaf len said) fair may = follow_judged x n leaf len said fair may.0 may.1

follow_all : (x : Course) (steps : List Step) → IsFair x → MayAll x steps → Follows x (after_all x steps)
follow_all x [] fair may = same x fair
follow_all x (step ∷ steps) fair may =
    let one = follow x step fair may.0 in let rest = follow_all (after x step) steps one.fair may.1 in
    record { fair = rest.fair; bounds = rest.bounds ∙ one.bounds; nodes = rest.nodes ∙ one.nodes }

-- ---- the start

pub none_counted : (p : Standing → Bool) (n : ℕ) → p standings.Unasked ≡ false → count_by p (replicate n standings.Unasked) ≡ 0
none_counted p zero e = refl
none_counted p (suc n) e = sum_by-cons {X = Standing} (λ s. one (p s)) standings.Unasked (replicate n standings.Unasked)
    ∙ omega (arith, none_counted p n e, ap one e)

few_nodes : (f : Format) → node_count f ≤ 4369
few_nodes One = omega arith
few_nodes Two = omega arith

pub at_start_fair : (offer : Offer) (bounds : Bounds) (f : Format) → IsFair (at_start offer bounds f)
at_start_fair offer bounds f =
    let lost : count_by is_lost (unasked f) ≡ 0 = none_counted is_lost (node_count f) refl in
    let flights : count_by is_in_flight (unasked f) ≡ 0 = none_counted is_in_flight (node_count f) refl in
    let len : length (unasked f) ≡ node_count f = length-replicate (node_count f) standings.Unasked in
    record {
      nodes = omega (arith, len, few_nodes f);
      again = omega (arith, lost);
      most = omega arith;
      bad = omega arith;
      lost = omega arith;
      refused = omega (arith, flights);
      sent = omega (arith, flights);
      going = λ _. refl;
    }

pub asks_bounded : (offer : Offer) (bounds : Bounds) (f : Format) (steps : List Step) → MayAll (at_start offer bounds f) steps
    → (after_all (at_start offer bounds f) steps).tally.asks ≤ node_count f + bounds.bad + bounds.lost
asks_bounded offer bounds f steps may =
    let y : Course = after_all (at_start offer bounds f) steps in
    let r = follow_all (at_start offer bounds f) steps (at_start_fair offer bounds f) may in
    let len : length (unasked f) ≡ node_count f = length-replicate (node_count f) standings.Unasked in
    omega (arith, r.fair.most, r.nodes, len, ap (λ (b : Bounds). b.bad) r.bounds, ap (λ (b : Bounds). b.lost) r.bounds)

-- what may be asked isn't in flight, and wasn't left
pub may_isnt : (o : Option Standing) → may_ask o ≡ true → (is_sent o ≡ false) × (was_left o ≡ false)
may_isnt (Some standings.Unasked) e = (refl, refl)
may_isnt (Some standings.Lost) e = (refl, refl)
may_isnt (Some (standings.InFlight bytes)) e = absurd (cc)
may_isnt (Some standings.Left) e = absurd (cc)
may_isnt (Some standings.Settled) e = absurd (cc)
may_isnt None e = absurd (cc)

-- How answers are sorted, and taken.
use Rattle.std.proofs.Common.{◌≡◌, ℕ, List, length, Bool, true, false, refl, sym, subst, ap, ◌∙◌}
use Rattle.std.specs.Prelude.{nat_eq, Option, Some, None, Result, Ok, Err, if◌then◌else◌}
use Rattle.vclock.specs.declared.refusal.Refusal.{Refusal}
use Rattle.vclock.specs.declared.refusal.Refusal.TheVariants as refusals
use Rattle.tree_nodes.specs.Nodes.{Node}
use Rattle.walk_messages.specs.declared.message.Answer.{Answer}
use Rattle.range_state.specs.State.{State}
use Rattle.range_state.specs.declared.«record».Record.{Record}
use Rattle.range_state.specs.declared.event.AnswerTaken.{AnswerTaken}
use Rattle.exchange.specs.declared.standing.Standing.{Standing}
use Rattle.exchange.specs.declared.standing.Standing.TheVariants as standings
use Rattle.exchange.specs.declared.verdict.Verdict.{Verdict}
use Rattle.exchange.specs.declared.verdict.Verdict.TheVariants as verdicts
use Rattle.exchange.specs.declared.exchange.Exchange.{Exchange}
use Rattle.exchange.specs.Standings.{standing_of, may_take, was_asked}
use Rattle.exchange.specs.Courses.{Course}
use Rattle.exchange.specs.Asks.{is_leaf}
use Rattle.exchange.specs.Answers.{Sorted, sorted, sorted_at, with_bad, IsDueBy, IsVerdictBy, IsRead}
use Rattle.exchange.specs.Exchanges.{on, going_in, concluded, TakesText, TakesFor, TakesSorted}

-- an answer of another offer
pub sorts_other : (x : Course) (a : Answer) → nat_eq a.offer x.offer.offer ≡ false → IsVerdictBy (sorted x (Some a)) verdicts.Late x
sorts_other x a other = subst
    (λ (b : Bool). IsVerdictBy (if b then sorted_at x a (standing_of x.standings a.node) else (Err verdicts.Late, x)) verdicts.Late x) (sym other)
    (refl, refl)

-- an answer of the offer, by the standing of its node
module _ (x : Course) (a : Answer) (o : Option Standing) (ours : nat_eq a.offer x.offer.offer ≡ true) (at : standing_of x.standings a.node ≡ o) where
  as_sorted : sorted x (Some a) ≡ sorted_at x a o
  as_sorted = ap (λ b. if b then sorted_at x a (standing_of x.standings a.node) else (Err verdicts.Late, x)) ours ∙ ap (sorted_at x a) at

  pub sorts_verdict : (v : Verdict) (y : Course) → IsVerdictBy (sorted_at x a o) v y → IsVerdictBy (sorted x (Some a)) v y
  sorts_verdict v y is = subst (λ (p : Sorted × Course). IsVerdictBy p v y) (sym as_sorted) is

  pub sorts_due : (y : Course) → IsDueBy (sorted_at x a o) (a.node, a.text) y → IsDueBy (sorted x (Some a)) (a.node, a.text) y
  sorts_due y is = subst (λ (p : Sorted × Course). IsDueBy p (a.node, a.text) y) (sym as_sorted) is

pub due_when : (x : Course) (a : Answer) (o : Option Standing) → may_take o ≡ true → IsDueBy (sorted_at x a o) (a.node, a.text) x
due_when x a (Some (standings.InFlight bytes)) may = (refl, refl)
due_when x a (Some standings.Lost) may = (refl, refl)
due_when x a (Some standings.Left) may = absurd (cc)
due_when x a (Some standings.Settled) may = absurd (cc)
due_when x a (Some standings.Unasked) may = absurd (cc)
due_when x a None may = absurd (cc)

pub late_when : (x : Course) (a : Answer) (o : Option Standing) → may_take o ≡ false → was_asked o ≡ true
    → IsVerdictBy (sorted_at x a o) verdicts.Late x
late_when x a (Some (standings.InFlight bytes)) may asked = absurd (cc)
late_when x a (Some standings.Lost) may asked = absurd (cc)
late_when x a (Some standings.Left) may asked = (refl, refl)
late_when x a (Some standings.Settled) may asked = (refl, refl)
late_when x a (Some standings.Unasked) may asked = absurd (cc)
late_when x a None may asked = absurd (cc)

pub bad_when : (x : Course) (a : Answer) (o : Option Standing) → was_asked o ≡ false
    → IsVerdictBy (sorted_at x a o) (verdicts.Bad refusals.NotAsked) (with_bad x)
bad_when x a (Some (standings.InFlight bytes)) asked = absurd (cc)
bad_when x a (Some standings.Lost) asked = absurd (cc)
bad_when x a (Some standings.Left) asked = absurd (cc)
bad_when x a (Some standings.Settled) asked = absurd (cc)
bad_when x a (Some standings.Unasked) asked = (refl, refl)
bad_when x a None asked = (refl, refl)

-- what is due may be taken, and nothing has changed
due_may : (x y : Course) (a : Answer) (o : Option Standing) (parts : Node × List ℕ) → standing_of x.standings a.node ≡ o
    → IsDueBy (sorted_at x a o) parts y → (may_take (standing_of y.standings parts.0) ≡ true) × (y ≡ x)
due_may x y a (Some (standings.InFlight bytes)) parts at is = (
  subst (λ (z : Course). may_take (standing_of z.standings parts.0) ≡ true) (sym is.1)
      (ap (λ (n : Node). may_take (standing_of x.standings n)) (ap (λ (q : Node × List ℕ). q.0) is.0) ∙ ap may_take at),
  is.1,
)
due_may x y a (Some standings.Lost) parts at is = (
  subst (λ (z : Course). may_take (standing_of z.standings parts.0) ≡ true) (sym is.1)
      (ap (λ (n : Node). may_take (standing_of x.standings n)) (ap (λ (q : Node × List ℕ). q.0) is.0) ∙ ap may_take at),
  is.1,
)
due_may x y a (Some standings.Left) parts at is = absurd is
due_may x y a (Some standings.Settled) parts at is = absurd is
due_may x y a (Some standings.Unasked) parts at is = absurd is
due_may x y a None parts at is = absurd is

ours_may : (x y : Course) (a : Answer) (parts : Node × List ℕ) (b : Bool)
    → IsDueBy (if b then sorted_at x a (standing_of x.standings a.node) else (Err verdicts.Late, x)) parts y
    → (may_take (standing_of y.standings parts.0) ≡ true) × (y ≡ x)
ours_may x y a parts true is = due_may x y a (standing_of x.standings a.node) parts refl is
ours_may x y a parts false is = absurd is

pub sorted_may : (x y : Course) (read : Option Answer) (parts : Node × List ℕ) → IsDueBy (sorted x read) parts y
    → (may_take (standing_of y.standings parts.0) ≡ true) × (y ≡ x)
sorted_may x y None parts is = absurd is
sorted_may x y (Some a) parts is = ours_may x y a parts (nat_eq a.offer x.offer.offer) is

-- a due answer that a state took: what the state said of it, and the verdict and the exchange that follow
pub record TakesDue (x z : Exchange) (s t : State) (seat : ℕ) (r : Record) (p : Sorted × Course) (v : Verdict) : Type 0 where
  pub parts : Node × List ℕ
  pub course : Course
  pub leaf : Bool
  pub said : Result AnswerTaken Refusal
  pub due : IsDueBy p parts course
  pub takes : TakesText s seat x.session (record { node = parts.0; text = parts.1 }) said t
  pub leaf_is : leaf ≡ is_leaf r.session.own parts.0
  pub verdict : v ≡ (concluded (on x course) parts.0 leaf (length parts.1) said).0
  pub exchange : z ≡ (concluded (on x course) parts.0 leaf (length parts.1) said).1

takes_sorted : (x z : Exchange) (s t : State) (seat : ℕ) (r : Record) (p : Sorted × Course) (v : Verdict) → TakesDue x z s t seat r p v
    → TakesSorted x s seat r p v z t
takes_sorted x z s t seat r (Ok a, c) v is = record {
  said = is.said;
  takes = subst (λ (q : Node × List ℕ). TakesText s seat x.session (record { node = q.0; text = q.1 }) is.said t) is.due.0 is.takes;
  verdict = is.verdict ∙ (ap (λ l. (concluded (on x is.course) is.parts.0 l (length is.parts.1) is.said).0) is.leaf_is
      ∙ (λ i. (concluded (on x (is.due.1 i)) (is.due.0 i).0 (is_leaf r.session.own (is.due.0 i).0) (length (is.due.0 i).1) is.said).0));
  exchange = is.exchange ∙ (ap (λ l. (concluded (on x is.course) is.parts.0 l (length is.parts.1) is.said).1) is.leaf_is
      ∙ (λ i. (concluded (on x (is.due.1 i)) (is.due.0 i).0 (is_leaf r.session.own (is.due.0 i).0) (length (is.due.0 i).1) is.said).1));
}
takes_sorted x z s t seat r (Err w, c) v is = absurd is.due

pub takes_due : (x z : Exchange) (s t : State) (seat : ℕ) (bytes : List ℕ) (r : Record) (read : Option Answer) (v : Verdict)
    → going_in x s ≡ Some r → IsRead bytes read → TakesDue x z s t seat r (sorted x.course read) v
    → TakesFor x s seat bytes (going_in x s) v z t
takes_due x z s t seat bytes r read v going is due =
    subst (λ (o : Option Record). TakesFor x s seat bytes o v z t) (sym going)
    (record { read = read; is = is; taken = takes_sorted x z s t seat r (sorted x.course read) v due })

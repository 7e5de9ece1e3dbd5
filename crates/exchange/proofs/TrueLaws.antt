-- With a true partner, only nodes at which the trees differ are asked.
use Rattle.std.proofs.Common.{◌≡◌, ℕ, ◌+◌, ◌≤◌, List, [], ◌∷◌, zero, suc, length, set, Bool, true, false, not, refl, ap, subst, arith}
use Rattle.std.specs.Prelude.{nat_eq, Option, Some, None, slice_get, Result, Ok, Err, if◌then◌else◌}
use Rattle.std.specs.List.{count_by}
use Rattle.std.proofs.lemmas.List.Sums.{sum_by-cons, sum_by-le-sum_by, count_by-le-length}
use Rattle.std.proofs.lemmas.Option.{same_Some}
use Rattle.vclock.specs.declared.refusal.Refusal.{Refusal}
use Rattle.vclock.specs.declared.refusal.Refusal.TheVariants as refusals
use Rattle.tree_nodes.specs.Nodes.{Node, place_of, is_same_node, contains_node, node_count}
use Rattle.snapshot.specs.RowMaps.{RowMap}
use Rattle.walk_messages.specs.declared.message.Answer.{Answer}
use Rattle.walk_messages.specs.declared.message.Offer.{Offer}
use Rattle.sync_session.specs.Walks.{Walk}
use Rattle.sync_session.specs.Differing.{differ, times}
use Rattle.sync_session.proofs.DescentLaws.{is_node-true, is_node-same}
use Rattle.sync_session.proofs.CountLaws.{has_times, times_has}
use Rattle.sync_session.proofs.HonestLaws.{asked_is_differ}
use Rattle.range_state.specs.declared.event.AnswerTaken.{AnswerTaken}
use Rattle.exchange.specs.declared.bounds.Bounds.{Bounds}
use Rattle.exchange.specs.declared.standing.Standing.{Standing}
use Rattle.exchange.specs.declared.standing.Standing.TheVariants as standings
use Rattle.exchange.specs.declared.verdict.Verdict.TheVariants as verdicts
use Rattle.exchange.specs.Standings.{is_asked, standing_of, with_standing, was_asked, may_ask, may_take, is_sent, lost_in, first_askable}
use Rattle.exchange.specs.Courses.{Course, IsFair, is_over, unasked, with_lost, after_loss, gone_on, after_go_on}
use Rattle.exchange.specs.Asks.{next_in, after_ask}
use Rattle.exchange.specs.Answers.{sorted, sorted_at, judged}
use Rattle.exchange.specs.Steps.{Step, Asks, Loses, Retracts, GoesOn, Closes, Sorts, Judges, after, May, MayAll, after_all, at_start}
use Rattle.exchange.specs.TruePartners.{IsTrueWalk, IsTrueStep, AreTrueSteps, AsksFew}
use Rattle.exchange.proofs.StandingLaws.{one, moved}
use Rattle.exchange.proofs.StepLaws.{next_is, next_first, follow, none_counted, at_start_fair}

-- ---- nodes that were never asked

abbrev is_fresh : Option Standing → Bool
is_fresh o = not (was_asked o)

-- those of a list
abbrev fresh_in : List Standing → List Node → ℕ
fresh_in xs nodes = count_by (λ n. is_fresh (standing_of xs n)) nodes

-- when a standing becomes one of an asked node, no other node becomes fresh
fewer : (xs : List Standing) (i j : ℕ) (b : Standing) → is_asked b ≡ true
    → one (is_fresh (slice_get (set xs i b) j)) ≤ one (is_fresh (slice_get xs j))
fewer [] i j b e = omega arith
fewer (x ∷ xs) zero zero b e = omega (arith, ap (λ t. one (not t)) e)
fewer (x ∷ xs) zero (suc j) b e = omega arith
fewer (x ∷ xs) (suc i) zero b e = omega arith
fewer (x ∷ xs) (suc i) (suc j) b e = fewer xs i j b e

fewer_in : (xs : List Standing) (i : ℕ) (b : Standing) (nodes : List Node) → is_asked b ≡ true → fresh_in (set xs i b) nodes ≤ fresh_in xs nodes
fewer_in xs i b nodes e =
    sum_by-le-sum_by {X = Node} (λ n. one (is_fresh (standing_of (set xs i b) n))) (λ n. one (is_fresh (standing_of xs n))) nodes
    (λ n. fewer xs i (place_of n) b e)

-- the standing that was set is the one of its node
set_asked : (xs : List Standing) (i : ℕ) (a b : Standing) → slice_get xs i ≡ Some a → is_asked b ≡ true
    → one (is_fresh (slice_get (set xs i b) i)) ≡ 0
set_asked [] i a b at e = absurd (cc)
set_asked (x ∷ xs) zero a b at e = ap (λ t. one (not t)) e
set_asked (x ∷ xs) (suc i) a b at e = set_asked xs i a b at e

-- if a node of the list was fresh and is asked, there is one less
one_less : (xs : List Standing) (n : Node) (b : Standing) (nodes : List Node) → is_asked b ≡ true → standing_of xs n ≡ Some standings.Unasked
    → 1 ≤ times n nodes → fresh_in (with_standing xs n b) nodes + 1 ≤ fresh_in xs nodes
one_less xs n b [] e at has = absurd (omega (arith, has))
one_less xs n b (m ∷ nodes) e at has =
    let new = sum_by-cons {X = Node} (λ k. one (is_fresh (standing_of (with_standing xs n b) k))) m nodes in
    let old = sum_by-cons {X = Node} (λ k. one (is_fresh (standing_of xs k))) m nodes in
    let less = by (is_same_node n m) refl has (one_less xs n b nodes e at) in
    omega (arith, new, old, less)
  where
    by : (t : Bool) → is_same_node n m ≡ t → 1 ≤ (if t then 1 else 0) + times n nodes
        → (1 ≤ times n nodes → fresh_in (with_standing xs n b) nodes + 1 ≤ fresh_in xs nodes)
        → one (is_fresh (standing_of (with_standing xs n b) m)) + fresh_in (with_standing xs n b) nodes + 1 ≤ one
        (is_fresh (standing_of xs m)) + fresh_in xs nodes
    by true same h rest =
        let was : one (is_fresh (standing_of xs n)) ≡ 1 = ap (λ o. one (is_fresh o)) at in
        let now = set_asked xs (place_of n) standings.Unasked b at e in
        let here : one (is_fresh (standing_of (with_standing xs n b) n)) + fresh_in (with_standing xs n b) nodes + 1 ≤ one
        (is_fresh (standing_of xs n)) + fresh_in xs nodes = omega (arith, was, now, fewer_in xs (place_of n) b nodes e) in
        subst (λ (k : Node). one (is_fresh (standing_of (with_standing xs n b) k)) + fresh_in (with_standing xs n b) nodes + 1 ≤ one
        (is_fresh (standing_of xs k)) + fresh_in xs nodes) (is_node-true n m same) here
    by false other h rest = omega (arith, rest (omega (arith, h)), fewer xs (place_of n) (place_of m) b e)

-- ---- the nodes of a list that were asked, and those that may be

-- as many nodes were asked as the list has, less its fresh ones
abbrev Among : List Standing → List Node → Type 0
Among xs nodes = count_by is_asked xs + fresh_in xs nodes ≤ length nodes

among_ask : (xs : List Standing) (n : Node) (bytes : ℕ) (nodes : List Node) → Among xs nodes → may_ask (standing_of xs n) ≡ true → 1 ≤ times n nodes
    → Among (with_standing xs n (standings.InFlight bytes)) nodes
among_ask xs n bytes nodes among may has = by (standing_of xs n) refl may
  where
    by : (o : Option Standing) → standing_of xs n ≡ o → may_ask o ≡ true → Among (with_standing xs n (standings.InFlight bytes)) nodes
    by (Some standings.Unasked) at m =
        omega (
          arith,
          (moved xs (place_of n) standings.Unasked (standings.InFlight bytes) at).asked,
          one_less xs n (standings.InFlight bytes) nodes refl at has,
          among,
        )
    by (Some standings.Lost) at m =
        omega (
          arith,
          (moved xs (place_of n) standings.Lost (standings.InFlight bytes) at).asked,
          fewer_in xs (place_of n) (standings.InFlight bytes) nodes refl,
          among,
        )
    by (Some (standings.InFlight b)) at m = absurd (cc)
    by (Some standings.Left) at m = absurd (cc)
    by (Some standings.Settled) at m = absurd (cc)
    by None at m = absurd (cc)

-- the ask for a node ends
among_end : (xs : List Standing) (n : Node) (b : Standing) (nodes : List Node) → Among xs nodes → may_take (standing_of xs n) ≡ true
    → is_asked b ≡ true → Among (with_standing xs n b) nodes
among_end xs n b nodes among may asked = by (standing_of xs n) refl may
  where
    by : (o : Option Standing) → standing_of xs n ≡ o → may_take o ≡ true → Among (with_standing xs n b) nodes
    by (Some standings.Lost) at m =
        omega (arith, (moved xs (place_of n) standings.Lost b at).asked, ap one asked, fewer_in xs (place_of n) b nodes asked, among)
    by (Some (standings.InFlight c)) at m =
        omega (arith, (moved xs (place_of n) (standings.InFlight c) b at).asked, ap one asked, fewer_in xs (place_of n) b nodes asked, among)
    by (Some standings.Unasked) at m = absurd (cc)
    by (Some standings.Left) at m = absurd (cc)
    by (Some standings.Settled) at m = absurd (cc)
    by None at m = absurd (cc)

among_lost : (xs : List Standing) (n : Node) (nodes : List Node) → Among xs nodes → Among (lost_in xs n) nodes
among_lost xs n nodes among = by (standing_of xs n) refl
  where
    by : (o : Option Standing) → standing_of xs n ≡ o → Among (if is_sent o then with_standing xs n standings.Lost else xs) nodes
    by (Some (standings.InFlight c)) at =
        omega (
          arith,
          (moved xs (place_of n) (standings.InFlight c) standings.Lost at).asked,
          fewer_in xs (place_of n) standings.Lost nodes refl,
          among,
        )
    by (Some standings.Unasked) at = among
    by (Some standings.Lost) at = among
    by (Some standings.Left) at = among
    by (Some standings.Settled) at = among
    by None at = among

-- ---- each step

counts_itself : (n : Node) → ◌≡◌ {A = ℕ} (if is_same_node n n then 1 else 0) 1
counts_itself n = ap (λ (b : Bool). if b then 1 else 0) (is_node-same n)

-- the first node of a list that may be asked is one of the list
first_has : (xs : List Standing) (nodes : List Node) (n : Node) → first_askable xs nodes ≡ Some n → 1 ≤ times n nodes
first_has xs [] n e = absurd (cc)
first_has xs (m ∷ nodes) n e = by (may_ask (standing_of xs m)) (first_has xs nodes n) e
  where
    by : (b : Bool) → (first_askable xs nodes ≡ Some n → 1 ≤ times n nodes) → (if b then Some m else first_askable xs nodes) ≡ Some n
        → 1 ≤ (if is_same_node n m then 1 else 0) + times n nodes
    by true rest is = subst (λ (k : Node). 1 ≤ (if is_same_node k m then 1 else 0) + times k nodes) (same_Some m n is)
        (omega (arith, counts_itself m))
    by false rest is = omega (arith, rest is)

module _ (own other : RowMap) where
  among_asks : (x : Course) (w : Walk) → IsTrueWalk own other w → Among x.standings (differ own other)
      → Among (after_ask x (next_in x w)).standings (differ own other)
  among_asks x w is among = by (next_in x w) refl
    where
      by : (o : Option (Node × ℕ)) → next_in x w ≡ o → Among (after_ask x o).standings (differ own other)
      by None e = among
      by (Some p) e =
          let outstanding = times_has p.0 w.outstanding (first_has x.standings w.outstanding p.0 (next_first x w p e)) in
          let differs : contains_node p.0 (differ w.own other) ≡ true = asked_is_differ w other is.traced is.partner is.honest p.0
          (is.asked p.0 outstanding) in
          among_ask x.standings p.0 p.1 (differ own other) among (next_is x w p e).may
          (has_times p.0 (differ own other) (subst (λ (m : RowMap). contains_node p.0 (differ m other) ≡ true) is.own_is differs))

  among_loss : (x : Course) (n : Node) → Among x.standings (differ own other) → Among (after_loss x n).standings (differ own other)
  among_loss x n among = by (is_over x) (is_sent (standing_of x.standings n))
    where
      by : (over sent : Bool) → Among (if over then x else if sent then with_lost x n else x).standings (differ own other)
      by true sent = among
      by false true = among_lost x.standings n (differ own other) among
      by false false = among

  among_on : (x : Course) → Among x.standings (differ own other) → Among (after_go_on x).standings (differ own other)
  among_on x among = by (is_over x)
    where
      by : (over : Bool) → Among (if over then x else gone_on x).standings (differ own other)
      by true = among
      by false = among

  among_sorted_at : (x : Course) (a : Answer) (o : Option Standing) → Among x.standings (differ own other)
      → Among (sorted_at x a o).1.standings (differ own other)
  among_sorted_at x a (Some (standings.InFlight bytes)) among = among
  among_sorted_at x a (Some standings.Lost) among = among
  among_sorted_at x a (Some standings.Left) among = among
  among_sorted_at x a (Some standings.Settled) among = among
  among_sorted_at x a (Some standings.Unasked) among = among
  among_sorted_at x a None among = among

  among_sorted : (x : Course) (read : Option Answer) → Among x.standings (differ own other) → Among (sorted x read).1.standings (differ own other)
  among_sorted x None among = among
  among_sorted x (Some a) among = by (nat_eq a.offer x.offer.offer)
    where
      by : (ours : Bool) → Among (if ours then sorted_at x a (standing_of x.standings a.node) else (Err verdicts.Late, x)).1.standings
          (differ own other)
      by true = among_sorted_at x a (standing_of x.standings a.node) among
      by false = among

  among_judged : (x : Course) (n : Node) (leaf : Bool) (len : ℕ) (said : Result AnswerTaken Refusal) → may_take (standing_of x.standings n) ≡ true
      → Among x.standings (differ own other) → Among (judged x n leaf len said).1.standings (differ own other)
  among_judged x n leaf len (Ok taken) may among = among_end x.standings n standings.Settled (differ own other) among may refl
  among_judged x n leaf len (Err refusals.Crowded) may among = among_end x.standings n standings.Left (differ own other) among may refl
  among_judged x n leaf len (Err refusals.NotAsked) may among = among_end x.standings n standings.Settled (differ own other) among may refl
  among_judged x n leaf len (Err refusals.WrongDigest) may among = among_lost x.standings n (differ own other) among
  among_judged x n leaf len (Err refusals.NotCanonical) may among = among
  among_judged x n leaf len (Err refusals.JournalFull) may among = among_lost x.standings n (differ own other) among
  among_judged x n leaf len (Err refusals.NoMemory) may among = among_lost x.standings n (differ own other) among
  among_judged x n leaf len (Err e) may among = among

  among_step : (x : Course) (step : Step) → May x step → IsTrueStep own other step → Among x.standings (differ own other)
      → Among (after x step).standings (differ own other)
  among_step x (Asks w) may is among = among_asks x w is among
  among_step x (Loses n) may is among = among_loss x n among
  among_step x (Retracts n) may is among = among_lost x.standings n (differ own other) among
  among_step x GoesOn may is among = among_on x among
  among_step x Closes may is among = among
  among_step x (Sorts read) may is among = among_sorted x read among
  among_step x (Judges n leaf len said) may is among = among_judged x n leaf len said may.1 among

  few : (x : Course) (steps : List Step) → IsFair x → MayAll x steps → AreTrueSteps own other steps → Among x.standings (differ own other)
      → AsksFew (length (differ own other)) (after_all x steps).tally
  few x [] fair may are among = omega (arith, fair.again, among)
  few x (step ∷ steps) fair may are among = few (after x step) steps (follow x step fair may.0).fair may.1 are.1 (among_step x step may.0 are.0 among)

pub asks_few : (offer : Offer) (bounds : Bounds) (own other : RowMap) (steps : List Step) → MayAll (at_start offer bounds own.format) steps
    → AreTrueSteps own other steps → AsksFew (length (differ own other)) (after_all (at_start offer bounds own.format) steps).tally
asks_few offer bounds own other steps may are =
    let none : count_by is_asked (unasked own.format) ≡ 0 = none_counted is_asked (node_count own.format) refl in
    let most = count_by-le-length {X = Node} (λ n. is_fresh (standing_of (unasked own.format) n)) (differ own other) in
    few own other (at_start offer bounds own.format) steps (at_start_fair offer bounds own.format) may are (omega (arith, none, most))

-- Courses stay fair.
use Rattle.std.proofs.Common.{◌≡◌, ℕ, ◌≤◌, Bool, true, false, refl, ap, arith}
use Rattle.std.specs.Prelude.{◌||◌, nat_lt, is_some, Option, Some, None}
use Rattle.std.proofs.lemmas.Bool.{or_parts, ltb-false}
use Rattle.tree_nodes.specs.Nodes.{Node, place_of}
use Rattle.exchange.specs.declared.standing.Standing.{Standing}
use Rattle.exchange.specs.declared.standing.Standing.TheVariants.{Unasked, InFlight, Lost, Left, Settled}
use Rattle.exchange.specs.declared.report.End.{End}
use Rattle.exchange.specs.Standings.{is_in_flight, is_asked, is_lost, standing_of, may_ask, may_take, is_sent}
use Rattle.exchange.specs.Courses.{Course, IsFair, is_over, with_lost, retracted, gone_on}
use Rattle.exchange.specs.Asks.{after_ask}
use Rattle.exchange.specs.Answers.{with_bad, at_node, after_wrong, after_refused, after_taken, stop_by}
use Rattle.range_state.specs.declared.event.AnswerTaken.{AnswerTaken}
use Rattle.exchange.specs.declared.report.Stop.{Stop}
use Rattle.exchange.proofs.StandingLaws.{one, small, Moved, moved, losing}

-- the counts are within the bounds
pub record Goes (x : Course) : Type 0 where
  pub bad : x.tally.bad ≤ x.bounds.bad
  pub lost : x.tally.lost ≤ x.bounds.lost

pub goes : (x : Course) → is_over x ≡ false → Goes x
goes x going =
    let first = or_parts (is_some x.end || nat_lt x.bounds.bad x.tally.bad) (nat_lt x.bounds.lost x.tally.lost) going in
    let second = or_parts (is_some x.end) (nat_lt x.bounds.bad x.tally.bad) first.0 in
    record { bad = ltb-false x.bounds.bad x.tally.bad second.1; lost = ltb-false x.bounds.lost x.tally.lost first.1 }

-- an ask was sent
pub fair_ask : (x : Course) (n : Node) (a : Standing) (bytes : ℕ) → IsFair x → Goes x → x.stop ≡ None → standing_of x.standings n ≡ Some a
    → may_ask (Some a) ≡ true → IsFair (after_ask x (Some (n, bytes)))
fair_ask x n Unasked bytes fair going stop at may =
    let m : Moved x.standings (place_of n) Unasked (InFlight bytes) = moved x.standings (place_of n) Unasked (InFlight bytes) at in
    record {
      nodes = omega (arith, m.len, fair.nodes);
      again = omega (arith, m.asked, m.lost, fair.again);
      most = omega (arith, m.asked, m.lost, m.most, m.len, fair.again, going.bad, going.lost, fair.going stop);
      bad = fair.bad;
      lost = omega (arith, m.len, fair.lost);
      refused = omega (arith, m.ways_most, fair.going stop);
      sent = omega (arith, m.flights, fair.sent);
      going = λ _. fair.going stop;
    }
fair_ask x n Lost bytes fair going stop at may =
    let m : Moved x.standings (place_of n) Lost (InFlight bytes) = moved x.standings (place_of n) Lost (InFlight bytes) at in
    record {
      nodes = omega (arith, m.len, fair.nodes);
      again = omega (arith, m.asked, m.lost, fair.again);
      most = omega (arith, m.asked, m.lost, m.most, m.len, fair.again, going.bad, going.lost, fair.going stop);
      bad = fair.bad;
      lost = omega (arith, m.len, fair.lost);
      refused = omega (arith, m.ways_most, fair.going stop);
      sent = omega (arith, m.flights, fair.sent);
      going = λ _. fair.going stop;
    }
fair_ask x n (InFlight b) bytes fair going stop at may = absurd (cc)
fair_ask x n Left bytes fair going stop at may = absurd (cc)
fair_ask x n Settled bytes fair going stop at may = absurd (cc)

-- the same, whatever its standing was
pub fair_asked : (x : Course) (n : Node) (bytes : ℕ) → IsFair x → Goes x → x.stop ≡ None → may_ask (standing_of x.standings n) ≡ true
    → IsFair (after_ask x (Some (n, bytes)))
fair_asked x n bytes fair going stop may = by (standing_of x.standings n) refl may
  where
    by : (o : Option Standing) → standing_of x.standings n ≡ o → may_ask o ≡ true → IsFair (after_ask x (Some (n, bytes)))
    by (Some a) at m = fair_ask x n a bytes fair going stop at m
    by None at m = absurd (cc)

-- the standing of a node whose answer may be taken, when it is settled or left
pub record Ends (b : Standing) : Type 0 where
  pub asked : is_asked b ≡ true
  pub lost : is_lost b ≡ false
  pub flights : is_in_flight b ≡ false

pub settled : Ends Settled
settled = record { asked = refl; lost = refl; flights = refl }

pub left : Ends Left
left = record { asked = refl; lost = refl; flights = refl }

-- the answer for a node was taken, or its leaf was left
pub fair_end : (x : Course) (n : Node) (a b : Standing) → IsFair x → standing_of x.standings n ≡ Some a → may_take (Some a) ≡ true → Ends b
    → IsFair (at_node x n b)
fair_end x n (InFlight bytes) b fair at may ends =
    let m : Moved x.standings (place_of n) (InFlight bytes) b = moved x.standings (place_of n) (InFlight bytes) b at in
    let asked : one (is_asked b) ≡ 1 = ap one ends.asked in let lost : one (is_lost b) ≡ 0 = ap one ends.lost in
    let flights : one (is_in_flight b) ≡ 0 = ap one ends.flights in
    record {
      nodes = omega (arith, m.len, fair.nodes);
      again = omega (arith, m.asked, m.lost, fair.again, asked, lost);
      most = omega (arith, m.len, fair.most);
      bad = fair.bad;
      lost = omega (arith, m.len, fair.lost);
      refused = omega (arith, m.flights, m.len, fair.refused, flights);
      sent = omega (arith, m.flights, flights, fair.sent);
      going = fair.going;
    }
fair_end x n Lost b fair at may ends =
    let m : Moved x.standings (place_of n) Lost b = moved x.standings (place_of n) Lost b at in
    let asked : one (is_asked b) ≡ 1 = ap one ends.asked in let lost : one (is_lost b) ≡ 0 = ap one ends.lost in
    let flights : one (is_in_flight b) ≡ 0 = ap one ends.flights in
    record {
      nodes = omega (arith, m.len, fair.nodes);
      again = omega (arith, m.asked, m.lost, fair.again, asked, lost);
      most = omega (arith, m.len, fair.most);
      bad = fair.bad;
      lost = omega (arith, m.len, fair.lost);
      refused = omega (arith, m.flights, m.len, fair.refused, flights);
      sent = omega (arith, m.flights, flights, fair.sent);
      going = fair.going;
    }
fair_end x n Unasked b fair at may ends = absurd (cc)
fair_end x n Left b fair at may ends = absurd (cc)
fair_end x n Settled b fair at may ends = absurd (cc)

-- the same, whatever its standing was
pub fair_ended : (x : Course) (n : Node) (b : Standing) → IsFair x → may_take (standing_of x.standings n) ≡ true → Ends b → IsFair (at_node x n b)
fair_ended x n b fair may ends = by (standing_of x.standings n) refl may
  where
    by : (o : Option Standing) → standing_of x.standings n ≡ o → may_take o ≡ true → IsFair (at_node x n b)
    by (Some a) at m = fair_end x n a b fair at m ends
    by None at m = absurd (cc)

-- a session has failed
pub fair_failed : (x : Course) (e : Option End) → IsFair x → IsFair (record x { end = e })
fair_failed x e fair = record {
  nodes = fair.nodes;
  again = fair.again;
  most = fair.most;
  bad = fair.bad;
  lost = fair.lost;
  refused = fair.refused;
  sent = fair.sent;
  going = fair.going;
}

-- one more bad answer
pub fair_bad : (x : Course) → IsFair x → Goes x → IsFair (with_bad x)
fair_bad x fair going = record {
  nodes = fair.nodes;
  again = omega (arith, fair.again);
  most = fair.most;
  bad = omega (arith, going.bad);
  lost = fair.lost;
  refused = fair.refused;
  sent = fair.sent;
  going = fair.going;
}

-- an answer of another digest
pub fair_wrong : (x : Course) (n : Node) → IsFair x → Goes x → IsFair (after_wrong x n)
fair_wrong x n fair going =
    let l = losing x.standings n in let few = small (is_sent (standing_of x.standings n)) in
    record {
      nodes = omega (arith, l.len, fair.nodes);
      again = omega (arith, l.asked, l.lost, fair.again, few);
      most = omega (arith, l.len, fair.most);
      bad = omega (arith, going.bad);
      lost = omega (arith, l.len, fair.lost);
      refused = omega (arith, l.flights, l.len, fair.refused);
      sent = omega (arith, l.flights, fair.sent);
      going = fair.going;
    }

-- the ask for a node was lost, that was in flight
pub fair_lost : (x : Course) (n : Node) → IsFair x → Goes x → IsFair (with_lost x n)
fair_lost x n fair going =
    let l = losing x.standings n in let few = small (is_sent (standing_of x.standings n)) in
    record {
      nodes = omega (arith, l.len, fair.nodes);
      again = omega (arith, l.asked, l.lost, fair.again, few);
      most = omega (arith, l.len, fair.most);
      bad = fair.bad;
      lost = omega (arith, l.len, going.lost);
      refused = omega (arith, l.flights, l.len, fair.refused);
      sent = omega (arith, l.flights, fair.sent);
      going = fair.going;
    }

-- the ask for a node was taken back, that was in flight
pub fair_retracted : (x : Course) (n : Node) → IsFair x → is_sent (standing_of x.standings n) ≡ true → IsFair (retracted x n)
fair_retracted x n fair sent =
    let l = losing x.standings n in let flights : one (is_sent (standing_of x.standings n)) ≡ 1 = ap one sent in
    record {
      nodes = omega (arith, l.len, fair.nodes);
      again = omega (arith, l.asked, l.lost, l.flights, fair.again, fair.sent, flights);
      most = omega (arith, l.len, fair.most);
      bad = fair.bad;
      lost = omega (arith, l.len, fair.lost);
      refused = omega (arith, l.flights, l.len, fair.refused);
      sent = omega (arith, l.flights, fair.sent, flights);
      going = fair.going;
    }

-- there is one
pub retractable : (x : Course) (n : Node) → IsFair x → is_sent (standing_of x.standings n) ≡ true → 1 ≤ x.tally.asks
retractable x n fair sent =
    let l = losing x.standings n in let flights : one (is_sent (standing_of x.standings n)) ≡ 1 = ap one sent in
    omega (arith, l.flights, fair.sent, flights)

-- asks are sent again
pub fair_on : (x : Course) → IsFair x → Goes x → IsFair (gone_on x)
fair_on x fair going =
    record {
      nodes = fair.nodes;
      again = omega (arith, fair.again);
      most = fair.most;
      bad = fair.bad;
      lost = omega (arith, going.lost, fair.refused);
      refused = omega (arith, fair.refused);
      sent = fair.sent;
      going = λ _. refl;
    }

stopped : (s : Option Stop) (cause : Stop) → stop_by s cause ≡ None → ⊥
stopped None cause e = absurd (cc)
stopped (Some first) cause e = absurd (cc)

-- an answer that there was no room for
pub fair_refused : (x : Course) (n : Node) (cause : Stop) → IsFair x → IsFair (after_refused x n cause)
fair_refused x n cause fair =
    let l = losing x.standings n in let few = small (is_sent (standing_of x.standings n)) in
    record {
      nodes = omega (arith, l.len, fair.nodes);
      again = omega (arith, l.asked, l.lost, fair.again);
      most = omega (arith, l.len, fair.most);
      bad = fair.bad;
      lost = omega (arith, l.len, fair.lost);
      refused = omega (arith, l.flights, l.len, fair.refused, few);
      sent = omega (arith, l.flights, fair.sent);
      going = λ none. absurd (stopped x.stop cause none);
    }

-- a text was taken
pub fair_taken : (x : Course) (n : Node) (leaf : Bool) (len : ℕ) (taken : AnswerTaken) → IsFair x → may_take (standing_of x.standings n) ≡ true
    → IsFair (after_taken x n leaf len taken)
fair_taken x n leaf len taken fair may =
    let f = fair_ended x n Settled fair may settled in
    record { nodes = f.nodes; again = f.again; most = f.most; bad = f.bad; lost = f.lost; refused = f.refused; sent = f.sent; going = f.going }

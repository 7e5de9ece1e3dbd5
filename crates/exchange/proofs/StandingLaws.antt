-- Counts of standings, when one of them changes.
use Rattle.std.proofs.Common.{◌≡◌, ℕ, ◌+◌, ◌≤◌, ◌<◌, List, [], ◌∷◌, length, get_or, set, cond, Bool, true, false, refl, ap, sym, subst, ◌∙◌, arith}
use Rattle.std.specs.Prelude.{Option, Some, None, slice_get, if◌then◌else◌}
use Rattle.std.specs.List.{sum_by, count_by}
use Rattle.std.proofs.lemmas.List.{length-set}
use Rattle.std.proofs.lemmas.List.Sums.{sum_by-cons, sum_by-set, count_by-le-length}
use Rattle.std.proofs.lemmas.Option.{same_Some, slice_get_within, get_or_from_slice_get}
use Rattle.exchange.specs.declared.standing.Standing.{Standing}
use Rattle.exchange.specs.declared.standing.Standing.TheVariants.{Unasked, InFlight, Lost, Left, Settled}
use Rattle.tree_nodes.specs.Nodes.{Node, place_of}
use Rattle.exchange.specs.Standings.{is_in_flight, is_asked, is_lost, is_sent, sent_bytes, may_ask, may_take}
use Rattle.exchange.specs.Standings.{flight_bytes, in_flight, bytes_in_flight, standing_of}
use Rattle.exchange.specs.Standings.{with_standing, lost_in, first_askable}

abbrev pub one : Bool → ℕ
one b = cond {A = ℕ} b 1 0

pub small : (b : Bool) → one b ≤ 1
small true = omega arith
small false = omega arith

-- the standing at a place is b in the place of a
pub record Moved (xs : List Standing) (i : ℕ) (a b : Standing) : Type 0 where
  pub within : i < length xs
  pub len : length (set xs i b) ≡ length xs
  pub flights : count_by is_in_flight (set xs i b) + one (is_in_flight a) ≡ count_by is_in_flight xs + one (is_in_flight b)
  pub asked : count_by is_asked (set xs i b) + one (is_asked a) ≡ count_by is_asked xs + one (is_asked b)
  pub lost : count_by is_lost (set xs i b) + one (is_lost a) ≡ count_by is_lost xs + one (is_lost b)
  pub bytes : sum_by flight_bytes (set xs i b) + flight_bytes a ≡ sum_by flight_bytes xs + flight_bytes b
  pub most : count_by is_asked (set xs i b) ≤ length (set xs i b)
  pub ways_most : count_by is_in_flight (set xs i b) ≤ length (set xs i b)

pub moved : (xs : List Standing) (i : ℕ) (a b : Standing) → slice_get xs i ≡ Some a → Moved xs i a b
moved xs i a b there =
    let lt = slice_get_within xs i a there in
    let at : get_or xs i a ≡ a = get_or_from_slice_get xs i a a there in
    record {
      within = lt;
      len = length-set xs i b;
      flights = ap (λ (s : Standing). count_by is_in_flight (set xs i b) + one (is_in_flight s)) (sym at)
          ∙ sum_by-set {X = Standing} (λ s. one (is_in_flight s)) xs i b a lt;
      asked = ap (λ (s : Standing). count_by is_asked (set xs i b) + one (is_asked s)) (sym at)
          ∙ sum_by-set {X = Standing} (λ s. one (is_asked s)) xs i b a lt;
      lost = ap (λ (s : Standing). count_by is_lost (set xs i b) + one (is_lost s)) (sym at)
          ∙ sum_by-set {X = Standing} (λ s. one (is_lost s)) xs i b a lt;
      bytes = ap (λ (s : Standing). sum_by flight_bytes (set xs i b) + flight_bytes s) (sym at) ∙ sum_by-set {X = Standing} flight_bytes xs i b a lt;
      most = count_by-le-length {X = Standing} is_asked (set xs i b);
      ways_most = count_by-le-length {X = Standing} is_in_flight (set xs i b);
    }

no_more : (s : Standing) (count bytes : ℕ) → (count ≡ 0 → bytes ≡ 0) → one (is_in_flight s) + count ≡ 0 → flight_bytes s + bytes ≡ 0
no_more (InFlight n) count bytes none e = absurd (omega (arith, e))
no_more Unasked count bytes none e = omega (arith, none (omega (arith, e)))
no_more Lost count bytes none e = omega (arith, none (omega (arith, e)))
no_more Left count bytes none e = omega (arith, none (omega (arith, e)))
no_more Settled count bytes none e = omega (arith, none (omega (arith, e)))

-- if no ask is in flight, no answer is
pub no_bytes : (xs : List Standing) → in_flight xs ≡ 0 → bytes_in_flight xs ≡ 0
no_bytes [] none = refl
no_bytes (s ∷ xs) none = sum_by-cons {X = Standing} flight_bytes s xs
    ∙ no_more s (count_by is_in_flight xs) (bytes_in_flight xs) (no_bytes xs)
    (sym (sum_by-cons {X = Standing} (λ x. one (is_in_flight x)) s xs) ∙ none)

-- the counts when the ask for a node is lost, if it is in flight
pub record Losing (xs : List Standing) (n : Node) : Type 0 where
  pub len : length (lost_in xs n) ≡ length xs
  pub asked : count_by is_asked (lost_in xs n) ≡ count_by is_asked xs
  pub lost : count_by is_lost (lost_in xs n) ≡ count_by is_lost xs + one (is_sent (standing_of xs n))
  pub flights : count_by is_in_flight (lost_in xs n) + one (is_sent (standing_of xs n)) ≡ count_by is_in_flight xs

-- as another list, and another test, that are equal
pub record LosingTo (xs ys : List Standing) (sent : Bool) : Type 0 where
  pub len : length ys ≡ length xs
  pub asked : count_by is_asked ys ≡ count_by is_asked xs
  pub lost : count_by is_lost ys ≡ count_by is_lost xs + one sent
  pub flights : count_by is_in_flight ys + one sent ≡ count_by is_in_flight xs

losing_same : (xs : List Standing) → LosingTo xs xs false
losing_same xs = record { len = refl; asked = refl; lost = omega arith; flights = omega arith }

losing_one : (xs : List Standing) (n : Node) (bytes : ℕ) → standing_of xs n ≡ Some (InFlight bytes) → LosingTo xs (with_standing xs n Lost) true
losing_one xs n bytes at =
    let m = moved xs (place_of n) (InFlight bytes) Lost at in
    record { len = m.len; asked = omega (arith, m.asked); lost = omega (arith, m.lost); flights = omega (arith, m.flights) }

losing_by : (xs : List Standing) (n : Node) (o : Option Standing) → standing_of xs n ≡ o
    → LosingTo xs (if is_sent o then with_standing xs n Lost else xs) (is_sent o)
losing_by xs n (Some (InFlight bytes)) at = losing_one xs n bytes at
losing_by xs n (Some Unasked) at = losing_same xs
losing_by xs n (Some Lost) at = losing_same xs
losing_by xs n (Some Left) at = losing_same xs
losing_by xs n (Some Settled) at = losing_same xs
losing_by xs n None at = losing_same xs

pub losing : (xs : List Standing) (n : Node) → Losing xs n
losing xs n =
    let l = losing_by xs n (standing_of xs n) refl in
    record { len = l.len; asked = l.asked; lost = l.lost; flights = l.flights }

-- the sums when the ask for a node is sent
pub record Sending (xs : List Standing) (n : Node) (bytes : ℕ) : Type 0 where
  pub within : place_of n < length xs
  pub flights : in_flight (with_standing xs n (InFlight bytes)) ≡ in_flight xs + 1
  pub bytes_are : bytes_in_flight (with_standing xs n (InFlight bytes)) ≡ bytes_in_flight xs + bytes

sending_by : (xs : List Standing) (n : Node) (bytes : ℕ) (o : Option Standing) → standing_of xs n ≡ o → may_ask o ≡ true → Sending xs n bytes
sending_by xs n bytes (Some Unasked) at may = let m = moved xs (place_of n) Unasked (InFlight bytes) at in
    record { within = m.within; flights = omega (arith, m.flights); bytes_are = omega (arith, m.bytes) }
sending_by xs n bytes (Some Lost) at may = let m = moved xs (place_of n) Lost (InFlight bytes) at in
    record { within = m.within; flights = omega (arith, m.flights); bytes_are = omega (arith, m.bytes) }
sending_by xs n bytes (Some (InFlight b)) at may = absurd (cc)
sending_by xs n bytes (Some Left) at may = absurd (cc)
sending_by xs n bytes (Some Settled) at may = absurd (cc)
sending_by xs n bytes None at may = absurd (cc)

pub sending : (xs : List Standing) (n : Node) (bytes : ℕ) → may_ask (standing_of xs n) ≡ true → Sending xs n bytes
sending xs n bytes may = sending_by xs n bytes (standing_of xs n) refl may

-- the sums when a node's ask ends
pub record Ending (xs : List Standing) (n : Node) (b : Standing) (o : Option Standing) : Type 0 where
  pub within : place_of n < length xs
  pub flights : in_flight (with_standing xs n b) + one (is_sent o) ≡ in_flight xs
  pub bytes_are : bytes_in_flight (with_standing xs n b) + sent_bytes o ≡ bytes_in_flight xs

none_in_flight : (b : Standing) → is_in_flight b ≡ false → flight_bytes b ≡ 0
none_in_flight (InFlight n) e = absurd (cc)
none_in_flight Unasked e = refl
none_in_flight Lost e = refl
none_in_flight Left e = refl
none_in_flight Settled e = refl

ending_by : (xs : List Standing) (n : Node) (b : Standing) (o : Option Standing) → standing_of xs n ≡ o → may_take o ≡ true → is_in_flight b ≡ false
    → Ending xs n b o
ending_by xs n b (Some (InFlight bytes)) at may quiet =
    let m = moved xs (place_of n) (InFlight bytes) b at in let flights : one (is_in_flight b) ≡ 0 =
    ap one quiet in
    record { within = m.within; flights = omega (arith, m.flights, flights); bytes_are = omega (arith, m.bytes, none_in_flight b quiet) }
ending_by xs n b (Some Lost) at may quiet = let m = moved xs (place_of n) Lost b at in let flights : one (is_in_flight b) ≡ 0 = ap one quiet in
    record { within = m.within; flights = omega (arith, m.flights, flights); bytes_are = omega (arith, m.bytes, none_in_flight b quiet) }
ending_by xs n b (Some Unasked) at may quiet = absurd (cc)
ending_by xs n b (Some Left) at may quiet = absurd (cc)
ending_by xs n b (Some Settled) at may quiet = absurd (cc)
ending_by xs n b None at may quiet = absurd (cc)

pub ending : (xs : List Standing) (n : Node) (b : Standing) → may_take (standing_of xs n) ≡ true → is_in_flight b ≡ false
    → Ending xs n b (standing_of xs n)
ending xs n b may quiet = ending_by xs n b (standing_of xs n) refl may quiet

-- the first node that may be asked may be asked
pub first_may : (xs : List Standing) (nodes : List Node) (n : Node) → first_askable xs nodes ≡ Some n → may_ask (standing_of xs n) ≡ true
first_may xs [] n e = absurd (cc)
first_may xs (m ∷ nodes) n e = first_by xs m nodes n (may_ask (standing_of xs m)) refl (first_may xs nodes n) e
  where
    first_by : (xs : List Standing) (m : Node) (nodes : List Node) (n : Node) (b : Bool) → may_ask (standing_of xs m) ≡ b
        → (first_askable xs nodes ≡ Some n → may_ask (standing_of xs n) ≡ true) → (if b then Some m else first_askable xs nodes) ≡ Some n
        → may_ask (standing_of xs n) ≡ true
    first_by xs m nodes n true may rest e = subst (λ (k : Node). may_ask (standing_of xs k) ≡ true) (same_Some m n e) may
    first_by xs m nodes n false may rest e = rest e

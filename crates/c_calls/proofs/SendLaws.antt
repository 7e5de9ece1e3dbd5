-- The message of an ask that an exchange sends.
use Rattle.std.proofs.Common.{◌≡◌, ◌≤◌, ℕ, List, length, refl, sym, subst, ap, ◌∙◌}
use Rattle.std.specs.Prelude.{Bool, nat_le, Option, Some, None}
use Rattle.std.proofs.lemmas.Bool.{le-leb}
use Rattle.walk_messages.specs.declared.message.Ask.{Ask}
use Rattle.range_state.specs.State.{State}
use Rattle.range_state.specs.declared.«record».Record.{Record}
use Rattle.tree_nodes.specs.Nodes.{Node}
use Rattle.exchange.specs.Asks.{next_in, after_ask}
use Rattle.exchange.specs.Exchanges.{on, record_in, asks_of, outlines_of}
use Rattle.exchange.specs.declared.exchange.Exchange.{Exchange}
use Rattle.c_calls.specs.Exchanges.{WritesAsked, WritesSent, WritesNext}

-- an ask leaves the session of an exchange as it is
record_same : (x : Exchange) (s : State) (r : Option Record) → record_in (asks_of x r).1 s ≡ record_in x s
record_same x s None = refl
record_same x s (Some r) = by (next_in x.course r.session)
  where
    by : (o : Option (Node × ℕ)) → record_in (on x (after_ask x.course o)) s ≡ record_in x s
    by None = refl
    by (Some p) = refl

pub sends : (x z y : Exchange) (s : State) (ask : Ask) (before after : ℕ × List ℕ) → Some ask ≡ (asks_of x (record_in x s)).0
    → z ≡ (asks_of x (record_in x s)).1 → 8 ≤ length before.1
    → WritesAsked ask (outlines_of z (record_in z s) ask.node (length before.1)) before after z y
    → WritesNext (nat_le 8 (length before.1)) 0 before after (record_in x s) x y
sends x z y s ask before after first second long writes =
    let r = record_in x s in
    let same : record_in z s ≡ r = ap (λ (e : Exchange). record_in e s) second ∙ record_same x s r in
    let sent : WritesSent (Some ask, z) r before after y = subst
    (λ (q : Option Record). WritesAsked ask (outlines_of z q ask.node (length before.1)) before after z y) same writes in
    let whole : WritesSent (asks_of x r) r before after y = subst (λ (p : Option Ask × Exchange). WritesSent p r before after y)
    (λ i. (first i, second i)) sent in
    subst (λ (b : Bool). WritesNext b 0 before after r x y) (sym (le-leb 8 (length before.1) long)) (refl, whole)

use Rattle.std.proofs.Common.{rules, ◌+◌, length, sym, ap, ◌∙◌, inr, arith, refl}
use Rattle.std.specs.Prelude.{Result, Ok, Err, OnErr}
use Rattle.range_state.specs.State.{State}
use Rattle.range_state.specs.Sessions.{unknown_at}
use Rattle.range_state.proofs.SyncLaws.{IsNext, IsDone, open_ok, begun, known_session, next_is, done_is, is_shown, shallow, fewer_left, answered}
use Rattle.range_state.proofs.SyncLaws.{stopped, finished, refused_at, all_asked, all_asked_at, stopped_before, stopped_after}
use Rattle.range_state.proofs.state.RangeState.sync_with.Goals as goal
use Rattle.range_state.proofs.state.RangeState.sync_with.Goals.{In-Some, In_default}

on_err : {T E : Type 0} (r : Result T E) (P : Type 0) → P → OnErr r P
on_err (Ok x) P p = tt
on_err (Err e) P p = p

pub loop-node-init : goal.loop-node-init
loop-node-init c =
    let opened = open_ok c.args.self.now c.open_with.new.self c.args.partner c.in_ok-open_with.field-0 c.root.result c.in_ok-open_with.ensures in
    let begin = begun c.args.self.now c.open_with.new.self c.args.seat c.args.partner c.root.result c.args.other.now c.root.ensures opened in
    record {
      under = begin.under;
      partner = begin.partner_is;
      at = search rules;
      before = search rules;
    }

pub returns-in_err-node : goal.returns-in_err-node
returns-in_err-node c = absurd (let known = known_session c.loop-node.invariant.under c.loop-node.invariant.at in let clash = sym known
    ∙ c.in_err-node.ensures.first in cc)

-- the next node
next : (c : In-Some) → IsNext c.args.self.now c.loop-node.self c.args.seat c.len-place.result c.loop-node.known c.args.other.now
    c.loop-node.invariant.under c.in-Some.node
next c = next_is c.loop-node.invariant.under c.loop-node.invariant.at c.outstanding_at.ensures.valid c.requires c.format-format.ensures.valid
    (rw c.in-Some.is at c.in_ok-node.ensures.first.1)

-- there is none
done : (c : In_default) → IsDone c.args.self.now c.loop-node.self c.args.seat c.len-place.result c.loop-node.known c.args.other.now
    c.loop-node.invariant.under
done c = done_is c.loop-node.invariant.under c.loop-node.invariant.at c.outstanding_at.ensures.valid c.requires c.format-format.ensures.valid
    (rw c.in_default.is at c.in_ok-node.ensures.first.1)

pub answer_from-requires : goal.answer_from-requires
answer_from-requires c = shallow (next (goal.at.answer_from-requires c).In-Some)

pub loop-node-smaller : goal.loop-node-smaller
loop-node-smaller c =
    let at = next (goal.at.loop-node-smaller c).In-Some in
    fewer_left at (answered at c.in_ok-known-in-Ok.ensures.1 c.in-Ok.ensures)

pub loop-node-preserved : goal.loop-node-preserved
loop-node-preserved c =
    let moved = answered (next (goal.at.loop-node-preserved c).In-Some) c.in_ok-known-in-Ok.ensures.1 c.in-Ok.ensures in
    record {
      under = moved.under;
      partner = moved.partner ∙ c.loop-node.invariant.partner;
      at = c.loop-node.invariant.at;
      before = c.loop-node.invariant.before;
    }

pub synced-requires : goal.synced-requires
synced-requires c =
    let stop = stopped (next (goal.at.synced-requires c).In-Some) (search rules) c.in-Err.ensures in
    record {
      before = omega (arith, c.loop-node.invariant.before, c.loop-node.invariant.under.grown, ap (λ (x : State). length x.store.entries) stop.1);
      there = ap (λ (x : State). unknown_at x c.len-place.result) stop.1 ∙ known_session c.loop-node.invariant.under c.loop-node.invariant.at;
    }

pub returns-in-Err : goal.returns-in-Err
returns-in-Err c =
    let at = next (goal.at.returns-in-Err c).In-Some in
    let stop = stopped at (search rules) c.in-Err.ensures in
    record {
      answers = (search rules, tt);
      ok = refused_at at stop (is_shown c.loop-node.invariant.before c.synced.ensures.accepted c.synced.ensures.known c.synced.ensures.asked
          c.synced.ensures.fault);
      session = all_asked_at at stop c.loop-node.invariant.partner;
      err = tt;
      late = tt;
    }

pub synced-requires-2-clause-there : goal.synced-requires-2-clause-there
synced-requires-2-clause-there c = known_session c.loop-node.invariant.under c.loop-node.invariant.at

pub returns-clause-ok : goal.returns-clause-ok
returns-clause-ok c = finished (done (goal.at.returns-clause-ok c).In_default)
    (is_shown c.loop-node.invariant.before c.synced-2.ensures.accepted c.synced-2.ensures.known c.synced-2.ensures.asked c.synced-2.ensures.fault)

pub returns-clause-session : goal.returns-clause-session
returns-clause-session c = all_asked (done (goal.at.returns-clause-session c).In_default) c.loop-node.invariant.partner

pub returns-in_err-known-in-Ok-clause-late : goal.returns-in_err-known-in-Ok-clause-late
returns-in_err-known-in-Ok-clause-late c =
    let at = next (goal.at.returns-in_err-known-in-Ok-clause-late c).In-Some in
    on_err c.from_residual-in_err-known-in-Ok.result _
    (inr (stopped_after at (answered {count = c.loop-node.known + c.in-Ok.taken.known} at refl c.in-Ok.ensures) c.loop-node.invariant.partner))

pub returns-in-Err-NoMemory-clause-late : goal.returns-in-Err-NoMemory-clause-late
returns-in-Err-NoMemory-clause-late c =
    inr (stopped_before (next (goal.at.returns-in-Err-NoMemory-clause-late c).In-Some)
    (rw c.in-Err-NoMemory.field-0-is at c.in-Err-NoMemory.ensures) c.loop-node.invariant.partner)

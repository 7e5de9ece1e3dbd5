-- What a pass gains by a partner's text, and why a sync worker is refused.
use Rattle.std.proofs.Common.{◌≡◌, inl, inr, ℕ, ◌+◌, ◌-◌, ◌≤◌, List, length, Option, Some, None, Result, Ok, Err, sym, ap, subst, ◌∙◌, arith}
use Rattle.std.proofs.Common.{length-append}
use Rattle.std.specs.Prelude.{IfOk, IfErr, OnErr}
use Rattle.std.specs.List.{AllByRecursion}
use Rattle.std.proofs.lemmas.List.{append_cancel_left}
use Rattle.vclock.specs.Outcome.{Does, through}
use Rattle.vclock.specs.declared.refusal.Refusal.{Refusal}
use Rattle.vclock.specs.declared.refusal.Refusal.TheVariants.{Crowded, JournalFull, UnknownSession, NotAsked, WrongDigest, NotCanonical, LinkLost}
use Rattle.vclock.specs.declared.refusal.Refusal.TheVariants.{NoMemory}
use Rattle.range_journal.specs.declared.journal.Entry.{Entry}
use Rattle.range_journal.specs.declared.journal.Source.{Source}
use Rattle.range_journal.specs.declared.journal.Source.TheVariants.{Partner}
use Rattle.sync_session.specs.Walks.{TakenText}
use Rattle.range_state.specs.declared.«record».Record.{Record}
use Rattle.range_state.specs.declared.event.AnswerTaken.{AnswerTaken}
use Rattle.range_state.specs.declared.event.AnswerCounted.{AnswerCounted}
use Rattle.range_state.specs.Records.{place_of, record_of}
use Rattle.range_state.specs.State.{State}
use Rattle.range_store.specs.Offers.{offers_of}
use Rattle.range_state.specs.Sessions.{taken_in, Refuses, TakesInner, TakesLeaf, TakesFor}
use Rattle.caller_pass.specs.Passes.{PassView, with_receipts, seen_after}
use Rattle.caller_pass.specs.Locks.{Locked, moved, IsRecorded, TellsAnswer}
use Rattle.caller_pass.proofs.PassLaws.{seen_rises}
use Rattle.ring_node.specs.Gains.{IsGain, Gains, GainsSome}
use Rattle.ring_node.specs.Links.{IsLostExactly}
use Rattle.ring_node.specs.Moments.{ChangedAtSomeMoment}
use Rattle.range_state.specs.Moments.{opening}
use Rattle.ring_node.specs.Walks.{IsOpeningBy, IsOpenRefusal, IsTakeRefusal}
use Rattle.range_state.specs.declared.local_rows.LocalRows.{LocalRows}
use Rattle.walk_messages.specs.declared.message.Offer.{Offer}
use Rattle.ring_node.proofs.BroughtLaws.{all_brought, seen_up}
use Rattle.ring_node.proofs.GainLaws.{some_same}

-- ---- the entries that a text brings

-- the receipts of a text are of such entries
abbrev AreBrought : ℕ → List Entry → State → Type 0
AreBrought seat receipts new = AllByRecursion (IsGain seat Partner (length new.store.entries)) receipts

by_inner : (s : State) (seat id : ℕ) (r : Record) (t : TakenText) (a : AnswerTaken) (new : State) → TakesInner s id r t a new
    → AreBrought seat a.receipts.items new
by_inner s seat id r t a new took = subst (λ (es : List Entry). AreBrought seat es new) (sym took.receipts) tt

by_leaf : (s : State) (seat id : ℕ) (r : Record) (t : TakenText) (a : AnswerTaken) (new : State) → TakesLeaf s seat id r t a new
    → AreBrought seat a.receipts.items new
by_leaf s seat id r t a new took =
    let b = all_brought s.store seat Partner (offers_of took.rows) in
    let same : a.receipts.items ≡ b.es = append_cancel_left s.store.entries a.receipts.items b.es (took.receipts ∙ b.grown) in
    let now : new.store.entries ≡ (taken_in s.store seat (offers_of took.rows)).entries = ap (λ (x : State). x.store.entries) took.new_is in
    subst (λ (es : List Entry). AreBrought seat es new) (sym same)
    (subst (λ (es : List Entry). AllByRecursion (IsGain seat Partner (length es)) b.es) (sym now) b.each)

by_text : (s : State) (seat id : ℕ) (t : TakenText) (a : AnswerTaken) (new : State) (o : Option Record) → TakesFor s seat id o t (Ok a) new
    → AreBrought seat a.receipts.items new
by_text s seat id t a new None took = absurd (let no : Ok a ≡ Err _ = took.0 in cc)
by_text s seat id t a new (Some r) took = elim took.1 [
  | inl inner ↦ by_inner s seat id r t a new inner
  | inr leaf ↦ by_leaf s seat id r t a new leaf
]

gains_kept : (l m : Locked) (p q : PassView) (id : ℕ) (t : TakenText) (a : AnswerCounted) → IsRecorded l p id t a m q → Gains p q Partner a.receipts
gains_kept l m p q id t a is =
    let es = is.taken.receipts.items in
    let count : a.receipts ≡ length es = ap (λ (x : AnswerCounted). x.receipts) is.count in
    let pass : q ≡ with_receipts p (length m.state.store.entries) es = is.pass in
    let brought = by_text l.state p.seat (place_of id l.state.records) t is.taken m.state (record_of id l.state.records) is.takes in
    let seen : q.seen ≡ seen_after p.seen (length m.state.store.entries) (length es) = ap (λ (x : PassView). x.seen) pass in
    record {
      gained = es;
      count = sym count;
      each = subst (λ n. AllByRecursion (IsGain p.seat Partner n) es) (sym seen)
          (seen_up p.seat Partner p.seen (length m.state.store.entries) es brought);
      receipts = ap (λ (x : PassView). x.receipts) pass;
      share = ap (λ (x : PassView). x.share) pass ∙ ap (λ n. p.share + n) (sym count);
      seen = subst (λ n. p.seen ≤ n) (sym seen) (seen_rises p.seen (length m.state.store.entries) (length es));
      seat = ap (λ (x : PassView). x.seat) pass;
      readings = ap (λ (x : PassView). x.readings) pass;
    }

-- ---- why a text is not taken

take_cause : (s : State) (seat id : ℕ) (r : Record) (t : TakenText) (e : Refusal) (new : State) → Refuses s seat id r t e new → IsTakeRefusal e
take_cause s seat id r t Crowded new h = tt
take_cause s seat id r t JournalFull new h = tt
take_cause s seat id r t UnknownSession new h = tt
take_cause s seat id r t NotAsked new h = tt
take_cause s seat id r t WrongDigest new h = tt
take_cause s seat id r t NotCanonical new h = tt
take_cause s seat id r t NoMemory new h = tt
take_cause s seat id r t e new h = absurd h.0

refused_for : (s : State) (seat id : ℕ) (t : TakenText) (e : Refusal) (new : State) (o : Option Record) → TakesFor s seat id o t (Err e) new
    → IsTakeRefusal e
refused_for s seat id t e new None h = let same : e ≡ UnknownSession = let is = h.0 in cc in subst IsTakeRefusal (sym same) tt
refused_for s seat id t e new (Some r) h = take_cause s seat id r t e new h

-- what a text tells through a lock
pub record TextTells (p q : PassView) (r : Result AnswerCounted Refusal) : Type 0 where
  pub gains : IfOk r (λ (a : AnswerCounted). Gains p q Partner a.receipts)
  pub same : OnErr r (q ≡ p)
  pub some : GainsSome p q Partner
  pub refusal : IfErr r IsTakeRefusal

pub text_tells : (l m : Locked) (p q : PassView) (id : ℕ) (t : TakenText) (r : Result AnswerCounted Refusal) → TellsAnswer l p id t r m q
    → TextTells p q r
text_tells l m p q id t (Ok a) is = let all = gains_kept l m p q id t a is in
    record { gains = all; same = tt; some = (a.receipts, all); refusal = tt }
text_tells l m p q id t (Err e) is =
    record {
      gains = tt;
      same = is.2;
      some = some_same p q Partner is.2;
      refusal = refused_for l.state p.seat (place_of id l.state.records) t e m.state (record_of id l.state.records) is.0;
    }

-- ---- which refusals do not say that the link failed

pub open_keeps : (T : Type 0) (before after : ℕ) (e : Refusal) → IsOpenRefusal e → after ≡ before → IsLostExactly {T = T} before after (Err e)
open_keeps T before after LinkLost none same = absurd none
open_keeps T before after e is same = same

pub take_keeps : (T : Type 0) (before after : ℕ) (e : Refusal) → IsTakeRefusal e → after ≡ before → IsLostExactly {T = T} before after (Err e)
take_keeps T before after LinkLost none same = absurd none
take_keeps T before after e is same = same

-- ---- with whom a session is opened

pub session_opened : (Right : Locked → Type 0) (rows : LocalRows) (partner id : ℕ) (offer : Offer)
    → ChangedAtSomeMoment Right (λ before after. Does (Ok id) before after (through (moved before) (opening rows before.state partner offer)))
    → ChangedAtSomeMoment Right (IsOpeningBy rows id partner)
session_opened Right rows partner id offer m = record { before = m.before; after = m.after; right = m.right; step = (offer, m.step) }

-- ---- how many came

pub gains_grow : (p q : PassView) (source : Source) → GainsSome p q source → length p.receipts ≤ length q.receipts
gains_grow p q source some = omega (arith, ap length some.1.receipts, length-append p.receipts some.1.gained)

pub gains_counted : (p q : PassView) (source : Source) (n : ℕ) → GainsSome p q source → n ≡ length q.receipts - length p.receipts → Gains p q source n
gains_counted p q source n some is =
    let all : some.0 ≡ n = omega (arith, is, ap length some.1.receipts, length-append p.receipts some.1.gained, some.1.count) in
    subst (λ m. Gains p q source m) all some.1

-- The counters that calls leave: each call keeps the entries, and may add some.
use Rattle.std.proofs.Common.{◌≡◌, ◌≤◌, ◌+◌, ℕ, Bool, true, false, cond, List, [], ◌∷◌, ◌++◌, Option, Some, None, Result, Ok, Err, refl, sym, ap}
use Rattle.std.proofs.Common.{subst, ◌∙◌, append-nil, append_assoc, inl, inr, arith}
use Rattle.std.specs.Prelude.{⊤}
use Rattle.vclock.specs.Outcome.{Outcome, gives, refuses, Does, DoesAtOnce, DoesOrNoMemory, through}
use Rattle.vclock.specs.declared.refusal.Refusal.{Refusal}
use Rattle.vclock.specs.declared.refusal.Refusal.TheVariants as refusals
use Rattle.version_set.specs.declared.version.Version.{Version}
use Rattle.range_journal.specs.declared.journal.Entry.{Entry}
use Rattle.range_journal.specs.declared.journal.Source.{Source}
use Rattle.range_journal.specs.declared.journal.Source.TheVariants.{Partner}
use Rattle.range_journal.specs.Counters.{top_counter}
use Rattle.range_journal.proofs.CounterLaws.{top-later}
use Rattle.snapshot.specs.RowMaps.{RowMap}
use Rattle.tree_nodes.specs.Nodes.{Node}
use Rattle.sync_session.specs.Walks.{TakenText}
use Rattle.range_store.specs.declared.receipt.Accepted.{Accepted}
use Rattle.range_store.specs.declared.receipt.Accepted.TheVariants.{Taken, Known}
use Rattle.range_state.specs.declared.event.AnswerTaken.{AnswerTaken}
use Rattle.range_state.specs.declared.event.Event.{Event}
use Rattle.range_state.specs.declared.event.Event.TheVariants as events
use Rattle.range_state.specs.declared.event.Reply.{Reply}
use Rattle.range_state.specs.declared.«record».Record.{Record}
use Rattle.vclock.specs.declared.format.Format.{Format}
use Rattle.vclock.specs.declared.format.Format.TheVariants.{One, Two}
use Rattle.walk_messages.specs.declared.message.Offer.{Offer}
use Rattle.sync_session.specs.Steps.{cancelled_by}
use Rattle.range_store.specs.declared.context_test.ContextTest.TheVariants.{Fresh}
use Rattle.range_state.specs.Records.{place_of, record_of}
use Rattle.range_state.specs.State.{State, with_store}
use Rattle.range_store.specs.Store.{Store, accept, install, entry_of, put_entry, journaled, rows_now, dirty_fault, tree_in, with_tree}
use Rattle.range_tree.specs.Jobs.{is_current, installed}
use Rattle.range_state.specs.Run.{IsStep, Run}
use Rattle.range_state.specs.Migrates.{migrate, migrated_from}
use Rattle.range_state.specs.Sessions.{cancel_record, crowd_fault, foreign_fault, open_session, opened, standings, walked_to, taken_in, leaf_fault}
use Rattle.range_state.specs.Sessions.{TakesText, TakesFor, Refuses}
use Rattle.range_store.specs.Offers.{offers_of, accepted_in}
use Rattle.range_state.specs.Syncs.{leaves_between, offers_at, known_in, synced, unless_refused, taken_leaves, Progress}
use Rattle.range_store.proofs.PutLaws.{past, put_by_gives, accept_gives}
use Rattle.range_store.proofs.TakenLaws.{Nothing, nothing, taken_grown}

-- t has the entries of s, and maybe more
record Grows (s t : State) : Type 0 where
  pub more : List Entry
  pub entries : t.store.entries ≡ s.store.entries ++ more

alike : (s t : State) → t.store.entries ≡ s.store.entries → Grows s t
alike s t e = record { more = []; entries = e ∙ sym (append-nil s.store.entries) }

same : (s t : State) → t ≡ s → Grows s t
same s t e = alike s t (ap (λ (x : State). x.store.entries) e)

one : (s : State) (t : Store) (e : Entry) → t ≡ journaled s.store e → Grows s (with_store s t)
one s t e is = record { more = e ∷ []; entries = ap (λ (x : Store). x.entries) is }

both : (s m t : State) → Grows s m → Grows m t → Grows s t
both s m t a b = record {
  more = a.more ++ b.more;
  entries = b.entries ∙ ap (λ (es : List Entry). es ++ b.more) a.entries
      ∙ append_assoc s.store.entries a.more b.more;
}

offered_on : (s : State) (seat : ℕ) (source : Source) (offers : List (List ℕ × Version))
    → Grows s (with_store s (accepted_in s.store seat source offers))
offered_on s seat source offers = let g = taken_grown Nothing s.store seat source offers (nothing offers) in
    record { more = g.more; entries = g.entries }

top_grows : (s t : State) (key : List ℕ) (node : ℕ) → Grows s t → top_counter s.store.entries key node ≤ top_counter t.store.entries key node
top_grows s t key node g = subst (λ (es : List Entry). top_counter s.store.entries key node ≤ top_counter es key node) (sym g.entries)
    (top-later s.store.entries g.more key node)

-- ---- calls by their outcomes

by_outcome : {T : Type 0} (r : Result T Refusal) (s t : State) (o : Outcome T State) → ((x : T) (u : State) → o ≡ gives x u → Grows s u)
    → Does r s t o → Grows s t
by_outcome (Ok x) s t o h does = h x t does
by_outcome (Err e) s t o h does = same s t does.0

by_outcome_at_once : {T : Type 0} (r : Result T Refusal) (s t : State) (o : Outcome T State) → ((x : T) (u : State) → o ≡ gives x u → Grows s u)
    → DoesAtOnce r s t o → Grows s t
by_outcome_at_once (Ok x) s t o h does = h x t does
by_outcome_at_once (Err e) s t o h does = same s t does.0

by_outcome_or_memory : {T : Type 0} (r : Result T Refusal) (s t : State) (o : Outcome T State) → ((x : T) (u : State) → o ≡ gives x u → Grows s u)
    → DoesOrNoMemory r s t o → Grows s t
by_outcome_or_memory (Ok x) s t o h does = h x t does
by_outcome_or_memory (Err e) s t o h does = same s t does.0

-- a call of the store
in_store : {T : Type 0} (s : State) (o : Outcome T Store) (x : T) (u : State) → ((y : T) (t : Store) → o ≡ gives y t → Grows s (with_store s t))
    → through (with_store s) o ≡ gives x u → Grows s u
in_store s (gives y t) x u h e = let now : with_store s t ≡ u = cc in subst (Grows s) now (h y t refl)
in_store s (refuses c) x u h e = absurd (let no : refuses c ≡ gives x u = e in cc)

sent : (s : State) (seat : ℕ) (source : Source) (key : List ℕ) (v : Version) (r : Accepted) (t : Store) → accept s.store seat source key v ≡ gives r t
    → Grows s (with_store s t)
sent s seat source key v (Taken x) t h = let came = accept_gives s.store seat source key v (Taken x) t h in
    one s t (entry_of s.store seat source key v) came.1
sent s seat source key v Known t h = alike s (with_store s t) (ap (λ (u : Store). u.entries) (accept_gives s.store seat source key v Known t h))

installed_on : (s : State) (node : Node) (text : List ℕ) (x : ⊤) (t : Store) → install s.store node text ≡ gives x t → Grows s (with_store s t)
installed_on s node text x t h = parts (is_current (tree_in s.store) node text) h
  where
    parts : (b : Bool) → through (with_tree s.store) (cond b (gives tt (installed (tree_in s.store) node text)) (refuses refusals.Stale)) ≡ gives x t
        → Grows s (with_store s t)
    parts true e = let now : with_tree s.store (installed (tree_in s.store) node text) ≡ t = cc in
        alike s (with_store s t) (ap (λ (y : Store). y.entries) (sym now))
    parts false e = absurd (cc)

opened_on : (s : State) (partner : ℕ) (offer : Offer) (x : ℕ) (u : State) → open_session s partner offer ≡ gives x u → Grows s u
opened_on s partner offer x u h =
    let given = past (dirty_fault s.store) _ x u
    (past (crowd_fault (standings s.records)) _ x u (past (foreign_fault s.store.config offer) _ x u h)) in
    let now : opened s partner offer.root ≡ u = cc in
    alike s u (ap (λ (y : State). y.store.entries) (sym now))

cancelled_on : (s : State) (id : ℕ) (o : Option Record) (x : ⊤) (u : State) → cancel_record s id o ≡ gives x u → Grows s u
cancelled_on s id None x u h = absurd (cc)
cancelled_on s id (Some r) x u h = let now : walked_to s id r (cancelled_by r.session r.session.state) ≡ u = cc in
    alike s u (ap (λ (y : State). y.store.entries) (sym now))

migrated_on : (s : State) (x : ⊤) (u : State) → migrate s ≡ gives x u → Grows s u
migrated_on s x u h = let now : migrated_from s.store.config.format s ≡ u = cc in
    alike s u (ap (λ (y : State). y.store.entries) (sym now) ∙ by_format s.store.config.format)
  where
    by_format : (f : Format) → (migrated_from f s).store.entries ≡ s.store.entries
    by_format One = refl
    by_format Two = refl

-- ---- a partner's text

refused_on : (s : State) (seat id : ℕ) (r : Record) (t : TakenText) (e : Refusal) (new : State) → Refuses s seat id r t e new → Grows s new
refused_on s seat id r t refusals.Crowded new h = same s new h.1
refused_on s seat id r t refusals.JournalFull new h = same s new h.1
refused_on s seat id r t refusals.NotCanonical new h = alike s new (ap (λ (y : State). y.store.entries) h.1)
refused_on s seat id r t e new h = same s new h.1

text_on : (s : State) (seat id : ℕ) (r : Record) (t : TakenText) (a : Result AnswerTaken Refusal) (new : State) → TakesText s seat id r t a new
    → Grows s new
text_on s seat id r t (Err e) new h = refused_on s seat id r t e new h
text_on s seat id r t (Ok a) new h = elim h.1 [
  | inl inner ↦ alike s new (ap (λ (y : State). y.store.entries) inner.new_is)
  | inr leaf ↦
      let g = offered_on s seat Partner (offers_of leaf.rows) in
      record { more = g.more; entries = ap (λ (y : State). y.store.entries) leaf.new_is ∙ g.entries }
]

answer_on : (s : State) (seat id : ℕ) (o : Option Record) (t : TakenText) (a : Result AnswerTaken Refusal) (new : State)
    → TakesFor s seat id o t a new → Grows s new
answer_on s seat id None t a new h = same s new h.1
answer_on s seat id (Some r) t a new h = text_on s seat id r t a new h

-- ---- events

step_grows : (s : State) (e : Event) (reply : Reply) (t : State) → IsStep s e reply t → Grows s t
unfolding IsStep
step_grows s (events.Put p) reply t h =
    by_outcome_or_memory h.0 s t _
    (λ x u. in_store s _ x u
    (λ y t given. one s t (put_entry s.store p.seat p.at p.key p.context p.kind p.value)
    (put_by_gives Fresh s.store p.seat p.at p.key p.context p.kind p.value y t given).1)) h.2.0
step_grows s (events.Accept a) reply t h = by_outcome h.0 s t _ (λ x u. in_store s _ x u (sent s a.seat a.source a.key a.version)) h.2
step_grows s (events.Get key) reply t h = same s t h.2.1
step_grows s (events.TakeJob skip) reply t h = same s t h.2.1
step_grows s (events.Install i) reply t h = by_outcome_at_once h.0 s t _ (λ x u. in_store s _ x u (installed_on s i.node i.hashed)) h.2
step_grows s events.Snapshot reply t h = same s t h.2.1
step_grows s (events.OpenSession o) reply t h = by_outcome h.0 s t _ (opened_on s o.partner o.offer) h.2
step_grows s (events.TakeAnswer a) reply t h = answer_on s a.seat (place_of a.id s.records) (record_of a.id s.records) _ h.0 t h.2
step_grows s (events.CancelSession id) reply t h = by_outcome_at_once h.0 s t _ (cancelled_on s (place_of id s.records) (record_of id s.records)) h.2
step_grows s events.Migrate reply t h = by_outcome h.0 s t _ (migrated_on s) h.2

run_grows : (s t : State) (es : List Event) (rs : List Reply) → Run s es rs t → Grows s t
unfolding Run
run_grows s t [] [] h = same s t h
run_grows s t [] (r ∷ rs) h = absurd h
run_grows s t (e ∷ es) [] h = absurd h
run_grows s t (e ∷ es) (r ∷ rs) h = both s h.0 t (step_grows s e r h.0 h.1) (run_grows h.0 t es rs h.3)

pub run_top : (s t : State) (es : List Event) (rs : List Reply) (key : List ℕ) (node : ℕ) → Run s es rs t
    → top_counter s.store.entries key node ≤ top_counter t.store.entries key node
run_top s t es rs key node h = top_grows s t key node (run_grows s t es rs h)

-- ---- whole sessions

leaves_grow : (s : Store) (seat : ℕ) (other : RowMap) (known : ℕ) (leaves : List Node) (key : List ℕ) (node : ℕ)
    → top_counter s.entries key node ≤ top_counter (taken_leaves s seat other known leaves).store.entries key node
leaves_grow s seat other known [] key node = omega arith
leaves_grow s seat other known (n ∷ leaves) key node =
    let next = taken_in s seat (offers_at other n) in
    let first = top_grows (record { store = s; records = []; moment = None; whole_before = 0; next_session = 0; settled = 0 })
    (record { store = next; records = []; moment = None; whole_before = 0; next_session = 0; settled = 0 }) key node
    (offered_on (record { store = s; records = []; moment = None; whole_before = 0; next_session = 0; settled = 0 }) seat Partner
    (offers_at other n)) in
    let later = leaves_grow next seat other (known + known_in s seat (offers_at other n)) leaves key node in
    by_fault (leaf_fault s seat (offers_at other n)) (taken_leaves next seat other (known + known_in s seat (offers_at other n)) leaves)
    (omega (arith, first, later))
  where
    by_fault : (f : Option Refusal) (more : Progress) → top_counter s.entries key node ≤ top_counter more.store.entries key node
        → top_counter s.entries key node ≤ top_counter (unless_refused f s known more).store.entries key node
    by_fault None more g = g
    by_fault (Some e) more g = omega arith

pub sync_top : (s : Store) (seat : ℕ) (other : RowMap) (key : List ℕ) (node : ℕ)
    → top_counter s.entries key node ≤ top_counter (synced s seat other).store.entries key node
sync_top s seat other key node = leaves_grow s seat other 0 (leaves_between (rows_now s) other) key node

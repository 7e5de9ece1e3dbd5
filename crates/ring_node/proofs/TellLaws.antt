-- What a call that a lock let through records in a pass.
use Rattle.std.proofs.Common.{◌≡◌, inl, inr, ℕ, ◌+◌, Bool, true, false, cond, List, [], ◌∷◌, length, Option, Some, None, Result, Ok, Err, refl, sym}
use Rattle.std.proofs.Common.{ap, subst, ◌∙◌, length-append}
use Rattle.std.specs.Prelude.{IfOk, IfErr, OnOk, OnErr, IsTrue, nat_lt}
use Rattle.std.proofs.lemmas.Bool.{ltb-true, ltb-false}
use Rattle.vclock.specs.Clock.{raised, raise_fault, Pairs}
use Rattle.vclock.specs.Bytes.{key_fault}
use Rattle.vclock.specs.Outcome.{Outcome, gives, refuses, is_given, through, Does, DoesOrNoMemory, ◌>>=◌, ◌>>◌}
use Rattle.vclock.specs.declared.refusal.Refusal.{Refusal}
use Rattle.vclock.specs.declared.refusal.Refusal.TheVariants.{Behind, NoMemory}
use Rattle.vclock.proofs.OutcomeLaws.{passed}
use Rattle.version_set.specs.Version.{offer_fault}
use Rattle.version_set.specs.declared.kind.Kind.{Kind}
use Rattle.version_set.specs.declared.version.Version.{Version}
use Rattle.range_journal.specs.declared.journal.Entry.{Entry}
use Rattle.range_journal.specs.declared.journal.Source.{Source}
use Rattle.range_journal.specs.declared.journal.Source.TheVariants.{Client}
use Rattle.range_journal.specs.Journal.{held}
use Rattle.range_store.specs.declared.receipt.Accepted.{Accepted}
use Rattle.range_store.specs.declared.receipt.Accepted.TheVariants.{Taken, Known}
use Rattle.range_store.specs.declared.context_test.ContextTest.{ContextTest}
use Rattle.range_store.specs.ContextTests.{put_by}
use Rattle.range_store.proofs.PutLaws.{put_by_is_put, put_by_refuses}
use Rattle.range_state.specs.State.{with_store}
use Rattle.range_store.specs.Store.{Store, accept, put, place_fault, ask_fault, full_fault, stale_fault, put_entry, put_version, entry_of, journaled}
use Rattle.range_store.specs.Store.{knows, admit}
use Rattle.range_store.proofs.StoreLaws.{first_none, later_none}
use Rattle.caller_pass.specs.Passes.{PassView, with_receipts}
use Rattle.caller_pass.specs.Locks.{Locked, UnreadView, recorded, put_in_by, accept_in, after_sent, first_missing, missing_fault, behind_fault}
use Rattle.caller_pass.specs.Locks.{get_in, plainly}
use Rattle.ring_node.specs.Passes.{IsReceiptOf, HasReceiptOf, IsSent, IsPutRefusal, IsSentRefusal, IsBehind}
use Rattle.ring_node.proofs.OutcomeLaws.{given, within, refused, first_cause}
use Rattle.ring_node.proofs.CauseLaws.{of_key, of_value, of_range, place_cause, clock_cause, crowd_cause, where_holds, where_fails}

-- a new entry, and the pass that has its receipt
record Admitted (l : Locked) (p : PassView) (x e : Entry) (s : Store) : Type 0 where
  pub entry : e ≡ x
  pub kept : (recorded l p (with_store l.state s) (e ∷ [])).1 ≡ with_receipts p (e.number + 1) (e ∷ [])

admitted : (l : Locked) (p : PassView) (x e : Entry) (s : Store) → x.number ≡ length l.state.store.entries → admit l.state.store x ≡ gives e s
    → Admitted l p x e s
admitted l p x e s number is =
    let full = passed (full_fault l.state.store) _ e s is in
    let same : e ≡ x = let h = full.1 in cc in
    let grown : s ≡ journaled l.state.store x = let h = full.1 in cc in
    let long : length s.entries ≡ e.number + 1 = ap (λ (t : Store). length t.entries) grown
    ∙ (length-append l.state.store.entries (x ∷ []) ∙ ap (λ n. n + 1) (sym number ∙ ap (λ (y : Entry). y.number) (sym same))) in
    record { entry = same; kept = ap (λ n. with_receipts p n (e ∷ [])) long }

-- the result of a put
pub record PutGave (p q : PassView) (at : ℕ) (key : List ℕ) (context : Pairs) (kind : Kind) (value : List ℕ) (e : Entry) : Type 0 where
  pub receipt : IsReceiptOf p.seat Client key (put_version at context kind value) e
  pub kept : HasReceiptOf p q e
  pub fits : (key_fault key ≡ None) × (raise_fault context at ≡ None)

put_gave : (test : ContextTest) (l m : Locked) (p q : PassView) (at : ℕ) (key : List ℕ) (context : Pairs) (kind : Kind) (value : List ℕ) (e : Entry)
    → put_in_by test l p at key context kind value ≡ gives e (m, q) → PutGave p q at key context kind value e
put_gave test l m p q at key context kind value e is =
    let o = put_by test l.state.store p.seat at key context kind value in
    let after = λ (entry : Entry × Store). gives entry.0 (recorded l p (with_store l.state entry.1) (entry.0 ∷ [])) in
    let g = given o after e (m, q) (within (with_store l.state) o (λ entry. gives entry.0 (recorded l p entry.1 (entry.0 ∷ []))) ∙ is) in
    let gave = put_by_is_put test l.state.store p.seat at key context kind value g.first g.between g.gave in
    let place = passed (place_fault l.state.store.config key kind value) _ g.first g.between gave in
    let clock = passed (raise_fault context at) _ g.first g.between place.1 in
    let stale = passed (stale_fault (held l.state.store.entries key) (raised context at)) _ g.first g.between clock.1 in
    let crowd = passed (offer_fault (put_version at context kind value) (held l.state.store.entries key)) _ g.first g.between stale.1 in
    let a = admitted l p (put_entry l.state.store p.seat at key context kind value) g.first g.between refl crowd.1 in
    let same : g.first ≡ e = let h = g.then_gave in cc in
    let pass : q ≡ (recorded l p (with_store l.state g.between) (g.first ∷ [])).1 = let h = g.then_gave in cc in
    let whole : e ≡ put_entry l.state.store p.seat at key context kind value = sym same ∙ a.entry in
    record {
      receipt = record {
        seat_is = ap (λ (x : Entry). x.seat) whole;
        source_is = ap (λ (x : Entry). x.source) whole;
        key_is = ap (λ (x : Entry). x.key) whole;
        version_is = ap (λ (x : Entry). x.version) whole;
      };
      kept = pass ∙ (a.kept ∙ ap (λ (x : Entry). with_receipts p (x.number + 1) (x ∷ [])) same);
      fits = (first_none (key_fault key) _ place.0, clock.0);
    }

put_refused : (l : Locked) (p : PassView) (at : ℕ) (key : List ℕ) (context : Pairs) (kind : Kind) (value : List ℕ) (e : Refusal)
    → put l.state.store p.seat at key context kind value ≡ refuses e → IsPutRefusal at key context kind value e
put_refused l p at key context kind value e r =
    let Why : Refusal → Type 0 = IsPutRefusal at key context kind value in
    elim (first_cause (place_fault l.state.store.config key kind value) _ e r) as (λ _. Why e) [
      | inl place ↦
          elim (place_cause l.state.store.config key kind value e place) as (λ _. Why e) [
            | of_key same k ↦ subst Why (sym same) k
            | of_value same k odd ↦ subst Why (sym same) (k, odd)
            | of_range same k ↦ subst Why (sym same) k
          ]
      | inr placed ↦
          let k : key_fault key ≡ None = first_none (key_fault key) _ placed.0 in
          elim (first_cause (raise_fault context at) _ e placed.1) as (λ _. Why e) [
            | inl clock ↦
                elim (clock_cause context at e clock) as (λ _. Why e) [
                  | inl same ↦ subst Why (sym same) (k, clock ∙ ap (λ x. Some x) same)
                  | inr same ↦ subst Why (sym same) (k, clock ∙ ap (λ x. Some x) same)
                ]
            | inr raised_at ↦
                elim (first_cause (stale_fault (held l.state.store.entries key) (raised context at)) _ e raised_at.1) as (λ _. Why e) [
                  | inl stale ↦ subst Why (sym (where_holds _ _ e stale)) (k, raised_at.0)
                  | inr fresh ↦
                      elim (first_cause (offer_fault (put_version at context kind value) (held l.state.store.entries key)) _ e fresh.1) as
                      (λ _. Why e) [
                        | inl crowd ↦ subst Why (sym (crowd_cause (put_version at context kind value) (held l.state.store.entries key) e crowd))
                            (k, raised_at.0)
                        | inr fits ↦
                            elim (first_cause (full_fault l.state.store) _ e fits.1) as (λ _. Why e) [
                              | inl full ↦ subst Why (sym (where_fails _ _ e full)) (k, raised_at.0)
                              | inr room ↦ absurd (let h = room.1 in cc)
                            ]
                      ]
                ]
          ]
    ]

put_refused_by : (test : ContextTest) (l : Locked) (p : PassView) (at : ℕ) (key : List ℕ) (context : Pairs) (kind : Kind) (value : List ℕ)
    (e : Refusal) → put_in_by test l p at key context kind value ≡ refuses e → IsPutRefusal at key context kind value e
put_refused_by test l p at key context kind value e is =
    let Why : Refusal → Type 0 = IsPutRefusal at key context kind value in
    let o = put_by test l.state.store p.seat at key context kind value in
    let after = λ (entry : Entry × Store). gives entry.0 (recorded l p (with_store l.state entry.1) (entry.0 ∷ [])) in
    let r = refused o after e (λ x. refl) (within (with_store l.state) o (λ entry. gives entry.0 (recorded l p entry.1 (entry.0 ∷ []))) ∙ is) in
    elim (put_by_refuses test l.state.store p.seat at key context kind value e r) as (λ _. Why e) [
      | inl plain ↦ put_refused l p at key context kind value e plain
      | inr unread ↦
          subst Why (sym unread.1.1) (
            first_none (key_fault key) _ (first_none (place_fault l.state.store.config key kind value) _ unread.0),
            later_none (place_fault l.state.store.config key kind value) (raise_fault context at) unread.0,
          )
    ]

-- what a put says of pass and result
pub record PutTells (p q : PassView) (at : ℕ) (key : List ℕ) (context : Pairs) (kind : Kind) (value : List ℕ)
    (r : Result Entry Refusal) : Type 0 where
  pub receipt : IfOk r (IsReceiptOf p.seat Client key (put_version at context kind value))
  pub kept : IfOk r (HasReceiptOf p q)
  pub fits : OnOk r ((key_fault key ≡ None) × (raise_fault context at ≡ None))
  pub refusal : IfErr r (IsPutRefusal at key context kind value)
  pub same : OnErr r (q ≡ p)

pub put_tells : (test : ContextTest) (l m : Locked) (p q : PassView) (at : ℕ) (key : List ℕ) (context : Pairs) (kind : Kind) (value : List ℕ)
    (r : Result Entry Refusal) → DoesOrNoMemory r (l, p) (m, q) (put_in_by test l p at key context kind value)
    → IfErr r (λ e. e ≡ NoMemory → ask_fault l.state.store.config at key context kind value ≡ None) → PutTells p q at key context kind value r
put_tells test l m p q at key context kind value (Ok e) does early =
    let t = put_gave test l m p q at key context kind value e does in
    record { receipt = t.receipt; kept = t.kept; fits = t.fits; refusal = tt; same = tt }
put_tells test l m p q at key context kind value (Err e) does early =
    let Why : Refusal → Type 0 = IsPutRefusal at key context kind value in
    record {
      receipt = tt;
      kept = tt;
      fits = tt;
      refusal =
          elim does.1 as (λ _. Why e) [
            | inl short ↦
                let ask = early short in
                subst Why (sym short) (
                  first_none (key_fault key) _ (first_none (place_fault l.state.store.config key kind value) _ ask),
                  later_none (place_fault l.state.store.config key kind value) (raise_fault context at) ask,
                )
            | inr is ↦ put_refused_by test l p at key context kind value e is
          ];
      same = ap (λ (x : Locked × PassView). x.1) does.0;
    }

-- news that came
news_gave : (l : Locked) (p q : PassView) (source : Source) (key : List ℕ) (v : Version) (e : Entry) (s : Store) (known : Bool)
    → cond known (gives Known l.state.store)
    (offer_fault v (held l.state.store.entries key) >>
    (admit l.state.store (entry_of l.state.store p.seat source key v) >>= (λ taken. gives (Taken taken.0) taken.1))) ≡ gives (Taken e) s
    → q ≡ (recorded l p (with_store l.state s) (e ∷ [])).1 → IsReceiptOf p.seat source key v e × HasReceiptOf p q e
news_gave l p q source key v e s true is pass = absurd (let no : Known ≡ Taken e = cc in cc)
news_gave l p q source key v e s false is pass =
    let crowd = passed (offer_fault v (held l.state.store.entries key)) _ (Taken e) s is in
    let g = given (admit l.state.store (entry_of l.state.store p.seat source key v)) (λ taken. gives (Taken taken.0) taken.1) (Taken e) s crowd.1 in
    let taken : Taken g.first ≡ Taken e = let h = g.then_gave in cc in
    let same : g.first ≡ e = cc in
    let between : g.between ≡ s = let h = g.then_gave in cc in
    let a = admitted l p (entry_of l.state.store p.seat source key v) e s refl (let h = g.gave in cc) in (
      record {
        seat_is = ap (λ (x : Entry). x.seat) a.entry;
        source_is = ap (λ (x : Entry). x.source) a.entry;
        key_is = ap (λ (x : Entry). x.key) a.entry;
        version_is = ap (λ (x : Entry). x.version) a.entry;
      },
      pass ∙ a.kept,
    )

by_reply : (l : Locked) (p q : PassView) (source : Source) (key : List ℕ) (v : Version) (a : Accepted) (s : Store)
    → cond (knows l.state.store key v) (gives Known l.state.store)
    (offer_fault v (held l.state.store.entries key) >>
    (admit l.state.store (entry_of l.state.store p.seat source key v) >>= (λ taken. gives (Taken taken.0) taken.1))) ≡ gives a s
    → q ≡ (after_sent l p a (with_store l.state s)).1 → IsSent p source key v q a
by_reply l p q source key v (Taken e) s is pass = news_gave l p q source key v e s (knows l.state.store key v) is pass
by_reply l p q source key v Known s is pass = pass

-- a version of another node that was not refused
sent_gave : (l m : Locked) (p q : PassView) (source : Source) (key : List ℕ) (v : Version) (a : Accepted)
    → accept_in l p source key v ≡ gives a (m, q) → (key_fault key ≡ None) × IsSent p source key v q a
sent_gave l m p q source key v a is =
    let o = accept l.state.store p.seat source key v in
    let after = λ (reply : Accepted × Store). gives reply.0 (after_sent l p reply.0 (with_store l.state reply.1)) in
    let g = given o after a (m, q) (within (with_store l.state) o (λ reply. gives reply.0 (after_sent l p reply.0 reply.1)) ∙ is) in
    let place = passed (place_fault l.state.store.config key v.kind v.value) _ g.first g.between g.gave in
    let same : g.first ≡ a = let h = g.then_gave in cc in
    let pass : q ≡ (after_sent l p g.first (with_store l.state g.between)).1 = let h = g.then_gave in cc in (
      first_none (key_fault key) _ place.0,
      subst (λ (b : Accepted). IsSent p source key v q b) same (by_reply l p q source key v g.first g.between place.1 pass),
    )

-- why news do not come
news_refused : (l : Locked) (p : PassView) (source : Source) (key : List ℕ) (v : Version) (e : Refusal) (known : Bool) → key_fault key ≡ None
    → cond known (gives Known l.state.store)
    (offer_fault v (held l.state.store.entries key) >>
    (admit l.state.store (entry_of l.state.store p.seat source key v) >>= (λ taken. gives (Taken taken.0) taken.1))) ≡ refuses e
    → IsSentRefusal key v e
news_refused l p source key v e true k is = absurd (cc)
news_refused l p source key v e false k is =
    let Why : Refusal → Type 0 = IsSentRefusal key v in
    elim (first_cause (offer_fault v (held l.state.store.entries key)) _ e is) as (λ _. Why e) [
      | inl crowd ↦ subst Why (sym (crowd_cause v (held l.state.store.entries key) e crowd)) k
      | inr fits ↦
          let r = refused (admit l.state.store (entry_of l.state.store p.seat source key v)) (λ taken. gives (Taken taken.0) taken.1) e
          (λ x. refl) fits.1 in
          elim (first_cause (full_fault l.state.store) _ e r) as (λ _. Why e) [
            | inl full ↦ subst Why (sym (where_fails _ _ e full)) k
            | inr room ↦ absurd (let h = room.1 in cc)
          ]
    ]

sent_refused : (l : Locked) (p : PassView) (source : Source) (key : List ℕ) (v : Version) (e : Refusal) → accept_in l p source key v ≡ refuses e
    → IsSentRefusal key v e
sent_refused l p source key v e is =
    let Why : Refusal → Type 0 = IsSentRefusal key v in
    let o = accept l.state.store p.seat source key v in
    let after = λ (reply : Accepted × Store). gives reply.0 (after_sent l p reply.0 (with_store l.state reply.1)) in
    let r = refused o after e (λ x. refl) (within (with_store l.state) o (λ reply. gives reply.0 (after_sent l p reply.0 reply.1)) ∙ is) in
    elim (first_cause (place_fault l.state.store.config key v.kind v.value) _ e r) as (λ _. Why e) [
      | inl place ↦
          elim (place_cause l.state.store.config key v.kind v.value e place) as (λ _. Why e) [
            | of_key same k ↦ subst Why (sym same) k
            | of_value same k odd ↦ subst Why (sym same) (k, odd)
            | of_range same k ↦ subst Why (sym same) k
          ]
      | inr placed ↦ news_refused l p source key v e (knows l.state.store key v) (first_none (key_fault key) _ placed.0) placed.1
    ]

-- what a version of another node says of pass and result
pub record SentTells (p q : PassView) (source : Source) (key : List ℕ) (v : Version) (r : Result Accepted Refusal) : Type 0 where
  pub reply : IfOk r (IsSent p source key v q)
  pub fits : OnOk r (key_fault key ≡ None)
  pub refusal : IfErr r (IsSentRefusal key v)
  pub same : OnErr r (q ≡ p)

-- an outcome of a step after a cause that gives something
given_first : {A B R Q S : Type 0} (whole : R → Q) (cause : Option Refusal) (o : Outcome A R) (rest : A × Q → Outcome B S)
    → IsTrue (is_given (through whole (cause >> o) >>= rest)) → cause ≡ None
given_first whole None o rest all = refl
given_first whole (Some e) o rest all = absurd (cc)

given_key : (l : Locked) (p : PassView) (source : Source) (key : List ℕ) (v : Version) → IsTrue (is_given (accept_in l p source key v))
    → key_fault key ≡ None
given_key l p source key v all =
    first_none (key_fault key) _ (given_first (with_store l.state) (place_fault l.state.store.config key v.kind v.value) _ _ all)

pub sent_tells : (l m : Locked) (p q : PassView) (source : Source) (key : List ℕ) (v : Version) (r : Result Accepted Refusal)
    → Does r (l, p) (m, q) (accept_in l p source key v) → SentTells p q source key v r
sent_tells l m p q source key v (Ok a) does =
    let t = sent_gave l m p q source key v a does in
    record { reply = t.1; fits = t.0; refusal = tt; same = tt }
sent_tells l m p q source key v (Err e) does =
    let Why : Refusal → Type 0 = IsSentRefusal key v in
    record {
      reply = tt;
      fits = tt;
      refusal =
          elim does.1 as (λ _. Why e) [
            | inl short ↦ subst Why (sym short.0) (given_key l p source key v short.1)
            | inr is ↦ sent_refused l p source key v e is
          ];
      same = ap (λ (x : Locked × PassView). x.1) does.0;
    }

-- why a pass is behind
behind_by : (p : PassView) (key : List ℕ) (journal : ℕ) (versions : List Version) (e : Refusal) (short : Bool) (missing : Option ℕ)
    → nat_lt journal p.seen ≡ short → first_missing p.receipts key versions ≡ missing
    → cond short (Some (Behind p.seen journal None)) (missing_fault p.seen journal missing) ≡ Some e → IsBehind p key e
behind_by p key journal versions e true missing is what why =
    subst (IsBehind p key) (let same : Behind p.seen journal None ≡ e = cc in same) (refl, ltb-true journal p.seen is)
behind_by p key journal versions e false None is what why = absurd (cc)
behind_by p key journal versions e false (Some number) is what why =
    subst (IsBehind p key) (let same : Behind p.seen journal (Some number) ≡ e = cc in same) (refl, (ltb-false journal p.seen is, (versions, what)))

-- the refusal of a read
pub read_refused : (l : Locked) (p q : PassView) (key : List ℕ) (r : Result (List Version) UnreadView) → Does (plainly r) p q (get_in l p key)
    → IfErr r (λ u. u.seat ≡ p.seat)
    → IfErr r (λ u. (u.seat ≡ p.seat) × IsBehind p key u.refusal)
read_refused l p q key (Ok versions) does seat = tt
read_refused l p q key (Err u) does seat =
    let e = u.refusal in
    let journal = length l.state.store.entries in
    let versions = held l.state.store.entries key in (
      seat,
      elim does.1 as (λ _. IsBehind p key e) [
        | inl short ↦ subst (IsBehind p key) (sym short.0) tt
        | inr is ↦
            elim (first_cause (behind_fault l.state.store.entries p key) _ e is) as (λ _. IsBehind p key e) [
              | inl why ↦ behind_by p key journal versions e (nat_lt journal p.seen) (first_missing p.receipts key versions) refl refl why
              | inr rest ↦ absurd (let h = rest.1 in cc)
            ]
      ],
    )

-- What comes of a put and of a version that another node sent, by the causes before the journal's.
use Rattle.std.proofs.Common.{◌≡◌, ℕ, ◌+◌, Bool, true, false, cond, List, [], ◌∷◌, Option, Some, None, map, refl, sym, ap, subst, ◌∙◌, inl, inr}
use Rattle.std.proofs.Common.{arith}
use Rattle.std.specs.Prelude.{Result, Ok, Err, nat_lt}
use Rattle.std.specs.List.{list_any}
use Rattle.std.proofs.lemmas.Bool.{cases_Bool, cases_lt, lt-ltb, le-ltb}
use Rattle.vclock.specs.Answer.{first_fault}
use Rattle.vclock.specs.Clock.{at_most, counter, raised, raise_fault, Pairs, IsClock}
use Rattle.vclock.proofs.ClockLaws.{at_most-counters, counter-with_counter}
use Rattle.vclock.specs.Outcome.{Outcome, refuses, Does, DoesOrNoMemory, ◌>>◌}
use Rattle.vclock.specs.declared.refusal.Refusal.{Refusal}
use Rattle.vclock.specs.declared.refusal.Refusal.TheVariants.{StaleContext}
use Rattle.version_set.specs.Version.{covered, offer_fault}
use Rattle.version_set.specs.declared.kind.Kind.{Kind}
use Rattle.version_set.specs.declared.version.Version.{Version}
use Rattle.vclock.specs.declared.format.Format.TheVariants.{Two}
use Rattle.key_ring.specs.Places.{leaf_at}
use Rattle.range_journal.specs.declared.journal.Entry.{Entry}
use Rattle.range_journal.specs.declared.journal.Source.{Source}
use Rattle.range_journal.specs.declared.journal.Source.TheVariants.{Client}
use Rattle.range_journal.specs.Journal.{held}
use Rattle.range_store.specs.Store.{Store, place_fault, stale_fault, put_version, put_entry, entry_of, knows, admit, accept}
use Rattle.range_store.specs.declared.context_test.ContextTest.{ContextTest}
use Rattle.range_store.specs.declared.context_test.ContextTest.TheVariants.{Fresh, Read}
use Rattle.range_store.specs.ContextTests.{unread_fault, fails, context_fault, put_by}
use Rattle.range_store.specs.Fitting.{IsFitting, made_fault, sent_fault}
use Rattle.range_store.proofs.StoreLaws.{eq_itself, knows_held, news}

-- two causes, one after the other, are their first
twice : {T S : Type 0} → (a b : Option Refusal) → (o : Outcome T S) → (a >> (b >> o)) ≡ (first_fault a b >> o)
twice None b o = refl
twice (Some e) b o = refl

-- a context of which the node's counter was read has a fresh clock
read_fresh : (versions : List Version) (at : ℕ) (context : Pairs) → list_any (λ v. nat_lt (counter context at) (counter v.clock at)) versions ≡ false
    → list_any (λ v. at_most (raised context at) v.clock) versions ≡ false
read_fresh [] at context read = refl
read_fresh (v ∷ versions) at context read = elim (cases_Bool (at_most (raised context at) v.clock)) [
  | inl seen ↦ elim (cases_lt (counter context at) (counter v.clock at)) [
    | inl more ↦ absurd (let no = rw (lt-ltb (counter context at) (counter v.clock at) more) at read in cc)
    | inr most ↦ absurd (
        let least = at_most-counters (raised context at) v.clock seen at in
        let is : counter (raised context at) at ≡ counter context at + 1 = counter-with_counter context at (counter context at + 1) at
        ∙ ap (λ b. cond b (counter context at + 1) (counter context at)) (eq_itself at) in
        omega (arith, least, is, most))
  ]
  | inr unseen ↦ elim (cases_lt (counter context at) (counter v.clock at)) [
    | inl more ↦ absurd (let no = rw (lt-ltb (counter context at) (counter v.clock at) more) at read in cc)
    | inr most ↦ let rest = rw (le-ltb (counter context at) (counter v.clock at) most) at read in let later = read_fresh versions at context rest in
        rw (unseen, later) refl
  ]
]

-- a context that passes a test has a fresh clock
pub tested_fresh : (test : ContextTest) (versions : List Version) (at : ℕ) (context : Pairs) → context_fault test versions at context ≡ None
    → stale_fault versions (raised context at) ≡ None
tested_fresh Fresh versions at context none = none
tested_fresh Read versions at context none =
    let read = no_fault (list_any (λ v. nat_lt (counter context at) (counter v.clock at)) versions) _ none in
    let fresh = read_fresh versions at context read in
    rw fresh refl
  where
    no_fault : (b : Bool) (e : Refusal) → cond b (Some e) None ≡ None → b ≡ false
    no_fault true e h = absurd (cc)
    no_fault false e h = refl

-- a context that fails its test against the versions of a set
pub failed : (test : ContextTest) (versions set : List Version) (at : ℕ) (context : Pairs) (clocks : List Pairs) → set ≡ versions
    → fails test set at context ≡ true → clocks ≡ map (λ (v : Version). v.clock) set
    → context_fault test versions at context ≡ Some (StaleContext clocks)
failed test versions set at context clocks is fail are =
    subst (λ (t : List Version). context_fault test t at context ≡ Some (StaleContext clocks)) is
    (rw fail (ap (λ (t : List Pairs). Some (StaleContext t)) (sym are)))

-- causes that are tested again
again : {T S : Type 0} (place raise unread stale crowd : Option Refusal) (rest : Outcome T S) → (unread ≡ None → stale ≡ None)
    → (first_fault place raise >> (unread >> (place >> (raise >> (stale >> (crowd >> rest))))))
    ≡ (first_fault (first_fault place raise) (first_fault unread crowd) >> rest)
again (Some e) raise unread stale crowd rest fresh = refl
again None (Some e) unread stale crowd rest fresh = refl
again None None (Some e) stale crowd rest fresh = refl
again None None None stale crowd rest fresh = ap (λ (x : Option Refusal). x >> (crowd >> rest)) (fresh refl)

pub put_by_fault : (test : ContextTest) (s : Store) (seat at : ℕ) (key : List ℕ) (context : Pairs) (kind : Kind) (value : List ℕ)
    → put_by test s seat at key context kind value ≡ (made_fault test s at key context kind value >> admit s
    (put_entry s seat at key context kind value))
put_by_fault Read s seat at key context kind value =
    again (place_fault s.config key kind value) (raise_fault context at) (unread_fault (held s.entries key) at context)
    (stale_fault (held s.entries key) (raised context at))
    (offer_fault (put_version at context kind value) (held s.entries key)) (admit s (put_entry s seat at key context kind value))
    (tested_fresh Read (held s.entries key) at context)
put_by_fault Fresh s seat at key context kind value =
    let place = place_fault s.config key kind value in
    let raise = raise_fault context at in
    let stale = stale_fault (held s.entries key) (raised context at) in
    let crowd = offer_fault (put_version at context kind value) (held s.entries key) in
    let entry = admit s (put_entry s seat at key context kind value) in
    (λ i. place >> (raise >> twice stale crowd entry i)) ∙ (λ i. twice place raise (first_fault stale crowd >> entry) i)
    ∙ twice (first_fault place raise) (first_fault stale crowd) entry

pub put_refused : (test : ContextTest) (s : Store) (seat at : ℕ) (key : List ℕ) (context : Pairs) (kind : Kind) (value : List ℕ) (e : Refusal)
    → made_fault test s at key context kind value ≡ Some e
    → put_by test s seat at key context kind value ≡ refuses e
put_refused test s seat at key context kind value e some = rw (put_by_fault, some) refl

-- a call whose memory may run out at any time does what one does whose memory runs out last
pub or_memory : {T S : Type 0} (r : Result T Refusal) (s t : S) (o p : Outcome T S) → p ≡ o → Does r s t o → DoesOrNoMemory r s t p
or_memory (Ok x) s t o p is does = is ∙ does
or_memory (Err e) s t o p is does = (does.0, elim does.1 [ inl memory ↦ inl memory.0 | inr fault ↦ inr (is ∙ fault) ])

-- a put whose version fits is admitted
pub put_admits : (test : ContextTest) (s t : Store) (seat at : ℕ) (key : List ℕ) (context : Pairs) (kind : Kind) (value : List ℕ) (v : Version)
    (r : Result Entry Refusal) → made_fault test s at key context kind value ≡ None
    → v ≡ put_version at context kind value → Does r s t (admit s (entry_of s seat Client key v))
    → DoesOrNoMemory r s t (put_by test s seat at key context kind value)
put_admits test s t seat at key context kind value v r none is does =
    or_memory r s t (admit s (entry_of s seat Client key v)) (put_by test s seat at key context kind value)
    (put_by_fault test s seat at key context kind value ∙ ap (λ (o : Option Refusal). o >> admit s (put_entry s seat at key context kind value)) none
    ∙ ap (λ (w : Version). admit s (entry_of s seat Client key w)) (sym is)) does

-- a version that is known is not one too many
known_fits : (s : Store) (key : List ℕ) (v : Version) → knows s key v ≡ true → offer_fault v (held s.entries key) ≡ None
known_fits s key v known = let covers : covered v (held s.entries key) ≡ true = knows_held s key v ∙ known in rw covers refl

refused_by : {T S : Type 0} (place crowd : Option Refusal) (b : Bool) (known rest : Outcome T S) (e : Refusal) → (b ≡ true → crowd ≡ None)
    → first_fault place crowd ≡ Some e
    → (place >> cond b known (crowd >> rest)) ≡ refuses e
refused_by (Some f) crowd b known rest e fits h = cc
refused_by None (Some f) true known rest e fits h = absurd (let no : Some f ≡ None = fits refl in cc)
refused_by None (Some f) false known rest e fits h = cc
refused_by None None b known rest e fits h = absurd (cc)

pub sent_refused : (s : Store) (seat : ℕ) (source : Source) (key : List ℕ) (v : Version) (e : Refusal) → sent_fault s key v ≡ Some e
    → accept s seat source key v ≡ refuses e
sent_refused s seat source key v e h = refused_by (place_fault s.config key v.kind v.value) (offer_fault v (held s.entries key)) (knows s key v) _ _ e
    (known_fits s key v) h

-- a version that has its place and is known
pub known_sent : (s : Store) (key : List ℕ) (v : Version) → place_fault s.config key v.kind v.value ≡ None → covered v (held s.entries key) ≡ true
    → (sent_fault s key v ≡ None) × (knows s key v ≡ true)
known_sent s key v here covers =
    let known : knows s key v ≡ true = sym (knows_held s key v) ∙ covers in
    (rw here (known_fits s key v known), known)

-- a version that has its place and is news
pub fitting_sent : (s : Store) (leaf : ℕ) (key : List ℕ) (v : Version) → leaf ≡ leaf_at Two s.config.bits key
    → place_fault s.config key v.kind v.value ≡ None → covered v (held s.entries key) ≡ false → offer_fault v (held s.entries key) ≡ None
    → (sent_fault s key v ≡ None) × IsFitting s leaf key v
fitting_sent s leaf key v at here uncovered fits =
    (rw here fits, record { leaf_is = at; here = here; news = sym (knows_held s key v) ∙ uncovered; fits = fits })

-- the version of a put that passes each check
pub record IsCheckedPut (test : ContextTest) (s : Store) (leaf at : ℕ) (key : List ℕ) (context : Pairs) (kind : Kind) (value : List ℕ) (v : Version)
    : Type 0 where
  pub leaf_is : leaf ≡ leaf_at Two s.config.bits key
  pub here : place_fault s.config key kind value ≡ None
  pub raise : raise_fault context at ≡ None
  pub version_is : v ≡ put_version at context kind value
  pub clock : IsClock v.clock
  pub passes : context_fault test (held s.entries key) at context ≡ None
  pub fits : offer_fault v (held s.entries key) ≡ None

-- the version of a put that has its place, and whose context passes its test
pub fitting_put : (test : ContextTest) (s : Store) (leaf at : ℕ) (key : List ℕ) (context : Pairs) (kind : Kind) (value : List ℕ) (v : Version)
    → IsCheckedPut test s leaf at key context kind value v
    → (made_fault test s at key context kind value ≡ None) × (IsFitting s leaf key v × (v ≡ put_version at context kind value))
fitting_put test s leaf at key context kind value v put =
    let stale : stale_fault (held s.entries key) v.clock ≡ None = ap (λ (w : Version). stale_fault (held s.entries key) w.clock) put.version_is
    ∙ tested_fresh test (held s.entries key) at context put.passes in
    let fits_is : offer_fault (put_version at context kind value) (held s.entries key) ≡ None = ap
    (λ (w : Version). offer_fault w (held s.entries key)) (sym put.version_is) ∙ put.fits in (
      rw (put.here, put.raise, put.passes) fits_is,
      (
        record {
          leaf_is = put.leaf_is;
          here = ap (λ (w : Version). place_fault s.config key w.kind w.value) put.version_is ∙ put.here;
          news = news s key v put.clock.rising stale;
          fits = put.fits;
        },
        put.version_is,
      ),
    )

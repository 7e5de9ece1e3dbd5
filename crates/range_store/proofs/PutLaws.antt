-- What a put, an accept and a load give, and what a put that checks its client's reading replaces.
use Rattle.std.proofs.Common.{◌≡◌, ◌⊎◌, map, ℕ, ◌+◌, ◌<◌, ◌≤◌, Bool, true, false, cond, not, List, [], ◌∷◌, Option, Some, None, Contains, get_or}
use Rattle.std.proofs.Common.{refl, sym, ap, subst, ◌∙◌, ◌||◌, ◌&&◌, inl, inr, arith}
use Rattle.std.specs.Prelude.{All, nat_eq, nat_lt}
use Rattle.std.specs.List.{list_any, filter, AllByRecursion}
use Rattle.std.proofs.lemmas.Bool.{cases_Bool, cases_lt, lt-ltb, le-ltb, or_right, eqb-true}
use Rattle.std.proofs.lemmas.List.Elements.{All-from_recursion, recursion_from_All, Contains-get_or, filter_passes}
use Rattle.std.proofs.lemmas.List.Folds.{list_any-from_Any}
use Rattle.std.proofs.lemmas.Slice.Eq.{bytes_eq-Decides}
use Rattle.vclock.specs.Answer.{first_fault}
use Rattle.vclock.specs.Clock.{at_most, counter, raised, raise_fault, IsAtMost, Pairs}
use Rattle.vclock.specs.Outcome.{Outcome, gives, refuses, ◌>>=◌, ◌>>◌}
use Rattle.vclock.specs.declared.refusal.Refusal.{Refusal}
use Rattle.vclock.specs.declared.refusal.Refusal.TheVariants.{StaleContext}
use Rattle.vclock.proofs.ClockLaws.{at_most-counters, counter-with_counter}
use Rattle.vclock.proofs.OutcomeLaws.{passed}
use Rattle.version_set.specs.declared.kind.Kind.{Kind}
use Rattle.version_set.specs.declared.version.Version.{Version}
use Rattle.version_set.specs.Version.{covered, is_same, is_below, maximal, offered, offer_fault, with_version}
use Rattle.version_set.proofs.SetLaws.{any-with_version, is_same-exact}
use Rattle.range_journal.specs.declared.journal.Entry.{Entry}
use Rattle.range_journal.specs.declared.journal.Source.{Source}
use Rattle.range_journal.specs.declared.journal.Source.TheVariants.{Copy}
use Rattle.range_journal.specs.Counters.{top_in, top_counter}
use Rattle.range_journal.specs.Journal.{held}
use Rattle.range_journal.proofs.CounterLaws.{top-held}
use Rattle.range_journal.proofs.JournalLaws.{contains_later, held-push}
use Rattle.row_bytes.specs.declared.row.Row.{Row}
use Rattle.range_store.specs.declared.receipt.Accepted.{Accepted}
use Rattle.range_store.specs.declared.receipt.Accepted.TheVariants.{Taken, Known}
use Rattle.range_store.specs.declared.store.loading.Loaded.{Loaded}
use Rattle.range_store.specs.declared.context_test.ContextTest.{ContextTest}
use Rattle.range_store.specs.declared.context_test.ContextTest.TheVariants.{Fresh, Read}
use Rattle.range_store.specs.ContextTests.{unread_fault, put_by, put_read}
use Rattle.range_store.specs.Loads.{apart_fault, load, loaded}
use Rattle.range_store.specs.Offers.{accepted_in, accept_fault, offers_of}
use Rattle.range_store.specs.Store.{Store, place_fault, ask_fault, stale_fault, full_fault, put_version, put_entry, entry_of, knows, journaled}
use Rattle.range_store.specs.Store.{accept, admit, put}
use Rattle.range_store.proofs.StoreLaws.{eq_itself}
use Rattle.range_store.proofs.HeldLaws.{covered-itself, held_own}

-- no cause stood
pub past : {T S : Type 0} (c : Option Refusal) (o : Outcome T S) (x : T) (s : S) → (c >> o) ≡ gives x s → o ≡ gives x s
past c o x s h = (passed c o x s h).1

pub admitted : (s : Store) (e x : Entry) (t : Store) → admit s e ≡ gives x t → (x ≡ e) × (t ≡ journaled s e)
admitted s e x t h = let g : gives e (journaled s e) ≡ gives x t = past (full_fault s) (gives e (journaled s e)) x t h in (cc, cc)

put_gives : (s : Store) (seat at : ℕ) (key : List ℕ) (context : Pairs) (kind : Kind) (value : List ℕ) (x : Entry) (t : Store)
    → put s seat at key context kind value ≡ gives x t
    → (x ≡ put_entry s seat at key context kind value) × (t ≡ journaled s (put_entry s seat at key context kind value))
put_gives s seat at key context kind value x t h =
    let entry = put_entry s seat at key context kind value in
    admitted s entry x t (past (offer_fault (put_version at context kind value) (held s.entries key)) _ x t
    (past (stale_fault (held s.entries key) (raised context at)) _ x t
    (past (raise_fault context at) _ x t (past (place_fault s.config key kind value) _ x t h))))

-- a put that checks is a put
pub put_by_is_put : (test : ContextTest) (s : Store) (seat at : ℕ) (key : List ℕ) (context : Pairs) (kind : Kind) (value : List ℕ) (x : Entry)
    (t : Store) → put_by test s seat at key context kind value ≡ gives x t
    → put s seat at key context kind value ≡ gives x t
put_by_is_put Fresh s seat at key context kind value x t h = h
put_by_is_put Read s seat at key context kind value x t h =
    past (unread_fault (held s.entries key) at context) _ x t (past (ask_fault s.config at key context kind value) _ x t h)

pub put_by_gives : (test : ContextTest) (s : Store) (seat at : ℕ) (key : List ℕ) (context : Pairs) (kind : Kind) (value : List ℕ) (x : Entry)
    (t : Store) → put_by test s seat at key context kind value ≡ gives x t
    → (x ≡ put_entry s seat at key context kind value) × (t ≡ journaled s (put_entry s seat at key context kind value))
put_by_gives test s seat at key context kind value x t h =
    put_gives s seat at key context kind value x t (put_by_is_put test s seat at key context kind value x t h)

-- a refusal of a put that checks is that of a put, or a stale context that was tested for this alone
pub put_by_refuses : (test : ContextTest) (s : Store) (seat at : ℕ) (key : List ℕ) (context : Pairs) (kind : Kind) (value : List ℕ) (e : Refusal)
    → put_by test s seat at key context kind value ≡ refuses e
    → (put s seat at key context kind value ≡ refuses e) ⊎
    ((ask_fault s.config at key context kind value ≡ None) × ((clocks : List Pairs) × (e ≡ StaleContext clocks)))
put_by_refuses Fresh s seat at key context kind value e h = inl h
put_by_refuses Read s seat at key context kind value e h =
    by_causes (place_fault s.config key kind value) (raise_fault context at)
    (list_any (λ v. nat_lt (counter context at) (counter v.clock at)) (held s.entries key)) h
  where
    rest : Outcome Entry Store
    rest = stale_fault (held s.entries key) (raised context at) >>
        (offer_fault (put_version at context kind value) (held s.entries key) >> admit s (put_entry s seat at key context kind value))

    clocks : List Pairs
    clocks = map (λ (v : Version). v.clock) (held s.entries key)

    by_causes : (place raise : Option Refusal) (b : Bool)
        → (first_fault place raise >> (cond b (Some (StaleContext clocks)) None >> (place >> (raise >> rest)))) ≡ refuses e
        → ((place >> (raise >> rest)) ≡ refuses e) ⊎ ((first_fault place raise ≡ None) × ((cs : List Pairs) × (e ≡ StaleContext cs)))
    by_causes (Some f) raise b is = inl is
    by_causes None (Some f) b is = inl is
    by_causes None None true is = inr (refl, (clocks, let same : StaleContext clocks ≡ e = cc in sym same))
    by_causes None None false is = inl is

-- what a version that another node sent was answered, and the state afterwards
abbrev pub IsSentTo : Store → ℕ → Source → List ℕ → Version → Accepted → Store → Type 0
IsSentTo s seat source key v (Taken x) t = (x ≡ entry_of s seat source key v) × (t ≡ journaled s (entry_of s seat source key v))
IsSentTo s seat source key v Known t = t ≡ s

pub accept_gives : (s : Store) (seat : ℕ) (source : Source) (key : List ℕ) (v : Version) (r : Accepted) (t : Store)
    → accept s seat source key v ≡ gives r t → IsSentTo s seat source key v r t
accept_gives s seat source key v r t h = by_news (knows s key v) (past (place_fault s.config key v.kind v.value) _ r t h)
  where
    entry : Entry
    entry = entry_of s seat source key v

    taken : Outcome Accepted Store
    taken = admit s (entry_of s seat source key v) >>= λ p. gives (Taken p.0) p.1

    by_admit : (o : Outcome Entry Store) → o ≡ admit s (entry_of s seat source key v) → (o >>= λ p. gives (Taken p.0) p.1) ≡ gives r t
        → IsSentTo s seat source key v r t
    by_admit (gives x u) is e =
        let both = admitted s (entry_of s seat source key v) x u (sym is) in
        let reply : Taken x ≡ r = cc in
        subst (λ (q : Accepted). IsSentTo s seat source key v q t) reply (both.0, let now : u ≡ t = cc in sym now ∙ both.1)
    by_admit (refuses c) is e = absurd (let no : refuses c ≡ gives r t = e in cc)

    by_news : (b : Bool) → cond b (gives Known s)
        (offer_fault v (held s.entries key) >> (admit s (entry_of s seat source key v) >>= λ p. gives (Taken p.0) p.1)) ≡ gives r t
        → IsSentTo s seat source key v r t
    by_news true e =
        let reply : Known ≡ r = cc in
        subst (λ (q : Accepted). IsSentTo s seat source key v q t) reply (let now : s ≡ t = cc in sym now)
    by_news false e = by_admit (admit s (entry_of s seat source key v)) refl (past (offer_fault v (held s.entries key)) _ r t e)

pub load_gives : (s : Store) (seat : ℕ) (rows : List Row) (a : Loaded) (t : Store) → load s seat rows ≡ gives a t
    → (a ≡ loaded s t (offers_of rows)) × (t ≡ accepted_in s seat Copy (offers_of rows))
load_gives s seat rows a t h =
    let offers = offers_of rows in
    let new = accepted_in s seat Copy offers in
    let g : gives (loaded s new offers) new ≡ gives a t = past (accept_fault s seat Copy offers) _ a t (past (apart_fault s.config rows) _ a t h) in
    let now : new ≡ t = cc in
    let counts : loaded s new offers ≡ a = cc in
    (sym counts ∙ ap (λ (x : Store). loaded s x offers) now, sym now)

-- ---- what a put that checks replaces

-- a member that passes a test stays
passes : (p : Version → Bool) (W : List Version) (v : Version) → list_any (is_same v) W ≡ true → p v ≡ true → Contains (filter p W) v
passes p [] v same pass = absurd (cc)
passes p (w ∷ W) v same pass = elim (cases_Bool (is_same v w)) [
  | inl here ↦
      let is : v ≡ w = is_same-exact v w here in
      let kept : p w ≡ true = subst (λ (x : Version). p x ≡ true) is pass in
      rw kept (0, omega arith, sym is)
  | inr other ↦
      let rest = passes p W v (rw other at same) pass in
      elim (p w) as (λ b. Contains (cond b (w ∷ filter p W) (filter p W)) v) [ true ↦ contains_later w (filter p W) v rest | false ↦ rest ]
]

-- a version of a list is the same as one of it
among : (v : Version) (S : List Version) → Contains S v → list_any (is_same v) S ≡ true
among v S c = list_any-from_Any (is_same v) S (c.0, v, c.1, c.2, covered-itself v)

uncovered : (v : Version) (S : List Version) → covered v S ≡ false → list_any (is_same v) S ≡ false
uncovered v [] h = refl
uncovered v (w ∷ S) h = parts (is_same v w) (is_below v w) (covered v S) (uncovered v S) h
  where
    parts : (a b c : Bool) → (c ≡ false → list_any (is_same v) S ≡ false) → ((a || b) || c) ≡ false → (a || list_any (is_same v) S) ≡ false
    parts false false false rest e = rest refl
    parts false false true rest e = absurd (cc)
    parts false true c rest e = absurd (cc)
    parts true b c rest e = absurd (cc)

-- a member that is not below an offered version stays
stays : (new v : Version) (S : List Version) → Contains S v → list_any (is_below v) S ≡ false → is_below v new ≡ false → Contains (offered new S) v
stays new v S has own free = elim (cases_Bool (covered new S)) [
  | inl known ↦ rw known has
  | inr news ↦
      let apart = uncovered new S news in
      let none : list_any (is_below v) (with_version new S) ≡ false = any-with_version (is_below v) new S apart ∙ (λ k. free k || own k) in
      let there : list_any (is_same v) (with_version new S) ≡ true = any-with_version (is_same v) new S apart
      ∙ or_right (is_same v new) (list_any (is_same v) S) (among v S has) in
      rw news (passes (λ w. not (list_any (is_below w) (with_version new S))) (with_version new S) v there (ap not none))
]

-- a version below one whose clock is a context with a node's counter raised: the context has seen it, if it has its
-- counter of the node
seen : (new v : Version) (context : Pairs) (at : ℕ) → new.clock ≡ raised context at → nat_lt (counter context at) (counter v.clock at) ≡ false
    → is_below v new ≡ true → IsAtMost v.clock context
seen new v context at is read below n =
    let under = at_most-counters v.clock new.clock (first (at_most v.clock new.clock) _ below) n in
    let clock : counter new.clock n ≡ cond (nat_eq at n) (counter context at + 1) (counter context n) = ap (λ (c : Pairs). counter c n) is
    ∙ counter-with_counter context at (counter context at + 1) n in
    elim (cases_Bool (nat_eq at n)) [
      | inl same ↦
          let here : at ≡ n = eqb-true at n same in
          subst (λ (m : ℕ). counter v.clock m ≤ counter context m) here (most (counter context at) (counter v.clock at) read)
      | inr other ↦ let plain = rw other at clock in omega (arith, under, plain)
    ]
  where
    first : (a b : Bool) → (a && b) ≡ true → a ≡ true
    first true b e = refl
    first false b e = absurd (cc)

    most : (a b : ℕ) → nat_lt a b ≡ false → b ≤ a
    most a b e = elim (cases_lt a b) [
      | inl more ↦ absurd (let no = rw (lt-ltb a b more) at e in cc)
      | inr less ↦ less
    ]

-- the versions that are replaced by a put whose client has read the node's counters
abbrev pub IsKeptOrRead : List Version → Pairs → Version → Type 0
IsKeptOrRead after context v = Contains after v ⊎ IsAtMost v.clock context

-- no version of a list passes a test that finds none
none_of : (p : Version → Bool) (S : List Version) → list_any p S ≡ false → AllByRecursion (λ v. p v ≡ false) S
none_of p [] h = tt
none_of p (v ∷ S) h = parts (p v) refl (none_of p S) h
  where
    parts : (b : Bool) → p v ≡ b → (list_any p S ≡ false → AllByRecursion (λ w. p w ≡ false) S) → (b || list_any p S) ≡ false
        → (p v ≡ false) × AllByRecursion (λ w. p w ≡ false) S
    parts true is rest e = absurd (cc)
    parts false is rest e = (is, rest e)

replaced : (new : Version) (context : Pairs) (at : ℕ) (S : List Version) → maximal S ≡ S → new.clock ≡ raised context at
    → list_any (λ v. nat_lt (counter context at) (counter v.clock at)) S ≡ false → AllByRecursion (IsKeptOrRead (offered new S) context) S
replaced new context at S own is read = recursion_from_All (IsKeptOrRead (offered new S) context) S (λ k d less.
    let v = get_or S k d in
    let has : Contains S v = Contains-get_or S k d less in
    let known = All-from_recursion (λ (w : Version). nat_lt (counter context at) (counter w.clock at) ≡ false) S
    (none_of (λ w. nat_lt (counter context at) (counter w.clock at)) S read) k d less in
    let top = subst (All (λ (w : Version). not (list_any (is_below w) S) ≡ true)) own
    (filter_passes (λ (w : Version). not (list_any (is_below w) S)) S) k d less in
    elim (cases_Bool (is_below v new)) [
      | inl below ↦ inr (seen new v context at is known below)
      | inr free ↦ inl (stays new v S has (not_true (list_any (is_below v) S) top) free)
    ])
  where
    not_true : (b : Bool) → not b ≡ true → b ≡ false
    not_true true e = absurd (cc)
    not_true false e = refl

-- no counter of the node is greater than the context's
read_top : (S : List Version) (context : Pairs) (at : ℕ) → list_any (λ v. nat_lt (counter context at) (counter v.clock at)) S ≡ false
    → top_in S at ≤ counter context at
read_top [] context at read = omega arith
read_top (v ∷ S) context at read = elim (cases_lt (counter context at) (counter v.clock at)) [
  | inl more ↦ absurd (let no = rw (lt-ltb (counter context at) (counter v.clock at) more) at read in cc)
  | inr most ↦ let rest = rw (le-ltb (counter context at) (counter v.clock at) most) at read in let below = read_top S context at rest in
      omega (arith, most, below)
]

-- what a put that checks did
pub record Checked (s t : Store) (at : ℕ) (key : List ℕ) (context : Pairs) (e : Entry) : Type 0 where
  pub read : AllByRecursion (IsKeptOrRead (held t.entries key) context) (held s.entries key)
  pub counter : top_counter s.entries key at < counter e.version.clock at

pub checked : (s t : Store) (seat at : ℕ) (key : List ℕ) (context : Pairs) (kind : Kind) (value : List ℕ) (e : Entry)
    → put_read s seat at key context kind value ≡ gives e t → Checked s t at key context e
checked s t seat at key context kind value e h =
    let entry = put_entry s seat at key context kind value in
    let came = put_by_gives Read s seat at key context kind value e t h in
    let none = (passed (unread_fault (held s.entries key) at context) _ e t (past (ask_fault s.config at key context kind value) _ e t h)).0 in
    let read = no_fault (list_any (λ v. nat_lt (counter context at) (counter v.clock at)) (held s.entries key)) _ none in
    let now : held t.entries key ≡ offered entry.version (held s.entries key) =
    ap (λ (x : Store). held x.entries key) came.1 ∙ held-push s.entries entry key
    ∙ ap (λ b. cond b (offered entry.version (held s.entries key)) (held s.entries key)) ((bytes_eq-Decides key key).1 refl) in
    let least = read_top (held s.entries key) context at read in
    let top = top-held s.entries key at in
    let own : counter e.version.clock at ≡ counter context at + 1 =
    ap (λ (x : Entry). counter x.version.clock at) came.0 ∙ counter-with_counter context at (counter context at + 1) at
    ∙ ap (λ b. cond b (counter context at + 1) (counter context at)) (eq_itself at) in
    record {
      read = subst (λ (T : List Version). AllByRecursion (IsKeptOrRead T context) (held s.entries key)) (sym now)
          (replaced entry.version context at (held s.entries key) (held_own s.entries key) refl read);
      counter = omega (arith, least, top, own);
    }
  where
    no_fault : (b : Bool) (r : Refusal) → cond b (Some r) None ≡ None → b ≡ false
    no_fault true r n = absurd (cc)
    no_fault false r n = refl

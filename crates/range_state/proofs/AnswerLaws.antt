-- What a session answers to a text, and what the range is then.
use Rattle.std.proofs.Common.{◌≡◌, ◌≢◌, ℕ, zero, suc, ◌<◌, ◌≤◌, ◌⊎◌, Bool, true, false, cond, Option, Some, None, List, [], ◌∷◌, length}
use Rattle.std.proofs.Common.{set, get_or, refl, sym, ap, subst, ◌∙◌, inl, inr, arith, slice_get, ◌^◌}
use Rattle.std.specs.Prelude.{nat_le, Ok, Err, MatchOption, IsTrue}
use Rattle.std.specs.List.{AllByRecursion}
use Rattle.std.proofs.lemmas.List.{set-get_or}
use Rattle.std.proofs.lemmas.Option.{slice_get_read, slice_get_within, get_or_from_slice_get}
use Rattle.vclock.specs.declared.format.Format.{Format}
use Rattle.vclock.specs.declared.refusal.Refusal.{Refusal}
use Rattle.vclock.specs.declared.refusal.Refusal.TheVariants.{NoMemory, Crowded, JournalFull, NotCanonical}
use Rattle.range_journal.specs.Journal.{held}
use Rattle.vclock.specs.Outcome as outcome
use Rattle.range_journal.specs.declared.journal.Source.TheVariants.{Partner}
use Rattle.row_bytes.specs.declared.row.Row.{Row}
use Rattle.tree_nodes.specs.Nodes.{tree_depth}
use Rattle.sync_session.specs.Walks.{Walk, TakenText, IsInnerText, AreSpelled, IsCanonical, Held}
use Rattle.sync_session.specs.Readings.{AreOthers}
use Rattle.sync_session.specs.declared.news.News.{News}
use Rattle.sync_session.specs.Steps.{IsDue, after, failed, IsTakeFault}
use Rattle.range_state.specs.declared.«record».Record.{Record}
use Rattle.range_state.specs.declared.event.AnswerTaken.{AnswerTaken}
use Rattle.range_state.specs.Records.{IsKept}
use Rattle.range_state.specs.State.{State, IsRight}
use Rattle.range_store.specs.Store.{Store, leaf_count}
use Rattle.range_store.specs.declared.store.loading.Loaded.{Loaded}
use Rattle.range_store.specs.Loads.{loaded, accept_offers}
use Rattle.range_store.proofs.ChangeLaws.{crowded_is}
use Rattle.vclock.proofs.OutcomeLaws.{passed}
use Rattle.range_store.specs.Offers.{offers_of, crowded_in}
use Rattle.range_state.specs.Sessions.{taken_in, leaf_fault, walked_to, IsInnerRead, IsLeafRead, IsNewsRead, TakesLeaf, IsLeafFault, Refuses}
use Rattle.range_state.specs.Sessions.{TakesText, TakesFor}
use Rattle.range_store.specs.Batches.{IsRowFor, IsOfferFor}
use Rattle.range_store.proofs.BatchLaws.{Offers}
use Rattle.range_state.proofs.TakenLaws.{record_kept, goes_on, format_now, spelled_rows, spelled_short, spelled_homes}
use Rattle.key_ring.specs.Places.{leaf_bits}
use Rattle.vclock.specs.declared.format.Format.TheVariants.{One, Two}

-- ---- the record of a number

pub has_record : (rs : List Record) (id : ℕ) (P : Record → Type 0) → MatchOption (slice_get rs id) ⊥ P → id < length rs
has_record [] id P h = absurd h
has_record (r ∷ rs) zero P h = omega arith
has_record (r ∷ rs) (suc id) P h = omega (arith, has_record rs id P h)

pub got_record : (rs : List Record) (id : ℕ) (r : Record) → id < length rs → r ≡ get_or rs id r → slice_get rs id ≡ Some r
got_record rs id r within was = slice_get_read rs (length rs) id r refl within was

pub the_record : (rs : List Record) (id : ℕ) (r : Record) (P : Record → Type 0) → id < length rs → r ≡ get_or rs id r
    → MatchOption (slice_get rs id) ⊥ P → P r
the_record rs id r P within was h = subst (λ (o : Option Record). MatchOption o ⊥ P) (got_record rs id r within was) h

pub with_record : (rs : List Record) (id : ℕ) (P : Record → Type 0) (Q : Type 0) → ((r : Record) → id < length rs → r ≡ get_or rs id r → P r → Q)
    → MatchOption (slice_get rs id) ⊥ P → Q
with_record [] id P Q f h = absurd h
with_record (r ∷ rs) zero P Q f h = f r (omega arith) refl h
with_record (r ∷ rs) (suc id) P Q f h = with_record rs id P Q (λ x within was p. f x (omega (arith, within)) was p) h

pub kept_at : (s : State) (id : ℕ) (r : Record) → IsRight s → slice_get s.records id ≡ Some r → IsKept s.store.config s.store.entries r
kept_at s id r ok here =
    let within = slice_get_within s.records id r here in
    record_kept s id r ok within (sym (get_or_from_slice_get s.records id r r here))

-- the state with a record in its own place
pub in_place : (s : State) (id : ℕ) (r : Record) → r ≡ get_or s.records id r → s ≡ walked_to s id r r.session
in_place s id r was =
    let same : set s.records id r ≡ s.records = ap (set s.records id) was ∙ set-get_or s.records id r in
    λ i. record {
      store = s.store;
      records = sym same i;
      moment = s.moment;
      whole_before = s.whole_before;
      next_session = s.next_session;
      settled = s.settled;
    }

-- ---- the outcome of a session's call

-- what refuses a call that has no other cause
pub only_memory : {T S : Type 0} {x : T} {s : S} {e : Refusal}
    → ((e ≡ NoMemory) × IsTrue (outcome.is_given (outcome.gives x s))) ⊎ (outcome.gives x s ≡ outcome.refuses e) → e ≡ NoMemory
only_memory (inl memory) = memory.0
only_memory (inr clash) = cc

-- ---- a text that is refused

-- a session that stayed as it was
pub stayed : (s : State) (id : ℕ) (r : Record) (w : Walk) → r ≡ get_or s.records id r → w ≡ r.session → s ≡ walked_to s id r w
stayed s id r w was is = in_place s id r was ∙ ap (walked_to s id r) (sym is)

refuses : (s : State) (seat id : ℕ) (r : Record) (t : TakenText) (e : Refusal) → IsTakeFault r.session t e → e ≢ NotCanonical
    → Refuses s seat id r t e s
refuses s seat id r t Crowded fault other = absurd fault
refuses s seat id r t JournalFull fault other = absurd fault
refuses s seat id r t NotCanonical fault other = absurd (other refl)
refuses s seat id r t e fault other = (fault, refl)

-- nothing changes
pub refused : (s : State) (seat id : ℕ) (r : Record) (t : TakenText) (e : Refusal) → slice_get s.records id ≡ Some r → IsTakeFault r.session t e
    → e ≢ NotCanonical → TakesFor s seat id (slice_get s.records id) t (Err e) s
refused s seat id r t e here fault other =
    subst (λ (o : Option Record). TakesFor s seat id o t (Err e) s) (sym here) (refuses s seat id r t e fault other)

-- but where a session fails
pub refused_for_good : (s new : State) (seat id : ℕ) (r : Record) (t : TakenText) → slice_get s.records id ≡ Some r
    → IsTakeFault r.session t NotCanonical → new ≡ walked_to s id r (failed r.session)
    → TakesFor s seat id (slice_get s.records id) t (Err NotCanonical) new
refused_for_good s new seat id r t here fault is = subst (λ (o : Option Record). TakesFor s seat id o t (Err NotCanonical) new) (sym here) (fault, is)

-- ---- a text of a node with children

-- the record of a number, whose session awaits such a text, and its tree has the node
pub record IsInnerAt (s : State) (id : ℕ) (r : Record) (t : TakenText) : Type 0 where
  pub within : id < length s.records
  pub here : slice_get s.records id ≡ Some r
  pub read : IsInnerRead s r t
  pub inner : t.node.depth < tree_depth r.session.own.format
  pub form : IsInnerText r.session.own.format t.text

pub inner_at : (s : State) (id : ℕ) (r : Record) (t : TakenText) → IsRight s → r ≡ get_or s.records id r
    → MatchOption (slice_get s.records id) ⊥ (λ x. IsInnerRead s x t) → IsInnerAt s id r t
inner_at s id r t ok was h =
    let within = has_record s.records id (λ x. IsInnerRead s x t) h in
    let read = the_record s.records id r (λ x. IsInnerRead s x t) within was h in
    let format = format_now s.store.config s.store.entries r t (record_kept s id r ok within was) read.due in
    record {
      within = within;
      here = got_record s.records id r within was;
      read = read;
      inner = omega (arith, read.inner, ap tree_depth format);
      form = subst (λ (f : Format). IsInnerText f t.text) (sym format) read.form;
    }

-- no memory for the nodes that it asks
pub inner_refused : (s : State) (seat id : ℕ) (r : Record) (t : TakenText) (e : Refusal) → IsInnerAt s id r t → e ≡ NoMemory
    → TakesFor s seat id (slice_get s.records id) t (Err e) s
inner_refused s seat id r t e at memory =
    let fault : IsTakeFault r.session t NoMemory = (at.read.due, λ less. at.form) in
    subst (λ (x : Refusal). TakesFor s seat id (slice_get s.records id) t (Err x) s) (sym memory)
    (refused s seat id r t NoMemory at.here fault (λ same. cc))

pub inner_taken : (s : State) (seat id : ℕ) (r : Record) (t : TakenText) (a : AnswerTaken) (w : Walk) → slice_get s.records id ≡ Some r
    → IsInnerRead s r t → a.receipts.items ≡ [] → a.known ≡ 0 → a.state ≡ w.state → w ≡ after r.session t
    → TakesFor s seat id (slice_get s.records id) t (Ok a) (walked_to s id r w)
inner_taken s seat id r t a w here read receipts known state is =
    let took : TakesText s seat id r t (Ok a)
    (walked_to s id r w) = (
      state
          ∙ ap (λ (v : Walk). v.state) is,
      inl (record { read = read; receipts = receipts; known = known; new_is = ap (walked_to s id r) is }),
    ) in
    subst (λ (o : Option Record). TakesFor s seat id o t (Ok a) (walked_to s id r w)) (sym here) took

-- ---- a text of a leaf, before anything changes

-- the rows that were read, beside own ones that are held
pub record NewsRead (s : State) (id : ℕ) (t : TakenText) (news : News) : Type 0 where
  pub right : IsRight s
  pub within : id < length s.records
  pub own : List Row
  pub rows : List Row
  pub held : Held own (held s.store.entries)
  pub parted : AreOthers own rows news.rows.items news.known
  pub read : MatchOption (slice_get s.records id) ⊥ (λ r. IsLeafRead s r t rows)

-- of a range that is what another value of it shows
pub news_read : {old s : State} (id : ℕ) (t : TakenText) (news : News) → old ≡ s → IsRight old
    → MatchOption (slice_get s.records id) ⊥ (λ r. IsNewsRead s r t news) → NewsRead s id t news
news_read {s = s} id t news view old_right h =
    let ok = subst IsRight view old_right in
    with_record s.records id (λ r. IsNewsRead s r t news) _ (λ r within was is. record {
      right = ok;
      within = within;
      own = r.session.own.rows;
      rows = is.rows;
      held = (goes_on s.store.config s.store.entries r t (record_kept s id r ok within was) is.read.due).walked.own_held;
      parted = is.parted;
      read = subst (λ (o : Option Record). MatchOption o ⊥ (λ x. IsLeafRead s x t is.rows)) (sym (got_record s.records id r within was)) is.read;
    }) h

-- the record, whose session awaits such a text: it is of a leaf of its own tree, and some rows spell it
pub record IsLeafAt (s : State) (id : ℕ) (r : Record) (t : TakenText) (rows : List Row) : Type 0 where
  pub within : id < length s.records
  pub was : r ≡ get_or s.records id r
  pub here : slice_get s.records id ≡ Some r
  pub read : IsLeafRead s r t rows
  pub kept : IsKept s.store.config s.store.entries r
  pub format : r.session.own.format ≡ s.store.config.format
  pub deep : t.node.depth ≡ tree_depth r.session.own.format
  pub can : IsCanonical r.session.own t.node t.text

pub leaf_at : {old s : State} {id : ℕ} {r : Record} {t : TakenText} {news : News} (seen : NewsRead s id t news) → old ≡ s
    → r ≡ get_or old.records id r → IsLeafAt s id r t seen.rows
leaf_at {s = s} {id = id} {r = r} {t = t} seen view old_was =
    let was : r ≡ get_or s.records id r = old_was ∙ ap (λ (u : State). get_or u.records id r) view in
    let read = the_record s.records id r (λ x. IsLeafRead s x t seen.rows) seen.within was seen.read in
    let kept = record_kept s id r seen.right seen.within was in
    let format = format_now s.store.config s.store.entries r t kept read.due in
    let deep : t.node.depth ≡ tree_depth r.session.own.format = read.leaf ∙ sym (ap tree_depth format) in
    record {
      within = seen.within;
      was = was;
      here = got_record s.records id r seen.within was;
      read = read;
      kept = kept;
      format = format;
      deep = deep;
      can = inr (deep, (seen.rows, read.spelled));
    }

with_leaf : {s : State} {id : ℕ} {t : TakenText} {news : News} (seen : NewsRead s id t news) (Q : Type 0)
    → ((r : Record) → IsLeafAt s id r t seen.rows → Q) → Q
with_leaf {s = s} {id = id} {t = t} seen Q f =
    with_record s.records id (λ r. IsLeafRead s r t seen.rows) Q (λ r within was read. f r (leaf_at seen refl was)) seen.read

pub rows_ready : {s : State} {id : ℕ} {t : TakenText} {news : News} (seen : NewsRead s id t news)
    → AllByRecursion (IsRowFor s.store.config t.node.index) seen.rows × (length (offers_of seen.rows) ≤ length t.text)
rows_ready {s = s} {t = t} seen = with_leaf seen _ (λ r at. (
  spelled_rows s.store.config r.session t.node t.text seen.rows at.format at.kept.here at.read.spelled,
  spelled_short r.session.own t.node t.text seen.rows at.read.spelled,
))

pub rows_homes : {s : State} {id : ℕ} {t : TakenText} {news : News} (seen : NewsRead s id t news)
    → AllByRecursion (λ (r : Row). AllByRecursion (λ v. IsOfferFor s.store.config t.node.index r.key v) r.versions) seen.rows
rows_homes {s = s} {t = t} seen =
    with_leaf seen _ (λ r at. spelled_homes s.store.config r.session t.node t.text seen.rows at.format at.kept.here at.read.spelled)

-- its node is a leaf of the tree
pub leaf_inside : {s : State} {id : ℕ} {t : TakenText} {news : News} (seen : NewsRead s id t news) → t.node.index < 16 ^ t.node.depth
    → t.node.index < leaf_count s.store.config
leaf_inside {s = s} {t = t} seen within =
    counted s.store.config.format t.node.index (subst (λ (d : ℕ). t.node.index < 16 ^ d) (with_leaf seen _ (λ r at. at.read.leaf)) within)
  where
    counted : (f : Format) (n : ℕ) → n < 16 ^ tree_depth f → n < 2 ^ leaf_bits f
    counted One n h = h
    counted Two n h = h

-- no memory
pub no_memory : {s new : State} {id : ℕ} {t : TakenText} {news : News} {e : Refusal} (seat : ℕ) (seen : NewsRead s id t news) → s ≡ new → e ≡ NoMemory
    → TakesFor s seat id (slice_get s.records id) t (Err e) new
no_memory {s = s} {id = id} {t = t} {e = e} seat seen same memory =
    subst (λ (u : State). TakesFor s seat id (slice_get s.records id) t (Err e) u) same (with_leaf seen _ (λ r at.
    let fault : IsTakeFault r.session t NoMemory = (at.read.due, λ less. absurd (omega (arith, less, at.deep))) in
    subst (λ (x : Refusal). TakesFor s seat id (slice_get s.records id) t (Err x) s) (sym memory)
    (refused s seat id r t NoMemory at.here fault (λ same. cc))))

-- a version too many, or no memory
pub not_prepared : {s : State} {id : ℕ} {t : TakenText} {news : News} {e : Refusal} (seat : ℕ) (seen : NewsRead s id t news)
    → (e ≡ NoMemory) ⊎ (crowded_in s.store seat Partner (offers_of seen.rows) ≡ Some e) → TakesFor s seat id (slice_get s.records id) t (Err e) s
not_prepared seat seen (inl memory) = no_memory seat seen refl memory
not_prepared {s = s} {id = id} {t = t} {e = e} seat seen (inr crowd) = with_leaf seen _ (λ r at.
    let is = crowded_is s.store seat Partner (offers_of seen.rows) e crowd in
    let full : crowded_in s.store seat Partner (offers_of seen.rows) ≡ Some Crowded = crowd ∙ ap (λ (x : Refusal). Some x) is in
    let fault : IsLeafFault s seat r t Crowded = record { rows = seen.rows; read = at.read; fault = rw full refl } in
    subst (λ (x : Refusal). TakesFor s seat id (slice_get s.records id) t (Err x) s) (sym is)
    (subst (λ (o : Option Record). TakesFor s seat id o t (Err Crowded) s) (sym at.here) (fault, refl)))

-- ---- a text of a leaf that is taken or not

-- the versions of the rows are accepted by this outcome
accepts_all : (s : Store) (seat : ℕ) (offers : Offers) (room : Bool) → crowded_in s seat Partner offers ≡ None
    → nat_le (length (taken_in s seat offers).entries) s.config.limit ≡ room
    → accept_offers s seat Partner offers ≡ cond room (outcome.gives (loaded s (taken_in s seat offers) offers) (taken_in s seat offers))
    (outcome.refuses JournalFull)
accepts_all s seat offers true fits room = rw (fits, room) refl
accepts_all s seat offers false fits room = rw (fits, room) refl

-- the store refuses these, which stand for them: the journal has no room for the entries, or there is no memory
pub not_accepted : {s : State} {id : ℕ} {t : TakenText} {news : News} {e : Refusal} (seat : ℕ) (seen : NewsRead s id t news) (offers : Offers)
    → taken_in s.store seat (offers_of seen.rows) ≡ taken_in s.store seat offers
    → crowded_in s.store seat Partner (offers_of seen.rows) ≡ crowded_in s.store seat Partner offers
    → crowded_in s.store seat Partner offers ≡ None
    → ((e ≡ NoMemory) × IsTrue (outcome.is_given (accept_offers s.store seat Partner offers))) ⊎
    (accept_offers s.store seat Partner offers ≡ outcome.refuses e) → TakesFor s seat id (slice_get s.records id) t (Err e) s
not_accepted seat seen offers same alike fits (inl memory) = no_memory seat seen refl memory.0
not_accepted {s = s} {id = id} {t = t} {e = e} seat seen offers same alike fits (inr refused) =
    by_room (nat_le (length (taken_in s.store seat offers).entries) s.store.config.limit) refl
  where
    by_room : (room : Bool) → nat_le (length (taken_in s.store seat offers).entries) s.store.config.limit ≡ room
        → TakesFor s seat id (slice_get s.records id) t (Err e) s
    by_room true low = absurd (let clash = sym (accepts_all s.store seat offers true fits low) ∙ refused in cc)
    by_room false past =
        let is : JournalFull ≡ e = let both = sym (accepts_all s.store seat offers false fits past) ∙ refused in cc in
        let all : nat_le (length (taken_in s.store seat (offers_of seen.rows)).entries) s.store.config.limit ≡ false = ap
        (λ (u : Store). nat_le (length u.entries) s.store.config.limit) same ∙ past in
        let none : crowded_in s.store seat Partner (offers_of seen.rows) ≡ None = alike ∙ fits in
        with_leaf seen _ (λ r at.
        let fault : IsLeafFault s seat r t JournalFull = record { rows = seen.rows; read = at.read; fault = rw (none, all) refl } in
        subst (λ (x : Refusal). TakesFor s seat id (slice_get s.records id) t (Err x) s) is
        (subst (λ (o : Option Record). TakesFor s seat id o t (Err JournalFull) s) (sym at.here) (fault, refl)))

-- what an outcome of theirs gives
pub record AreTaken (s : Store) (seat : ℕ) (offers : Offers) (a : Loaded) (new : Store) : Type 0 where
  pub fault : leaf_fault s seat offers ≡ None
  pub counts : a ≡ loaded s new offers
  pub is : new ≡ taken_in s seat offers

pub are_taken : (s : Store) (seat : ℕ) (offers : Offers) (a : Loaded) (new : Store) → accept_offers s seat Partner offers ≡ outcome.gives a new
    → AreTaken s seat offers a new
are_taken s seat offers a new given =
    let both = passed (leaf_fault s seat offers) (outcome.gives (loaded s (taken_in s seat offers) offers) (taken_in s seat offers)) a new given in
    let same = both.1 in
    let now : taken_in s seat offers ≡ new = cc in
    let counts : loaded s (taken_in s seat offers) offers ≡ a = cc in
    record { fault = both.0; counts = sym counts ∙ ap (λ (x : Store). loaded s x offers) now; is = sym now }

-- the state after the text of a leaf
abbrev pub taken_to : State → ℕ → TakenText → Record → Store → State
taken_to s id t r new = record {
  store = new;
  records = set s.records id (record { number = r.number; partner = r.partner; session = after r.session t });
  moment = s.moment;
  whole_before =
      s.whole_before;
  next_session = s.next_session;
  settled = s.settled;
}

pub leaf_taken : {s new : State} {id : ℕ} {t : TakenText} {r : Record} (seat : ℕ) (a : AnswerTaken) → slice_get s.records id ≡ Some r
    → TakesLeaf s seat id r t a new → a.state ≡ (after r.session t).state → TakesFor s seat id (slice_get s.records id) t (Ok a) new
leaf_taken {s = s} {new = new} {id = id} {t = t} seat a here took state =
    subst (λ (o : Option Record). TakesFor s seat id o t (Ok a) new) (sym here) (state, inr took)

-- ---- what was read

abbrev pub Reads : Record → TakenText → News → Type 0
Reads r t news = ((t.node.depth < tree_depth r.session.own.format) × IsInnerText r.session.own.format t.text × (news.rows.items ≡ [])
    × (news.known ≡ 0)) ⊎ ((t.node.depth ≡ tree_depth r.session.own.format)
    × ((rows : List Row) × AreSpelled r.session.own t.node t.text rows × AreOthers r.session.own.rows rows news.rows.items news.known))

pub leaf_read : (s : State) (id : ℕ) (r : Record) (t : TakenText) (news : News) → IsRight s → slice_get s.records id ≡ Some r → IsDue r.session t
    → Reads r t news → t.node.depth ≡ tree_depth s.store.config.format → IsNewsRead s r t news
leaf_read s id r t news ok here due reads deep =
    let format = format_now s.store.config s.store.entries r t (kept_at s id r ok here) due in
    let depth : tree_depth r.session.own.format ≡ tree_depth s.store.config.format = ap tree_depth format in
    elim reads [
      | inl inner ↦ absurd (omega (arith, inner.0, depth, deep))
      | inr leaf ↦ record { rows = leaf.1.0; read = record { due = due; leaf = deep; spelled = leaf.1.1 }; parted = leaf.1.2 }
    ]

pub inner_read : (s : State) (id : ℕ) (r : Record) (t : TakenText) (news : News) → IsRight s → slice_get s.records id ≡ Some r → IsDue r.session t
    → Reads r t news → t.node.depth ≢ tree_depth s.store.config.format → IsInnerRead s r t
inner_read s id r t news ok here due reads other =
    let format = format_now s.store.config s.store.entries r t (kept_at s id r ok here) due in
    let depth : tree_depth r.session.own.format ≡ tree_depth s.store.config.format = ap tree_depth format in
    elim reads [
      | inl inner ↦ record { due = due; inner = omega (arith, inner.0, depth); form = subst (λ (f : Format). IsInnerText f t.text) format inner.1 }
      | inr leaf ↦ absurd (other (leaf.0 ∙ depth))
    ]

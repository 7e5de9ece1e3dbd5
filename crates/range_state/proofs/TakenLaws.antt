-- What becomes of a range when a session takes a text.
use Rattle.std.proofs.Common.{◌≡◌, ◌≢◌, ℕ, ◌<◌, ◌≤◌, true, false, None, List, [], ◌∷◌, ◌++◌, length, set, get_or, refl, sym, ap, subst, ◌∙◌, inl}
use Rattle.std.proofs.Common.{inr, arith, append-nil, Any}
use Rattle.std.specs.List.{AllByRecursion}
use Rattle.std.proofs.lemmas.Bool.{both_ways}
use Rattle.std.proofs.Math.Seq.{get_or-append_seam}
use Rattle.std.proofs.lemmas.List.{length-append, length-set, get_or-set_same}
use Rattle.vclock.specs.Bytes.{key_fault}
use Rattle.vclock.specs.declared.format.Format.{Format}
use Rattle.version_set.specs.Kind.{value_fault}
use Rattle.version_set.specs.declared.version.Version.{Version}
use Rattle.version_set.specs.Version.{covered}
use Rattle.range_journal.specs.declared.journal.Entry.{Entry}
use Rattle.range_journal.specs.declared.journal.Source.TheVariants.{Partner}
use Rattle.range_journal.specs.Journal.{held}
use Rattle.key_ring.specs.Places.{range_at, leaf_at}
use Rattle.row_bytes.specs.declared.row.Row.{Row}
use Rattle.row_bytes.specs.Rows.{IsRow, IsVersion}
use Rattle.tree_nodes.specs.Nodes.{Node, contains_node, tree_depth}
use Rattle.hash_tree.specs.Texts.{leaf_text}
use Rattle.hash_tree.proofs.KeyLaws.{all_get}
use Rattle.snapshot.specs.RowMaps.{RowMap}
use Rattle.snapshot.specs.RowMaps as maps
use Rattle.sync_session.specs.Walks.{Walk, TakenText, AreSpelled, IsCanonical, IsInnerText, IsLeafHeld}
use Rattle.sync_session.specs.Steps.{IsDue, left_after, after, failed}
use Rattle.sync_session.specs.declared.state.SessionState.{SessionState}
use Rattle.sync_session.specs.declared.state.SessionState.TheVariants.{Open, Finished, Failed, Cancelled}
use Rattle.sync_session.proofs.StepLaws.{All-weaker, walked_grows, walked_after, spelled_held}
use Rattle.sync_session.proofs.CountLaws.{orderly_after}
use Rattle.sync_session.proofs.TraceLaws.{traced, traced_failed}
use Rattle.range_store.specs.Config.{Config}
use Rattle.range_state.specs.declared.«record».Record.{Record}
use Rattle.range_state.specs.Records.{IsOver, IsHere, IsGoing, IsKept, is_open_state, is_open}
use Rattle.range_state.specs.State.{State, IsRight, IsLeafWith, HasTaken, with_store}
use Rattle.range_store.specs.Store.{place_fault}
use Rattle.range_store.specs.Offers.{offers_of, crowded_in}
use Rattle.range_state.specs.Sessions.{taken_in, walked_to, IsInnerRead, IsLeafRead}
use Rattle.range_store.specs.Batches.{IsRowFor}
use Rattle.range_store.proofs.StoreLaws.{eq_itself}
use Rattle.range_store.proofs.HeldLaws.{grows}
use Rattle.range_state.proofs.SessionLaws.{Keeps, any-append, replaced_right, stepped_right, none_left}
use Rattle.range_store.specs.Batches.{IsOfferFor}
use Rattle.range_store.proofs.TakenLaws.{config_stays, accepted_sound, taken_grown, taken_held, offers_all, all_offers, IsAmong, offers_among}
use Rattle.range_store.proofs.TakenLaws.{offers_short}

-- ---- there are no more versions than bytes

pub spelled_short : (m : RowMap) (n : Node) (text : List ℕ) (rows : List Row) → AreSpelled m n text rows → length (offers_of rows) ≤ length text
unfolding leaf_text
spelled_short m n text rows spelled = omega (arith, ap length spelled.text_is, offers_short m.format rows)

-- ---- rows that a text spells

placed : (c : Config) (m : RowMap) (key : List ℕ) (v : Version) → m.format ≡ c.format → m.bits ≡ c.bits → m.range ≡ c.range → key_fault key ≡ None
    → value_fault m.format v.kind v.value ≡ None → range_at m.bits key ≡ m.range → place_fault c key v.kind v.value ≡ None
placed c m key v f b g k value range =
    let here : range_at c.bits key ≡ c.range = sym (ap (λ (n : ℕ). range_at n key) b) ∙ range ∙ g in
    let fits : value_fault c.format v.kind v.value ≡ None = ap (λ (x : Format). value_fault x v.kind v.value) (sym f) ∙ value in
    rw (k, fits, here, eq_itself c.range) refl

rows_for : (c : Config) (m : RowMap) (leaf : ℕ) (rows : List Row) → m.format ≡ c.format → m.bits ≡ c.bits → m.range ≡ c.range
    → AllByRecursion (IsRow m.format) rows → AllByRecursion (λ (r : Row). range_at m.bits r.key ≡ m.range) rows
    → AllByRecursion (λ (r : Row). maps.leaf_in m r.key ≡ leaf) rows
    → AllByRecursion (λ (r : Row). AllByRecursion (λ v. IsOfferFor c leaf r.key v) r.versions) rows
rows_for c m leaf [] f b g each range home = tt
rows_for c m leaf (r ∷ rows) f b g each range home = (
  All-weaker (IsVersion m.format) (λ v. IsOfferFor c leaf r.key v) r.versions (λ v is. record {
    leaf_is = sym home.0 ∙ (λ i. leaf_at (f i) (b i) r.key);
    here = placed c m r.key v f b g each.0.key is.value range.0;
    clock = is.clock;
  }) each.0.each,
  rows_for c m leaf rows f b g each.1 range.1 home.1,
)

pub spelled_homes : (c : Config) (w : Walk) (n : Node) (text : List ℕ) (rows : List Row) → w.own.format ≡ c.format → IsHere c w
    → AreSpelled w.own n text rows → AllByRecursion (λ (r : Row). AllByRecursion (λ v. IsOfferFor c n.index r.key v) r.versions) rows
spelled_homes c w n text rows format here spelled =
    rows_for c w.own n.index rows format here.bits here.range spelled.are.each spelled.range spelled.leaf

pub spelled_offers : (c : Config) (w : Walk) (n : Node) (text : List ℕ) (rows : List Row) → w.own.format ≡ c.format → IsHere c w
    → AreSpelled w.own n text rows → AllByRecursion (λ o. IsOfferFor c n.index o.0 o.1) (offers_of rows)
spelled_offers c w n text rows format here spelled = offers_all (IsOfferFor c n.index) rows (spelled_homes c w n text rows format here spelled)

-- a row has a version, so its key is of the leaf
row_home : (c : Config) (m : RowMap) (leaf : ℕ) (rows : List Row) → m.format ≡ c.format → m.bits ≡ c.bits
    → AllByRecursion (λ (r : Row). maps.leaf_in m r.key ≡ leaf) rows
    → AllByRecursion (λ (r : Row). AllByRecursion (λ v. IsOfferFor c leaf r.key v) r.versions) rows → AllByRecursion (IsRowFor c leaf) rows
row_home c m leaf [] f b home each = tt
row_home c m leaf (r ∷ rows) f b home each = (
  record {
    leaf_is = sym home.0 ∙ (λ i. leaf_at (f i) (b i) r.key);
    here = All-weaker (λ v. IsOfferFor c leaf r.key v) (λ v. place_fault c r.key v.kind v.value ≡ None) r.versions (λ v is. is.here) each.0;
  },
  row_home c m leaf rows f b home.1 each.1,
)

pub spelled_rows : (c : Config) (w : Walk) (n : Node) (text : List ℕ) (rows : List Row) → w.own.format ≡ c.format → IsHere c w
    → AreSpelled w.own n text rows → AllByRecursion (IsRowFor c n.index) rows
spelled_rows c w n text rows format here spelled =
    row_home c w.own n.index rows format here.bits spelled.leaf
    (rows_for c w.own n.index rows format here.bits here.range spelled.are.each spelled.range spelled.leaf)

-- ---- the records afterwards

-- a session that awaits a text is open
awaits : (c : Config) (es : List Entry) (r : Record) (t : TakenText) → IsKept c es r → IsDue r.session t → (r.session.state ≢ Open) → ⊥
awaits c es r t kept due off = both_ways (contains_node t.node []) refl (ap (contains_node t.node) (sym (kept.ended off)) ∙ due.asked)

open_state : (state : SessionState) → ((state ≢ Open) → ⊥) → state ≡ Open
open_state Open h = refl
open_state Finished h = absurd (h (λ e. let clash : Finished ≡ Open = e in cc))
open_state Failed h = absurd (h (λ e. let clash : Failed ≡ Open = e in cc))
open_state Cancelled h = absurd (h (λ e. let clash : Cancelled ≡ Open = e in cc))

awaits_open : (c : Config) (es : List Entry) (r : Record) (t : TakenText) → IsKept c es r → IsDue r.session t → r.session.state ≡ Open
awaits_open c es r t kept due = open_state r.session.state (awaits c es r t kept due)

is_awaiting : (c : Config) (es : List Entry) (r : Record) (t : TakenText) → IsKept c es r → IsDue r.session t → is_open r ≡ true
unfolding is_open
is_awaiting c es r t kept due = ap is_open_state (awaits_open c es r t kept due)

-- so its own rows are in the range's format
pub format_now : (c : Config) (es : List Entry) (r : Record) (t : TakenText) → IsKept c es r → IsDue r.session t → r.session.own.format ≡ c.format
format_now c es r t kept due = kept.format (awaits_open c es r t kept due)

-- and it goes on
pub not_open : (w : Walk) → IsOver w → w.state ≢ Open
not_open w (inl failed) open_is = let clash : Failed ≡ Open = sym failed ∙ open_is in cc
not_open w (inr cancelled) open_is = let clash : Cancelled ≡ Open = sym cancelled ∙ open_is in cc

pub goes_on : (c : Config) (es : List Entry) (r : Record) (t : TakenText) → IsKept c es r → IsDue r.session t → IsGoing es r.session
goes_on c es r t kept due = elim kept.going [
  | inl over ↦ absurd (awaits c es r t kept due (not_open r.session over))
  | inr on ↦ on
]

-- the record of a number is right
pub record_kept : (s : State) (id : ℕ) (r : Record) → IsRight s → id < length s.records → r ≡ get_or s.records id r
    → IsKept s.store.config s.store.entries r
record_kept s id r ok within was =
    subst (IsKept s.store.config s.store.entries) (sym was) (all_get (IsKept s.store.config s.store.entries) s.records id r ok.records within)

kept_after : (c : Config) (es more : List Entry) (r : Record) (t : TakenText) → IsKept c es r → IsDue r.session t
    → IsCanonical r.session.own t.node t.text → IsLeafHeld r.session.own (held (es ++ more)) t
    → IsKept c (es ++ more) (record { number = r.number; partner = r.partner; session = after r.session t })
kept_after c es more r t kept due canonical leaf =
    let on = goes_on c es r t kept due in
    let grown = walked_grows (held es) (held (es ++ more)) r.session (grows es more) on.walked in
    let walked = walked_after (held (es ++ more)) r.session t grown due canonical leaf in
    let orderly = orderly_after (held (es ++ more)) r.session t grown on.orderly due in
    record {
      here = record { bits = kept.here.bits; range = kept.here.range };
      format = λ still. format_now c es r t kept due;
      traced = traced (held (es ++ more)) (after r.session t) walked orderly;
      ended = none_left (left_after r.session t);
      going = inr (record { walked = walked; orderly = orderly });
    }

keeps_after : (w : Walk) (t : TakenText) → Keeps w (after w t)
keeps_after w t = λ e a. any-append (IsLeafWith w.own.format e) w.taken (t ∷ []) a

-- ---- a text is taken

-- of a node with children, which can have it
pub inner_canonical : (s : State) (r : Record) (t : TakenText) → IsKept s.store.config s.store.entries r → IsInnerRead s r t
    → IsCanonical r.session.own t.node t.text
inner_canonical s r t kept read =
    let format = format_now s.store.config s.store.entries r t kept read.due in
    inl (omega (arith, ap tree_depth format, read.inner), subst (λ (f : Format). IsInnerText f t.text) (sym format) read.form)

pub inner_right : (s : State) (id : ℕ) (r : Record) (t : TakenText) → IsRight s → id < length s.records → r ≡ get_or s.records id r
    → IsInnerRead s r t → IsRight (walked_to s id r (after r.session t))
inner_right s id r t ok within was read =
    let old = record_kept s id r ok within was in
    let depth : tree_depth r.session.own.format ≡ tree_depth s.store.config.format = ap tree_depth
    (format_now s.store.config s.store.entries r t old read.due) in
    let kept = kept_after s.store.config s.store.entries [] r t old read.due (inner_canonical s r t old read)
    (λ leaf. absurd (omega (arith, leaf, depth, read.inner))) in
    let same : IsKept s.store.config s.store.entries (record { number = r.number; partner = r.partner; session = after r.session t }) = subst
    (λ (es : List Entry). IsKept s.store.config es (record { number = r.number; partner = r.partner; session = after r.session t }))
    (append-nil s.store.entries) kept in
    replaced_right s id r (record { number = r.number; partner = r.partner; session = after r.session t }) ok
    (record {
      was = was;
      number = refl;
      stays = λ e. is_awaiting s.store.config s.store.entries r t old read.due;
      kept = same;
      keeps = keeps_after r.session t;
    })

-- of a leaf, whose versions are accepted
pub leaf_right : (s : State) (seat id : ℕ) (r : Record) (t : TakenText) (rows : List Row) → IsRight s → id < length s.records
    → r ≡ get_or s.records id r → IsLeafRead s r t rows → crowded_in s.store seat Partner (offers_of rows) ≡ None
    → IsRight (walked_to (with_store s (taken_in s.store seat (offers_of rows))) id r (after r.session t))
leaf_right s seat id r t rows ok within was read none =
    let old = record_kept s id r ok within was in
    let format = format_now s.store.config s.store.entries r t old read.due in
    let offers = spelled_offers s.store.config r.session t.node t.text rows format old.here read.spelled in
    let grown = taken_grown (IsAmong rows) s.store seat Partner (offers_of rows) (offers_among rows) in
    let more = grown.more in
    let sound = accepted_sound s.store.config s.store seat Partner (offers_of rows) refl ok.store
    (All-weaker _ _ (offers_of rows) (λ o x. record { leaf_is = refl; here = x.here; clock = x.clock }) offers) none in
    let depth : tree_depth r.session.own.format ≡ tree_depth s.store.config.format = ap tree_depth format in
    let canonical : IsCanonical r.session.own t.node t.text = inr (omega (arith, depth, read.leaf), (rows, read.spelled)) in
    let covers = all_offers (λ key v. covered v (held (s.store.entries ++ more) key) ≡ true) rows
    (subst (λ (es : List Entry). AllByRecursion (λ o. covered o.1 (held es o.0) ≡ true) (offers_of rows)) grown.entries
    (taken_held s.store seat Partner (offers_of rows))) in
    let leaf = spelled_held (held (s.store.entries ++ more)) r.session.own t rows read.spelled covers in
    let kept = kept_after s.store.config s.store.entries more r t old read.due canonical leaf in
    let come = come_of s id r t rows more within (read.leaf ∙ sym depth) read.spelled grown.all in
    stepped_right s (taken_in s.store seat (offers_of rows)) more id r
    (record { number = r.number; partner = r.partner; session = after r.session t }) ok sound
    (config_stays s.store seat Partner (offers_of rows)) grown.entries
    (record {
      was = was;
      number = refl;
      stays = λ e. is_awaiting s.store.config s.store.entries r t old read.due;
      kept = kept;
      keeps = keeps_after r.session t;
    })
    come
  where
    come_of : (s : State) (id : ℕ) (r : Record) (t : TakenText) (rows : List Row) (more : List Entry) → id < length s.records
        → t.node.depth ≡ tree_depth r.session.own.format → AreSpelled r.session.own t.node t.text rows
        → AllByRecursion (λ (e : Entry). IsAmong rows e.key e.version) more
        → AllByRecursion (λ (e : Entry). Any (λ (x : Record). HasTaken x.session e)
        (set s.records id (record { number = r.number; partner = r.partner; session = after r.session t }))) more
    come_of s id r t rows more within deep spelled all =
        let new : Record = record { number = r.number; partner = r.partner; session = after r.session t } in
        All-weaker _ _ more (λ e among. (
          id,
          new,
          omega (arith, within, length-set s.records id new),
          get_or-set_same s.records id new new within,
          (
            length r.session.taken,
            t,
            omega (arith, length-append r.session.taken (t ∷ [])),
            get_or-append_seam r.session.taken t [] t,
            record {
              leaf = deep;
              rows = rows;
              are = spelled.are;
              text = spelled.text_is;
              has = among;
            },
          ),
        )) all

-- that no node can have
kept_failed : (c : Config) (es : List Entry) (r : Record) → IsKept c es r
    → IsKept c es (record { number = r.number; partner = r.partner; session = failed r.session })
kept_failed c es r kept = record {
  here = record { bits = kept.here.bits; range = kept.here.range };
  format = λ e. absurd (let clash : Failed ≡ Open = e in cc);
  traced = traced_failed r.session kept.traced;
  ended = λ off. refl;
  going = inl (inl refl);
}

-- a session that failed is not open
is_closed : (r : Record) → is_open (record { number = r.number; partner = r.partner; session = failed r.session }) ≡ true → is_open r ≡ true
unfolding is_open
is_closed r e = absurd (let clash : false ≡ true = e in cc)

pub failed_right : (s : State) (id : ℕ) (r : Record) → IsRight s → id < length s.records → r ≡ get_or s.records id r
    → IsRight (walked_to s id r (failed r.session))
failed_right s id r ok within was =
    let kept = kept_failed s.store.config s.store.entries r (record_kept s id r ok within was) in
    replaced_right s id r (record { number = r.number; partner = r.partner; session = failed r.session }) ok
    (record { was = was; number = refl; stays = is_closed r; kept = kept; keeps = keeps_failed r.session })
  where
    keeps_failed : (w : Walk) → Keeps w (failed w)
    keeps_failed w = λ e a. a

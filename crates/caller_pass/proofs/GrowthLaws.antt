-- By what entries a range grows.
use Rattle.std.proofs.Common.{◌≡◌, ℕ, ◌<◌, true, false, cond, Option, Some, None, List, [], ◌∷◌, ◌++◌, length, drop, sym, ap, subst, ◌∙◌, inl, inr}
use Rattle.std.proofs.Common.{append-nil, arith}
use Rattle.std.proofs.Math.Seq.{drop-append_seam}
use Rattle.std.proofs.lemmas.List.{length-append}
use Rattle.std.specs.Prelude.{Ok, Err}
use Rattle.std.specs.List.{AllByRecursion}
use Rattle.vclock.specs.Outcome.{Outcome, gives, refuses, through}
use Rattle.version_set.proofs.ListLaws.{all-push}
use Rattle.version_set.specs.declared.version.Version.{Version}
use Rattle.range_journal.specs.declared.journal.Entry.{Entry}
use Rattle.range_journal.specs.declared.journal.Source.{Source}
use Rattle.range_journal.specs.declared.journal.Source.TheVariants.{Copy, Partner}
use Rattle.row_bytes.specs.declared.row.Row.{Row}
use Rattle.sync_session.specs.Walks.{TakenText}
use Rattle.range_state.specs.Records.{place_of, record_of}
use Rattle.range_state.specs.declared.«record».Record.{Record}
use Rattle.range_state.specs.declared.event.AnswerTaken.{AnswerTaken}
use Rattle.range_store.specs.declared.store.loading.Loaded.{Loaded}
use Rattle.range_store.specs.Loads.{load}
use Rattle.range_store.proofs.PutLaws.{load_gives}
use Rattle.range_store.proofs.TakenLaws.{Nothing, nothing, taken_grown}
use Rattle.range_state.specs.State.{State, with_store}
use Rattle.range_store.specs.Store.{Store, entry_of, knows, journaled, accept_step}
use Rattle.range_store.specs.Offers.{accepted_in, offers_of}
use Rattle.range_state.specs.Sessions.{TakesFor, TakesInner, TakesLeaf, TakesAnswer}

-- each entry came by one of so many seats
abbrev pub AreSeated : ℕ → List Entry → Type 0
AreSeated n es = AllByRecursion (λ (e : Entry). e.seat < n) es

-- what a call on the store of a range gave
pub of_store : {T : Type 0} (s : State) (o : Outcome T Store) (x : T) (t : State) → through (with_store s) o ≡ gives x t
    → (o ≡ gives x t.store) × (t ≡ with_store s t.store)
of_store s (gives y u) x t is =
    let result : y ≡ x = cc in
    let now : with_store s u ≡ t = cc in
    ((λ i. gives (result i) (now i).store), sym now ∙ ap (λ (v : State). with_store s v.store) now)
of_store s (refuses e) x t is = absurd (cc)

-- the entries that came, each by a seat
pub record IsGrownBy (n : ℕ) (s : Store) (es : List Entry) (new : Store) : Type 0 where
  pub entries : new.entries ≡ s.entries ++ es
  pub seated : AreSeated n new.entries

-- ---- one entry

pub grown_by_one : (n : ℕ) (s : Store) (e : Entry) (t : Store) → AreSeated n s.entries → e.seat < n → t ≡ journaled s e → IsGrownBy n s (e ∷ []) t
grown_by_one n s e t all seat is = record {
  entries = ap (λ (x : Store). x.entries) is;
  seated = subst (λ (x : Store). AreSeated n x.entries) (sym is) (all-push (λ (x : Entry). x.seat < n) s.entries e all seat);
}

-- ---- the versions of a leaf

seated_step : (n : ℕ) (s : Store) (seat : ℕ) (source : Source) (key : List ℕ) (v : Version) → seat < n → AreSeated n s.entries
    → AreSeated n (accept_step s seat source key v).entries
seated_step n s seat source key v lt all =
    elim (knows s key v) as (λ b. AreSeated n (cond b s (journaled s (entry_of s seat source key v))).entries) [
      | true ↦ all
      | false ↦ all-push (λ (x : Entry). x.seat < n) s.entries (entry_of s seat source key v) all lt
    ]

seated_accepted : (n : ℕ) (s : Store) (seat : ℕ) (source : Source) (offers : List (List ℕ × Version)) → seat < n → AreSeated n s.entries
    → AreSeated n (accepted_in s seat source offers).entries
seated_accepted n s seat source [] lt all = all
seated_accepted n s seat source (o ∷ offers) lt all =
    seated_accepted n (accept_step s seat source o.0 o.1) seat source offers lt (seated_step n s seat source o.0 o.1 lt all)

by_inner : (n : ℕ) (s : State) (id : ℕ) (r : Record) (t : TakenText) (a : AnswerTaken) (new : State) → AreSeated n s.store.entries
    → TakesInner s id r t a new → IsGrownBy n s.store a.receipts.items new.store
by_inner n s id r t a new all took = record {
  entries = ap (λ (x : State). x.store.entries) took.new_is ∙ sym (append-nil s.store.entries)
      ∙ ap (λ (es : List Entry). s.store.entries ++ es) (sym took.receipts);
  seated = subst (λ (x : State). AreSeated n x.store.entries) (sym took.new_is) all;
}

by_leaf : (n : ℕ) (s : State) (seat id : ℕ) (r : Record) (t : TakenText) (a : AnswerTaken) (new : State) → seat < n → AreSeated n s.store.entries
    → TakesLeaf s seat id r t a new → IsGrownBy n s.store a.receipts.items new.store
by_leaf n s seat id r t a new lt all took = record {
  entries = ap (λ (x : State). x.store.entries) took.new_is ∙ sym took.receipts;
  seated = subst (λ (x : State). AreSeated n x.store.entries) (sym took.new_is) (seated_accepted n s.store seat Partner (offers_of took.rows) lt all);
}

pub grown_by_text : (n : ℕ) (s : State) (seat id : ℕ) (t : TakenText) (a : AnswerTaken) (new : State) → seat < n → AreSeated n s.store.entries
    → TakesAnswer s seat id t (Ok a) new → IsGrownBy n s.store a.receipts.items new.store
grown_by_text n s seat id t a new lt all = by_record (record_of id s.records)
  where
    by_record : (o : Option Record) → TakesFor s seat (place_of id s.records) o t (Ok a) new → IsGrownBy n s.store a.receipts.items new.store
    by_record None took = absurd (let no : Ok a ≡ Err _ = took.0 in cc)
    by_record (Some r) took = elim took.1 [
      | inl inner ↦ by_inner n s (place_of id s.records) r t a new all inner
      | inr leaf ↦ by_leaf n s seat (place_of id s.records) r t a new lt all leaf
    ]

-- ---- the rows of a leaf that are loaded

-- by the new entries, as many as were taken
pub grown_by_load : (n : ℕ) (s : Store) (seat : ℕ) (rows : List Row) (a : Loaded) (t : Store) → seat < n → AreSeated n s.entries
    → load s seat rows ≡ gives a t
    → IsGrownBy n s (drop (length s.entries) t.entries) t × (a.taken ≡ length (drop (length s.entries) t.entries))
grown_by_load n s seat rows a t lt all h =
    let offers = offers_of rows in
    let both = load_gives s seat rows a t h in
    let grown = taken_grown Nothing s seat Copy offers (nothing offers) in
    let entries : t.entries ≡ s.entries ++ grown.more = ap (λ (x : Store). x.entries) both.1 ∙ grown.entries in
    let came : drop (length s.entries) t.entries ≡ grown.more = ap (drop (length s.entries)) entries ∙ drop-append_seam s.entries grown.more in (
      record {
        entries = entries ∙ ap (λ (es : List Entry). s.entries ++ es) (sym came);
        seated = subst (λ (x : Store). AreSeated n x.entries) (sym both.1) (seated_accepted n s seat Copy offers lt all);
      },
      omega (arith, ap (λ (x : Loaded). x.taken) both.0, ap length entries, ap length came, length-append s.entries grown.more),
    )

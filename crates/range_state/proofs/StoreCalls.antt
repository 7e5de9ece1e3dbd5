-- The calls of a store, as calls of the state that has it: their outcomes, and the state afterwards.
use Rattle.std.proofs.Common.{◌≡◌, ℕ, ◌+◌, Bool, arith, List, [], ◌∷◌, ◌++◌, sym, ap, subst, ◌∙◌, inl, inr, append_assoc, append-nil, true, false}
use Rattle.std.proofs.Common.{refl, cond}
use Rattle.std.specs.Prelude.{Result, Ok, Err, IsTrue, ⊤}
use Rattle.std.specs.List.{AllByRecursion}
use Rattle.vclock.specs.Clock.{Pairs}
use Rattle.vclock.specs.Outcome.{Outcome, gives, refuses, is_given, through, Does, DoesAtOnce, DoesOrNoMemory}
use Rattle.vclock.specs.declared.format.Format.{Format}
use Rattle.vclock.specs.declared.refusal.Refusal.{Refusal}
use Rattle.vclock.specs.declared.refusal.Refusal.TheVariants.{Stale}
use Rattle.version_set.specs.declared.kind.Kind.{Kind}
use Rattle.version_set.specs.declared.version.Version.{Version}
use Rattle.range_journal.specs.declared.journal.Entry.{Entry}
use Rattle.range_journal.specs.declared.journal.Source.{Source}
use Rattle.range_journal.specs.declared.journal.Source.TheVariants.{Client, Partner, Copy, Hint}
use Rattle.version_set.proofs.ListLaws.{all-append}
use Rattle.row_bytes.specs.declared.row.Row.{Row}
use Rattle.tree_nodes.specs.Nodes.{Node}
use Rattle.range_tree.specs.Jobs.{is_current, installed}
use Rattle.range_store.specs.declared.receipt.Accepted.{Accepted}
use Rattle.range_store.specs.declared.receipt.Accepted.TheVariants.{Taken, Known}
use Rattle.range_store.specs.declared.context_test.ContextTest.{ContextTest}
use Rattle.range_store.specs.declared.store.loading.Loaded.{Loaded}
use Rattle.range_store.specs.ContextTests.{put_by}
use Rattle.range_store.specs.FormatLoads.{newer_fault, astray_fault, load_rows_read, load_format}
use Rattle.range_store.specs.Loads.{apart_fault, accept_offers, loaded, load, load_read, load_text, rows_in}
use Rattle.range_store.specs.Offers.{accepted_in, accept_fault, offers_of}
use Rattle.range_store.specs.Renewals.{copies_from, held_offers}
use Rattle.range_store.specs.Store.{Store, IsSound, accept, accept_step, entry_of, install, is_sent, journaled, knows, put_entry, tree_in, with_tree}
use Rattle.range_store.specs.Trees as stores
use Rattle.range_store.proofs.PutLaws.{past, put_by_gives, accept_gives}
use Rattle.range_state.specs.State.{State, IsRight, IsFromPartner, with_store}
use Rattle.range_state.specs.Renewals.{renewed_by}
use Rattle.range_state.proofs.NumberLaws.{numbered_none}
use Rattle.range_state.proofs.RecordLaws.{HasGrown, grown_right}

-- ---- outcomes

given : {T : Type 0} (s : State) (o : Outcome T Store) → IsTrue (is_given o) → IsTrue (is_given (through (with_store s) o))
given s (gives x t) is = is
given s (refuses e) is = is

lifted : {T : Type 0} (r : Result T Refusal) (s : State) (u : Store) (o : Outcome T Store) → Does r s.store u o
    → Does r s (with_store s u) (through (with_store s) o)
lifted (Ok x) s u o is = ap (through (with_store s)) is
lifted (Err e) s u o is =
    (ap (with_store s) is.0, elim is.1 [ inl memory ↦ inl (memory.0, given s o memory.1) | inr fault ↦ inr (ap (through (with_store s)) fault) ])

lifted_or_memory : {T : Type 0} (r : Result T Refusal) (s : State) (u : Store) (o : Outcome T Store) → DoesOrNoMemory r s.store u o
    → DoesOrNoMemory r s (with_store s u) (through (with_store s) o)
lifted_or_memory (Ok x) s u o is = ap (through (with_store s)) is
lifted_or_memory (Err e) s u o is =
    (ap (with_store s) is.0, elim is.1 [ inl memory ↦ inl memory | inr fault ↦ inr (ap (through (with_store s)) fault) ])

lifted_at_once : {T : Type 0} (r : Result T Refusal) (s : State) (u : Store) (o : Outcome T Store) → DoesAtOnce r s.store u o
    → DoesAtOnce r s (with_store s u) (through (with_store s) o)
lifted_at_once (Ok x) s u o is = ap (through (with_store s)) is
lifted_at_once (Err e) s u o is = (ap (with_store s) is.0, ap (through (with_store s)) is.1)

-- a call f of the store of a state that another value of it shows
pub does : {T : Type 0} (r : Result T Refusal) (s now : State) (u : Store) (f : Store → Outcome T Store) → s ≡ now → Does r s.store u (f s.store)
    → Does r now (with_store s u) (through (with_store now) (f now.store))
does r s now u f view is = subst (λ (v : State). Does r v (with_store s u) (through (with_store v) (f v.store))) view (lifted r s u (f s.store) is)

pub does_or_memory : {T : Type 0} (r : Result T Refusal) (s now : State) (u : Store) (f : Store → Outcome T Store) → s ≡ now
    → DoesOrNoMemory r s.store u (f s.store) → DoesOrNoMemory r now (with_store s u) (through (with_store now) (f now.store))
does_or_memory r s now u f view is = subst (λ (v : State). DoesOrNoMemory r v (with_store s u) (through (with_store v) (f v.store))) view
    (lifted_or_memory r s u (f s.store) is)

pub does_at_once : {T : Type 0} (r : Result T Refusal) (s now : State) (u : Store) (f : Store → Outcome T Store) → s ≡ now
    → DoesAtOnce r s.store u (f s.store) → DoesAtOnce r now (with_store s u) (through (with_store now) (f now.store))
does_at_once r s now u f view is =
    subst (λ (v : State). DoesAtOnce r v (with_store s u) (through (with_store v) (f v.store))) view (lifted_at_once r s u (f s.store) is)

-- ---- a store with entries more

still : (s t : Store) → t.config ≡ s.config → t.entries ≡ s.entries → HasGrown s t
still s t config entries = record { config = config; more = []; entries = entries ∙ sym (append-nil s.entries); others = tt }

pub same : (s t : Store) → t ≡ s → HasGrown s t
same s t is = still s t (ap (λ (x : Store). x.config) is) (ap (λ (x : Store). x.entries) is)

one : (s t : Store) (e : Entry) → t ≡ journaled s e → ¬ (e.source ≡ Partner) → HasGrown s t
one s t e is other = record {
  config = ap (λ (x : Store). x.config) is;
  more = e ∷ [];
  entries = ap (λ (x : Store). x.entries) is;
  others = (other, tt);
}

both : (s m t : Store) → HasGrown s m → HasGrown m t → HasGrown s t
both s m t a b = record {
  config = b.config ∙ a.config;
  more = a.more ++ b.more;
  entries = b.entries ∙ ap (λ (es : List Entry). es ++ b.more) a.entries ∙ append_assoc s.entries a.more b.more;
  others = all-append (λ (e : Entry). ¬ (e.source ≡ Partner)) a.more b.more a.others b.others;
}

step : (s : Store) (seat : ℕ) (source : Source) (key : List ℕ) (v : Version) → ¬ (source ≡ Partner) → HasGrown s (accept_step s seat source key v)
step s seat source key v other = elim (knows s key v) as (λ b. HasGrown s (cond b s (journaled s (entry_of s seat source key v)))) [
  | true ↦ same s s refl
  | false ↦ one s (journaled s (entry_of s seat source key v)) (entry_of s seat source key v) refl other
]

offered : (s : Store) (seat : ℕ) (source : Source) (offers : List (List ℕ × Version)) → ¬ (source ≡ Partner)
    → HasGrown s (accepted_in s seat source offers)
offered s seat source [] other = same s s refl
offered s seat source (o ∷ offers) other =
    let next = accept_step s seat source o.0 o.1 in
    both s next (accepted_in next seat source offers) (step s seat source o.0 o.1 other) (offered next seat source offers other)

-- ---- by a call

pub put_grows : (test : ContextTest) (s : Store) (seat at : ℕ) (key : List ℕ) (context : Pairs) (kind : Kind) (value : List ℕ) (x : Entry) (t : Store)
    → put_by test s seat at key context kind value ≡ gives x t → HasGrown s t
put_grows test s seat at key context kind value x t h =
    one s t (put_entry s seat at key context kind value) (put_by_gives test s seat at key context kind value x t h).1
    (λ from. let clash : Client ≡ Partner = from in cc)

not_partner : (source : Source) → IsTrue (is_sent source) → ¬ (source ≡ Partner)
not_partner Client is from = let clash : Client ≡ Partner = from in cc
not_partner Copy is from = let clash : Copy ≡ Partner = from in cc
not_partner Hint is from = let clash : Hint ≡ Partner = from in cc
not_partner Partner is from = let clash : false ≡ true = is in cc

pub accept_grows : (s : Store) (seat : ℕ) (source : Source) (key : List ℕ) (v : Version) → IsTrue (is_sent source) → (r : Accepted) (t : Store)
    → accept s seat source key v ≡ gives r t → HasGrown s t
accept_grows s seat source key v sent (Taken x) t h =
    one s t (entry_of s seat source key v) (accept_gives s seat source key v (Taken x) t h).1 (not_partner source sent)
accept_grows s seat source key v sent Known t h = same s t (accept_gives s seat source key v Known t h)

copied : (s : Store) (seat : ℕ) (offers : List (List ℕ × Version)) (a : Loaded) (t : Store) → accept_offers s seat Copy offers ≡ gives a t
    → HasGrown s t
copied s seat offers a t h =
    let end = accepted_in s seat Copy offers in
    let given = past (accept_fault s seat Copy offers) (gives (loaded s end offers) end) a t h in
    let now : end ≡ t = cc in
    subst (HasGrown s) now (offered s seat Copy offers (λ from. let clash : Copy ≡ Partner = from in cc))

pub load_grows : (s : Store) (seat : ℕ) (rows : List Row) (a : Loaded) (t : Store) → load s seat rows ≡ gives a t → HasGrown s t
load_grows s seat rows a t h = copied s seat (offers_of rows) a t (past (apart_fault s.config rows) _ a t h)

pub load_text_grows : (s : Store) (seat : ℕ) (text : List ℕ) (a : Loaded) (t : Store) → load_text s seat text ≡ gives a t → HasGrown s t
load_text_grows s seat text a t h = by_rows (rows_in s.config.format text) _ h
  where
    by_rows : (r : Result (List Row) ℕ) (n : ℕ) → load_read s seat n r ≡ gives a t → HasGrown s t
    by_rows (Ok rows) n e = load_grows s seat rows a t e
    by_rows (Err left) n e = absurd (cc)

pub load_format_grows : (s : Store) (seat : ℕ) (format : Format) (text : List ℕ) (a : Loaded) (t : Store) → load_format s seat format text ≡ gives a t
    → HasGrown s t
load_format_grows s seat format text a t h = by_rows (rows_in format text) _ (past (newer_fault s.config.format format) _ a t h)
  where
    by_rows : (r : Result (List Row) ℕ) (n : ℕ) → load_rows_read s seat n r ≡ gives a t → HasGrown s t
    by_rows (Ok rows) n e = copied s seat (offers_of rows) a t (past (astray_fault s.config rows) _ a t e)
    by_rows (Err left) n e = absurd (cc)

pub install_grows : (s : Store) (node : Node) (text : List ℕ) (x : ⊤) (t : Store) → install s node text ≡ gives x t → HasGrown s t
install_grows s node text x t h = by_test (is_current (tree_in s) node text) h
  where
    by_test : (b : Bool) → through (with_tree s) (cond b (gives tt (installed (tree_in s) node text)) (refuses Stale)) ≡ gives x t → HasGrown s t
    by_test true e = let now : with_tree s (installed (tree_in s) node text) ≡ t = cc in
        still s t (ap (λ (u : Store). u.config) (sym now)) (ap (λ (u : Store). u.entries) (sym now))
    by_test false e = absurd (cc)

-- ---- the state afterwards

-- it is right after a call whose outcome leaves a store with entries more
pub right_after : {T : Type 0} (r : Result T Refusal) (s : State) (u : Store) (o : Outcome T Store) → IsRight s → IsSound u
    → ((x : T) (t : Store) → o ≡ gives x t → HasGrown s.store t) → DoesOrNoMemory r s.store u o → IsRight (with_store s u)
right_after (Ok x) s u o ok sound grows is = grown_right s u ok sound (grows x u is)
right_after (Err e) s u o ok sound grows is = grown_right s u ok sound (same s.store u is.0)

-- the same of a call that allocates only at last, or not at all
pub or_memory : {T : Type 0} (r : Result T Refusal) (s u : Store) (o : Outcome T Store) → Does r s u o → DoesOrNoMemory r s u o
or_memory (Ok x) s u o is = is
or_memory (Err e) s u o is = (is.0, elim is.1 [ inl memory ↦ inl memory.0 | inr fault ↦ inr fault ])

pub at_once : {T : Type 0} (r : Result T Refusal) (s u : Store) (o : Outcome T Store) → DoesAtOnce r s u o → DoesOrNoMemory r s u o
at_once (Ok x) s u o is = is
at_once (Err e) s u o is = (is.0, inr is.1)

pub right_rehashed : (s : State) (u : Store) → IsRight s → IsSound u → stores.IsSameRange s.store u → IsRight (with_store s u)
right_rehashed s u ok sound is = grown_right s u ok sound (still s.store u is.config is.entries)

pub right_hashed : (s : State) (u : Store) → IsRight s → IsSound u → u ≡ record s.store { marks = u.marks } → IsRight (with_store s u)
right_hashed s u ok sound is = grown_right s u ok sound (still s.store u (ap (λ (x : Store). x.config) is) (ap (λ (x : Store). x.entries) is))

-- no copy is from a partner
pub copies_sent : (n seat : ℕ) (os : List (List ℕ × Version))
    → AllByRecursion (λ (e : Entry). e.source ≡ Partner → IsFromPartner [] e) (copies_from n seat os)
copies_sent n seat [] = tt
copies_sent n seat (o ∷ os) = ((λ from. absurd (let no : Copy ≡ Partner = from in cc)), copies_sent (n + 1) seat os)

-- a store without sessions whose entries are copies
pub right_renewed : (s : State) (seat limit : ℕ) → IsSound (renewed_by s seat limit).store → IsRight (renewed_by s seat limit)
right_renewed s seat limit sound =
    record {
      store = sound;
      records = tt;
      few = omega arith;
      few_open = omega arith;
      numbers = numbered_none s.next_session;
      partners = copies_sent 0 seat (held_offers s.store);
      settled = record { within = omega arith; others = tt };
      moment = tt;
    }

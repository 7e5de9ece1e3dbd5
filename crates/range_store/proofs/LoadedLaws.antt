-- A range that is saved and loaded, leaf by leaf, is a renewed range.
use Rattle.std.proofs.Common.{◌≡◌, ℕ, ◌+◌, ◌≤◌, Bool, true, false, cond, Option, Some, None, List, [], ◌∷◌, ◌++◌, length, map, refl, sym, ap, subst}
use Rattle.std.proofs.Common.{◌∙◌, inl, inr, arith, append_assoc, append-nil}
use Rattle.std.specs.Prelude.{nat_eq, nat_le, nat_lt}
use Rattle.std.specs.List.{flat_map, list_all, range_with_len, AllByRecursion}
use Rattle.std.proofs.lemmas.Bool.{cases_lt, le-leb, lt-ltb}
use Rattle.std.proofs.lemmas.Cmp.{nat_list_eq_equiv}
use Rattle.std.proofs.lemmas.List.{length-append}
use Rattle.std.proofs.lemmas.List.FromFn.{fill_by_all}
use Rattle.std.proofs.Math.Seq.{get_or-append_seam, take-append_seam}
use Rattle.vclock.specs.Answer.{first_fault}
use Rattle.vclock.specs.Outcome.{gives, ◌>>=◌, ◌>>◌}
use Rattle.vclock.specs.declared.format.Format.{Format}
use Rattle.vclock.specs.declared.refusal.Refusal.{Refusal}
use Rattle.vclock.specs.declared.refusal.Refusal.TheVariants.{BadRing, JournalFull, OtherRange}
use Rattle.version_set.specs.declared.version.Version.{Version}
use Rattle.version_set.specs.Version.{covered, offer_fault}
use Rattle.version_set.proofs.ListLaws.{all-filter}
use Rattle.range_journal.specs.declared.journal.Entry.{Entry}
use Rattle.range_journal.specs.declared.journal.Source.TheVariants.{Copy}
use Rattle.range_journal.specs.Journal.{held, versions_of, AreNews, AreNewsAfter, NeverCrowded}
use Rattle.range_journal.proofs.JournalLaws.{covered-held, never_refused}
use Rattle.key_ring.specs.Places.{range_at}
use Rattle.row_bytes.specs.Rows.{AreRows, row_text}
use Rattle.row_bytes.specs.declared.row.Row.{Row}
use Rattle.row_bytes.proofs.ManyRowLaws.{rows_read}
use Rattle.hash_tree.specs.Leaves.{rows_in_leaf}
use Rattle.tree_nodes.specs.Nodes.{is_on_path, kept_digest, dirtied}
use Rattle.range_tree.specs.Trees.{all_dirty}
use Rattle.range_tree.proofs.TreeLaws.{all_dirty-at}
use Rattle.range_store.specs.Config.{Config, is_config}
use Rattle.range_store.specs.Rows.{rows_of}
use Rattle.range_store.specs.Store.{Store, fresh, leaf_in, leaf_count, knows, entry_of, journaled, accept_step, IsSound}
use Rattle.range_store.specs.Offers.{offers_of, accepted_in, crowded_in, accept_fault}
use Rattle.range_store.specs.Renewals.{copies_from, held_offers, config_to, renewed_by, short_fault, renew_fault}
use Rattle.range_store.specs.Loads.{is_home, apart_fault, loaded, load, load_read, load_text, leaves_of, load_all}
use Rattle.range_store.proofs.BatchLaws.{Offers}
use Rattle.range_store.proofs.OfferLaws.{row_map_now}
use Rattle.range_store.proofs.StoreLaws.{eq_itself, knows_held}
use Rattle.range_store.proofs.RenewLaws.{copies-append, length-copies, offers-append, renewed_right, limit_fits, leaf_filter}

-- ---- texts

-- A text of rows is loaded as these rows.
pub text_loads : (s : Store) (seat : ℕ) (rows : List Row) → AreRows s.config.format rows
    → load_text s seat (flat_map (row_text s.config.format) rows) ≡ load s seat rows
text_loads s seat rows are =
    let text = flat_map (row_text s.config.format) rows in
    ap (load_read s seat (length text)) (rows_read s.config.format text rows are refl)

-- ---- marks

-- where all nodes are dirty, no leaf makes more of them dirty
stays_dirty : (format : Format) (leaf : ℕ) → dirtied format leaf (all_dirty format) ≡ all_dirty format
unfolding dirtied
stays_dirty format leaf =
    let marks = all_dirty format in
    sym (fill_by_all (λ (place : ℕ). cond (is_on_path format leaf place) None (kept_digest marks place)) marks (length marks) None refl
    (λ k less. all_dirty-at format k ∙ sym (none_by (is_on_path format leaf k) (kept_digest marks k) (all_dirty-at format k))))
  where
    none_by : (b : Bool) (o : Option (List ℕ)) → o ≡ None → cond b None o ≡ None
    none_by true o none = refl
    none_by false o none = none

-- ---- copies in their turn

-- a new range that accepted these versions as copies by a seat
abbrev copied : Config → ℕ → Offers → Store
copied c seat os = record { config = c; entries = copies_from 0 seat os; marks = all_dirty c.format }

-- copies of these versions are news, each in its turn, and no key ever has too many
record AreTurns (seat : ℕ) (os : Offers) : Type 0 where
  news : AreNews (copies_from 0 seat os)
  short : (key : List ℕ) → NeverCrowded (copies_from 0 seat os) key

-- an entry among news
pub news_inner : (before xs : List Entry) (e : Entry) (ys : List Entry) → AreNewsAfter before (xs ++ e ∷ ys)
    → covered e.version (versions_of (before ++ xs) e.key) ≡ false
news_inner before [] e ys news = subst (λ (es : List Entry). covered e.version (versions_of es e.key) ≡ false) (sym (append-nil before)) news.0
news_inner before (x ∷ xs) e ys news = subst (λ (es : List Entry). covered e.version (versions_of es e.key) ≡ false) (append_assoc before (x ∷ []) xs)
    (news_inner (before ++ x ∷ []) xs e ys news.1)

-- the copy of a version
abbrev next_copy : ℕ → Offers → List ℕ × Version → Entry
next_copy seat done o = record { number = length done; seat = seat; source = Copy; key = o.0; version = o.1 }

-- the copies before the copy of a version, and those after it
copies_around : (seat : ℕ) (done : Offers) (o : List ℕ × Version) (more : Offers)
    → copies_from 0 seat (done ++ o ∷ more) ≡ copies_from 0 seat done ++ next_copy seat done o ∷ copies_from (length done + 1) seat more
copies_around seat done o more =
    let same : 0 + length done ≡ length done = omega arith in
    copies-append 0 seat done (o ∷ more) ∙ ap (λ (n : ℕ). copies_from 0 seat done ++ copies_from n seat (o ∷ more)) same

turn_news : (c : Config) (seat : ℕ) (done : Offers) (o : List ℕ × Version) (more : Offers) → AreTurns seat (done ++ o ∷ more)
    → knows (copied c seat done) o.0 o.1 ≡ false
turn_news c seat done o more turns =
    sym (knows_held (copied c seat done) o.0 o.1)
    ∙ covered-held o.1 (copies_from 0 seat done) o.0
    ∙ news_inner [] (copies_from 0 seat done) (next_copy seat done o) (copies_from (length done + 1) seat more)
    (subst AreNews (copies_around seat done o more) turns.news)

turn_fits : (seat : ℕ) (done : Offers) (o : List ℕ × Version) (more : Offers) → AreTurns seat (done ++ o ∷ more)
    → offer_fault o.1 (held (copies_from 0 seat done) o.0) ≡ None
turn_fits seat done o more turns =
    let front = copies_from 0 seat done in
    let e = next_copy seat done o in
    let back = copies_from (length done + 1) seat more in
    never_refused (front ++ e ∷ back) (length front) e o.0 (held front o.0) o.1 (omega (arith, length-append front (e ∷ back)))
    (sym (get_or-append_seam front e back e)) (nat_list_eq_equiv.refl o.0)
    (ap (λ (es : List Entry). held es o.0) (sym (take-append_seam front (e ∷ back)))) refl
    (subst (λ (es : List Entry). NeverCrowded es o.0) (copies_around seat done o more) (turns.short o.0))

turn_step : (c : Config) (seat : ℕ) (done : Offers) (o : List ℕ × Version) (more : Offers) → AreTurns seat (done ++ o ∷ more)
    → accept_step (copied c seat done) seat Copy o.0 o.1 ≡ copied c seat (done ++ o ∷ [])
turn_step c seat done o more turns =
    let s = copied c seat done in
    let number : length (copies_from 0 seat done) ≡ length done = length-copies 0 seat done in
    let entries : copies_from 0 seat done ++ entry_of s seat Copy o.0 o.1 ∷ [] ≡ copies_from 0 seat (done ++ o ∷ []) =
    ap (λ (n : ℕ). copies_from 0 seat done ++ record { number = n; seat = seat; source = Copy; key = o.0; version = o.1 } ∷ []) number
    ∙ sym (copies_around seat done o []) in
    ap (λ b. cond b s (journaled s (entry_of s seat Copy o.0 o.1))) (turn_news c seat done o more turns)
    ∙ (λ i. record { config = c; entries = entries i; marks = stays_dirty c.format (leaf_in c o.0) i })

-- the versions after one
turns_on : (seat : ℕ) (done : Offers) (o : List ℕ × Version) (more : Offers) → AreTurns seat (done ++ o ∷ more)
    → AreTurns seat ((done ++ o ∷ []) ++ more)
turns_on seat done o more turns = subst (AreTurns seat) (sym (append_assoc done (o ∷ []) more)) turns

-- Versions that come in their turn are accepted.
turns_accepted : (c : Config) (seat : ℕ) (done os more : Offers) → AreTurns seat (done ++ (os ++ more))
    → accepted_in (copied c seat done) seat Copy os ≡ copied c seat (done ++ os)
turns_accepted c seat done [] more turns = ap (copied c seat) (sym (append-nil done))
turns_accepted c seat done (o ∷ os) more turns =
    ap (λ (s : Store). accepted_in s seat Copy os) (turn_step c seat done o (os ++ more) turns)
    ∙ turns_accepted c seat (done ++ o ∷ []) os more (turns_on seat done o (os ++ more) turns)
    ∙ ap (copied c seat) (append_assoc done (o ∷ []) os)

-- and none of them is one too many
turns_fit : (c : Config) (seat : ℕ) (done os more : Offers) → AreTurns seat (done ++ (os ++ more))
    → crowded_in (copied c seat done) seat Copy os ≡ None
turns_fit c seat done [] more turns = refl
turns_fit c seat done (o ∷ os) more turns =
    ap (λ (f : Option Refusal). first_fault f (crowded_in (accept_step (copied c seat done) seat Copy o.0 o.1) seat Copy os))
    (turn_fits seat done o (os ++ more) turns)
    ∙ ap (λ (s : Store). crowded_in s seat Copy os) (turn_step c seat done o (os ++ more) turns)
    ∙ turns_fit c seat (done ++ o ∷ []) os more (turns_on seat done o (os ++ more) turns)

turns_faultless : (c : Config) (seat : ℕ) (done os more : Offers) → AreTurns seat (done ++ (os ++ more)) → length (done ++ (os ++ more)) ≤ c.limit
    → accept_fault (copied c seat done) seat Copy os ≡ None
turns_faultless c seat done os more turns within =
    let s = copied c seat done in
    let count : length (accepted_in s seat Copy os).entries ≡ length (done ++ os) = ap (λ (t : Store). length t.entries)
    (turns_accepted c seat done os more turns) ∙ length-copies 0 seat (done ++ os) in
    let few : length (accepted_in s seat Copy os).entries ≤ c.limit = omega
    (arith, count, length-append done os, length-append done (os ++ more), length-append os more, within) in
    ap (λ (f : Option Refusal). first_fault f (cond (nat_le (length (accepted_in s seat Copy os).entries) c.limit) None (Some JournalFull)))
    (turns_fit c seat done os more turns)
    ∙ rw (le-leb (length (accepted_in s seat Copy os).entries) c.limit few) refl

-- ---- leaves

-- rows of the range, and of this leaf
home_all : (c : Config) (leaf : ℕ) (rows : List Row) → AllByRecursion (λ (r : Row). range_at c.bits r.key ≡ c.range) rows
    → AllByRecursion (λ (r : Row). leaf_in c r.key ≡ leaf) rows → list_all (λ (r : Row). is_home c leaf r.key) rows ≡ true
home_all c leaf [] here at = refl
home_all c leaf (r ∷ rows) here at = rw (here.0, at.0, eq_itself c.range, eq_itself leaf) (home_all c leaf rows here.1 at.1)

-- are not apart
together : (c : Config) (leaf : ℕ) (rows : List Row) → AllByRecursion (λ (r : Row). range_at c.bits r.key ≡ c.range) rows
    → AllByRecursion (λ (r : Row). leaf_in c r.key ≡ leaf) rows → apart_fault c rows ≡ None
together c leaf [] here at = refl
together c leaf (r ∷ rows) here at =
    let home : list_all (λ (x : Row). is_home c (leaf_in c r.key) x.key) (r ∷ rows) ≡ true = ap
    (λ (n : ℕ). list_all (λ (x : Row). is_home c n x.key) (r ∷ rows)) at.0 ∙ home_all c leaf (r ∷ rows) here at in
    ap (λ b. cond b None (Some OtherRange)) home

leaf_together : (c : Config) (leaf : ℕ) (rows : List Row) → AllByRecursion (λ (r : Row). range_at c.bits r.key ≡ c.range) rows
    → apart_fault c (rows_in_leaf (leaf_in c) leaf rows) ≡ None
leaf_together c leaf rows here =
    together c leaf (rows_in_leaf (leaf_in c) leaf rows)
    (all-filter (λ (r : Row). range_at c.bits r.key ≡ c.range) (λ (r : Row). nat_eq (leaf_in c r.key) leaf) rows here)
    (leaf_filter (leaf_in c) leaf rows)

-- ---- loading

-- rows of one leaf, whose versions come in their turn
loads_one : (c : Config) (seat : ℕ) (done : Offers) (rows : List Row) (more : Offers) → apart_fault c rows ≡ None
    → AreTurns seat (done ++ (offers_of rows ++ more)) → length (done ++ (offers_of rows ++ more)) ≤ c.limit
    → load (copied c seat done) seat rows ≡ gives (loaded (copied c seat done) (copied c seat (done ++ offers_of rows)) (offers_of rows))
    (copied c seat (done ++ offers_of rows))
loads_one c seat done rows more home turns within =
    let s = copied c seat done in
    let os = offers_of rows in
    let new = accepted_in s seat Copy os in
    ap (λ (f : Option Refusal). f >> (accept_fault s seat Copy os >> gives (loaded s new os) new)) home
    ∙ ap (λ (f : Option Refusal). f >> gives (loaded s new os) new) (turns_faultless c seat done os more turns within)
    ∙ ap (λ (t : Store). gives (loaded s t os) t) (turns_accepted c seat done os more turns)

abbrev leaf_lists : Config → List Row → List ℕ → List (List Row)
leaf_lists c rows leaves = map (λ leaf. rows_in_leaf (leaf_in c) leaf rows) leaves

abbrev leaf_rows : Config → List Row → List ℕ → List Row
leaf_rows c rows leaves = flat_map (λ leaf. rows_in_leaf (leaf_in c) leaf rows) leaves

loads_all : (c : Config) (seat : ℕ) (rows : List Row) (done : Offers) (leaves : List ℕ)
    → AllByRecursion (λ (r : Row). range_at c.bits r.key ≡ c.range) rows → AreTurns seat (done ++ offers_of (leaf_rows c rows leaves))
    → length (done ++ offers_of (leaf_rows c rows leaves)) ≤ c.limit
    → load_all (copied c seat done) seat (leaf_lists c rows leaves) ≡ gives tt (copied c seat (done ++ offers_of (leaf_rows c rows leaves)))
loads_all c seat rows done [] here turns within = ap (λ (os : Offers). gives tt (copied c seat os)) (sym (append-nil done))
loads_all c seat rows done (leaf ∷ leaves) here turns within =
    let first = rows_in_leaf (leaf_in c) leaf rows in
    let rest = leaf_rows c rows leaves in
    let now = offers_of first in
    let later = offers_of rest in
    let split : done ++ offers_of (first ++ rest) ≡ done ++ (now ++ later) = ap (λ (os : Offers). done ++ os) (offers-append first rest) in
    let whole : done ++ offers_of (first ++ rest) ≡ (done ++ now) ++ later = split ∙ sym (append_assoc done now later) in
    ap (λ o. o >>= λ one. load_all one.1 seat (leaf_lists c rows leaves))
    (loads_one c seat done first later (leaf_together c leaf rows here) (subst (AreTurns seat) split turns)
    (subst (λ (os : Offers). length os ≤ c.limit) split within))
    ∙ loads_all c seat rows (done ++ now) leaves here (subst (AreTurns seat) whole turns) (subst (λ (os : Offers). length os ≤ c.limit) whole within)
    ∙ ap (λ (os : Offers). gives tt (copied c seat os)) (sym whole)

-- ---- a range that is saved and loaded

-- no more versions are held than the limit allows
held_fit : (s : Store) (limit : ℕ) → renew_fault s limit ≡ None → length (held_offers s) ≤ limit
held_fit s limit none = by_config (is_config (config_to s.config limit)) none
  where
    by_short : (b : Bool) → nat_lt limit (length (held_offers s)) ≡ b → cond b (Some JournalFull) None ≡ None → length (held_offers s) ≤ limit
    by_short true e f = absurd (let no : Some JournalFull ≡ None = f in cc)
    by_short false e f = elim (cases_lt limit (length (held_offers s))) [
      | inl more ↦ absurd (let clash : false ≡ true = sym e ∙ lt-ltb limit (length (held_offers s)) more in cc)
      | inr fine ↦ fine
    ]

    by_config : (b : Bool) → cond b (short_fault s limit) (Some BadRing) ≡ None → length (held_offers s) ≤ limit
    by_config true e = by_short (nat_lt limit (length (held_offers s))) refl e
    by_config false e = absurd (let no : Some BadRing ≡ None = e in cc)

-- Loading the rows of a range's leaves into a new one makes the renewed range, whose nodes are all dirty.
pub leaves_load : (s : Store) (seat limit : ℕ) → IsSound s → renew_fault s limit ≡ None
    → load_all (fresh (config_to s.config limit)) seat (leaves_of s) ≡ gives tt
    (record (renewed_by s seat limit) { marks = all_dirty s.config.format })
leaves_load s seat limit ok none =
    let right = renewed_right s seat limit ok (limit_fits s limit none) in
    loads_all (config_to s.config limit) seat (rows_of s.entries) [] (range_with_len 0 (leaf_count s.config)) (row_map_now s ok).here
    (record { news = right.news; short = right.short }) (held_fit s limit none)

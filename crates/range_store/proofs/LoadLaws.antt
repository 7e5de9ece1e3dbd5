-- What becomes of a range when the rows of a leaf are loaded.
use Rattle.std.proofs.Common.{◌≡◌, ◌⊎◌, ℕ, ◌+◌, ◌-◌, ◌*◌, ◌<◌, ◌≤◌, Bool, true, false, cond, Option, Some, None, List, [], ◌∷◌, ◌++◌, length, set}
use Rattle.std.proofs.Common.{drop, refl, sym, ap, subst, ◌∙◌, inl, inr, arith}
use Rattle.std.specs.Prelude.{Ok, IsTrue, nat_eq, nat_le, Result, Err}
use Rattle.std.specs.List.{AllByRecursion, list_all, flat_map}
use Rattle.std.proofs.lemmas.Bool.{eqb-true, eq-eqb, and_parts, and_from, le-leb, lt-ltb, cases_lt}
use Rattle.std.proofs.lemmas.Bool.Decides.{nat_tests}
use Rattle.std.proofs.lemmas.List.{length-append, length-map}
use Rattle.std.proofs.Math.Seq.{drop-append_seam}
use Rattle.vclock.specs.Bytes.{key_fault}
use Rattle.vclock.specs.Outcome.{Outcome, gives, refuses, is_given}
use Rattle.vclock.specs.declared.format.Format.{Format}
use Rattle.vclock.specs.declared.refusal.Refusal.{Refusal}
use Rattle.vclock.specs.declared.refusal.Refusal.TheVariants.{NoMemory, OtherRange, JournalFull}
use Rattle.version_set.specs.Kind.{value_fault}
use Rattle.version_set.specs.declared.version.Version.{Version}
use Rattle.range_journal.specs.declared.journal.Entry.{Entry}
use Rattle.range_journal.specs.declared.journal.Source.{Source}
use Rattle.range_journal.specs.declared.journal.Source.TheVariants.{Copy}
use Rattle.range_journal.specs.Journal.{reserve}
use Rattle.range_journal.specs.Log.{Log}
use Rattle.range_journal.proofs.JournalLaws.{reserve_err, Reserved}
use Rattle.key_ring.specs.Places.{range_at}
use Rattle.row_bytes.specs.declared.row.Row.{Row}
use Rattle.row_bytes.specs.Rows.{IsRow, IsVersion, AreRows, row_text}
use Rattle.row_bytes.proofs.LimitLaws.{no_fault_else}
use Rattle.row_bytes.proofs.ManyRowLaws.{rows_read}
use Rattle.hash_tree.specs.Leaves.{Bucket}
use Rattle.tree_nodes.specs.Nodes.{dirtied}
use Rattle.snapshot.specs.RowMaps.{IsRowMap}
use Rattle.snapshot.specs.Snapshots.{leaves_of}
use Rattle.range_tree.specs.Trees.{IsChange}
use Rattle.range_store.specs.Config.{Config}
use Rattle.vclock.specs.Answer.{AnswersOrNoMemory}
use Rattle.range_store.specs.Batches.{IsOfferFor, IsBatchOf, IsAcceptable}
use Rattle.range_store.specs.Loads.{is_home, first_leaf, apart_fault, rows_in, AreLeafRows, loaded, accept_offers, load}
use Rattle.range_store.specs.Offers.{offers_in, offers_of, accepted_in, crowded_in}
use Rattle.range_store.specs.Store.{Store, IsSound, rows_now, leaf_in, leaf_count, bucket_of, place_fault}
use Rattle.range_store.specs.declared.store.loading.Loaded.{Loaded}
use Rattle.range_store.specs.declared.store.batch.Batch.{Batch}
use Rattle.range_store.proofs.StoreLaws.{eq_itself}
use Rattle.range_store.proofs.BatchLaws.{Offers}
use Rattle.range_store.proofs.HeldLaws.{All-weaker}
use Rattle.range_store.proofs.TakenLaws.{reached, config_stays, accepted_sound, taken_grown, offers_all}
use Rattle.range_store.proofs.ChangeLaws.{given_state, batch_change, reached_is}
use Rattle.range_store.proofs.OfferLaws.{row_map_now}

-- ---- rows of one leaf

-- the rows are of the range and of the leaf
abbrev pub are_home : Config → ℕ → List Row → Bool
are_home c leaf rows = list_all (λ (r : Row). is_home c leaf r.key) rows

-- rows that pass the test lie in the range and in the leaf
pub all_home : (c : Config) (leaf : ℕ) (rows : List Row) → are_home c leaf rows ≡ true
    → AllByRecursion (λ (r : Row). range_at c.bits r.key ≡ c.range) rows × AllByRecursion (λ (r : Row). leaf_in c r.key ≡ leaf) rows
all_home c leaf [] e = (tt, tt)
all_home c leaf (r ∷ rows) e =
    let both = and_parts (is_home c leaf r.key) (are_home c leaf rows) e in
    let place = and_parts _ _ both.0 in
    let rest = all_home c leaf rows both.1 in
    ((eqb-true _ _ place.0, rest.0), (eqb-true _ _ place.1, rest.1))

-- rows that lie there pass it
pub home_all : (c : Config) (leaf : ℕ) (rows : List Row) → AllByRecursion (λ (r : Row). range_at c.bits r.key ≡ c.range) rows
    → AllByRecursion (λ (r : Row). leaf_in c r.key ≡ leaf) rows → are_home c leaf rows ≡ true
home_all c leaf [] range home = refl
home_all c leaf (r ∷ rows) range home = and_from (is_home c leaf r.key) (are_home c leaf rows) (and_from _ _ (eq-eqb _ _ range.0) (eq-eqb _ _ home.0))
    (home_all c leaf rows range.1 home.1)

-- the test of the leaf of the first row says whether there is a fault
pub home_together : (c : Config) (leaf : ℕ) (rows : List Row) → leaf ≡ first_leaf c rows → are_home c leaf rows ≡ true → apart_fault c rows ≡ None
home_together c leaf rows first all = rw (sym (ap (λ (n : ℕ). are_home c n rows) first) ∙ all) refl

-- and rows of one leaf have none
pub none_apart : (c : Config) (leaf : ℕ) (rows : List Row) → AllByRecursion (λ (r : Row). range_at c.bits r.key ≡ c.range) rows
    → AllByRecursion (λ (r : Row). leaf_in c r.key ≡ leaf) rows → apart_fault c rows ≡ None
none_apart c leaf [] range home = refl
none_apart c leaf (r ∷ rows) range home = home_together c leaf (r ∷ rows) (sym home.0) (home_all c leaf (r ∷ rows) range home)

-- ---- rows that were read

-- rows without a fault are those of a leaf
pub leaf_rows : (c : Config) (f : Format) (leaf : ℕ) (rows : List Row) → f ≡ c.format → AreRows f rows → leaf < leaf_count c
    → leaf ≡ first_leaf c rows → apart_fault c rows ≡ None → AreLeafRows c leaf rows
leaf_rows c f leaf rows format are inside first none =
    let home = all_home c leaf rows (ap (λ (n : ℕ). are_home c n rows) first ∙ no_fault_else (are_home c (first_leaf c rows) rows) OtherRange none) in
    record { are = subst (λ (g : Format). AreRows g rows) format are; inside = inside; range = home.0; leaf_is = home.1 }

-- the text of rows has them
pub rows_found : (c : Config) (f : Format) (text : List ℕ) (rows : List Row) → f ≡ c.format → AreRows f rows → text ≡ flat_map (row_text f) rows
    → rows_in c.format text ≡ Ok rows
rows_found c f text rows format are spelled = ap (λ (g : Format). rows_in g text) (sym format) ∙ rows_read f text rows are spelled

-- a row has at most 64 versions
pub offers_few : (f : Format) (rows : List Row) → AllByRecursion (IsRow f) rows → length (offers_of rows) ≤ length rows * 64
offers_few f [] all = omega arith
offers_few f (r ∷ rows) all =
    omega (
      arith,
      offers_few f rows all.1,
      all.0.few,
      length-append (offers_in r) (offers_of rows),
      length-map {B = List ℕ × Version} r.versions (λ (v : Version). (r.key, v)),
    )

-- ---- their versions

-- a version that has its place in a range
pub placed : (c : Config) (key : List ℕ) (v : Version) → key_fault key ≡ None → value_fault c.format v.kind v.value ≡ None
    → range_at c.bits key ≡ c.range → place_fault c key v.kind v.value ≡ None
placed c key v fits value range = rw (fits, value, range, eq_itself c.range) refl

row_offers : (c : Config) (leaf : ℕ) (rows : List Row) → AllByRecursion (IsRow c.format) rows
    → AllByRecursion (λ (r : Row). range_at c.bits r.key ≡ c.range) rows → AllByRecursion (λ (r : Row). leaf_in c r.key ≡ leaf) rows
    → AllByRecursion (λ (r : Row). AllByRecursion (λ v. IsOfferFor c leaf r.key v) r.versions) rows
row_offers c leaf [] each range home = tt
row_offers c leaf (r ∷ rows) each range home = (
  All-weaker (IsVersion c.format) (λ v. IsOfferFor c leaf r.key v) r.versions (λ v is. record {
    leaf_is = sym home.0;
    here = placed c r.key v each.0.key is.value range.0;
    clock = is.clock;
  }) each.0.each,
  row_offers c leaf rows each.1 range.1 home.1,
)

pub leaf_offers : (c : Config) (leaf : ℕ) (rows : List Row) → AreLeafRows c leaf rows
    → AllByRecursion (λ o. IsOfferFor c leaf o.0 o.1) (offers_of rows)
leaf_offers c leaf rows are = offers_all (IsOfferFor c leaf) rows (row_offers c leaf rows are.are.each are.range are.leaf_is)

pub offer_leaves : (c : Config) (leaf : ℕ) (offers : Offers) → AllByRecursion (λ o. IsOfferFor c leaf o.0 o.1) offers
    → AllByRecursion (λ o. leaf ≡ leaf_in c o.0) offers
offer_leaves c leaf offers homes = All-weaker _ _ offers (λ o is. is.leaf_is) homes

-- a batch of the rows of a leaf can be accepted
pub acceptable : (s : Store) (seat : ℕ) (c : Config) (leaf : ℕ) (rows : List Row) (r : Result Batch Refusal) → c ≡ s.config → AreLeafRows c leaf rows
    → AnswersOrNoMemory r (crowded_in s seat Copy (offers_of rows)) (IsBatchOf s seat Copy leaf (offers_of rows))
    → AnswersOrNoMemory r (crowded_in s seat Copy (offers_of rows)) (IsAcceptable s seat Copy leaf (offers_of rows))
acceptable s seat c leaf rows (Ok b) config are is =
    let here = subst (λ (x : Config). AreLeafRows x leaf rows) config are in
    (is.0, record { inside = here.inside; homes = leaf_offers s.config leaf rows here; fits = is.0; batch = is.1 })
acceptable s seat c leaf rows (Err e) config are is = is

-- ---- a batch that is accepted

-- the entries and the marks after a batch
pub record IsTaken (s : Store) (seat : ℕ) (source : Source) (leaf : ℕ) (offers : Offers) (b : Batch) (entries : List Entry)
    (marks : List (Option (List ℕ))) : Type 0 where
  pub can : IsAcceptable s seat source leaf offers b
  pub entries_are : entries ≡ s.entries ++ b.entries.items
  pub marks_are : marks ≡ cond (nat_eq (length b.entries.items) 0) s.marks (dirtied s.config.format leaf s.marks)

-- the number of entries then
pub taken_count : (s : Store) (seat : ℕ) (source : Source) (leaf : ℕ) (offers : Offers) (b : Batch) → IsAcceptable s seat source leaf offers b
    → length (accepted_in s seat source offers).entries ≡ length s.entries + length b.entries.items
taken_count s seat source leaf offers b is = sym (ap length is.batch.entries) ∙ length-append s.entries b.entries.items

-- the store then
pub taken_is : (s : Store) (seat : ℕ) (source : Source) (leaf : ℕ) (offers : Offers) (b : Batch) (entries : List Entry)
    (marks : List (Option (List ℕ))) → IsTaken s seat source leaf offers b entries marks
    → record { config = s.config; entries = entries; marks = marks } ≡ accepted_in s seat source offers
taken_is s seat source leaf offers b entries marks is =
    let end = accepted_in s seat source offers in
    let moved = reached s s leaf seat source offers (offer_leaves s.config leaf offers is.can.homes) (inl refl) in
    let es : entries ≡ end.entries = is.entries_are ∙ is.can.batch.entries in
    (λ i. record { config = s.config; entries = es i; marks = is.marks_are i })
    ∙ reached_is s leaf end (length b.entries.items) (taken_count s seat source leaf offers b is.can) moved

-- a batch keeps the store sound
batch_right : (s : Store) (seat : ℕ) (source : Source) (leaf : ℕ) (offers : Offers) (b : Batch) → IsSound s → IsAcceptable s seat source leaf offers b
    → IsSound (accepted_in s seat source offers)
batch_right s seat source leaf offers b ok is =
    accepted_sound s.config s seat source offers refl ok
    (All-weaker _ _ offers (λ o x. record { leaf_is = refl; here = x.here; clock = x.clock }) is.homes) is.fits

pub taken_right : (s : Store) (seat : ℕ) (source : Source) (leaf : ℕ) (offers : Offers) (b : Batch) (entries : List Entry)
    (marks : List (Option (List ℕ))) → IsSound s → IsTaken s seat source leaf offers b entries marks
    → IsSound (record { config = s.config; entries = entries; marks = marks })
taken_right s seat source leaf offers b entries marks ok is =
    subst IsSound (sym (taken_is s seat source leaf offers b entries marks is)) (batch_right s seat source leaf offers b ok is.can)

-- the leaves then
pub taken_leaves : (s : Store) (seat : ℕ) (source : Source) (leaf : ℕ) (offers : Offers) (b : Batch) (leaves : List Bucket) → IsSound s
    → IsAcceptable s seat source leaf offers b → leaves ≡ set (leaves_of (rows_now s)) leaf b.leaf
    → IsChange (rows_now s) leaf leaves (rows_now (record s { entries = s.entries ++ b.entries.items }))
taken_leaves s seat source leaf offers b leaves ok is set_is =
    let end = accepted_in s seat source offers in
    let grown = taken_grown (λ key v. leaf ≡ leaf_in s.config key) s seat source offers (offer_leaves s.config leaf offers is.homes) in
    let es : s.entries ++ b.entries.items ≡ s.entries ++ grown.more = is.batch.entries ∙ grown.entries in
    let now : b.leaf ≡ bucket_of s.config (s.entries ++ grown.more) leaf = is.batch.batch.leaf_is
    ∙ ap (λ (xs : List Entry). bucket_of s.config xs leaf) es in
    let config = config_stays s seat source offers in
    let there : rows_now end ≡ rows_now (record s { entries = s.entries ++ grown.more }) = λ i. rows_now
    (record s { config = config i; entries = grown.entries i }) in
    let map = subst IsRowMap there (row_map_now end (batch_right s seat source leaf offers b ok is)) in
    subst (λ (xs : List Entry). IsChange (rows_now s) leaf leaves (rows_now (record s { entries = xs }))) (sym es)
    (batch_change s grown.more leaf leaves b.leaf map is.inside grown.all now set_is)

-- ---- what a load answers

-- entries for all of these versions, none of which is refused
pub record AreEntriesOf (s : Store) (seat : ℕ) (source : Source) (offers : Offers) (es : List Entry) (known : ℕ) : Type 0 where
  pub fits : crowded_in s seat source offers ≡ None
  pub entries : s.entries ++ es ≡ (accepted_in s seat source offers).entries
  pub count : length es + known ≡ length offers

entries_count : (s : Store) (seat : ℕ) (source : Source) (offers : Offers) (es : List Entry) (known : ℕ) → AreEntriesOf s seat source offers es known
    → length (accepted_in s seat source offers).entries ≡ length s.entries + length es
entries_count s seat source offers es known are = sym (ap length are.entries) ∙ length-append s.entries es

-- they are loaded if the journal has room
load_by : (s : Store) (seat : ℕ) (source : Source) (offers : Offers) (room : Bool) → crowded_in s seat source offers ≡ None
    → nat_le (length (accepted_in s seat source offers).entries) s.config.limit ≡ room
    → accept_offers s seat source offers ≡ cond room (gives (loaded s (accepted_in s seat source offers) offers) (accepted_in s seat source offers))
    (refuses JournalFull)
load_by s seat source offers true fits room = rw (fits, room) refl
load_by s seat source offers false fits room = rw (fits, room) refl

-- the journal of a store
pub record IsLogOf (s : Store) (log : Log) : Type 0 where
  pub entries : log.entries ≡ s.entries
  pub limit : log.limit ≡ s.config.limit

-- of one that another value of it shows
pub log_of : (s now : Store) (log : Log) → s ≡ now → log.entries ≡ s.entries → log.limit ≡ s.config.limit → IsLogOf now log
log_of s now log view entries limit =
    record { entries = entries ∙ ap (λ (u : Store). u.entries) view; limit = limit ∙ ap (λ (u : Store). u.config.limit) view }

pub room_in : (s : Store) (log new : Log) (n : ℕ) → IsLogOf s log → Reserved log new n → length s.entries + n ≤ s.config.limit
room_in s log new n is reserved = omega (arith, reserved.within, ap length is.entries, is.limit)

-- there is room
pub load_given : (s : Store) (seat : ℕ) (source : Source) (offers : Offers) (es : List Entry) (known : ℕ) → AreEntriesOf s seat source offers es known
    → length s.entries + length es ≤ s.config.limit
    → accept_offers s seat source offers ≡ gives (record { taken = length es; known = known }) (accepted_in s seat source offers)
load_given s seat source offers es known are room =
    let end = accepted_in s seat source offers in
    let count = entries_count s seat source offers es known are in
    let taken : length end.entries - length s.entries ≡ length es = omega (arith, count) in
    let rest : (length s.entries + length offers) - length end.entries ≡ known = omega (arith, count, are.count) in
    load_by s seat source offers true are.fits (le-leb _ _ (omega (arith, count, room)))
    ∙ (λ i. gives (record { taken = taken i; known = rest i }) end)

-- there is none
load_full : (s : Store) (seat : ℕ) (source : Source) (offers : Offers) (es : List Entry) (known : ℕ) → AreEntriesOf s seat source offers es known
    → s.config.limit < length s.entries + length es → accept_offers s seat source offers ≡ refuses JournalFull
load_full s seat source offers es known are full =
    load_by s seat source offers false are.fits (not_within _ _ (omega (arith, entries_count s seat source offers es known are, full)))
  where
    not_within : (a b : ℕ) → b < a → nat_le a b ≡ false
    not_within a b h = grind (arith, nat_tests)

-- there is no memory
pub load_memory : (s : Store) (seat : ℕ) (source : Source) (offers : Offers) (es : List Entry) (known : ℕ) (e : Refusal)
    → AreEntriesOf s seat source offers es known → length s.entries + length es ≤ s.config.limit → e ≡ NoMemory
    → ((e ≡ NoMemory) × IsTrue (is_given (accept_offers s seat source offers))) ⊎ (accept_offers s seat source offers ≡ refuses e)
load_memory s seat source offers es known e are room memory =
    inl (memory, subst (λ (x : Outcome Loaded Store). IsTrue (is_given x)) (sym (load_given s seat source offers es known are room)) refl)

-- the journal makes no room for so many
pub load_refused : (s : Store) (seat : ℕ) (source : Source) (offers : Offers) (es : List Entry) (known : ℕ) (e : Refusal) (log : Log) (n : ℕ)
    → AreEntriesOf s seat source offers es known → IsLogOf s log → n ≡ length es
    → ((e ≡ NoMemory) × IsTrue (is_given (reserve log n))) ⊎ (reserve log n ≡ refuses e)
    → ((e ≡ NoMemory) × IsTrue (is_given (accept_offers s seat source offers))) ⊎ (accept_offers s seat source offers ≡ refuses e)
load_refused s seat source offers es known e log n are is len (inl memory) = elim (cases_lt log.limit (length log.entries + n)) [
  | inl full ↦ absurd (let no = rw (lt-ltb log.limit (length log.entries + n) full) at memory.1 in cc)
  | inr room ↦ load_memory s seat source offers es known e are (omega (arith, room, is.limit, ap length is.entries, len)) memory.0
]
load_refused s seat source offers es known e log n are is len (inr full) =
    let both = reserve_err log n e full in
    inr (load_full s seat source offers es known are (omega (arith, both.0, is.limit, ap length is.entries, len))
    ∙ ap (λ (x : Refusal). refuses x) (sym both.1))

-- rows of one leaf
pub load_is : (s : Store) (seat : ℕ) (c : Config) (leaf : ℕ) (rows : List Row) → c ≡ s.config → AreLeafRows c leaf rows
    → load s seat rows ≡ accept_offers s seat Copy (offers_of rows)
load_is s seat c leaf rows config are = rw (ap (λ (x : Config). apart_fault x rows) (sym config) ∙ none_apart c leaf rows are.range are.leaf_is) refl

pub batch_entries : (s : Store) (seat : ℕ) (source : Source) (leaf : ℕ) (offers : Offers) (b : Batch) → IsAcceptable s seat source leaf offers b
    → AreEntriesOf s seat source offers b.entries.items b.known
batch_entries s seat source leaf offers b is = record { fits = is.fits; entries = is.batch.entries; count = is.batch.count }

-- one version would be too many for its key
pub load_crowded : (s : Store) (seat : ℕ) (c : Config) (leaf : ℕ) (rows : List Row) (e : Refusal) → c ≡ s.config → AreLeafRows c leaf rows
    → crowded_in s seat Copy (offers_of rows) ≡ Some e → load s seat rows ≡ refuses e
load_crowded s seat c leaf rows e config are crowd = load_is s seat c leaf rows config are ∙ rw crowd refl

-- what was accepted are the entries of the batch
pub load_tells : (s new : Store) (seat : ℕ) (source : Source) (leaf : ℕ) (offers : Offers) (b : Batch) (report : Loaded)
    → IsAcceptable s seat source leaf offers b → accept_offers s seat source offers ≡ gives report new
    → drop (length s.entries) new.entries ≡ b.entries.items
load_tells s new seat source leaf offers b report is done =
    let end = accepted_in s seat source offers in
    by_case (nat_le (length end.entries) s.config.limit) (sym (load_by s seat source offers (nat_le (length end.entries) s.config.limit) is.fits refl)
    ∙ done)
  where
    by_case : (room : Bool)
        → cond room (gives (loaded s (accepted_in s seat source offers) offers) (accepted_in s seat source offers))
        (refuses JournalFull) ≡ gives report new
        → drop (length s.entries) new.entries ≡ b.entries.items
    by_case true same = ap (λ (x : Store). drop (length s.entries) x.entries) (given_state same) ∙ ap (drop (length s.entries)) (sym is.batch.entries)
        ∙ drop-append_seam s.entries b.entries.items
    by_case false clash = absurd cc

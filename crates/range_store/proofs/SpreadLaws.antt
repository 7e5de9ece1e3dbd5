-- What becomes of a range when rows of any leaves are loaded.
use Rattle.std.proofs.Common.{◌≡◌, ◌⊎◌, ℕ, ◌+◌, ◌<◌, ◌≤◌, true, false, cond, Option, Some, None, List, [], ◌∷◌, ◌++◌, length, map, get_or, take}
use Rattle.std.proofs.Common.{drop, refl, sym, ap, subst, ◌∙◌, inl, inr, arith, append_assoc, append-nil}
use Rattle.std.specs.Prelude.{Ok, nat_le}
use Rattle.std.specs.List.{AllByRecursion}
use Rattle.std.proofs.lemmas.Bool.{eqb-true, and_parts, lt-ltb, le-ltb, cases_lt}
use Rattle.std.proofs.lemmas.List.{length-append, length-map, length-take}
use Rattle.vclock.specs.Answer.{first_fault}
use Rattle.vclock.specs.Bytes.{key_fault}
use Rattle.vclock.specs.Outcome.{Outcome, gives, refuses, ◌>>◌}
use Rattle.vclock.specs.declared.format.Format.{Format}
use Rattle.vclock.specs.declared.format.Format.TheVariants.{One, Two}
use Rattle.vclock.specs.declared.refusal.Refusal.{Refusal}
use Rattle.vclock.specs.declared.refusal.Refusal.TheVariants.{NoMemory, OtherRange, JournalFull}
use Rattle.version_set.specs.Kind.{value_fault}
use Rattle.version_set.specs.declared.kind.Kind.{Kind}
use Rattle.version_set.specs.declared.kind.Kind.TheVariants.{Live, Tombstone}
use Rattle.version_set.specs.Version.{covered, offer_fault}
use Rattle.version_set.specs.declared.version.Version.{Version}
use Rattle.range_journal.specs.declared.journal.Entry.{Entry}
use Rattle.range_journal.specs.declared.journal.Source.TheVariants.{Copy}
use Rattle.range_journal.specs.Journal.{held}
use Rattle.range_journal.specs.Log.{AreNumberedFrom}
use Rattle.range_journal.proofs.JournalLaws.{AreNumberedFrom-push}
use Rattle.key_ring.specs.Places.{range_at}
use Rattle.row_bytes.specs.declared.row.Row.{Row}
use Rattle.row_bytes.specs.Rows.{IsRow, IsVersion}
use Rattle.row_bytes.proofs.LimitLaws.{no_fault_else}
use Rattle.hash_tree.specs.Leaves.{versions_in}
use Rattle.range_store.proofs.HeldLaws.{All-weaker}
use Rattle.snapshot.specs.RowMaps.{RowMap}
use Rattle.snapshot.specs.RowMaps as maps
use Rattle.range_tree.specs.Trees.{RangeTree, offered_to}
use Rattle.range_store.specs.Config.{Config}
use Rattle.range_store.specs.FormatLoads.{newer_fault, are_here, astray_fault, load_rows, load_format, IsSpread, IsSpreadable}
use Rattle.range_store.specs.Batches.{IsOfferFor}
use Rattle.range_store.specs.Loads.{loaded, accept_offers, rows_in}
use Rattle.range_store.specs.Offers.{offers_of, accepted_in, crowded_in}
use Rattle.range_store.specs.Store.{Store, IsSound, rows_now, tree_in, leaf_in, place_fault, entry_of, journaled, accept_step}
use Rattle.range_store.specs.declared.store.loading.Loaded.{Loaded}
use Rattle.range_store.specs.declared.store.format_loading.Spread.{Spread}
use Rattle.range_store.proofs.BatchLaws.{Offers, alone, crowded-append, map_next, map_split, prepared_entry, taken-append}
use Rattle.range_store.proofs.LoadLaws.{AreEntriesOf, placed}
use Rattle.range_store.proofs.RowLaws.{versions_in-rows_of}
use Rattle.range_store.proofs.StoreLaws.{knows_held, first_none, later_none, rows_after}
use Rattle.range_store.proofs.TakenLaws.{config_stays, accepted_sound, offers_all}

-- ---- versions of an older format

-- a value that fits a format fits a format that is not older
value_newer : (own format : Format) (kind : Kind) (value : List ℕ) → newer_fault own format ≡ None → value_fault format kind value ≡ None
    → value_fault own kind value ≡ None
value_newer One One kind value older fits = fits
value_newer One Two kind value older fits = absurd (cc)
value_newer Two Two kind value older fits = fits
value_newer Two One Live value older fits = elim (cases_lt 4096 (length value)) [
  | inl long ↦ absurd (let no = rw (lt-ltb 4096 (length value) long) at fits in cc)
  | inr short ↦ let wide : length value ≤ 65536 = omega (arith, short) in rw (le-ltb 65536 (length value) wide) refl
]
value_newer Two One Tombstone value older fits = absurd (cc)

all_here : (c : Config) (rows : List Row) → are_here c rows ≡ true → AllByRecursion (λ (r : Row). range_at c.bits r.key ≡ c.range) rows
all_here c [] e = tt
all_here c (r ∷ rows) e = let both = and_parts _ (are_here c rows) e in (eqb-true _ _ both.0, all_here c rows both.1)

pub rows_here : (c : Config) (rows : List Row) → astray_fault c rows ≡ None → AllByRecursion (λ (r : Row). range_at c.bits r.key ≡ c.range) rows
rows_here c rows none = all_here c rows (no_fault_else (are_here c rows) OtherRange none)

pub here_none : (c : Config) (rows : List Row) → are_here c rows ≡ true → astray_fault c rows ≡ None
here_none c rows all = rw all refl

-- the versions of a row have their place in the range
abbrev IsPlaced : Config → Row → Type 0
IsPlaced c r = AllByRecursion (λ (v : Version). IsOfferFor c (leaf_in c r.key) r.key v) r.versions

row_placed : (c : Config) (format : Format) (r : Row) → newer_fault c.format format ≡ None → IsRow format r → range_at c.bits r.key ≡ c.range
    → IsPlaced c r
row_placed c format r older is range =
    All-weaker (IsVersion format) (λ v. IsOfferFor c (leaf_in c r.key) r.key v) r.versions (λ v fits. record {
      leaf_is = refl;
      here = placed c r.key v is.key (value_newer c.format format v.kind v.value older fits.value) range;
      clock = fits.clock;
    }) is.each

rows_placed : (c : Config) (format : Format) (rows : List Row) → newer_fault c.format format ≡ None → AllByRecursion (IsRow format) rows
    → AllByRecursion (λ (r : Row). range_at c.bits r.key ≡ c.range) rows → AllByRecursion (IsPlaced c) rows
rows_placed c format [] older each range = tt
rows_placed c format (r ∷ rows) older each range = (row_placed c format r older each.0 range.0, rows_placed c format rows older each.1 range.1)

-- the same of each row, by their places alone
pub row_here : (c : Config) (format : Format) (r : Row) → newer_fault c.format format ≡ None → IsRow format r → range_at c.bits r.key ≡ c.range
    → AllByRecursion (λ (v : Version). place_fault c r.key v.kind v.value ≡ None) r.versions
row_here c format r older is range =
    All-weaker (λ v. IsOfferFor c (leaf_in c r.key) r.key v) (λ (v : Version). place_fault c r.key v.kind v.value ≡ None) r.versions (λ v x. x.here)
    (row_placed c format r older is range)

pub spread_offers : (s : Store) (seat : ℕ) (rows : List Row) (sp : Spread) → IsSpreadable s seat rows sp
    → AllByRecursion (λ o. IsOfferFor s.config (leaf_in s.config o.0) o.0 o.1) (offers_of rows)
spread_offers s seat rows sp is =
    offers_all (λ key v. IsOfferFor s.config (leaf_in s.config key) key v) rows
    (rows_placed s.config is.format rows is.older is.rows_are.each (rows_here s.config rows is.here))

-- ---- one version more

-- no versions
pub spread_start : (s : Store) (seat : ℕ) (sp : Spread) → sp.tree ≡ tree_in s → sp.entries.items ≡ [] → sp.known ≡ 0 → IsSpread s seat [] sp
spread_start s seat sp tree none known = record {
  tree = tree;
  entries = ap (λ (es : List Entry). s.entries ++ es) none ∙ append-nil s.entries;
  numbered = subst (AreNumberedFrom (length s.entries)) (sym none) tt;
  fits = refl;
  count = omega (arith, ap length none, known);
}

-- the rows with the versions so far are of the range
pub spread_map : (s : Store) (seat : ℕ) (xs : Offers) (sp : Spread) → IsSpread s seat xs sp
    → sp.tree.map ≡ record (rows_now s) { rows = sp.tree.map.rows }
spread_map s seat xs sp is =
    let map : sp.tree.map ≡ rows_now (accepted_in s seat Copy xs) = ap (λ (t : RangeTree). t.map) is.tree in
    let config = config_stays s seat Copy xs in
    map ∙ (λ i. record { format = (config i).format; bits = (config i).bits; range = (config i).range; rows = (sym map i).rows })

pub spread_leaf : (s : Store) (seat : ℕ) (xs : Offers) (sp : Spread) (leaf : ℕ) (key : List ℕ) → IsSpread s seat xs sp → leaf ≡ leaf_in s.config key
    → leaf ≡ maps.leaf_in sp.tree.map key
spread_leaf s seat xs sp leaf key is at = at ∙ ap (λ (m : RowMap). maps.leaf_in m key) (sym (spread_map s seat xs sp is))

-- a key and a value that have their place in the range have one in its tree
pub record HasPlace (m : RowMap) (key : List ℕ) (kind : Kind) (value : List ℕ) : Type 0 where
  pub value_fits : value_fault m.format kind value ≡ None
  pub here : range_at m.bits key ≡ m.range

pub spread_place : (s : Store) (seat : ℕ) (xs : Offers) (sp : Spread) (key : List ℕ) (kind : Kind) (value : List ℕ) → IsSpread s seat xs sp
    → place_fault s.config key kind value ≡ None → HasPlace sp.tree.map key kind value
spread_place s seat xs sp key kind value is placed =
    let later = later_none (key_fault key) _ placed in
    let here : HasPlace (record (rows_now s) { rows = sp.tree.map.rows }) key kind value = record {
      value_fits = first_none (value_fault s.config.format kind value) _ later;
      here = eqb-true (range_at s.config.bits key) s.config.range
          (no_fault_else _ OtherRange (later_none (value_fault s.config.format kind value) _ later));
    } in
    subst (λ (m : RowMap). HasPlace m key kind value) (sym (spread_map s seat xs sp is)) here

-- the versions that a key has with those so far
pub spread_set : (s : Store) (seat : ℕ) (xs : Offers) (sp : Spread) (key : List ℕ) → IsSpread s seat xs sp
    → versions_in key sp.tree.map.rows ≡ held (accepted_in s seat Copy xs).entries key
spread_set s seat xs sp key is = ap (λ (t : RangeTree). versions_in key t.map.rows) is.tree
    ∙ versions_in-rows_of (accepted_in s seat Copy xs).entries key

-- whether one of the versions so far, or the next one, would be too many
spread_next : (s : Store) (seat : ℕ) (xs : Offers) (sp : Spread) (key : List ℕ) (v : Version) → IsSpread s seat xs sp
    → crowded_in s seat Copy (xs ++ (key, v) ∷ []) ≡ offer_fault v (versions_in key sp.tree.map.rows)
spread_next s seat xs sp key v is =
    let t = accepted_in s seat Copy xs in
    crowded-append s seat Copy xs ((key, v) ∷ [])
    ∙ ap (λ (o : Option Refusal). first_fault o (crowded_in t seat Copy ((key, v) ∷ []))) is.fits
    ∙ alone t seat Copy key v
    ∙ ap (offer_fault v) (sym (spread_set s seat xs sp key is))

-- a version that would be too many
pub spread_crowded : (s : Store) (seat : ℕ) (xs : Offers) (sp : Spread) (key : List ℕ) (v : Version) (e : Refusal) → IsSpread s seat xs sp
    → offer_fault v (versions_in key sp.tree.map.rows) ≡ Some e → crowded_in s seat Copy (xs ++ (key, v) ∷ []) ≡ Some e
spread_crowded s seat xs sp key v e is full = spread_next s seat xs sp key v is ∙ full

-- a version that is known
pub spread_known : (s : Store) (seat : ℕ) (xs : Offers) (key : List ℕ) (v : Version) (a : Spread) → IsSpread s seat xs a
    → covered v (versions_in key a.tree.map.rows) ≡ true
    → IsSpread s seat (xs ++ (key, v) ∷ []) (record { tree = a.tree; entries = a.entries; known = a.known + 1 })
spread_known s seat xs key v a is known =
    let t = accepted_in s seat Copy xs in
    let here : covered v (held t.entries key) ≡ true = ap (covered v) (sym (spread_set s seat xs a key is)) ∙ known in
    let step : accept_step t seat Copy key v ≡ t = rw (sym (knows_held t key v) ∙ here) refl in
    let whole : accepted_in s seat Copy (xs ++ (key, v) ∷ []) ≡ t = taken-append s seat Copy xs ((key, v) ∷ []) ∙ step in
    let fits : offer_fault v (versions_in key a.tree.map.rows) ≡ None = rw known refl in
    record {
      tree = is.tree ∙ ap tree_in (sym whole);
      entries = is.entries ∙ ap (λ (u : Store). u.entries) (sym whole);
      numbered = is.numbered;
      fits = spread_next s seat xs a key v is ∙ fits;
      count = omega (arith, is.count, length-append xs ((key, v) ∷ []));
    }

-- a version that is news
pub spread_news : (s : Store) (seat : ℕ) (xs : Offers) (key : List ℕ) (v : Version) (a b : Spread) → IsSpread s seat xs a
    → covered v (versions_in key a.tree.map.rows) ≡ false → offer_fault v (versions_in key a.tree.map.rows) ≡ None
    → b.tree ≡ offered_to a.tree key v → b.entries.items ≡ a.entries.items ++ prepared_entry s a.entries.items seat Copy key v ∷ []
    → b.known ≡ a.known → IsSpread s seat (xs ++ (key, v) ∷ []) b
spread_news s seat xs key v a b is news fits tree entries known =
    let t = accepted_in s seat Copy xs in
    let e : Entry = prepared_entry s a.entries.items seat Copy key v in
    let here : covered v (held t.entries key) ≡ false = ap (covered v) (sym (spread_set s seat xs a key is)) ∙ news in
    let long : length t.entries ≡ length s.entries + length a.entries.items = sym (ap length is.entries) ∙ length-append s.entries a.entries.items in
    let entry : entry_of t seat Copy key v ≡ e = ap (λ (n : ℕ). record { number = n; seat = seat; source = Copy; key = key; version = v }) long in
    let step : accept_step t seat Copy key v ≡ journaled t e = rw (sym (knows_held t key v) ∙ here) (ap (journaled t) entry) in
    let whole : accepted_in s seat Copy (xs ++ (key, v) ∷ []) ≡ journaled t e = taken-append s seat Copy xs ((key, v) ∷ []) ∙ step in
    record {
      tree =
          tree ∙ (λ i. offered_to (is.tree i) key v) ∙ (λ i. record { map = rows_after t e i; marks = (journaled t e).marks })
          ∙ ap tree_in (sym whole);
      entries =
          ap (λ (es : List Entry). s.entries ++ es) entries ∙ sym (append_assoc s.entries a.entries.items (e ∷ []))
          ∙ ap (λ (es : List Entry). es ++ e ∷ []) is.entries
          ∙ ap (λ (u : Store). u.entries) (sym whole);
      numbered = subst (AreNumberedFrom (length s.entries)) (sym entries)
          (AreNumberedFrom-push (length s.entries) a.entries.items e is.numbered refl);
      fits = spread_next s seat xs a key v is ∙ fits;
      count = omega (arith, is.count, known, ap length entries, length-append a.entries.items (e ∷ []), length-append xs ((key, v) ∷ []));
    }

-- ---- one row more

-- versions of a key
abbrev pub offers_at : List ℕ → List Version → Offers
offers_at key vs = map (λ (v : Version). (key, v)) vs

-- at a step of a loop over the versions of a row
pub row_next : (xs : Offers) (key : List ℕ) (vs : List Version) (i : ℕ) (v : Version) → i < length vs → v ≡ get_or vs i v
    → (xs ++ offers_at key (take i vs)) ++ (key, v) ∷ [] ≡ xs ++ offers_at key (take (i + 1) vs)
row_next xs key vs i v less is =
    append_assoc xs (offers_at key (take i vs)) ((key, v) ∷ [])
    ∙ ap (λ (os : Offers). xs ++ os) (sym (map_next {Y = List ℕ × Version} (λ (w : Version). (key, w)) vs i v less is))

-- the versions of a row up to one, and those after it
pub row_split : (xs : Offers) (key : List ℕ) (vs : List Version) (i : ℕ) (v : Version) → i < length vs → v ≡ get_or vs i v
    → xs ++ offers_at key vs ≡ ((xs ++ offers_at key (take i vs)) ++ (key, v) ∷ []) ++ offers_at key (drop (i + 1) vs)
row_split xs key vs i v less is =
    ap (λ (os : Offers). xs ++ os) (map_split {Y = List ℕ × Version} (λ (w : Version). (key, w)) vs (i + 1))
    ∙ sym (append_assoc xs (offers_at key (take (i + 1) vs)) (offers_at key (drop (i + 1) vs)))
    ∙ ap (λ (os : Offers). os ++ offers_at key (drop (i + 1) vs)) (sym (row_next xs key vs i v less is))

-- the versions of a row up to one are fewer than all
pub row_room : (xs : Offers) (key : List ℕ) (vs : List Version) (i : ℕ) → i < length vs
    → length (xs ++ offers_at key (take i vs)) < length xs + length vs
row_room xs key vs i less =
    omega (
      arith,
      less,
      length-append xs (offers_at key (take i vs)),
      length-map {B = List ℕ × Version} (take i vs) (λ (v : Version). (key, v)),
      length-take i vs,
    )

-- if one of the first versions is one too many, so is one of all
pub rows_stop : (s : Store) (seat : ℕ) (xs ys all : Offers) (e : Refusal) → all ≡ xs ++ ys → (e ≡ NoMemory) ⊎ (crowded_in s seat Copy xs ≡ Some e)
    → (e ≡ NoMemory) ⊎ (crowded_in s seat Copy all ≡ Some e)
rows_stop s seat xs ys all e is (inl memory) = inl memory
rows_stop s seat xs ys all e is (inr crowd) =
    inr (ap (crowded_in s seat Copy) is ∙ crowded-append s seat Copy xs ys
    ∙ ap (λ (o : Option Refusal). first_fault o (crowded_in (accepted_in s seat Copy xs) seat Copy ys)) crowd)

-- ---- what is accepted

-- the state with the entries that are prepared
abbrev pub spread_state : Store → Spread → Store
spread_state s sp = record { config = s.config; entries = s.entries ++ sp.entries.items; marks = sp.tree.marks }

pub spread_is : (s : Store) (seat : ℕ) (rows : List Row) (sp : Spread) → IsSpreadable s seat rows sp
    → spread_state s sp ≡ accepted_in s seat Copy (offers_of rows)
spread_is s seat rows sp is =
    λ i. record { config = sym (config_stays s seat Copy (offers_of rows)) i; entries = is.spread_is.entries i; marks = (is.spread_is.tree i).marks }

pub spread_rows : (s : Store) (seat : ℕ) (rows : List Row) (sp : Spread) → IsSpreadable s seat rows sp → sp.tree.map ≡ rows_now (spread_state s sp)
spread_rows s seat rows sp is = ap (λ (t : RangeTree). t.map) is.spread_is.tree ∙ ap rows_now (sym (spread_is s seat rows sp is))

pub spread_right : (s : Store) (seat : ℕ) (rows : List Row) (sp : Spread) → IsSound s → IsSpreadable s seat rows sp → IsSound (spread_state s sp)
spread_right s seat rows sp ok is =
    subst IsSound (sym (spread_is s seat rows sp is))
    (accepted_sound s.config s seat Copy (offers_of rows) refl ok (spread_offers s seat rows sp is) is.spread_is.fits)

pub spread_load : (s : Store) (seat : ℕ) (rows : List Row) (sp : Spread) → IsSpreadable s seat rows sp
    → load_rows s seat rows ≡ accept_offers s seat Copy (offers_of rows)
spread_load s seat rows sp is = rw is.here refl

pub spread_entries : (s : Store) (seat : ℕ) (rows : List Row) (sp : Spread) → IsSpreadable s seat rows sp
    → AreEntriesOf s seat Copy (offers_of rows) sp.entries.items sp.known
spread_entries s seat rows sp is = record { fits = is.spread_is.fits; entries = is.spread_is.entries; count = is.spread_is.count }

-- ---- what a load answers

-- rows that are refused
pub spread_fault : (s : Store) (seat : ℕ) (rows : List Row) (e : Refusal)
    → first_fault (astray_fault s.config rows) (crowded_in s seat Copy (offers_of rows)) ≡ Some e → load_rows s seat rows ≡ refuses e
spread_fault s seat rows e fault = by_causes (astray_fault s.config rows) (crowded_in s seat Copy (offers_of rows)) fault
  where
    full : Option Refusal
    full = cond (nat_le (length (accepted_in s seat Copy (offers_of rows)).entries) s.config.limit) None (Some JournalFull)

    end : Outcome Loaded Store
    end = gives (loaded s (accepted_in s seat Copy (offers_of rows)) (offers_of rows)) (accepted_in s seat Copy (offers_of rows))

    by_causes : (astray crowd : Option Refusal) → first_fault astray crowd ≡ Some e → (astray >> (first_fault crowd full >> end)) ≡ refuses e
    by_causes (Some f) crowd is = let same : f ≡ e = cc in ap (λ (x : Refusal). refuses x) same
    by_causes None (Some f) is = let same : f ≡ e = cc in ap (λ (x : Refusal). refuses x) same
    by_causes None None is = absurd (cc)

-- a text of a format that is not newer loads the rows that it spells
pub format_rows : (s : Store) (seat : ℕ) (format : Format) (text : List ℕ) (rows : List Row) → newer_fault s.config.format format ≡ None
    → rows_in format text ≡ Ok rows → load_format s seat format text ≡ load_rows s seat rows
format_rows s seat format text rows older found = rw (older, found) refl

-- The table of a range that accepts many versions.
use Rattle.std.proofs.Common.{◌≡◌, ℕ, List, [], ◌∷◌, ◌++◌, length, map, drop, refl, sym, ap, subst, ◌∙◌}
use Rattle.std.specs.List.{AllByRecursion}
use Rattle.std.proofs.Math.Seq.{drop-append_seam}
use Rattle.version_set.specs.declared.version.Version.{Version}
use Rattle.range_journal.specs.declared.journal.Entry.{Entry}
use Rattle.range_journal.specs.declared.journal.Source.{Source}
use Rattle.range_journal.specs.declared.journal.Source.TheVariants.{Copy}
use Rattle.range_journal.specs.Journal.{held}
use Rattle.key_ring.specs.Places.{range_at}
use Rattle.row_bytes.specs.declared.row.Row.{Row}
use Rattle.hash_tree.specs.Leaves.{versions_in}
use Rattle.row_table.specs.Tables.{Table, with_all}
use Rattle.range_store.specs.Batches.{IsOfferFor, IsAcceptable}
use Rattle.range_store.specs.FormatLoads.{IsSpreadable}
use Rattle.range_store.specs.Offers.{offers_of, accepted_in}
use Rattle.range_store.specs.Store.{Store, leaf_in}
use Rattle.range_store.specs.TableRows.{IsTableOf, row_from}
use Rattle.range_store.specs.declared.store.batch.Batch.{Batch}
use Rattle.range_store.specs.declared.store.format_loading.Spread.{Spread}
use Rattle.range_store.proofs.BatchLaws.{Offers, set_ahead}
use Rattle.range_store.proofs.HeldLaws.{All-weaker}
use Rattle.range_store.proofs.LoadLaws.{offer_leaves}
use Rattle.range_store.proofs.SpreadLaws.{spread_offers, spread_set}
use Rattle.range_store.proofs.StoreLaws.{here_of}
use Rattle.range_store.proofs.TableRowLaws.{table_same, table_taken}
use Rattle.range_store.proofs.TakenLaws.{taken_grown}

-- ---- entries that come of offers

-- what holds of the offers holds of the entries that come of them
entries_all : (P : List ℕ → Version → Type 0) (s : Store) (seat : ℕ) (source : Source) (offers : Offers) (es : List Entry)
    → s.entries ++ es ≡ (accepted_in s seat source offers).entries → AllByRecursion (λ o. P o.0 o.1) offers
    → AllByRecursion (λ (e : Entry). P e.key e.version) es
entries_all P s seat source offers es are all =
    let grown = taken_grown P s seat source offers all in
    let same : grown.more ≡ es = sym (drop-append_seam s.entries grown.more) ∙ ap (drop (length s.entries)) (sym grown.entries ∙ sym are)
    ∙ drop-append_seam s.entries es in
    subst (AllByRecursion (λ (e : Entry). P e.key e.version)) same grown.all

-- they are of the range
entries_here : (s : Store) (seat : ℕ) (source : Source) (offers : Offers) (es : List Entry)
    → s.entries ++ es ≡ (accepted_in s seat source offers).entries → AllByRecursion (λ o. IsOfferFor s.config (leaf_in s.config o.0) o.0 o.1) offers
    → AllByRecursion (λ (e : Entry). range_at s.config.bits e.key ≡ s.config.range) es
entries_here s seat source offers es are homes =
    entries_all (λ key v. range_at s.config.bits key ≡ s.config.range) s seat source offers es are
    (All-weaker _ _ offers (λ o is. here_of s.config o.0 o.1.kind o.1.value is.here) homes)

-- ---- a batch

pub batch_leaves : (s : Store) (seat : ℕ) (source : Source) (leaf : ℕ) (offers : Offers) (b : Batch) → IsAcceptable s seat source leaf offers b
    → AllByRecursion (λ (e : Entry). leaf ≡ leaf_in s.config e.key) b.entries.items
batch_leaves s seat source leaf offers b is = entries_all (λ key v. leaf ≡ leaf_in s.config key) s seat source offers b.entries.items is.batch.entries
    (offer_leaves s.config leaf offers is.homes)

batch_here : (s : Store) (seat : ℕ) (source : Source) (leaf : ℕ) (offers : Offers) (b : Batch) → IsAcceptable s seat source leaf offers b
    → AllByRecursion (λ (e : Entry). range_at s.config.bits e.key ≡ s.config.range) b.entries.items
batch_here s seat source leaf offers b is =
    entries_here s seat source offers b.entries.items is.batch.entries
    (All-weaker _ _ offers (λ o x. record { leaf_is = refl; here = x.here; clock = x.clock }) is.homes)

batch_sets : (s : Store) (seat : ℕ) (source : Source) (leaf : ℕ) (offers : Offers) (b : Batch) → IsAcceptable s seat source leaf offers b
    → AllByRecursion (λ (e : Entry). versions_in e.key b.leaf.rows ≡ held (s.entries ++ b.entries.items) e.key) b.entries.items
batch_sets s seat source leaf offers b is =
    All-weaker _ _ b.entries.items (λ e at. set_ahead s leaf b e.key is.batch.batch at) (batch_leaves s seat source leaf offers b is)

pub table_batch : (s now : Store) (seat : ℕ) (source : Source) (leaf : ℕ) (offers : Offers) (b : Batch) (t new : Table) (entries : List Entry)
    → s ≡ now → IsTableOf s.config.bits s.config.range s.entries t.rows → IsAcceptable now seat source leaf offers b
    → new ≡ with_all t (map (row_from s.config.bits b.leaf.rows) b.entries.items) → entries ≡ now.entries ++ b.entries.items
    → IsTableOf s.config.bits s.config.range entries new.rows
table_batch s now seat source leaf offers b t new entries view table acceptable put es =
    let ok = subst (λ (u : Store). IsAcceptable u seat source leaf offers b) (sym view) acceptable in
    let then = table_taken s.config.bits s.config.range s.entries b.entries.items t b.leaf.rows table (batch_here s seat source leaf offers b ok)
    (batch_sets s seat source leaf offers b ok) in
    table_same s.config.bits s.config.range (s.entries ++ b.entries.items) entries _ new.rows then (es
    ∙ ap (λ (u : Store). u.entries ++ b.entries.items) (sym view)) (ap (λ (u : Table). u.rows) put)

-- ---- rows of any leaves

all_of : {X : Type 0} (P : X → Type 0) (xs : List X) → ((x : X) → P x) → AllByRecursion P xs
all_of P [] f = tt
all_of P (x ∷ xs) f = (f x, all_of P xs f)

pub table_spread : (s now : Store) (seat : ℕ) (loaded : List Row) (sp : Spread) (t new : Table) (entries : List Entry)
    → s ≡ now → IsTableOf s.config.bits s.config.range s.entries t.rows → IsSpreadable now seat loaded sp
    → new ≡ with_all t (map (row_from s.config.bits sp.tree.map.rows) sp.entries.items) → entries ≡ now.entries ++ sp.entries.items
    → IsTableOf s.config.bits s.config.range entries new.rows
table_spread s now seat loaded sp t new entries view table spreadable put es =
    let ok = subst (λ (u : Store). IsSpreadable u seat loaded sp) (sym view) spreadable in
    let here = entries_here s seat Copy (offers_of loaded) sp.entries.items ok.spread_is.entries (spread_offers s seat loaded sp ok) in
    let sets = all_of (λ (e : Entry). versions_in e.key sp.tree.map.rows ≡ held (s.entries ++ sp.entries.items) e.key) sp.entries.items
    (λ e. spread_set s seat (offers_of loaded) sp e.key ok.spread_is ∙ ap (λ (xs : List Entry). held xs e.key) (sym ok.spread_is.entries)) in
    let then = table_taken s.config.bits s.config.range s.entries sp.entries.items t sp.tree.map.rows table here sets in
    table_same s.config.bits s.config.range (s.entries ++ sp.entries.items) entries _ new.rows then (es
    ∙ ap (λ (u : Store). u.entries ++ sp.entries.items) (sym view)) (ap (λ (u : Table). u.rows) put)

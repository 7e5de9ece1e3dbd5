-- The counters that calls leave: each call keeps the entries, and may add some.
use Rattle.std.proofs.Common.{◌≡◌, ◌≤◌, ℕ, List, [], ◌∷◌, ◌++◌, sym, ap, subst, ◌∙◌, append-nil, append_assoc}
use Rattle.vclock.specs.Outcome.{gives}
use Rattle.version_set.specs.declared.version.Version.{Version}
use Rattle.range_journal.specs.declared.journal.Entry.{Entry}
use Rattle.range_journal.specs.declared.journal.Source.{Source}
use Rattle.range_journal.specs.declared.journal.Source.TheVariants.{Copy}
use Rattle.range_journal.specs.Counters.{top_in, top_counter}
use Rattle.range_journal.proofs.CounterLaws.{top-held, top-later}
use Rattle.row_bytes.specs.declared.row.Row.{Row}
use Rattle.range_store.specs.declared.store.loading.Loaded.{Loaded}
use Rattle.range_store.specs.Store.{Store, journaled}
use Rattle.range_store.specs.Loads.{load}
use Rattle.range_store.specs.Renewals.{renewed_by}
use Rattle.range_store.specs.Offers.{offers_of, accepted_in}
use Rattle.range_store.proofs.PutLaws.{load_gives}
use Rattle.range_store.proofs.RenewLaws.{renewed_holds}
use Rattle.range_store.proofs.TakenLaws.{Nothing, nothing, taken_grown}

-- t has the entries of s, and maybe more
record Grows (s t : Store) : Type 0 where
  pub more : List Entry
  pub entries : t.entries ≡ s.entries ++ more

alike : (s t : Store) → t.entries ≡ s.entries → Grows s t
alike s t e = record { more = []; entries = e ∙ sym (append-nil s.entries) }

same : (s t : Store) → t ≡ s → Grows s t
same s t e = alike s t (ap (λ (x : Store). x.entries) e)

one : (s t : Store) (e : Entry) → t ≡ journaled s e → Grows s t
one s t e is = record { more = e ∷ []; entries = ap (λ (x : Store). x.entries) is }

both : (s m t : Store) → Grows s m → Grows m t → Grows s t
both s m t a b = record {
  more = a.more ++ b.more;
  entries = b.entries ∙ ap (λ (es : List Entry). es ++ b.more) a.entries
      ∙ append_assoc s.entries a.more b.more;
}

offered_on : (s : Store) (seat : ℕ) (source : Source) (offers : List (List ℕ × Version)) → Grows s (accepted_in s seat source offers)
offered_on s seat source offers = let g = taken_grown Nothing s seat source offers (nothing offers) in record { more = g.more; entries = g.entries }

top_grows : (s t : Store) (key : List ℕ) (node : ℕ) → Grows s t → top_counter s.entries key node ≤ top_counter t.entries key node
top_grows s t key node g = subst (λ (es : List Entry). top_counter s.entries key node ≤ top_counter es key node) (sym g.entries)
    (top-later s.entries g.more key node)

-- ---- loads, whole sessions and renewals

pub load_top : (s t : Store) (seat : ℕ) (rows : List Row) (a : Loaded) (key : List ℕ) (node : ℕ) → load s seat rows ≡ gives a t
    → top_counter s.entries key node ≤ top_counter t.entries key node
load_top s t seat rows a key node h =
    let g = offered_on s seat Copy (offers_of rows) in
    let came = load_gives s seat rows a t h in
    top_grows s t key node (record { more = g.more; entries = ap (λ (y : Store). y.entries) came.1 ∙ g.entries })

pub renewed_top : (s : Store) (seat limit : ℕ) (key : List ℕ) (node : ℕ)
    → top_counter (renewed_by s seat limit).entries key node ≡ top_counter s.entries key node
renewed_top s seat limit key node = top-held (renewed_by s seat limit).entries key node
    ∙ ap (λ (S : List Version). top_in S node) (renewed_holds s seat key) ∙ sym (top-held s.entries key node)

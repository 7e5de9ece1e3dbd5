-- What becomes of versions that are accepted in their turn.
use Rattle.std.proofs.Common.{◌≡◌, ℕ, ◌+◌, ◌<◌, ◌⊎◌, true, false, cond, Option, Some, None, List, [], ◌∷◌, ◌++◌, length, map, take, drop, get_or}
use Rattle.std.proofs.Common.{refl, sym, ap, subst, ◌∙◌, inl, inr, arith, append_assoc, append-nil}
use Rattle.std.proofs.lemmas.List.{length-append, take_more, map-append, take-append-drop}
use Rattle.std.proofs.lemmas.Grind.{flat_map-append}
use Rattle.vclock.specs.Answer.{first_fault}
use Rattle.vclock.specs.declared.refusal.Refusal.{Refusal}
use Rattle.vclock.specs.declared.refusal.Refusal.TheVariants.{NoMemory}
use Rattle.version_set.specs.declared.version.Version.{Version}
use Rattle.version_set.specs.Version.{covered, offer_fault}
use Rattle.range_journal.specs.declared.journal.Entry.{Entry}
use Rattle.range_journal.specs.declared.journal.Source.{Source}
use Rattle.range_journal.specs.Journal.{accepted, held}
use Rattle.range_journal.specs.Log.{AreNumberedFrom}
use Rattle.range_journal.proofs.JournalLaws.{AreNumberedFrom-push}
use Rattle.row_bytes.specs.declared.row.Row.{Row}
use Rattle.hash_tree.specs.Leaves.{Bucket, rows_in_leaf, versions_in, with_offer}
use Rattle.range_store.specs.declared.store.batch.Batch.{Batch}
use Rattle.range_store.specs.Config.{Config}
use Rattle.range_store.specs.Rows.{rows_of}
use Rattle.range_store.specs.Store.{Store, leaf_in, bucket_of, knows, entry_of, journaled, accept_step}
use Rattle.range_store.specs.Offers.{offers_in, offers_of, accepted_in, crowded_in}
use Rattle.range_store.specs.Batches.{ahead, IsBatch, IsPrepared}
use Rattle.range_store.proofs.RowLaws.{leaf_holds, leaf-push}
use Rattle.range_store.proofs.StoreLaws.{eq_itself, knows_held}

abbrev pub Offers : Type 0
Offers = List (List ℕ × Version)

-- ---- entries alone decide

pub entries_step : (s : Store) (seat : ℕ) (source : Source) (key : List ℕ) (v : Version)
    → (accept_step s seat source key v).entries ≡ cond (knows s key v) s.entries (s.entries ++ entry_of s seat source key v ∷ [])
entries_step s seat source key v =
    elim (knows s key v) as (λ b. (cond b s (journaled s (entry_of s seat source key v))).entries ≡ cond b s.entries
    (s.entries ++ entry_of s seat source key v ∷ [])) [ true ↦ refl | false ↦ refl ]

same_step : (s t : Store) (seat : ℕ) (source : Source) (key : List ℕ) (v : Version) → s.entries ≡ t.entries
    → (accept_step s seat source key v).entries ≡ (accept_step t seat source key v).entries
same_step s t seat source key v e =
    entries_step s seat source key v
    ∙ ap (λ (es : List Entry). cond (covered v (accepted es key)) es
    (es ++ (record { number = length es; seat = seat; source = source; key = key; version = v }) ∷ [])) e
    ∙ sym (entries_step t seat source key v)

pub crowded_same : (s t : Store) (seat : ℕ) (source : Source) (offers : Offers) → s.entries ≡ t.entries
    → crowded_in s seat source offers ≡ crowded_in t seat source offers
crowded_same s t seat source [] e = refl
crowded_same s t seat source (o ∷ offers) e =
    let here = ap (λ (es : List Entry). offer_fault o.1 (held es o.0)) e in
    let rest = crowded_same (accept_step s seat source o.0 o.1) (accept_step t seat source o.0 o.1) seat source offers
    (same_step s t seat source o.0 o.1 e) in
    λ i. first_fault (here i) (rest i)

pub taken_same : (s t : Store) (seat : ℕ) (source : Source) (offers : Offers) → s.entries ≡ t.entries
    → (accepted_in s seat source offers).entries ≡ (accepted_in t seat source offers).entries
taken_same s t seat source [] e = e
taken_same s t seat source (o ∷ offers) e = taken_same (accept_step s seat source o.0 o.1) (accept_step t seat source o.0 o.1) seat source offers
    (same_step s t seat source o.0 o.1 e)

-- ---- one after another

pub taken-append : (s : Store) (seat : ℕ) (source : Source) (xs ys : Offers)
    → accepted_in s seat source (xs ++ ys) ≡ accepted_in (accepted_in s seat source xs) seat source ys
taken-append s seat source [] ys = refl
taken-append s seat source (x ∷ xs) ys = taken-append (accept_step s seat source x.0 x.1) seat source xs ys

fault_assoc : (a b c : Option Refusal) → first_fault a (first_fault b c) ≡ first_fault (first_fault a b) c
fault_assoc None b c = refl
fault_assoc (Some e) b c = refl

pub crowded-append : (s : Store) (seat : ℕ) (source : Source) (xs ys : Offers)
    → crowded_in s seat source (xs ++ ys) ≡ first_fault (crowded_in s seat source xs) (crowded_in (accepted_in s seat source xs) seat source ys)
crowded-append s seat source [] ys = refl
crowded-append s seat source (x ∷ xs) ys =
    let next = accept_step s seat source x.0 x.1 in
    ap (first_fault (offer_fault x.1 (held s.entries x.0))) (crowded-append next seat source xs ys)
    ∙ fault_assoc (offer_fault x.1 (held s.entries x.0)) (crowded_in next seat source xs)
    (crowded_in (accepted_in next seat source xs) seat source ys)

-- ---- batches

pub prepared_more : (s : Store) (seat : ℕ) (source : Source) (leaf : ℕ) (xs ys : Offers) (a b c : Batch) → IsPrepared s seat source leaf xs a b
    → IsPrepared s seat source leaf ys b c → IsPrepared s seat source leaf (xs ++ ys) a c
prepared_more s seat source leaf xs ys a b c one two = record {
  batch = two.batch;
  entries = two.entries ∙ taken_same (ahead s b) (accepted_in (ahead s a) seat source xs) seat source ys one.entries
      ∙ ap (λ (t : Store). t.entries) (sym (taken-append (ahead s a) seat source xs ys));
  count = omega (arith, one.count, two.count, length-append xs ys);
}

-- the versions that come next
next_crowded : (s : Store) (seat : ℕ) (source : Source) (leaf : ℕ) (xs ys : Offers) (a b : Batch) → IsPrepared s seat source leaf xs a b
    → crowded_in (ahead s a) seat source xs ≡ None → crowded_in (ahead s a) seat source (xs ++ ys) ≡ crowded_in (ahead s b) seat source ys
next_crowded s seat source leaf xs ys a b is none =
    crowded-append (ahead s a) seat source xs ys
    ∙ ap (λ (o : Option Refusal). first_fault o (crowded_in (accepted_in (ahead s a) seat source xs) seat source ys)) none
    ∙ crowded_same (accepted_in (ahead s a) seat source xs) (ahead s b) seat source ys (sym is.entries)

-- Versions that were looked at, and none is refused.
pub record IsGoing (s : Store) (seat : ℕ) (source : Source) (leaf : ℕ) (offers : Offers) (a b : Batch) : Type 0 where
  pub prepared : IsPrepared s seat source leaf offers a b
  pub none : crowded_in (ahead s a) seat source offers ≡ None

pub going_more : (s : Store) (seat : ℕ) (source : Source) (leaf : ℕ) (xs ys all : Offers) (a b c : Batch) → IsGoing s seat source leaf xs a b
    → all ≡ xs ++ ys → crowded_in (ahead s b) seat source ys ≡ None → IsPrepared s seat source leaf ys b c → IsGoing s seat source leaf all a c
going_more s seat source leaf xs ys all a b c going is none next = subst (λ (os : Offers). IsGoing s seat source leaf os a c) (sym is) (record {
  prepared = prepared_more s seat source leaf xs ys a b c going.prepared next;
  none = next_crowded s seat source leaf xs ys a b going.prepared going.none ∙ none;
})

pub going_stops : (s : Store) (seat : ℕ) (source : Source) (leaf : ℕ) (xs ys zs all : Offers) (a b : Batch) (e : Refusal)
    → IsGoing s seat source leaf xs a b → all ≡ (xs ++ ys) ++ zs → crowded_in (ahead s b) seat source ys ≡ Some e
    → crowded_in (ahead s a) seat source all ≡ Some e
going_stops s seat source leaf xs ys zs all a b e going is crowd =
    ap (crowded_in (ahead s a) seat source) is ∙ crowded-append (ahead s a) seat source (xs ++ ys) zs
    ∙ ap (λ (o : Option Refusal). first_fault o (crowded_in (accepted_in (ahead s a) seat source (xs ++ ys)) seat source zs))
    (next_crowded s seat source leaf xs ys a b going.prepared going.none ∙ crowd)

-- a version that is not prepared
pub going_err : (s : Store) (seat : ℕ) (source : Source) (leaf : ℕ) (xs ys zs all : Offers) (a b : Batch) (e : Refusal)
    → IsGoing s seat source leaf xs a b → all ≡ (xs ++ ys) ++ zs → (e ≡ NoMemory) ⊎ (crowded_in (ahead s b) seat source ys ≡ Some e)
    → (e ≡ NoMemory) ⊎ (crowded_in (ahead s a) seat source all ≡ Some e)
going_err s seat source leaf xs ys zs all a b e going is (inl memory) = inl memory
going_err s seat source leaf xs ys zs all a b e going is (inr crowd) = inr (going_stops s seat source leaf xs ys zs all a b e going is crowd)

-- the same where no version was prepared at first
pub from_none : (s : Store) (seat : ℕ) (source : Source) (offers : Offers) (a : Batch) → a.entries.items ≡ []
    → crowded_in (ahead s a) seat source offers ≡ crowded_in s seat source offers
from_none s seat source offers a none =
    crowded_same (ahead s a) s seat source offers (ap (λ (es : List Entry). s.entries ++ es) none ∙ append-nil s.entries)

-- ---- lists that a loop goes over

pub map_next : {X Y : Type 0} (f : X → Y) (xs : List X) (i : ℕ) (x : X) → i < length xs → x ≡ get_or xs i x
    → map f (take (i + 1) xs) ≡ map f (take i xs) ++ f x ∷ []
map_next f xs i x less is = ap (map f) (take_more xs i x less ∙ ap (λ y. take i xs ++ y ∷ []) (sym is)) ∙ map-append f (take i xs) (x ∷ [])

pub map_split : {X Y : Type 0} (f : X → Y) (xs : List X) (i : ℕ) → map f xs ≡ map f (take i xs) ++ map f (drop i xs)
map_split f xs i = ap (map f) (sym (take-append-drop i xs)) ∙ map-append f (take i xs) (drop i xs)

pub offers_next : (rows : List Row) (i : ℕ) (r : Row) → i < length rows → r ≡ get_or rows i r
    → offers_of (take (i + 1) rows) ≡ offers_of (take i rows) ++ offers_in r
offers_next rows i r less is = ap offers_of (take_more rows i r less ∙ ap (λ (y : Row). take i rows ++ y ∷ []) (sym is))
    ∙ flat_map-append offers_in (take i rows) (r ∷ []) ∙ ap (λ (os : Offers). offers_of (take i rows) ++ os) (append-nil (offers_in r))

pub offers_split : (rows : List Row) (i : ℕ) → offers_of rows ≡ offers_of (take i rows) ++ offers_of (drop i rows)
offers_split rows i = ap offers_of (sym (take-append-drop i rows)) ∙ flat_map-append offers_in (take i rows) (drop i rows)

-- ---- one version

-- what the leaf of a batch has for a key
pub set_ahead : (s : Store) (leaf : ℕ) (b : Batch) (key : List ℕ) → IsBatch s leaf b → leaf ≡ leaf_in s.config key
    → versions_in key b.leaf.rows ≡ held (ahead s b).entries key
set_ahead s leaf b key is at =
    ap (λ (x : Bucket). versions_in key x.rows) is.leaf_is
    ∙ ap (λ (n : ℕ). versions_in key (rows_in_leaf (leaf_in s.config) n (rows_of (ahead s b).entries))) at
    ∙ leaf_holds (leaf_in s.config) (ahead s b).entries key

pub alone : (s : Store) (seat : ℕ) (source : Source) (key : List ℕ) (v : Version)
    → crowded_in s seat source ((key, v) ∷ []) ≡ offer_fault v (held s.entries key)
alone s seat source key v = elim (offer_fault v (held s.entries key)) as (λ o. first_fault o None ≡ o) [ Some e ↦ refl | None ↦ refl ]

-- one that is known
pub known_next : (s : Store) (seat : ℕ) (source : Source) (leaf : ℕ) (key : List ℕ) (v : Version) (a b : Batch) → IsBatch s leaf a
    → leaf ≡ leaf_in s.config key → covered v (versions_in key a.leaf.rows) ≡ true
    → b ≡ record { leaf = a.leaf; entries = a.entries; known = a.known + 1 }
    → (crowded_in (ahead s a) seat source ((key, v) ∷ []) ≡ None) × IsPrepared s seat source leaf ((key, v) ∷ []) a b
known_next s seat source leaf key v a b is at known now =
    let here : covered v (held (ahead s a).entries key) ≡ true = sym (ap (covered v) (set_ahead s leaf a key is at)) ∙ known in
    let step : (accept_step (ahead s a) seat source key v).entries ≡ (ahead s a).entries = entries_step (ahead s a) seat source key v
    ∙ rw (sym (knows_held (ahead s a) key v) ∙ here) refl in (
      alone (ahead s a) seat source key v ∙ rw here refl,
      subst (IsPrepared s seat source leaf ((key, v) ∷ []) a) (sym now) (record {
        batch = record { leaf_is = is.leaf_is; numbered = is.numbered };
        entries = sym step;
        count = omega arith;
      }),
    )

pub crowded_next : (s : Store) (seat : ℕ) (source : Source) (leaf : ℕ) (key : List ℕ) (v : Version) (a : Batch) (e : Refusal) → IsBatch s leaf a
    → leaf ≡ leaf_in s.config key → offer_fault v (versions_in key a.leaf.rows) ≡ Some e → crowded_in (ahead s a) seat source ((key, v) ∷ []) ≡ Some e
crowded_next s seat source leaf key v a e is at full = alone (ahead s a) seat source key v ∙ sym (ap (offer_fault v) (set_ahead s leaf a key is at))
    ∙ full

-- a version that is news to a batch of its leaf, and is not one too many
pub record IsNewsFor (s : Store) (leaf : ℕ) (key : List ℕ) (v : Version) (b : Batch) : Type 0 where
  pub batch : IsBatch s leaf b
  pub leaf_is : leaf ≡ leaf_in s.config key
  pub fresh : covered v (versions_in key b.leaf.rows) ≡ false
  pub fits : offer_fault v (versions_in key b.leaf.rows) ≡ None

-- the entry of a version that is prepared after others
abbrev pub prepared_entry : Store → List Entry → ℕ → Source → List ℕ → Version → Entry
prepared_entry s before seat source key v = record {
  number = length s.entries + length before;
  seat = seat;
  source = source;
  key = key;
  version = v;
}

-- one that is news
pub news_next : (s : Store) (seat : ℕ) (source : Source) (leaf : ℕ) (key : List ℕ) (v : Version) (a b : Batch) → IsNewsFor s leaf key v a
    → b.leaf ≡ record { format = a.leaf.format; rows = with_offer key v a.leaf.rows }
    → b.entries.items ≡ a.entries.items ++ prepared_entry s a.entries.items seat source key v ∷ [] → b.known ≡ a.known
    → (crowded_in (ahead s a) seat source ((key, v) ∷ []) ≡ None) × IsPrepared s seat source leaf ((key, v) ∷ []) a b
news_next s seat source leaf key v a b news leaf_now entries known =
    let e : Entry = prepared_entry s a.entries.items seat source key v in
    let set = set_ahead s leaf a key news.batch news.leaf_is in
    let here : covered v (held (ahead s a).entries key) ≡ false = sym (ap (covered v) set) ∙ news.fresh in
    let entry : entry_of (ahead s a) seat source key v ≡ e = ap
    (λ (n : ℕ). record { number = n; seat = seat; source = source; key = key; version = v }) (length-append s.entries a.entries.items) in
    let step : (accept_step (ahead s a) seat source key v).entries ≡ (ahead s a).entries ++ e ∷ [] =
    entries_step (ahead s a) seat source key v
    ∙ rw (sym (knows_held (ahead s a) key v) ∙ here) (ap (λ (y : Entry). (ahead s a).entries ++ y ∷ []) entry) in
    let grown : (ahead s b).entries ≡ (ahead s a).entries ++ e ∷ [] = ap (λ (es : List Entry). s.entries ++ es) entries
    ∙ sym (append_assoc s.entries a.entries.items (e ∷ [])) in (
      alone (ahead s a) seat source key v ∙ sym (ap (offer_fault v) set) ∙ news.fits,
      record {
        batch = record {
          leaf_is = leaf_now ∙ bucket_next s.config (ahead s a).entries e leaf a.leaf news.batch.leaf_is news.leaf_is
              ∙ ap (λ (es : List Entry). bucket_of s.config es leaf) (sym grown);
          numbered = subst (AreNumberedFrom (length s.entries)) (sym entries)
              (AreNumberedFrom-push (length s.entries) a.entries.items e news.batch.numbered refl);
        };
        entries = grown ∙ sym step;
        count = omega (arith, ap length entries, length-append a.entries.items (e ∷ []), known);
      },
    )
  where
    bucket_next : (c : Config) (es : List Entry) (e : Entry) (leaf : ℕ) (old : Bucket) → old ≡ bucket_of c es leaf → leaf ≡ leaf_in c e.key
        → record { format = old.format; rows = with_offer e.key e.version old.rows } ≡ bucket_of c (es ++ e ∷ []) leaf
    bucket_next c es e leaf old was at =
        let home : leaf_in c e.key ≡ leaf = sym at in
        let rows = leaf-push (leaf_in c) es e leaf ∙ rw (home, eq_itself leaf) refl in
        (λ i. record { format = (was i).format; rows = with_offer e.key e.version (was i).rows })
        ∙ ap (λ (t : List Row). record { format = c.format; rows = t }) (sym rows)

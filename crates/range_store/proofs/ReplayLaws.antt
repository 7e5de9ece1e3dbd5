-- What a replay keeps.
use Rattle.std.proofs.Common.{◌≡◌, ℕ, ◌+◌, ◌<◌, List, [], ◌∷◌, ◌++◌, length, get_or, take, None, refl, sym, ap, subst, ◌∙◌}
use Rattle.std.proofs.lemmas.List.{take_more}
use Rattle.std.proofs.lemmas.List.Elements.{All-from_recursion}
use Rattle.std.proofs.lemmas.Slice.Eq.{bytes_eq-Decides}
use Rattle.vclock.specs.Bytes.{key_fault}
use Rattle.version_set.specs.Kind.{value_fault}
use Rattle.version_set.specs.declared.version.Version.{Version}
use Rattle.version_set.specs.Version.{offer_fault}
use Rattle.range_journal.specs.declared.journal.Entry.{Entry}
use Rattle.range_journal.proofs.JournalLaws.{never_refused}
use Rattle.key_ring.specs.Places.{range_at}
use Rattle.hash_tree.specs.Leaves.{versions_in}
use Rattle.range_tree.specs.Trees.{RangeTree, bare, offered_to}
use Rattle.snapshot.specs.RowMaps as maps
use Rattle.range_tree.proofs.TreeLaws.{still_dirty}
use Rattle.range_store.specs.Config.{Config}
use Rattle.range_store.specs.Store.{IsOwn, leaf_in}
use Rattle.range_store.specs.Rows.{rows_of}
use Rattle.range_store.specs.Replays.{Replayed, IsReplay, replayed_tree}
use Rattle.range_store.proofs.RowLaws.{rows_of-push, versions_in-rows_of}

-- the next entry is of the range
next_own : (r : Replayed) (e : Entry) → IsReplay r → r.front < length r.entries → e ≡ get_or r.entries r.front e → IsOwn r.config e
next_own r e ok below is = subst (IsOwn r.config) (sym is) (All-from_recursion (IsOwn r.config) r.entries ok.own r.front e below)

-- its offer is not refused
next_fits : (r : Replayed) (e : Entry) → IsReplay r → r.front < length r.entries → e ≡ get_or r.entries r.front e
    → offer_fault e.version (versions_in e.key (replayed_tree r).map.rows) ≡ None
next_fits r e ok below is = never_refused r.entries r.front e e.key (versions_in e.key (rows_of (take r.front r.entries))) e.version below is
    ((bytes_eq-Decides e.key e.key).1 refl) (versions_in-rows_of (take r.front r.entries) e.key) refl (ok.short e.key)

-- the key and the version of the next entry can be offered to a tree
pub record IsNext (t : RangeTree) (i : ℕ) (k : List ℕ) (v : Version) : Type 0 where
  pub leaf : i ≡ maps.leaf_in t.map k
  pub here : range_at t.map.bits k ≡ t.map.range
  pub key : key_fault k ≡ None
  pub value : value_fault t.map.format v.kind v.value ≡ None
  pub room : offer_fault v (versions_in k t.map.rows) ≡ None

-- the tree of the entries that were replayed, and the leaf, the key and the version of another entry
pub record IsOffer (r : Replayed) (e : Entry) (t : RangeTree) (i : ℕ) (k : List ℕ) (v : Version) : Type 0 where
  pub tree : t ≡ replayed_tree r
  pub leaf : i ≡ leaf_in r.config k
  pub key : k ≡ e.key
  pub version : v ≡ e.version

-- the next entry can be offered to the tree of those before it
pub next_is : (r : Replayed) (e : Entry) (t : RangeTree) (leaf : ℕ) (key : List ℕ) (v : Version) → IsReplay r → r.front < length r.entries
    → e ≡ get_or r.entries r.front e → IsOffer r e t leaf key v → IsNext t leaf key v
next_is r e t leaf key v ok below is offer =
    let own = next_own r e ok below is in
    let here : IsNext (replayed_tree r) (leaf_in r.config e.key) e.key e.version = record {
      leaf = refl;
      here = own.here;
      key = own.key;
      value = own.value;
      room = next_fits r e ok below is;
    } in
    let place : leaf_in r.config e.key ≡ leaf = ap (leaf_in r.config) (sym offer.key) ∙ sym offer.leaf in
    subst (λ (x : RangeTree). IsNext x leaf key v) (sym offer.tree)
    (subst (λ (w : Version). IsNext (replayed_tree r) leaf key w) (sym offer.version)
    (subst (λ (k : List ℕ). IsNext (replayed_tree r) leaf k e.version) (sym offer.key)
    (subst (λ (n : ℕ). IsNext (replayed_tree r) n e.key e.version) place here)))

-- the tree after it
pub next_tree : (r : Replayed) (e : Entry) (t new : RangeTree) (key : List ℕ) (v : Version) → t ≡ replayed_tree r → r.front < length r.entries
    → e ≡ get_or r.entries r.front e → key ≡ e.key → v ≡ e.version → new ≡ offered_to t key v → new ≡ replayed_tree (record r { front = r.front + 1 })
next_tree r e t new key v tree below is same copy now =
    let es = take r.front r.entries in
    let more : es ++ e ∷ [] ≡ take (r.front + 1) r.entries = ap (λ (x : Entry). es ++ x ∷ []) is ∙ sym (take_more r.entries r.front e below) in
    let rows = sym (rows_of-push es e) ∙ ap rows_of more in
    let dirty = still_dirty r.config.format (leaf_in r.config e.key) in
    now ∙ (λ i. offered_to (tree i) (same i) (copy i))
    ∙ (λ i. record { map = record { format = r.config.format; bits = r.config.bits; range = r.config.range; rows = rows i }; marks = dirty i })

-- the tree before the first entry
pub none_replayed : (c : Config) (es : List Entry) (t : RangeTree) → t ≡ bare c.format c.bits c.range
    → t ≡ replayed_tree (record { config = c; entries = es; front = 0 })
unfolding rows_of
none_replayed c es t is = is

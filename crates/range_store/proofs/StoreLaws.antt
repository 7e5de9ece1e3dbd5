-- What a step keeps, and why it is refused.
use Rattle.std.proofs.Common.{◌≡◌, ℕ, zero, suc, ◌<◌, ◌≤◌, ◌%◌, ◌^◌, Bool, true, false, cond, set, List, [], ◌∷◌, ◌++◌, length, take, refl, ap, sym}
use Rattle.std.proofs.Common.{subst, ◌∙◌, arith, inl, inr, Option, Some, None, Decides}
use Rattle.std.specs.Prelude.{nat_eq, IsTrue}
use Rattle.std.specs.Cmp.Lexicographic.{pointwise}
use Rattle.std.proofs.lemmas.Bool.{cases_Bool, cases_lt, lt-ltb, or_parts, both_ways, eqb-true}
use Rattle.std.proofs.lemmas.Bool.Decides.{nat_tests}
use Rattle.std.proofs.lemmas.Slice.Eq.{bytes_eq-Decides}
use Rattle.std.proofs.lemmas.List.{take_all, take-append-le, length-append}
use Rattle.std.specs.List.{AllByRecursion, list_any}
use Rattle.vclock.specs.Answer.{first_fault}
use Rattle.vclock.specs.Clock.{at_most, Rises, IsClock}
use Rattle.vclock.specs.Bytes.{key_fault}
use Rattle.vclock.proofs.ClockLaws.{at_most_itself}
use Rattle.vclock.specs.declared.format.Format.{Format}
use Rattle.vclock.specs.declared.format.Format.TheVariants.{One, Two}
use Rattle.vclock.specs.declared.refusal.Refusal.{Refusal}
use Rattle.vclock.specs.declared.refusal.Refusal.TheVariants.{OtherRange, StaleContext}
use Rattle.version_set.specs.Kind.{value_fault}
use Rattle.version_set.specs.declared.kind.Kind.{Kind}
use Rattle.version_set.specs.declared.version.Version.{Version}
use Rattle.version_set.specs.Version.{covered, offer_fault, offered, is_below, is_same, with_version, set_from, version_cmp}
use Rattle.version_set.proofs.SetLaws.{covered-maximal, is_same-exact}
use Rattle.version_set.proofs.ListLaws.{all-filter, all-push, all-inserted}
use Rattle.range_journal.specs.declared.journal.Entry.{Entry}
use Rattle.range_journal.specs.Log.{Log}
use Rattle.range_journal.specs.Journal.{accepted, held, versions_of, NeverCrowded}
use Rattle.range_journal.proofs.JournalLaws.{AreNews-push, covered-held, held-push, Reserved}
use Rattle.vclock.specs.Outcome.{gives, is_given}
use Rattle.row_bytes.specs.Rows.{IsRow}
use Rattle.row_bytes.proofs.LimitLaws.{no_fault, no_fault_else}
use Rattle.row_bytes.specs.declared.row.Row.{Row}
use Rattle.key_ring.specs.Places.{leaf_at, leaf_bits, range_at}
use Rattle.tree_nodes.specs.Nodes.{tree_depth, node_count}
use Rattle.hash_tree.specs.Texts.{IsTreeFor}
use Rattle.tree_nodes.proofs.TreeLaws.{tree_fresh}
use Rattle.hash_tree.proofs.DigestLaws.{true_fresh}
use Rattle.range_store.specs.Config.{Config, is_config}
use Rattle.range_store.specs.Rows.{rows_of}
use Rattle.range_store.specs.Store.{Store, fresh, tree_of, tree_in, rows_now, leaf_in, leaf_count, place_fault, journaled, full_fault, knows, admit}
use Rattle.range_store.specs.Store.{stale_fault, IsOwn, IsSound}
use Rattle.range_store.proofs.RowLaws.{rows_of-push, versions_in-rows_of}
use Rattle.range_tree.proofs.RowTextLaws.{offered_short}
use Rattle.range_tree.proofs.TreeLaws.{offered_right}
use Rattle.range_tree.specs.Trees.{RangeTree, all_dirty, bare, offered_to}
use Rattle.range_store.proofs.OfferLaws.{no_row, tree_right}

-- ---- leaves

-- no key is of a leaf past the last one
pub leaf_below : (c : Config) (key : List ℕ) → leaf_in c key < leaf_count c
unfolding leaf_at
leaf_below c key = below c.format _
  where
    below : (f : Format) (n : ℕ) → n % 2 ^ leaf_bits f < 2 ^ leaf_bits f
    below One n = omega arith
    below Two n = omega arith

-- ---- what holds of the entries

all-versions_of : (P : Version → Type 0) (es : List Entry) (key : List ℕ) → AllByRecursion (λ e. P e.version) es
    → AllByRecursion P (versions_of es key)
all-versions_of P [] key all = tt
all-versions_of P (e ∷ es) key all =
    elim (pointwise nat_eq e.key key) as
    (λ b. AllByRecursion P (cond b (e.version ∷ versions_of es key) (versions_of es key))) [
      | true ↦
          (all.0, all-versions_of P es key all.1)
      | false ↦ all-versions_of P es key all.1
    ]

all-set_from : (P : Version → Type 0) (S vs : List Version) → AllByRecursion P S → AllByRecursion P vs → AllByRecursion P (set_from S vs)
all-set_from P S [] set all = set
all-set_from P S (v ∷ vs) set all = all-set_from P (with_version v S) vs (all-inserted version_cmp P v S all.0 set) all.1

-- what holds of each version of the entries holds of those that are held
all-held : (P : Version → Type 0) (es : List Entry) (key : List ℕ) → AllByRecursion (λ e. P e.version) es → AllByRecursion P (held es key)
all-held P es key all = all-filter P _ (accepted es key) (all-set_from P [] (versions_of es key) tt (all-versions_of P es key all))

abbrev pub Fits : Config → Version → Type 0
Fits c v = value_fault c.format v.kind v.value ≡ None

own_values : (c : Config) (es : List Entry) → AllByRecursion (IsOwn c) es → AllByRecursion (λ e. Fits c e.version) es
own_values c [] all = tt
own_values c (e ∷ es) all = (all.0.value, own_values c es all.1)

-- each version that is held has a value within the limits
pub held_fit : (s : Store) (key : List ℕ) → IsSound s → AllByRecursion (Fits s.config) (held s.entries key)
held_fit s key ok = all-held (Fits s.config) s.entries key (own_values s.config s.entries ok.own)

-- ---- a new range

none_crowded : (key : List ℕ) → NeverCrowded [] key
none_crowded key zero = omega arith
none_crowded key (suc n) = omega arith

fresh_right : (c : Config) → IsTrue (is_config c) → IsSound (fresh c)
unfolding all_dirty
fresh_right c h = record {
  config = h;
  own = tt;
  news = tt;
  short = none_crowded;
  rows = no_row c.format;
  marks = record { tree = tree_fresh c.format; digests = true_fresh c.format (leaf_in c) (rows_of []) (node_count c.format) };
}

pub eq_itself : (n : ℕ) → nat_eq n n ≡ true
eq_itself n = grind (arith, nat_tests)

-- a new range
pub new_range : (c : Config) (entries : List Entry) (tree : RangeTree) → IsTrue (is_config c) → entries ≡ [] → tree ≡ bare c.format c.bits c.range
    → IsSound (record { config = c; entries = entries; marks = tree.marks })
    × (tree.map ≡ rows_now (record { config = c; entries = entries; marks = tree.marks }))
    × (record { config = c; entries = entries; marks = tree.marks } ≡ fresh c)
unfolding rows_of
new_range c entries tree h none is =
    let back : record { config = c; entries = entries; marks = tree.marks } ≡ fresh c = λ i. record {
      config = c;
      entries = none i;
      marks = (is i).marks;
    } in
    (subst IsSound (sym back) (fresh_right c h), ap (λ (t : RangeTree). t.map) is ∙ ap rows_now (sym back), back)

-- ---- causes

-- of two causes none stands where the first of them is none
pub later_none : (a b : Option Refusal) → first_fault a b ≡ None → b ≡ None
later_none None b e = e
later_none (Some x) b e = absurd (let no : Some x ≡ None = e in cc)

pub first_none : (a b : Option Refusal) → first_fault a b ≡ None → a ≡ None
first_none None b e = refl
first_none (Some x) b e = absurd (let no : Some x ≡ None = e in cc)

-- a key and a value that have their place here are within the limits
pub in_limits : (c : Config) (key : List ℕ) (kind : Kind) (value : List ℕ) → place_fault c key kind value ≡ None
    → (key_fault key ≡ None) × (value_fault c.format kind value ≡ None)
in_limits c key kind value h = (first_none (key_fault key) _ h, first_none (value_fault c.format kind value) _ (later_none (key_fault key) _ h))

-- a key and a value that have their place here
own : (c : Config) (e : Entry) → place_fault c e.key e.version.kind e.version.value ≡ None → IsOwn c e
own c e h =
    let later = later_none (key_fault e.key) _ h in
    record {
      key = first_none (key_fault e.key) _ h;
      value = first_none (value_fault c.format e.version.kind e.version.value) _ later;
      here = eqb-true (range_at c.bits e.key) c.range
          (no_fault_else _ OtherRange (later_none (value_fault c.format e.version.kind e.version.value) _ later));
    }

-- where a reserve was not refused, the journal is not full
pub room_left : (s : Store) (log new : Log) → log.entries ≡ s.entries → log.limit ≡ s.config.limit → Reserved log new 1 → full_fault s ≡ None
room_left s log new entries limit h =
    rw (lt-ltb (length s.entries) s.config.limit (omega (arith, h.within, ap length entries, limit))) refl

-- an entry that fits is admitted if the journal has room
pub admit_given : (s : Store) (x : Entry) → full_fault s ≡ None → IsTrue (is_given (admit s x))
admit_given s x room = rw room refl

pub admit_is : (s : Store) (x : Entry) → full_fault s ≡ None → admit s x ≡ gives x (journaled s x)
admit_is s x room = rw room refl

-- ---- after an entry

-- a leaf's number is that of a leaf of the tree
pub leaf_in_tree : (c : Config) (key : List ℕ) → leaf_in c key < 16 ^ tree_depth c.format
leaf_in_tree c key = within c.format (leaf_in c key) (leaf_below c key)
  where
    within : (f : Format) (n : ℕ) → n < 2 ^ leaf_bits f → n < 16 ^ tree_depth f
    within One n h = h
    within Two n h = h

-- no key ever held too many, with an entry more whose offer fits
never_more : (es : List Entry) (e : Entry) (key : List ℕ) → NeverCrowded es key → offer_fault e.version (held es e.key) ≡ None
    → NeverCrowded (es ++ e ∷ []) key
never_more es e key short fits n = elim (cases_lt (length es) n) [
  | inl all ↦
      let whole : take n (es ++ e ∷ []) ≡ es ++ e ∷ [] = take_all n (es ++ e ∷ []) (omega (arith, length-append es (e ∷ []))) in
      subst (λ (xs : List Entry). length (held xs key) ≤ 64) (sym whole)
      (subst (λ (S : List Version). length S ≤ 64) (sym (held-push es e key)) (by_key (pointwise nat_eq e.key key) (bytes_eq-Decides e.key key)))
  | inr part ↦ subst (λ (xs : List Entry). length (held xs key) ≤ 64) (sym (take-append-le n es (e ∷ []) part)) (short n)
]
  where
    few : length (held es key) ≤ 64
    few = subst (λ (xs : List Entry). length (held xs key) ≤ 64) (take_all (length es) es (omega arith)) (short (length es))

    by_key : (b : Bool) → Decides b (e.key ≡ key) → length (cond b (offered e.version (held es key)) (held es key)) ≤ 64
    by_key true is = offered_short e.version (held es key) few (ap (λ (k : List ℕ). offer_fault e.version (held es k)) (sym (is.0 refl)) ∙ fits)
    by_key false is = few

pub grown_sound : (s : Store) (e : Entry) → IsSound s → place_fault s.config e.key e.version.kind e.version.value ≡ None
    → covered e.version (held s.entries e.key) ≡ false → IsClock e.version.clock → offer_fault e.version (held s.entries e.key) ≡ None
    → IsSound (journaled s e)
grown_sound s e ok here unknown clock fits =
    let limits = in_limits s.config e.key e.version.kind e.version.value here in
    let e_own = own s.config e here in
    let tree = offered_right (tree_in s) e.key e.version (tree_right s ok.config ok.own ok.rows ok.marks) e_own.here limits.0 limits.1 clock
    (ap (offer_fault e.version) (versions_in-rows_of s.entries e.key) ∙ fits) in
    let rows = sym (rows_of-push s.entries e) in
    record {
      config = ok.config;
      own = all-push (IsOwn s.config) s.entries e ok.own e_own;
      news = AreNews-push s.entries e ok.news (sym (covered-held e.version s.entries e.key) ∙ unknown);
      short = λ key. never_more s.entries e key (ok.short key) fits;
      rows = subst (AllByRecursion (IsRow s.config.format)) rows tree.rows.each;
      marks = subst (λ (rs : List Row). IsTreeFor (leaf_in s.config) rs (tree_of (journaled s e))) rows tree.marks;
    }

-- the rows after an entry are those after an offer
pub rows_after : (s : Store) (e : Entry) → (offered_to (tree_in s) e.key e.version).map ≡ rows_now (journaled s e)
rows_after s e = ap (λ (rows : List Row). record { format = s.config.format; bits = s.config.bits; range = s.config.range; rows = rows })
    (sym (rows_of-push s.entries e))

-- a range after an entry that is news
pub record IsAdmitted (s : Store) (e : Entry) (t : Store) (tree : RangeTree) : Type 0 where
  pub right : IsSound t
  pub rows : tree.map ≡ rows_now t
  pub is : t ≡ journaled s e

-- an entry of this range whose version is news to it, and is not one too many for its key
pub record IsNewEntry (s : Store) (e : Entry) : Type 0 where
  pub here : place_fault s.config e.key e.version.kind e.version.value ≡ None
  pub news : knows s e.key e.version ≡ false
  pub clock : IsClock e.version.clock
  pub fits : offer_fault e.version (held s.entries e.key) ≡ None

pub admitted : (s : Store) (e : Entry) (entries : List Entry) (tree : RangeTree) → IsSound s → IsNewEntry s e
    → tree ≡ offered_to (tree_in s) e.key e.version → entries ≡ s.entries ++ e ∷ []
    → IsAdmitted s e (record { config = s.config; entries = entries; marks = tree.marks }) tree
admitted s e entries tree ok new offer es =
    let back : record { config = s.config; entries = entries; marks = tree.marks } ≡ journaled s e = λ i. record {
      config = s.config;
      entries = es i;
      marks = (offer i).marks;
    } in
    let unknown : covered e.version (held s.entries e.key) ≡ false = covered-maximal e.version (accepted s.entries e.key) ∙ new.news in
    record {
      right = subst IsSound (sym back) (grown_sound s e ok new.here unknown new.clock new.fits);
      rows = ap (λ (t : RangeTree). t.map) offer ∙ rows_after s e ∙ ap rows_now (sym back);
      is = back;
    }

-- a version with a place here is of this range
pub here_of : (c : Config) (key : List ℕ) (kind : Kind) (value : List ℕ) → place_fault c key kind value ≡ None → range_at c.bits key ≡ c.range
here_of c key kind value h =
    eqb-true (range_at c.bits key) c.range
    (no_fault_else _ OtherRange (later_none (value_fault c.format kind value) _ (later_none (key_fault key) _ h)))

-- ---- what is known

pub knows_held : (s : Store) (key : List ℕ) (v : Version) → covered v (held s.entries key) ≡ knows s key v
knows_held s key v = covered-maximal v (accepted s.entries key)

-- a clock that no version has seen is of no covered version
unseen : (v : Version) (S : List Version) → Rises 0 v.clock → list_any (λ w. at_most v.clock w.clock) S ≡ false → covered v S ≡ false
unseen v [] r h = refl
unseen v (w ∷ S) r h =
    let parts = or_parts (at_most v.clock w.clock) (list_any (λ x. at_most v.clock x.clock) S) h in
    let below : is_below v w ≡ false = rw parts.0 refl in
    let same : is_same v w ≡ false = elim (cases_Bool (is_same v w)) [
      | inl t ↦ absurd (both_ways _ parts.0
          (subst (λ (x : Version). at_most v.clock x.clock ≡ true) (is_same-exact v w t) (at_most_itself v.clock r)))
      | inr f ↦ f
    ] in
    rw (same, below) (unseen v S r parts.1)

-- a version whose clock is not stale is news
pub news : (s : Store) (key : List ℕ) (v : Version) → Rises 0 v.clock → stale_fault (held s.entries key) v.clock ≡ None → knows s key v ≡ false
news s key v r h = sym (knows_held s key v) ∙ unseen v (held s.entries key) r (no_fault _ (StaleContext _) h)

-- What becomes of a range when the versions of a leaf are accepted.
use Rattle.std.proofs.Common.{◌≡◌, ℕ, ◌<◌, ◌≤◌, ◌⊎◌, Bool, true, false, cond, Option, None, List, [], ◌∷◌, ◌++◌, length, map, refl, sym, ap, subst}
use Rattle.std.proofs.Common.{◌∙◌, inl, inr, arith, append_assoc, append-nil, Any, Contains, ◌||◌}
use Rattle.std.specs.List.{AllByRecursion, flat_map}
use Rattle.std.proofs.lemmas.Bool.{or_left, or_right}
use Rattle.std.proofs.lemmas.Cmp.{nat_list_eq_equiv}
use Rattle.std.proofs.lemmas.List.{length-append, length-map}
use Rattle.std.proofs.lemmas.List.Folds.{list_any-append}
use Rattle.std.proofs.lemmas.List.FromFn.{fill_by_all}
use Rattle.vclock.specs.Clock.{IsClock}
use Rattle.vclock.specs.declared.format.Format.{Format}
use Rattle.version_set.specs.declared.version.Version.{Version}
use Rattle.version_set.specs.Version.{covered, offer_fault, is_same, is_below}
use Rattle.version_set.proofs.ListLaws.{all-append}
use Rattle.range_journal.specs.declared.journal.Entry.{Entry}
use Rattle.range_journal.specs.declared.journal.Source.{Source}
use Rattle.range_journal.specs.Journal.{held, versions_of}
use Rattle.range_journal.proofs.JournalLaws.{covered-held, versions_of-push, contains_later, any_later}
use Rattle.row_bytes.specs.declared.row.Row.{Row}
use Rattle.row_bytes.specs.Rows.{row_text}
use Rattle.tree_nodes.specs.Nodes.{kept_digest, is_on_path, dirtied}
use Rattle.tree_nodes.proofs.TreeLaws.{dirtied-at, length-dirtied}
use Rattle.row_bytes.proofs.TextLengthLaws.{row_short}
use Rattle.range_store.specs.Config.{Config}
use Rattle.range_store.specs.Store.{Store, IsSound, leaf_in, place_fault, knows, entry_of, journaled, accept_step}
use Rattle.range_store.specs.Offers.{offers_in, offers_of, accepted_in, crowded_in}
use Rattle.range_store.specs.Batches.{IsOfferFor}
use Rattle.range_store.proofs.StoreLaws.{grown_sound, knows_held, first_none, later_none}
use Rattle.range_store.proofs.HeldLaws.{grows, covered-itself, All-weaker}
use Rattle.range_store.proofs.BatchLaws.{Offers}

-- ---- the path of a leaf is dirty once

dirtied_twice : (format : Format) (leaf : ℕ) (marks : List (Option (List ℕ)))
    → dirtied format leaf (dirtied format leaf marks) ≡ dirtied format leaf marks
unfolding dirtied
dirtied_twice format leaf marks =
    fill_by_all (λ (place : ℕ). cond (is_on_path format leaf place) None (kept_digest marks place)) (dirtied format leaf (dirtied format leaf marks))
    (length marks) None
    (length-dirtied format leaf (dirtied format leaf marks) ∙ length-dirtied format leaf marks)
    (λ k less. dirtied-at format leaf k (dirtied format leaf marks)
    ∙ ap (λ (o : Option (List ℕ)). cond (is_on_path format leaf k) None o) (dirtied-at format leaf k marks)
    ∙ once (is_on_path format leaf k) (kept_digest marks k))
  where
    once : (b : Bool) (o : Option (List ℕ)) → cond b None (cond b None o) ≡ cond b None o
    once true o = refl
    once false o = refl

-- ---- a state that was reached by versions of a leaf

-- some of them were news
pub record IsNews (s : Store) (leaf : ℕ) (t : Store) : Type 0 where
  pub config : t.config ≡ s.config
  pub marks : t.marks ≡ dirtied s.config.format leaf s.marks
  pub more : length s.entries < length t.entries

abbrev pub Reached : Store → ℕ → Store → Type 0
Reached s leaf t = (t ≡ s) ⊎ IsNews s leaf t

reached_step : (s t : Store) (leaf seat : ℕ) (source : Source) (key : List ℕ) (v : Version) → leaf ≡ leaf_in s.config key → Reached s leaf t
    → Reached s leaf (accept_step t seat source key v)
reached_step s t leaf seat source key v at was =
    elim (knows t key v) as (λ b. Reached s leaf (cond b t (journaled t (entry_of t seat source key v)))) [
      | true ↦ was
      | false ↦ inr (by_case was)
    ]
  where
    by_case : Reached s leaf t → IsNews s leaf (journaled t (entry_of t seat source key v))
    by_case (inl e) = record {
      config = ap (λ (u : Store). u.config) e;
      marks = (λ i. dirtied (e i).config.format (leaf_in (e i).config key) (e i).marks) ∙ ap (λ (n : ℕ). dirtied s.config.format n s.marks) (sym at);
      more = omega (arith, ap (λ (u : Store). length u.entries) e, length-append t.entries (entry_of t seat source key v ∷ []));
    }
    by_case (inr n) = record {
      config = n.config;
      marks = (λ i. dirtied (n.config i).format (leaf_in (n.config i) key) (n.marks i))
          ∙ ap (λ (k : ℕ). dirtied s.config.format k (dirtied s.config.format leaf s.marks)) (sym at) ∙ dirtied_twice s.config.format leaf s.marks;
      more = omega (arith, n.more, length-append t.entries (entry_of t seat source key v ∷ []));
    }

pub reached : (s t : Store) (leaf seat : ℕ) (source : Source) (offers : Offers) → AllByRecursion (λ o. leaf ≡ leaf_in s.config o.0) offers
    → Reached s leaf t → Reached s leaf (accepted_in t seat source offers)
reached s t leaf seat source [] all was = was
reached s t leaf seat source (o ∷ offers) all was =
    reached s (accept_step t seat source o.0 o.1) leaf seat source offers all.1 (reached_step s t leaf seat source o.0 o.1 all.0 was)

-- ---- it is sound

step_sound : (t : Store) (seat : ℕ) (source : Source) (key : List ℕ) (v : Version) → IsSound t → place_fault t.config key v.kind v.value ≡ None
    → IsClock v.clock → offer_fault v (held t.entries key) ≡ None → IsSound (accept_step t seat source key v)
step_sound t seat source key v ok here clock fits =
    elim (knows t key v) as (λ b. knows t key v ≡ b → IsSound (cond b t (journaled t (entry_of t seat source key v)))) [
      | true ↦ λ known. ok
      | false ↦ λ fresh. grown_sound t (entry_of t seat source key v) ok here (knows_held t key v ∙ fresh) clock fits
    ] refl

-- A step keeps the configuration.
pub step_config : (t : Store) (seat : ℕ) (source : Source) (key : List ℕ) (v : Version) → (accept_step t seat source key v).config ≡ t.config
step_config t seat source key v =
    elim (knows t key v) as (λ b. (cond b t (journaled t (entry_of t seat source key v))).config ≡ t.config) [ true ↦ refl | false ↦ refl ]

pub config_stays : (t : Store) (seat : ℕ) (source : Source) (offers : Offers) → (accepted_in t seat source offers).config ≡ t.config
config_stays t seat source [] = refl
config_stays t seat source (o ∷ offers) = config_stays (accept_step t seat source o.0 o.1) seat source offers ∙ step_config t seat source o.0 o.1

-- versions that have their place keep the store sound
pub accepted_sound : (c : Config) (t : Store) (seat : ℕ) (source : Source) (offers : Offers) → t.config ≡ c → IsSound t
    → AllByRecursion (λ o. IsOfferFor c (leaf_in c o.0) o.0 o.1) offers → crowded_in t seat source offers ≡ None
    → IsSound (accepted_in t seat source offers)
accepted_sound c t seat source [] same ok all none = ok
accepted_sound c t seat source (o ∷ offers) same ok all none =
    let here = ap (λ (x : Config). place_fault x o.0 o.1.kind o.1.value) same ∙ all.0.here in
    let fits = first_none (offer_fault o.1 (held t.entries o.0)) _ none in
    accepted_sound c (accept_step t seat source o.0 o.1) seat source offers (step_config t seat source o.0 o.1 ∙ same)
    (step_sound t seat source o.0 o.1 ok here all.0.clock fits) all.1 (later_none (offer_fault o.1 (held t.entries o.0)) _ none)

-- ---- the entries that came

-- what holds of the offers holds of the entries that came
pub record IsGrown (P : List ℕ → Version → Type 0) (s t : Store) : Type 0 where
  pub more : List Entry
  pub entries : t.entries ≡ s.entries ++ more
  pub all : AllByRecursion (λ (e : Entry). P e.key e.version) more

step_grown : (P : List ℕ → Version → Type 0) (t : Store) (seat : ℕ) (source : Source) (key : List ℕ) (v : Version) → P key v
    → IsGrown P t (accept_step t seat source key v)
step_grown P t seat source key v p = elim (knows t key v) as (λ b. IsGrown P t (cond b t (journaled t (entry_of t seat source key v)))) [
  | true ↦ record { more = []; entries = sym (append-nil t.entries); all = tt }
  | false ↦ record { more = entry_of t seat source key v ∷ []; entries = refl; all = (p, tt) }
]

pub taken_grown : (P : List ℕ → Version → Type 0) (t : Store) (seat : ℕ) (source : Source) (offers : Offers) → AllByRecursion (λ o. P o.0 o.1) offers
    → IsGrown P t (accepted_in t seat source offers)
taken_grown P t seat source [] all = record { more = []; entries = sym (append-nil t.entries); all = tt }
taken_grown P t seat source (o ∷ offers) all =
    let one = step_grown P t seat source o.0 o.1 all.0 in
    let rest = taken_grown P (accept_step t seat source o.0 o.1) seat source offers all.1 in
    record {
      more = one.more ++ rest.more;
      entries = rest.entries ∙ ap (λ (es : List Entry). es ++ rest.more) one.entries ∙ append_assoc t.entries one.more rest.more;
      all = all-append (λ (e : Entry). P e.key e.version) one.more rest.more one.all rest.all;
    }

-- ---- what is held of them

held_step : (t : Store) (seat : ℕ) (source : Source) (key : List ℕ) (v : Version)
    → covered v (held (accept_step t seat source key v).entries key) ≡ true
held_step t seat source key v =
    elim (knows t key v) as (λ b. knows t key v ≡ b → covered v (held (cond b t (journaled t (entry_of t seat source key v))).entries key) ≡ true) [
      | true ↦ λ known. knows_held t key v ∙ known
      | false ↦ λ fresh.
          let e = entry_of t seat source key v in
          covered-held v (t.entries ++ e ∷ []) key
          ∙ ap (covered v) (versions_of-push t.entries e key ∙ rw (nat_list_eq_equiv.refl key) refl)
          ∙ list_any-append (λ (w : Version). is_same v w || is_below v w) (versions_of t.entries key) (v ∷ [])
          ∙ or_right (covered v (versions_of t.entries key)) _ (or_left _ _ (or_left _ _ (covered-itself v)))
    ] refl

abbrev pub Nothing : List ℕ → Version → Type 0
Nothing key v = Unit {0}

pub nothing : (offers : Offers) → AllByRecursion (λ o. Nothing o.0 o.1) offers
nothing [] = tt
nothing (o ∷ offers) = (tt, nothing offers)

pub taken_held : (t : Store) (seat : ℕ) (source : Source) (offers : Offers)
    → AllByRecursion (λ o. covered o.1 (held (accepted_in t seat source offers).entries o.0) ≡ true) offers
taken_held t seat source [] = tt
taken_held t seat source (o ∷ offers) =
    let next = accept_step t seat source o.0 o.1 in
    let rest = taken_grown Nothing next seat source offers (nothing offers) in (
      subst (λ (es : List Entry). covered o.1 (held es o.0) ≡ true) (sym rest.entries)
          (grows next.entries rest.more o.1 o.0 (held_step t seat source o.0 o.1)),
      taken_held next seat source offers,
    )

-- ---- offers and rows

in_row : (P : List ℕ → Version → Type 0) (key : List ℕ) (vs : List Version) (rest : Offers) → AllByRecursion (λ v. P key v) vs
    → AllByRecursion (λ o. P o.0 o.1) rest → AllByRecursion (λ o. P o.0 o.1) (map (λ v. (key, v)) vs ++ rest)
in_row P key [] rest all more = more
in_row P key (v ∷ vs) rest all more = (all.0, in_row P key vs rest all.1 more)

pub offers_all : (P : List ℕ → Version → Type 0) (rows : List Row) → AllByRecursion (λ (r : Row). AllByRecursion (λ v. P r.key v) r.versions) rows
    → AllByRecursion (λ o. P o.0 o.1) (offers_of rows)
offers_all P [] all = tt
offers_all P (r ∷ rows) all = in_row P r.key r.versions (offers_of rows) all.0 (offers_all P rows all.1)

of_row : (P : List ℕ → Version → Type 0) (key : List ℕ) (vs : List Version) (rest : Offers)
    → AllByRecursion (λ o. P o.0 o.1) (map (λ v. (key, v)) vs ++ rest) → AllByRecursion (λ v. P key v) vs × AllByRecursion (λ o. P o.0 o.1) rest
of_row P key [] rest all = (tt, all)
of_row P key (v ∷ vs) rest all = let later = of_row P key vs rest all.1 in ((all.0, later.0), later.1)

pub all_offers : (P : List ℕ → Version → Type 0) (rows : List Row) → AllByRecursion (λ o. P o.0 o.1) (offers_of rows)
    → AllByRecursion (λ (r : Row). AllByRecursion (λ v. P r.key v) r.versions) rows
all_offers P [] all = tt
all_offers P (r ∷ rows) all = let both = of_row P r.key r.versions (offers_of rows) all in (both.0, all_offers P rows both.1)

-- some row has the key and the version
abbrev pub IsAmong : List Row → List ℕ → Version → Type 0
IsAmong rows key v = Any (λ (r : Row). (r.key ≡ key) × Contains r.versions v) rows

all_contain : (vs : List Version) → AllByRecursion (λ v. Contains vs v) vs
all_contain [] = tt
all_contain (v ∷ vs) = (
  (0, omega arith, refl),
  All-weaker (λ w. Contains vs w) (λ w. Contains (v ∷ vs) w) vs (λ w h. contains_later v vs w h)
      (all_contain vs),
)

rows_among : (rows : List Row) → AllByRecursion (λ (r : Row). AllByRecursion (λ v. IsAmong rows r.key v) r.versions) rows
rows_among [] = tt
rows_among (r ∷ rows) = (
  All-weaker (λ v. Contains r.versions v) (λ v. IsAmong (r ∷ rows) r.key v) r.versions (λ v has. (0, r, omega arith, refl, (refl, has)))
      (all_contain r.versions),
  All-weaker (λ (x : Row). AllByRecursion (λ v. IsAmong rows x.key v) x.versions)
      (λ (x : Row). AllByRecursion (λ v. IsAmong (r ∷ rows) x.key v) x.versions) rows
      (λ x each. All-weaker (λ v. IsAmong rows x.key v) (λ v. IsAmong (r ∷ rows) x.key v) x.versions
      (λ v a. any_later (λ (y : Row). (y.key ≡ x.key) × Contains y.versions v) r rows a) each) (rows_among rows),
)

pub offers_among : (rows : List Row) → AllByRecursion (λ o. IsAmong rows o.0 o.1) (offers_of rows)
offers_among rows = offers_all (IsAmong rows) rows (rows_among rows)

-- ---- there are no more versions than bytes

pub offers_short : (f : Format) (rows : List Row) → length (offers_of rows) ≤ length (flat_map (row_text f) rows)
offers_short f [] = omega arith
offers_short f (r ∷ rows) =
    omega (
      arith,
      offers_short f rows,
      length-append (offers_in r) (offers_of rows),
      length-map {B = List ℕ × Version} r.versions (λ (v : Version). (r.key, v)),
      length-append (row_text f r) (flat_map (row_text f) rows),
      row_short f r,
    )

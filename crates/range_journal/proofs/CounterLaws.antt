-- The greatest counter of a node for a key.
use Rattle.std.proofs.Common.{◌≡◌, ℕ, ◌+◌, ◌<◌, ◌≤◌, Bool, true, false, cond, List, [], ◌∷◌, ◌++◌, length, get_or, take, max, refl, ap, sym, subst}
use Rattle.std.proofs.Common.{◌∙◌, ◌||◌, inl, inr, arith, append_assoc}
use Rattle.std.specs.Prelude.{nat_eq}
use Rattle.std.specs.List.{AllByRecursion}
use Rattle.std.specs.Ordering.{is_eq}
use Rattle.std.specs.Cmp.Lexicographic.{pointwise}
use Rattle.std.proofs.lemmas.Bool.{cases_Bool}
use Rattle.std.proofs.lemmas.Cmp.{tied_itself}
use Rattle.std.proofs.lemmas.List.{take_more}
use Rattle.std.proofs.lemmas.Slice.Eq.{bytes_eq-Decides}
use Rattle.vclock.specs.Clock.{counter, at_most}
use Rattle.vclock.proofs.ClockLaws.{at_most-counters}
use Rattle.version_set.specs.declared.version.Version.{Version}
use Rattle.version_set.specs.Version.{covered, is_same, is_below}
use Rattle.version_set.proofs.SetLaws.{version_total, is_same-exact}
use Rattle.range_journal.specs.declared.journal.Entry.{Entry}
use Rattle.range_journal.specs.Counters.{top_in, top_counter}
use Rattle.range_journal.specs.Journal.{versions_of, held}
use Rattle.range_journal.proofs.JournalLaws.{covered-held}

-- a version below another, or equal to it, has no greater counter
below_counter : (v w : Version) (node : ℕ) → (is_same v w || is_below v w) ≡ true → counter v.clock node ≤ counter w.clock node
below_counter v w node h = elim (cases_Bool (is_same v w)) [
  | inl same ↦ subst (λ (x : Version). counter v.clock node ≤ counter x.clock node) (is_same-exact v w same) (omega arith)
  | inr other ↦ elim (cases_Bool (at_most v.clock w.clock)) [
    | inl below ↦ at_most-counters v.clock w.clock below node
    | inr above ↦ absurd (let no = rw (other, above) at h in cc)
  ]
]

-- a covered version has no greater counter than the versions that cover it
covered_counter : (v : Version) (S : List Version) (node : ℕ) → covered v S ≡ true → counter v.clock node ≤ top_in S node
covered_counter v [] node h = absurd (cc)
covered_counter v (w ∷ S) node h = elim (cases_Bool (is_same v w || is_below v w)) [
  | inl here ↦ let least = below_counter v w node here in omega (arith, least)
  | inr other ↦ let later = rw other at h in let least = covered_counter v S node later in omega (arith, least)
]

-- each version is covered by a list that has it
covered_itself : (v : Version) (S : List Version) → covered v (v ∷ S) ≡ true
covered_itself v S = rw (ap is_eq (tied_itself version_total v)) refl

-- versions whose counters are at most a number
top_within : (S : List Version) (node most : ℕ) → AllByRecursion (λ v. counter v.clock node ≤ most) S → top_in S node ≤ most
top_within [] node most all = omega arith
top_within (v ∷ S) node most all = let rest = top_within S node most all.1 in omega (arith, all.0, rest)

-- what covers each version of a list has its counters
top_covered : (S T : List Version) (node : ℕ) → ((v : Version) → covered v S ≡ true → covered v T ≡ true) → top_in S node ≤ top_in T node
top_covered [] T node cover = omega arith
top_covered (v ∷ S) T node cover =
    let first = covered_counter v T node (cover v (covered_itself v S)) in
    let rest = top_covered S T node (λ w h. cover w (or-later (is_same w v || is_below w v) (covered w S) h)) in
    omega (arith, first, rest)
  where
    or-later : (a b : Bool) → b ≡ true → (a || b) ≡ true
    or-later true b h = refl
    or-later false b h = h

-- The greatest counter is that of the held versions.
pub top-held : (es : List Entry) (key : List ℕ) (node : ℕ) → top_counter es key node ≡ top_in (held es key) node
top-held es key node =
    let up = top_covered (versions_of es key) (held es key) node (λ v h. covered-held v es key ∙ h) in
    let down = top_covered (held es key) (versions_of es key) node (λ v h. sym (covered-held v es key) ∙ h) in
    omega (arith, up, down)

-- one more entry in front
top-cons : (e : Entry) (es : List Entry) (key : List ℕ) (node : ℕ)
    → top_counter (e ∷ es) key node ≡ cond (pointwise nat_eq e.key key) (max (counter e.version.clock node) (top_counter es key node))
    (top_counter es key node)
top-cons e es key node =
    elim (pointwise nat_eq e.key key) as
    (λ b. top_in (cond b (e.version ∷ versions_of es key) (versions_of es key)) node ≡ cond b
    (max (counter e.version.clock node) (top_counter es key node)) (top_counter es key node)) [
      | true ↦ refl
      | false ↦ refl
    ]

-- one more in front, of that key or of another one
top-taken : (e : Entry) (es : List Entry) (key : List ℕ) (node : ℕ) → pointwise nat_eq e.key key ≡ true
    → top_counter (e ∷ es) key node ≡ max (counter e.version.clock node) (top_counter es key node)
top-taken e es key node same = top-cons e es key node
    ∙ ap (λ b. cond b (max (counter e.version.clock node) (top_counter es key node)) (top_counter es key node)) same

top-passed : (e : Entry) (es : List Entry) (key : List ℕ) (node : ℕ) → pointwise nat_eq e.key key ≡ false
    → top_counter (e ∷ es) key node ≡ top_counter es key node
top-passed e es key node other = top-cons e es key node
    ∙ ap (λ b. cond b (max (counter e.version.clock node) (top_counter es key node)) (top_counter es key node)) other

-- entries and more of them
pub top-append : (es more : List Entry) (key : List ℕ) (node : ℕ)
    → top_counter (es ++ more) key node ≡ max (top_counter es key node) (top_counter more key node)
top-append [] more key node = omega arith
top-append (e ∷ es) more key node = elim (cases_Bool (pointwise nat_eq e.key key)) [
  | inl same ↦ let rest = top-append es more key node in let a = top-taken e (es ++ more) key node same in let b = top-taken e es key node same in
      omega (arith, rest, a, b)
  | inr other ↦ let rest = top-append es more key node in let a = top-passed e (es ++ more) key node other in let b =
      top-passed e es key node other in omega (arith, rest, a, b)
]

-- More entries never lower it.
pub top-later : (es more : List Entry) (key : List ℕ) (node : ℕ) → top_counter es key node ≤ top_counter (es ++ more) key node
top-later es more key node = let is = top-append es more key node in omega (arith, is)

-- at a step of a loop over the entries
pub top_more : (es : List Entry) (i : ℕ) (x : Entry) (key : List ℕ) (node : ℕ) → i < length es → x ≡ get_or es i x
    → top_counter (take (i + 1) es) key node ≡ cond (pointwise nat_eq x.key key)
    (max (counter x.version.clock node) (top_counter (take i es) key node)) (top_counter (take i es) key node)
top_more es i x key node h is =
    ap (λ t. top_counter t key node) (take_more es i x h ∙ ap (λ y. take i es ++ y ∷ []) (sym is))
    ∙ elim (cases_Bool (pointwise nat_eq x.key key)) [
      | inl same ↦ let a = top-append (take i es) (x ∷ []) key node in let b = top-taken x [] key node same in rw same (omega (arith, a, b))
      | inr other ↦ let a = top-append (take i es) (x ∷ []) key node in let b = top-passed x [] key node other in rw other (omega (arith, a, b))
    ]

-- no entry has a greater counter
pub top-all : (before es : List Entry) (node : ℕ) → AllByRecursion (λ e. counter e.version.clock node ≤ top_counter (before ++ es) e.key node) es
top-all before [] node = tt
top-all before (e ∷ es) node = (
  (let same = (bytes_eq-Decides e.key e.key).1 refl in
      let a = top-taken e es e.key node same in
      let b = top-append before (e ∷ es) e.key node in
      omega (arith, a, b)),
  subst (λ (all : List Entry). AllByRecursion (λ x. counter x.version.clock node ≤ top_counter all x.key node) es) (append_assoc before (e ∷ []) es)
      (top-all (before ++ e ∷ []) es node),
)

-- Entries that hold the same make the same rows.
use Rattle.std.proofs.Common.{◌≡◌, ℕ, ◌↔◌, Bool, true, false, cond, List, [], ◌∷◌, refl, ap, sym, subst, ◌∙◌, ◌||◌, inl, inr, arith, Any, Contains}
use Rattle.std.proofs.lemmas.Bool.{both_ways, or_left}
use Rattle.std.proofs.lemmas.List.Folds.{Any-from_list_any, list_any-from_Any}
use Rattle.std.proofs.lemmas.Slice.Eq.{bytes_eq-Decides}
use Rattle.std.specs.Prelude.{nat_eq}
use Rattle.std.specs.List.{list_any, AllByRecursion}
use Rattle.std.specs.Cmp.Lexicographic.{pointwise}
use Rattle.std.specs.declared.cmp.Ordering.TheVariants.{Less, Greater}
use Rattle.version_set.specs.declared.version.Version.{Version}
use Rattle.version_set.specs.Version.{covered, is_same, is_below, maximal, set_from}
use Rattle.range_journal.specs.declared.journal.Entry.{Entry}
use Rattle.range_journal.specs.Journal.{held, versions_of}
use Rattle.range_journal.proofs.JournalLaws.{covered-held, contains_cons, contains_later}
use Rattle.row_bytes.specs.declared.row.Row.{Row}
use Rattle.hash_tree.specs.Leaves.{key_cmp, AscendByKey}
use Rattle.hash_tree.proofs.KeyLaws.{turned, all_get}
use Rattle.range_store.specs.Rows.{rows_of}
use Rattle.range_store.proofs.RowLaws.{rows_of-ascend, rows_of-entries}
use Rattle.range_store.proofs.HeldLaws.{covered-itself}

-- ---- rows by what is held

pub all_of : {X : Type 0} (P : X → Type 0) (xs : List X) (x : X) → AllByRecursion P xs → Contains xs x → P x
all_of P xs x all has = subst P has.2 (all_get P xs has.0 x all has.1)

not_both : (a b : List ℕ) → key_cmp a b ≡ Less → key_cmp b a ≡ Less → ⊥
not_both a b h k = let clash : Less ≡ Greater = sym k ∙ turned a b Less h in cc

first_in : (x : Row) (xs : List Row) → Contains (x ∷ xs) x
first_in x xs = (0, omega arith, refl)

-- rows that ascend by key are known by their members
same_ascending : (xs ys : List Row) → AscendByKey xs → AscendByKey ys → ((r : Row) → Contains xs r → Contains ys r)
    → ((r : Row) → Contains ys r → Contains xs r) → xs ≡ ys
same_ascending [] [] a b f g = refl
same_ascending [] (y ∷ ys) a b f g = absurd (let c = g y (first_in y ys) in omega (arith, c.1))
same_ascending (x ∷ xs) [] a b f g = absurd (let c = f x (first_in x xs) in omega (arith, c.1))
same_ascending (x ∷ xs) (y ∷ ys) a b f g =
    let same : x ≡ y = elim (contains_cons y ys x (f x (first_in x xs))) [
      | inl e ↦ sym e
      | inr above ↦ elim (contains_cons x xs y (g y (first_in y ys))) [
        | inl e ↦ e
        | inr below ↦ absurd (not_both x.key y.key (all_of (λ (r : Row). key_cmp x.key r.key ≡ Less) xs y a.0 below)
            (all_of (λ (r : Row). key_cmp y.key r.key ≡ Less) ys x b.0 above))
      ]
    ] in
    let rest = same_ascending xs ys a.1 b.1
    (λ r c. elim (contains_cons y ys r (f r (contains_later x xs r c))) [
      | inl e ↦ absurd (again x r (sym (same ∙ e)) (all_of (λ (z : Row). key_cmp x.key z.key ≡ Less) xs r a.0 c))
      | inr later ↦ later
    ])
    (λ r c. elim (contains_cons x xs r (g r (contains_later y ys r c))) [
      | inl e ↦ absurd (again y r (sym e ∙ same) (all_of (λ (z : Row). key_cmp y.key z.key ≡ Less) ys r b.0 c))
      | inr later ↦ later
    ]) in
    λ i. same i ∷ rest i
  where
    again : (x r : Row) → r ≡ x → key_cmp x.key r.key ≡ Less → ⊥
    again x r e h = let less = subst (λ (z : Row). key_cmp x.key z.key ≡ Less) e h in not_both x.key x.key less less

-- whether anything is held says whether the key has an entry
abbrev any_version : List Version → Bool
any_version S = list_any (λ v. true) S

any_entry : (es : List Entry) (k : List ℕ) → list_any (λ (e : Entry). pointwise nat_eq e.key k) es ≡ any_version (versions_of es k)
any_entry [] k = refl
any_entry (e ∷ es) k = by_key (pointwise nat_eq e.key k) (any_entry es k)
  where
    by_key : (b : Bool) → list_any (λ (x : Entry). pointwise nat_eq x.key k) es ≡ any_version (versions_of es k)
        → (b || list_any (λ (x : Entry). pointwise nat_eq x.key k) es) ≡ any_version (cond b (e.version ∷ versions_of es k) (versions_of es k))
    by_key true h = refl
    by_key false h = h

some_found : (p : Version → Bool) (S : List Version) → list_any p S ≡ true → any_version S ≡ true
some_found p [] h = absurd (both_ways (list_any p []) refl h)
some_found p (v ∷ S) h = refl

any_held : (es : List Entry) (k : List ℕ) → any_version (versions_of es k) ≡ any_version (held es k)
any_held es k = by_list (versions_of es k) refl
  where
    by_list : (vs : List Version) → versions_of es k ≡ vs → any_version vs ≡ any_version (held es k)
    by_list [] e = sym (ap (λ (vs : List Version). any_version (maximal (set_from [] vs))) e)
    by_list (v ∷ vs) e = sym
        (some_found _ (held es k)
        (covered-held v es k ∙ ap (covered v) e
        ∙ or_left (is_same v v || is_below v v) (covered v vs) (or_left (is_same v v) (is_below v v) (covered-itself v))))

keyed : (es : List Entry) (k : List ℕ) → Any (λ (e : Entry). e.key ≡ k) es ↔ (any_version (held es k) ≡ true)
keyed es k = (
  (λ a. sym (any_entry es k ∙ any_held es k)
      ∙ list_any-from_Any (λ (e : Entry). pointwise nat_eq e.key k) es (a.0, a.1, a.2, a.3, (bytes_eq-Decides a.1.key k).1 a.4)),
  (λ h. let a = Any-from_list_any (λ (e : Entry). pointwise nat_eq e.key k) es (any_entry es k ∙ any_held es k ∙ h) in
      (a.0, a.1, a.2, a.3, (bytes_eq-Decides a.1.key k).0 a.4)),
)

rows_among : (es fs : List Entry) → ((key : List ℕ) → held es key ≡ held fs key) → (r : Row) → Contains (rows_of es) r → Contains (rows_of fs) r
rows_among es fs same r c =
    let here = (rows_of-entries es r).0 c in
    (rows_of-entries fs r).1 ((keyed fs r.key).1 (ap any_version (sym (same r.key)) ∙ (keyed es r.key).0 here.0), here.1 ∙ same r.key)

-- Journals that hold the same have the same rows.
pub same_rows : (es fs : List Entry) → ((key : List ℕ) → held es key ≡ held fs key) → rows_of es ≡ rows_of fs
same_rows es fs same = same_ascending (rows_of es) (rows_of fs) (rows_of-ascend es) (rows_of-ascend fs) (rows_among es fs same)
    (rows_among fs es (λ key. sym (same key)))

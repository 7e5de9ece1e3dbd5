-- Sets of versions that are offered to others, one by one.
use Rattle.std.proofs.Common.{◌≡◌, ℕ, ◌+◌, Bool, true, false, cond, Decides, Option, Some, None, List, [], ◌∷◌, ◌++◌, refl, ap, sym, ◌∙◌, ◌||◌, ◌&&◌}
use Rattle.std.proofs.Common.{inl, inr}
use Rattle.std.proofs.lemmas.Bool.{cases_Bool, eqb-true}
use Rattle.std.proofs.lemmas.List.Folds.{list_any-append}
use Rattle.std.proofs.lemmas.Slice.Eq.{bytes_eq-Decides}
use Rattle.std.specs.Prelude.{nat_eq}
use Rattle.std.specs.List.{list_any}
use Rattle.std.specs.Cmp.Lexicographic.{pointwise}
use Rattle.std.specs.declared.cmp.Ordering.TheVariants.{Less}
use Rattle.vclock.specs.declared.refusal.Refusal.{Refusal}
use Rattle.version_set.specs.declared.version.Version.{Version}
use Rattle.version_set.specs.Version.{covered, offered, maximal, version_cmp, with_version, set_from, Ascends}
use Rattle.version_set.proofs.SetLaws.{version_total, offered-maximal, covered-maximal, any-set_from}
use Rattle.version_set.proofs.ListLaws.{ascends-inserted, Pairwise-filter}
use Rattle.range_journal.specs.declared.journal.Source.TheVariants.{Partner}
use Rattle.range_journal.specs.Journal.{held, accepted}
use Rattle.range_journal.proofs.JournalLaws.{Ascends-set_from, held-push}
use Rattle.row_bytes.specs.declared.row.Row.{Row}
use Rattle.hash_tree.specs.Leaves.{key_cmp, AscendByKey, rows_in_leaf, versions_in}
use Rattle.hash_tree.proofs.LeafLaws.{versions_in-rows_at}
use Rattle.snapshot.specs.RowMaps.{RowMap, leaf_in}
use Rattle.tree_nodes.specs.Nodes.{Node}
use Rattle.range_store.specs.Store.{Store, knows, entry_of, journaled, accept_step}
use Rattle.range_store.specs.Offers.{offers_of}
use Rattle.range_state.specs.Sessions.{taken_in, leaf_fault}
use Rattle.range_state.specs.Syncs.{offers_at, Progress, known_in, unless_refused, taken_leaves}
use Rattle.range_state.specs.Unions.{union_of, offered_all}
use Rattle.range_store.proofs.BatchLaws.{Offers}
use Rattle.range_store.proofs.HeldLaws.{same_sets, or_swap, any_listed, offers_for, none_of, for_rows, other_leaf}

-- ---- unions

same_listed : (xs ys : List Version) → ((p : Version → Bool) → list_any p xs ≡ list_any p ys) → set_from [] xs ≡ set_from [] ys
same_listed xs ys h = same_sets (set_from [] xs) (set_from [] ys) (Ascends-set_from [] xs tt) (Ascends-set_from [] ys tt)
    (λ p. any_listed p xs ∙ h p ∙ sym (any_listed p ys))

-- The union doesn't depend on the side.
pub union_swap : (S T : List Version) → union_of S T ≡ union_of T S
union_swap S T = ap maximal
    (same_listed (S ++ T) (T ++ S) (λ p. list_any-append p S T ∙ or_swap (list_any p S) (list_any p T) ∙ sym (list_any-append p T S)))

offered_to_maximal : (U vs : List Version) → Ascends U → offered_all (maximal U) vs ≡ maximal (set_from U vs)
offered_to_maximal U [] a = refl
offered_to_maximal U (v ∷ vs) a = ap (λ (S : List Version). offered_all S vs) (offered-maximal v U a)
    ∙ offered_to_maximal (with_version v U) vs (ascends-inserted version_cmp version_total v U a)

-- Offering the members of one set to another, one by one, gives the maximal versions of both.
pub offers_unite : (S T : List Version) → Ascends S → maximal S ≡ S → offered_all S T ≡ union_of S T
offers_unite S T a own =
    ap (λ (U : List Version). offered_all U T) (sym own)
    ∙ offered_to_maximal S T a
    ∙ ap maximal (same_sets (set_from S T) (set_from [] (S ++ T)) (Ascends-set_from S T a) (Ascends-set_from [] (S ++ T) tt)
    (λ p. any-set_from p S T ∙ or_swap (list_any p T) (list_any p S) ∙ sym (list_any-append p S T) ∙ sym (any_listed p (S ++ T))))

pub union_alike : (S T U : List Version) → ((p : Version → Bool) → list_any p (S ++ T) ≡ list_any p (S ++ U)) → union_of S T ≡ union_of S U
union_alike S T U h = ap maximal (same_listed (S ++ T) (S ++ U) h)

-- ---- offers of one key

pub step_held : (s : Store) (seat : ℕ) (k : List ℕ) (v : Version) (key : List ℕ)
    → held (accept_step s seat Partner k v).entries key ≡ cond (pointwise nat_eq k key) (offered v (held s.entries key)) (held s.entries key)
step_held s seat k v key = elim (cases_Bool (knows s k v)) [
  | inl known ↦ ap (λ b. held (cond b s (journaled s (entry_of s seat Partner k v))).entries key) known
      ∙ by_key known (pointwise nat_eq k key) (bytes_eq-Decides k key)
  | inr news ↦ ap (λ b. held (cond b s (journaled s (entry_of s seat Partner k v))).entries key) news
      ∙ held-push s.entries (entry_of s seat Partner k v) key
]
  where
    by_key : knows s k v ≡ true → (b : Bool) → Decides b (k ≡ key) → held s.entries key ≡ cond b (offered v (held s.entries key)) (held s.entries key)
    by_key known true is =
        let there : covered v (held s.entries key) ≡ true = ap (λ (x : List ℕ). covered v (held s.entries x)) (sym (is.0 refl))
        ∙ covered-maximal v (accepted s.entries k) ∙ known in
        sym (ap (λ b. cond b (held s.entries key) (maximal (with_version v (held s.entries key)))) there)
    by_key known false is = refl

-- What is held after offers, is what was held, to which those of the key were offered.
pub taken_holds : (s : Store) (seat : ℕ) (offers : Offers) (key : List ℕ)
    → held (taken_in s seat offers).entries key ≡ offered_all (held s.entries key) (offers_for key offers)
taken_holds s seat [] key = refl
taken_holds s seat (o ∷ offers) key =
    taken_holds (accept_step s seat Partner o.0 o.1) seat offers key
    ∙ ap (λ (S : List Version). offered_all S (offers_for key offers)) (step_held s seat o.0 o.1 key)
    ∙ by_key (pointwise nat_eq o.0 key)
  where
    by_key : (b : Bool) → offered_all (cond b (offered o.1 (held s.entries key)) (held s.entries key)) (offers_for key offers) ≡ offered_all
        (held s.entries key) (cond b (o.1 ∷ offers_for key offers) (offers_for key offers))
    by_key true = refl
    by_key false = refl

offered-append : (S xs ys : List Version) → offered_all S (xs ++ ys) ≡ offered_all (offered_all S xs) ys
offered-append S [] ys = refl
offered-append S (x ∷ xs) ys = offered-append (offered x S) xs ys

-- the versions that some leaves have for a key
abbrev pub for_leaves : List ℕ → RowMap → List Node → List Version
for_leaves key other [] = []
for_leaves key other (n ∷ leaves) = offers_for key (offers_at other n) ++ for_leaves key other leaves

-- where no leaf was refused, all that they have was offered
pub leaves_hold : (s : Store) (seat : ℕ) (other : RowMap) (known : ℕ) (leaves : List Node) (key : List ℕ)
    → (taken_leaves s seat other known leaves).fault ≡ None
    → held (taken_leaves s seat other known leaves).store.entries key ≡ offered_all (held s.entries key) (for_leaves key other leaves)
leaves_hold s seat other known [] key fits = refl
leaves_hold s seat other known (n ∷ leaves) key fits =
    by_fault (leaf_fault s seat (offers_at other n))
    (taken_leaves (taken_in s seat (offers_at other n)) seat other (known + known_in s seat (offers_at other n)) leaves)
    (leaves_hold (taken_in s seat (offers_at other n)) seat other (known + known_in s seat (offers_at other n)) leaves key) fits
    ∙ ap (λ (S : List Version). offered_all S (for_leaves key other leaves)) (taken_holds s seat (offers_at other n) key)
    ∙ sym (offered-append (held s.entries key) (offers_for key (offers_at other n)) (for_leaves key other leaves))
  where
    by_fault : (f : Option Refusal) (more : Progress)
        → (more.fault ≡ None → held more.store.entries key ≡ offered_all (held (taken_in s seat (offers_at other n)).entries key)
        (for_leaves key other leaves))
        → (unless_refused f s known more).fault ≡ None
        → held (unless_refused f s known more).store.entries key ≡ offered_all (held (taken_in s seat (offers_at other n)).entries key)
        (for_leaves key other leaves)
    by_fault None more again e = again e
    by_fault (Some x) more again e = absurd (let clash : Some x ≡ None = e in cc)

-- ---- the offers of rows

leaf_any : (p : Version → Bool) (leaf : List ℕ → ℕ) (i : ℕ) (key : List ℕ) (rows : List Row) → AscendByKey rows
    → list_any p (offers_for key (offers_of (rows_in_leaf leaf i rows))) ≡ (nat_eq i (leaf key) && list_any p (versions_in key rows))
leaf_any p leaf i key rows a = elim (cases_Bool (nat_eq i (leaf key))) [
  | inl here ↦
      ap (λ (n : ℕ). list_any p (offers_for key (offers_of (rows_in_leaf leaf n rows)))) (eqb-true i (leaf key) here)
      ∙ ap (list_any p) (for_rows key (rows_in_leaf leaf (leaf key) rows) (Pairwise-filter (λ (r x : Row). key_cmp r.key x.key ≡ Less) _ rows a)
      ∙ versions_in-rows_at leaf key rows a)
      ∙ sym (ap (λ b. b && list_any p (versions_in key rows)) here)
  | inr away ↦
      ap (list_any p) (none_of key (rows_in_leaf leaf i rows) (other_leaf leaf i key rows away))
      ∙ sym (ap (λ b. b && list_any p (versions_in key rows)) away)
]

-- What leaves offer for a key is what the rows have for it, if the key's own leaf is among them.
pub leaves_any : (p : Version → Bool) (other : RowMap) (key : List ℕ) (leaves : List Node) → AscendByKey other.rows
    → list_any p (for_leaves key other leaves) ≡ (list_any (λ (n : Node). nat_eq n.index (leaf_in other key)) leaves && list_any p
    (versions_in key other.rows))
leaves_any p other key [] a = refl
leaves_any p other key (n ∷ leaves) a =
    list_any-append p (offers_for key (offers_at other n)) (for_leaves key other leaves)
    ∙ (λ i. leaf_any p (leaf_in other) n.index key other.rows a i || leaves_any p other key leaves a i)
    ∙ either (nat_eq n.index (leaf_in other key)) (list_any (λ (m : Node). nat_eq m.index (leaf_in other key)) leaves)
    (list_any p (versions_in key other.rows))
  where
    either : (a b c : Bool) → ((a && c) || (b && c)) ≡ ((a || b) && c)
    either true true true = refl
    either true true false = refl
    either true false true = refl
    either true false false = refl
    either false b c = refl

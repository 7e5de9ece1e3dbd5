-- What becomes of a store and of its tree when the versions of a leaf are accepted.
use Rattle.std.proofs.Common.{◌≡◌, ◌≢◌, ℕ, ◌+◌, ◌<◌, Bool, true, false, cond, Option, Some, None, List, [], ◌∷◌, ◌++◌, length, set, refl, sym, ap}
use Rattle.std.proofs.Common.{◌∙◌, inl, inr, arith, append_assoc, append-nil}
use Rattle.std.specs.Prelude.{nat_eq, nat_lt}
use Rattle.std.specs.List.{AllByRecursion}
use Rattle.std.proofs.lemmas.Bool.Decides.{nat_tests}
use Rattle.vclock.specs.Answer.{first_fault}
use Rattle.vclock.specs.declared.refusal.Refusal.{Refusal}
use Rattle.vclock.specs.declared.refusal.Refusal.TheVariants.{Crowded}
use Rattle.version_set.specs.Version.{covered, maximal, with_version, offer_fault}
use Rattle.version_set.specs.declared.version.Version.{Version}
use Rattle.range_journal.specs.declared.journal.Entry.{Entry}
use Rattle.range_journal.specs.declared.journal.Source.{Source}
use Rattle.range_journal.specs.Journal.{held}
use Rattle.vclock.specs.Outcome as outcome
use Rattle.hash_tree.specs.Leaves.{Bucket, rows_in_leaf}
use Rattle.tree_nodes.specs.Nodes.{dirtied}
use Rattle.range_store.specs.Config.{Config}
use Rattle.range_store.specs.Rows.{rows_of}
use Rattle.range_store.specs.Store.{Store, rows_now, tree_in, leaf_in, leaf_count, bucket_of, accept_step}
use Rattle.snapshot.specs.RowMaps.{IsRowMap}
use Rattle.snapshot.specs.Snapshots.{leaves_of}
use Rattle.range_tree.specs.Trees.{RangeTree, IsChange, with_rows}
use Rattle.range_store.specs.Offers.{crowded_in}
use Rattle.range_store.proofs.RowLaws.{leaf-push}
use Rattle.range_store.proofs.BatchLaws.{Offers}
use Rattle.range_store.proofs.TakenLaws.{Reached}

-- the store that a call gives
pub given_state : {T S : Type 0} {x y : T} {s t : S} → outcome.gives x s ≡ outcome.gives y t → t ≡ s
given_state is = cc

-- ---- versions that are refused

crowded_cause : (v : Version) (S : List Version) (e : Refusal) → offer_fault v S ≡ Some e → e ≡ Crowded
crowded_cause v S e h = by_case (covered v S) (nat_lt 64 (length (maximal (with_version v S)))) h
  where
    by_case : (a b : Bool) → cond a None (cond b (Some Crowded) None) ≡ Some e → e ≡ Crowded
    by_case true b h = absurd (let clash : None ≡ Some e = h in cc)
    by_case false true h = let same : Some Crowded ≡ Some e = h in cc
    by_case false false h = absurd (let clash : None ≡ Some e = h in cc)

first_cause : (a b : Option Refusal) (e : Refusal) → (a ≡ Some e → e ≡ Crowded) → (b ≡ Some e → e ≡ Crowded) → first_fault a b ≡ Some e → e ≡ Crowded
first_cause None b e f g h = g h
first_cause (Some x) b e f g h = f h

pub crowded_is : (s : Store) (seat : ℕ) (source : Source) (offers : Offers) (e : Refusal) → crowded_in s seat source offers ≡ Some e → e ≡ Crowded
crowded_is s seat source [] e h = absurd (let clash : None ≡ Some e = h in cc)
crowded_is s seat source (o ∷ offers) e h =
    first_cause (offer_fault o.1 (held s.entries o.0)) _ e (crowded_cause o.1 (held s.entries o.0) e)
    (crowded_is (accept_step s seat source o.0 o.1) seat source offers e) h

-- ---- versions of a leaf that are accepted

leaf_off : (c : Config) (i leaf : ℕ) (es more : List Entry) → i ≢ leaf → AllByRecursion (λ (e : Entry). leaf ≡ leaf_in c e.key) more
    → rows_in_leaf (leaf_in c) i (rows_of (es ++ more)) ≡ rows_in_leaf (leaf_in c) i (rows_of es)
leaf_off c i leaf es [] other all = ap (λ (xs : List Entry). rows_in_leaf (leaf_in c) i (rows_of xs)) (append-nil es)
leaf_off c i leaf es (e ∷ more) other all =
    let off : nat_eq (leaf_in c e.key) i ≡ false = apart (leaf_in c e.key) i (λ h. other (sym (all.0 ∙ h))) in
    ap (λ (xs : List Entry). rows_in_leaf (leaf_in c) i (rows_of xs)) (sym (append_assoc es (e ∷ []) more))
    ∙ leaf_off c i leaf (es ++ e ∷ []) more other all.1
    ∙ leaf-push (leaf_in c) es e i ∙ rw off refl
  where
    apart : (a b : ℕ) → a ≢ b → nat_eq a b ≡ false
    apart a b h = grind (arith, nat_tests)

-- the leaves with another in the place of the one that the entries are of
pub batch_change : (s : Store) (more : List Entry) (leaf : ℕ) (leaves : List Bucket) (b : Bucket)
    → IsRowMap (rows_now (record s { entries = s.entries ++ more })) → leaf < leaf_count s.config
    → AllByRecursion (λ (e : Entry). leaf ≡ leaf_in s.config e.key) more
    → b ≡ bucket_of s.config (s.entries ++ more) leaf → leaves ≡ set (leaves_of (rows_now s)) leaf b
    → IsChange (rows_now s) leaf leaves (rows_now (record s { entries = s.entries ++ more }))
batch_change s more leaf leaves b rows within all is are = record {
  rows = rows;
  same = refl;
  within = within;
  others = λ i other. leaf_off s.config i leaf s.entries more other all;
  are = are ∙ ap (set (leaves_of (rows_now s)) leaf) is;
}

-- so many entries are some, or none
some_news : (n : ℕ) → 0 < n → nat_eq n 0 ≡ false
some_news n h = grind (arith, nat_tests)

no_news : (n : ℕ) → n ≡ 0 → nat_eq n 0 ≡ true
no_news n h = grind (arith, nat_tests)

-- the tree that is kept has the rows then
pub kept_rows : (s : Store) (more : List Entry) (leaf : ℕ) (old new : RangeTree) → old ≡ tree_in s
    → new ≡ cond (nat_eq (length more) 0) old (with_rows old leaf (rows_now (record s { entries = s.entries ++ more })))
    → new ≡ record {
      map = rows_now (record s { entries = s.entries ++ more });
      marks = cond (nat_eq (length more) 0) s.marks (dirtied s.config.format leaf s.marks);
    }
kept_rows s [] leaf old new was is = is ∙ was
    ∙ (λ i. record { map = rows_now (record s { entries = sym (append-nil s.entries) i }); marks = s.marks })
kept_rows s (e ∷ more) leaf old new was is =
    let news = some_news (length (e ∷ more)) (omega arith) in
    rw news (rw news at is ∙ ap (λ (t : RangeTree). with_rows t leaf (rows_now (record s { entries = s.entries ++ e ∷ more }))) was)

-- a store that was reached by so many entries more
pub reached_is : (s : Store) (leaf : ℕ) (t : Store) (n : ℕ) → length t.entries ≡ length s.entries + n → Reached s leaf t
    → record { config = s.config; entries = t.entries; marks = cond (nat_eq n 0) s.marks (dirtied s.config.format leaf s.marks) } ≡ t
reached_is s leaf t n count (inl e) =
    rw (no_news n (omega (arith, count, ap (λ (x : Store). length x.entries) e)))
    (λ i. record { config = (sym e i).config; entries = t.entries; marks = (sym e i).marks })
reached_is s leaf t n count (inr news) =
    rw (some_news n (omega (arith, count, news.more))) (λ i. record { config = sym news.config i; entries = t.entries; marks = sym news.marks i })

-- The rows that a leaf's text has and the own rows lack: no two have one key.
use Rattle.std.proofs.Common.{◌≡◌, inl, inr, ℕ, true, false, List, [], ◌∷◌, ◌++◌, length, arith, refl, sym, ap, subst, ◌∙◌}
use Rattle.std.specs.Prelude.{nat_eq}
use Rattle.std.specs.Cmp.Lexicographic.{pointwise, texts_ties}
use Rattle.std.specs.Ordering.{is_lt}
use Rattle.std.specs.List.{AllByRecursion}
use Rattle.std.proofs.lemmas.List.{length-append}
use Rattle.std.specs.declared.cmp.Ordering.{Ordering}
use Rattle.std.specs.declared.cmp.Ordering.TheVariants.{Less, Equal, Greater}
use Rattle.row_bytes.specs.declared.row.Row.{Row}
use Rattle.row_bytes.specs.Rows.{is_before, KeysAscend}
use Rattle.hash_tree.specs.Leaves.{key_cmp}
use Rattle.hash_tree.proofs.KeyLaws.{less_trans}
use Rattle.snapshot.specs.RowMaps.{RowMap}
use Rattle.tree_nodes.specs.Nodes.{Node}
use Rattle.sync_session.specs.Readings.{AreOthers, IsReadTo}

-- ---- one key after another

before_less : (a b : List ℕ) → is_before a b ≡ true → key_cmp a b ≡ Less
before_less a b h = by_order (key_cmp a b) h
  where
    by_order : (o : Ordering) → is_lt o ≡ true → o ≡ Less
    by_order Less t = refl
    by_order Equal t = absurd (cc)
    by_order Greater t = absurd (cc)

less_before : (a b : List ℕ) → key_cmp a b ≡ Less → is_before a b ≡ true
less_before a b h = rw h refl

before_trans : (a b c : List ℕ) → is_before a b ≡ true → is_before b c ≡ true → is_before a c ≡ true
before_trans a b c h k = less_before a c (less_trans a b c (before_less a b h) (before_less b c k))

-- a key before another is another
before_apart : (a b : List ℕ) → is_before a b ≡ true → pointwise nat_eq a b ≡ false
before_apart a b h = rw (texts_ties a b, before_less a b h) refl

-- ---- the last of the rows that the own ones lack

-- the others are before it, and so is the key before them
record IsLast (last : List ℕ) (others : List Row) (r : Row) : Type 0 where
  before : AllByRecursion (λ (x : Row). pointwise nat_eq x.key r.key ≡ false) others
  next : is_before last r.key ≡ true

last_other : (own rows others : List Row) (known : ℕ) (r : Row) (last : List ℕ) → KeysAscend last rows → AreOthers own rows (others ++ r ∷ []) known
    → IsLast last others r
last_other own [] others known r last ascending news = absurd (omega (arith, ap length news.0, length-append others (r ∷ [])))
last_other own (x ∷ rows) others known r last ascending news = elim news [
  | inl other ↦ by_others others other.1.0 (λ ys news. last_other own rows ys known r x.key ascending.1 news) other.1.1 other.1.2
  | inr has ↦
      let rest = last_other own rows others has.1.0 r x.key ascending.1 has.1.2 in
      record { before = rest.before; next = before_trans last x.key r.key ascending.0 rest.next }
]
  where
    by_others : (others more : List Row) → ((ys : List Row) → AreOthers own rows (ys ++ r ∷ []) known → IsLast x.key ys r)
        → others ++ r ∷ [] ≡ x ∷ more → AreOthers own rows more known → IsLast last others r
    by_others [] more again e news = let head : r ≡ x = cc in
        record { before = tt; next = subst (λ (y : Row). is_before last y.key ≡ true) (sym head) ascending.0 }
    by_others (y ∷ ys) more again e news =
        let head : y ≡ x = cc in
        let tail : ys ++ r ∷ [] ≡ more = cc in
        let rest = again ys (subst (λ (rs : List Row). AreOthers own rows rs known) (sym tail) news) in
        record {
          before = (ap (λ (z : Row). pointwise nat_eq z.key r.key) head ∙ before_apart x.key r.key rest.next, rest.before);
          next = before_trans last x.key r.key ascending.0 rest.next;
        }

-- the rows before a row that was read have other keys
pub read_apart : {m : RowMap} {n : Node} {text last rest : List ℕ} {known : ℕ} (others : List Row) (r : Row)
    → IsReadTo m n text last rest (others ++ r ∷ []) known → AllByRecursion (λ (x : Row). pointwise nat_eq x.key r.key ≡ false) others
read_apart {m = m} {known = known} others r read = (last_other m.rows read.way.rows others known r [] read.way.are.ascending read.way.news).before

-- ---- what holds of all

-- what holds of all rows holds of those that the own ones lack
pub others_all : (P : Row → Type 0) (own rows others : List Row) (known : ℕ) → AllByRecursion P rows → AreOthers own rows others known
    → AllByRecursion P others
others_all P own [] others known all news = subst (AllByRecursion P) (sym news.0) tt
others_all P own (r ∷ rows) others known all news = elim news [
  | inl other ↦ subst (AllByRecursion P) (sym other.1.1) (all.0, others_all P own rows other.1.0 known all.1 other.1.2)
  | inr has ↦ others_all P own rows others has.1.0 all.1 has.1.2
]

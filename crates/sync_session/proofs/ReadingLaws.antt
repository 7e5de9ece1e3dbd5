-- The rows that a leaf's text spells.
use Rattle.std.proofs.Common.{◌≡◌, ℕ, Bool, true, ◌&&◌, List, [], ◌∷◌, refl, sym, ap, subst, ◌∙◌}
use Rattle.std.specs.Prelude.{nat_eq}
use Rattle.std.specs.List.{flat_map, list_all, AllByRecursion}
use Rattle.std.proofs.lemmas.Bool.{eqb-true, eq-eqb, and_parts, and_from}
use Rattle.vclock.specs.declared.format.Format.{Format}
use Rattle.key_ring.specs.Places.{range_at}
use Rattle.row_bytes.specs.declared.row.Row.{Row}
use Rattle.row_bytes.specs.Rows.{row_text, AreRows}
use Rattle.hash_tree.specs.Texts.{leaf_byte, leaf_text}
use Rattle.snapshot.specs.RowMaps.{RowMap, leaf_in}
use Rattle.tree_nodes.specs.Nodes.{Node}
use Rattle.sync_session.specs.Walks.{AreSpelled}

-- the test of a row's place
abbrev pub is_here : RowMap → ℕ → Row → Bool
is_here m leaf r = nat_eq (range_at m.bits r.key) m.range && nat_eq (leaf_in m r.key) leaf

-- rows that pass it lie in the range and in the leaf
all_here : (m : RowMap) (leaf : ℕ) (rows : List Row) → list_all (is_here m leaf) rows ≡ true
    → AllByRecursion (λ (r : Row). range_at m.bits r.key ≡ m.range) rows × AllByRecursion (λ (r : Row). leaf_in m r.key ≡ leaf) rows
all_here m leaf [] e = (tt, tt)
all_here m leaf (r ∷ rows) e =
    let both = and_parts (is_here m leaf r) (list_all (is_here m leaf) rows) e in
    let place = and_parts (nat_eq (range_at m.bits r.key) m.range) (nat_eq (leaf_in m r.key) leaf) both.0 in
    let rest = all_here m leaf rows both.1 in
    ((eqb-true _ _ place.0, rest.0), (eqb-true _ _ place.1, rest.1))

-- Rows that a leaf's text spells pass it.
pub spelled_here : (m : RowMap) (n : Node) (text : List ℕ) (rows : List Row) → AreSpelled m n text rows → list_all (is_here m n.index) rows ≡ true
spelled_here m n text rows is = each rows is.range is.leaf
  where
    each : (rows : List Row) → AllByRecursion (λ (r : Row). range_at m.bits r.key ≡ m.range) rows
        → AllByRecursion (λ (r : Row). leaf_in m r.key ≡ n.index) rows → list_all (is_here m n.index) rows ≡ true
    each [] range leaf = refl
    each (r ∷ rows) range leaf =
        and_from (is_here m n.index r) (list_all (is_here m n.index) rows)
        (and_from (nat_eq (range_at m.bits r.key) m.range) (nat_eq (leaf_in m r.key) n.index) (eq-eqb _ _ range.0) (eq-eqb _ _ leaf.0))
        (each rows range.1 leaf.1)

-- What a leaf's text spells follows its first byte.
pub spelled_text : (m : RowMap) (n : Node) (text : List ℕ) (rows : List Row) (f : Format) (mark : ℕ) → AreSpelled m n text rows → f ≡ m.format
    → mark ≡ leaf_byte f → AreRows f rows × (text ≡ mark ∷ flat_map (row_text f) rows)
unfolding leaf_text
spelled_text m n text rows f mark is format first = (
  subst (λ (g : Format). AreRows g rows) (sym format) is.are,
  is.text_is ∙ ap (λ (g : Format). leaf_text g rows) (sym format) ∙ ap (λ (b : ℕ). b ∷ flat_map (row_text f) rows) (sym first),
)

-- the bytes that follow
pub spelled_body : (m : RowMap) (n : Node) (text : List ℕ) (rows : List Row) (f : Format) (mark : ℕ) (body : List ℕ) → AreSpelled m n text rows
    → f ≡ m.format → mark ≡ leaf_byte f → text ≡ mark ∷ body → AreRows f rows × (body ≡ flat_map (row_text f) rows)
spelled_body m n text rows f mark body is format first e =
    let all = spelled_text m n text rows f mark is format first in
    (all.0, ap (λ (t : List ℕ). behind t) (sym e ∙ all.1))
  where
    behind : List ℕ → List ℕ
    behind [] = []
    behind (b ∷ bs) = bs

-- Rows that were read behind the first byte, and lie there, are spelled.
pub spelled_by : (m : RowMap) (n : Node) (text : List ℕ) (rows : List Row) (f : Format) (mark : ℕ) (body : List ℕ) → f ≡ m.format → mark ≡ leaf_byte f
    → text ≡ mark ∷ body → AreRows f rows → body ≡ flat_map (row_text f) rows → list_all (is_here m n.index) rows ≡ true → AreSpelled m n text rows
unfolding leaf_text
spelled_by m n text rows f mark body format first e are read here =
    let place = all_here m n.index rows here in
    let whole : text ≡ leaf_text f rows = e ∙ (λ i. first i ∷ read i) in
    record {
      text_is = whole ∙ ap (λ (g : Format). leaf_text g rows) format;
      are = subst (λ (g : Format). AreRows g rows) format are;
      range = place.0;
      leaf = place.1;
    }

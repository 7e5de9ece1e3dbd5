-- How a session goes on with a partner that answers truly.
use Rattle.std.proofs.Common.{◌≡◌, ℕ, zero, ◌+◌, ◌-◌, ◌<◌, Bool, true, false, cond, Option, Some, None, List, [], ◌∷◌, ◌++◌, length, set, refl, sym}
use Rattle.std.proofs.Common.{ap, subst, ◌∙◌, arith, slice_get}
use Rattle.std.specs.Prelude.{nat_eq}
use Rattle.std.specs.List.{AllByRecursion}
use Rattle.std.proofs.lemmas.Bool.{eq-eqb, eqb-true, false_from_ne_true}
use Rattle.vclock.specs.declared.format.Format.{Format}
use Rattle.vclock.specs.declared.refusal.Refusal.{Refusal}
use Rattle.row_bytes.specs.declared.row.Row.{Row}
use Rattle.row_bytes.specs.Rows.{IsRow}
use Rattle.hash_tree.specs.Leaves.{rows_in_leaf}
use Rattle.tree_nodes.specs.Nodes.{Node, tree_depth}
use Rattle.hash_tree.specs.Texts.{leaf_text}
use Rattle.hash_tree.proofs.TextLaws.{leaf_node, same_leaf}
use Rattle.snapshot.specs.RowMaps.{RowMap, leaf_in}
use Rattle.sync_session.specs.TreeNodes.{text_of}
use Rattle.sync_session.specs.Walks.{Walk, TakenText, AreSpelled, IsPartners}
use Rattle.sync_session.specs.Differing.{nodes_of}
use Rattle.sync_session.proofs.TextLaws.{text_above, leaf_rows, leaf_are}
use Rattle.range_state.specs.declared.«record».Record.{Record}
use Rattle.range_store.specs.Store.{Store}
use Rattle.range_state.specs.Sessions.{taken_in, leaf_fault}
use Rattle.range_state.specs.Syncs.{leaves_in, offers_at, Progress, known_in, unless_refused, taken_leaves}

-- ---- leaves that are taken

abbrev pub so_far : Store → ℕ → Progress
so_far t known = record { store = t; known = known; fault = None }

abbrev pub stopped : Store → ℕ → Refusal → Progress
stopped t known e = record { store = t; known = known; fault = Some e }

-- after some leaves more are taken
pub taken_more : (s t : Store) (seat : ℕ) (other : RowMap) (known count : ℕ) (leaves more : List Node)
    → taken_leaves s seat other known leaves ≡ so_far t count
    → taken_leaves s seat other known (leaves ++ more) ≡ taken_leaves t seat other count more
taken_more s t seat other known count [] more h = ap (λ (p : Progress). taken_leaves p.store seat other p.known more) h
taken_more s t seat other known count (n ∷ leaves) more h =
    by_case (leaf_fault s seat (offers_at other n)) _ _ _
    (taken_more (taken_in s seat (offers_at other n)) t seat other (known + known_in s seat (offers_at other n)) count leaves more) h
  where
    by_case : (f : Option Refusal) (before later end : Progress) → (before ≡ so_far t count → later ≡ end)
        → unless_refused f s known before ≡ so_far t count → unless_refused f s known later ≡ end
    by_case None before later end again e = again e
    by_case (Some x) before later end again e = absurd (let clash : Some x ≡ None = ap (λ (p : Progress). p.fault) e in cc)

pub leaf_is_taken : (t : Store) (seat : ℕ) (other : RowMap) (known : ℕ) (n : Node) → leaf_fault t seat (offers_at other n) ≡ None
    → taken_leaves t seat other known (n ∷ []) ≡ so_far (taken_in t seat (offers_at other n)) (known + known_in t seat (offers_at other n))
leaf_is_taken t seat other known n fits = rw fits refl

pub leaf_refused : (t : Store) (seat : ℕ) (other : RowMap) (known : ℕ) (n : Node) (leaves : List Node) (e : Refusal)
    → leaf_fault t seat (offers_at other n) ≡ Some e → taken_leaves t seat other known (n ∷ leaves) ≡ stopped t known e
leaf_refused t seat other known n leaves e fault = rw fault refl

-- ---- the leaves among some nodes

pub leaves-append : (f : Format) (xs ys : List Node) → leaves_in f (xs ++ ys) ≡ leaves_in f xs ++ leaves_in f ys
leaves-append f [] ys = refl
leaves-append f (x ∷ xs) ys = by_case (nat_eq x.depth (tree_depth f)) (leaves-append f xs ys)
  where
    by_case : (b : Bool) → leaves_in f (xs ++ ys) ≡ leaves_in f xs ++ leaves_in f ys
        → cond b (x ∷ leaves_in f (xs ++ ys)) (leaves_in f (xs ++ ys)) ≡ cond b (x ∷ leaves_in f xs) (leaves_in f xs) ++ leaves_in f ys
    by_case true e = ap (λ (zs : List Node). x ∷ zs) e
    by_case false e = e

pub leaf_counts : (f : Format) (n : Node) (rest : List Node) → n.depth ≡ tree_depth f → leaves_in f (n ∷ rest) ≡ n ∷ leaves_in f rest
leaf_counts f n rest deep = ap (λ b. cond b (n ∷ leaves_in f rest) (leaves_in f rest)) (eq-eqb n.depth (tree_depth f) deep)

pub inner_counts : (f : Format) (n : Node) (rest : List Node) → n.depth < tree_depth f → leaves_in f (n ∷ rest) ≡ leaves_in f rest
inner_counts f n rest less =
    ap (λ b. cond b (n ∷ leaves_in f rest) (leaves_in f rest))
    (false_from_ne_true (nat_eq n.depth (tree_depth f)) (λ e. omega (arith, less, eqb-true n.depth (tree_depth f) e)))

pub no_leaves : (f : Format) (nodes : List Node) → AllByRecursion (λ n. n.depth < tree_depth f) nodes → leaves_in f nodes ≡ []
no_leaves f [] all = refl
no_leaves f (n ∷ nodes) all = inner_counts f n nodes all.0 ∙ no_leaves f nodes all.1

pub nodes-push : (ts : List TakenText) (t : TakenText) → nodes_of (ts ++ t ∷ []) ≡ nodes_of ts ++ t.node ∷ []
nodes-push [] t = refl
nodes-push (x ∷ ts) t = ap (λ (ns : List Node). x.node ∷ ns) (nodes-push ts t)

-- ---- the last of some records

pub got_last : (rs : List Record) (r : Record) → slice_get (rs ++ r ∷ []) (length rs) ≡ Some r
got_last [] r = refl
got_last (x ∷ rs) r = got_last rs r

pub set_last : (rs : List Record) (r new : Record) → set (rs ++ r ∷ []) (length rs) new ≡ rs ++ new ∷ []
set_last [] r new = refl
set_last (x ∷ rs) r new = ap (λ (ys : List Record). x ∷ ys) (set_last rs r new)

pub all_last : (P : Record → Type 0) (rs : List Record) (r : Record) → AllByRecursion P (rs ++ r ∷ []) → P r
all_last P [] r all = all.0
all_last P (x ∷ rs) r all = all_last P rs r all.1

-- ---- the rows that a true text of a leaf spells

pub true_rows : (w : Walk) (other : RowMap) → IsPartners w other → (n : Node) → n.depth ≡ tree_depth w.own.format → (rows : List Row)
    → AreSpelled w.own n (text_of other n) rows → rows ≡ rows_in_leaf (leaf_in other) n.index other.rows
true_rows w other p n deep rows is =
    let height : tree_depth other.format - n.depth ≡ zero = omega (arith, deep, ap tree_depth p.format) in
    let texts : leaf_text w.own.format rows ≡ leaf_text w.own.format (leaf_rows other n.index) =
    sym is.text_is ∙ ap (λ (h : ℕ). text_above other h n.index) height ∙ leaf_node other.format (leaf_in other) other.rows n.index
    ∙ ap (λ (f : Format). leaf_text f (leaf_rows other n.index)) p.format in
    same_leaf w.own.format rows (leaf_rows other n.index) is.are.each
    (subst (λ (f : Format). AllByRecursion (IsRow f) (leaf_rows other n.index)) p.format (leaf_are other p.map n.index).each) texts

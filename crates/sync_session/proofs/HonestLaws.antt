-- Where each text is the partner's own, what is asked is where the trees differ.
use Rattle.std.proofs.Common.{◌≡◌, ℕ, zero, suc, ◌+◌, ◌-◌, ◌*◌, ◌/◌, ◌%◌, ◌^◌, ◌<◌, ◌≤◌, Bool, true, false, not, cond, eqb, Option, Some, None, List}
use Rattle.std.proofs.Common.{[], ◌∷◌, ◌||◌, refl, sym, ap, subst, ◌∙◌, arith, inl, inr, zero-add}
use Rattle.std.specs.Prelude.{is_some, bytes_eq, option_map}
use Rattle.std.specs.List.{flat_map, filter, AllByRecursion}
use Rattle.std.proofs.lemmas.Bool.{cases_Bool, cases_lt, or_cases, or_left, or_right, both_ways, eqb-true, and_parts, and_from, false_from_ne_true}
use Rattle.std.proofs.lemmas.Bool.{not-true}
use Rattle.std.proofs.lemmas.List.Folds.{list_any-append}
use Rattle.std.proofs.lemmas.Slice.Eq.{bytes_eq-Decides}
use Rattle.row_bytes.specs.declared.row.Row.{Row}
use Rattle.version_set.specs.declared.version.Version.{Version}
use Rattle.row_bytes.specs.Rows.{AreRows}
use Rattle.key_ring.specs.Places.{range_at, leaf_at}
use Rattle.hash_tree.proofs.TextLaws.{leaf_node}
use Rattle.sync_session.proofs.StepLaws.{All-weaker}
use Rattle.vclock.specs.declared.format.Format.{Format}
use Rattle.version_set.proofs.ListLaws.{all-filter}
use Rattle.snapshot.specs.RowMaps.{RowMap, IsRowMap, leaf_in, root_of}
use Rattle.tree_nodes.specs.Nodes.{Node, top, child, is_same_node, contains_node, tree_depth}
use Rattle.hash_tree.specs.Texts.{leaf_text, inner_text, node_text}
use Rattle.sync_session.proofs.TextLaws.{text_above, leaf_rows, leaf_are, length-children, child_digest-text}
use Rattle.sync_session.specs.TreeNodes.{text_of, digest_of}
use Rattle.sync_session.specs.Walks.{Walk, TakenText, Walked, child_digest, taken_at, expected_at, first_asked, asks, IsCanonical, IsInnerText}
use Rattle.sync_session.specs.Walks.{AreSpelled, IsPartners}
use Rattle.sync_session.specs.Steps.{IsDue}
use Rattle.sync_session.specs.Differing.{first_of_level, nodes_above_depth, all_nodes, is_unlike, differs_at, differ, times, nodes_of, IsOrderly}
use Rattle.sync_session.specs.Differing.{IsTraced, IsHonest, IsNearlyDone}
use Rattle.sync_session.proofs.DescentLaws.{at_node, levels, is_node-true, is_node-same, All-taken_at, entry, has_node-flat_map}
use Rattle.sync_session.proofs.CountLaws.{times-append, has_times, times_has, asker, no_root, asks_in}
use Rattle.sync_session.proofs.TraceLaws.{traced}

-- ---- tests

pub bytes_eq_comm : (a b : List ℕ) → bytes_eq a b ≡ bytes_eq b a
bytes_eq_comm a b =
    elim (cases_Bool (bytes_eq a b)) [
      | inl same ↦ same ∙ sym ((bytes_eq-Decides b a).1 (sym ((bytes_eq-Decides a b).0 same)))
      | inr off ↦ off ∙ sym (false_from_ne_true (bytes_eq b a)
          (λ e. both_ways (bytes_eq a b) off ((bytes_eq-Decides a b).1 (sym ((bytes_eq-Decides b a).0 e)))))
    ]

has_filter : (p : Node → Bool) (n : Node) (xs : List Node) → p n ≡ true → contains_node n xs ≡ true → contains_node n (filter p xs) ≡ true
has_filter p n [] e h = h
has_filter p n (x ∷ xs) e h =
    elim (or_cases (is_same_node n x) (contains_node n xs) h) [
      | inl here ↦ ap (λ b. contains_node n (cond b (x ∷ filter p xs) (filter p xs))) (subst (λ (y : Node). p y ≡ true) (is_node-true n x here) e)
          ∙ or_left (is_same_node n x) (contains_node n (filter p xs)) here
      | inr later ↦ pick (p x) (filter p xs) (has_filter p n xs e later)
    ]
  where
    pick : (b : Bool) (ys : List Node) → contains_node n ys ≡ true → contains_node n (cond b (x ∷ ys) ys) ≡ true
    pick true ys h = or_right (is_same_node n x) (contains_node n ys) h
    pick false ys h = h

filter_has : (p : Node → Bool) (n : Node) (xs : List Node) → contains_node n (filter p xs) ≡ true → (p n ≡ true) × (contains_node n xs ≡ true)
filter_has p n [] h = absurd (cc)
filter_has p n (x ∷ xs) h = by_case (p x) refl h (filter_has p n xs)
  where
    by_case : (b : Bool) → p x ≡ b → contains_node n (cond b (x ∷ filter p xs) (filter p xs)) ≡ true
        → (contains_node n (filter p xs) ≡ true → (p n ≡ true) × (contains_node n xs ≡ true))
        → (p n ≡ true) × ((is_same_node n x || contains_node n xs) ≡ true)
    by_case true e h again = elim (or_cases (is_same_node n x) (contains_node n (filter p xs)) h) [
      | inl here ↦ (subst (λ (y : Node). p y ≡ true) (sym (is_node-true n x here)) e, or_left (is_same_node n x) (contains_node n xs) here)
      | inr later ↦ let r = again later in (r.0, or_right (is_same_node n x) (contains_node n xs) r.1)
    ]
    by_case false e h again = let r = again h in (r.0, or_right (is_same_node n x) (contains_node n xs) r.1)

-- ---- all nodes

single : (n m : Node) → n ≡ m → contains_node n (m ∷ []) ≡ true
single n m e = or_left (is_same_node n m) false (subst (λ (x : Node). is_same_node n x ≡ true) e (is_node-same n))

level_has : (d k i : ℕ) → i < k → contains_node (at_node d i) (first_of_level d k) ≡ true
unfolding first_of_level
level_has d zero i lt = absurd (omega arith)
level_has d (suc k) i lt =
    list_any-append (is_same_node (at_node d i)) (first_of_level d k) (at_node d k ∷ [])
    ∙ elim (cases_lt i k) [
      | inl less ↦ or_left (contains_node (at_node d i) (first_of_level d k)) (contains_node (at_node d i) (at_node d k ∷ [])) (level_has d k i less)
      | inr more ↦ or_right (contains_node (at_node d i) (first_of_level d k)) (contains_node (at_node d i) (at_node d k ∷ []))
          (single (at_node d i) (at_node d k) (ap (at_node d) (omega arith)))
    ]

level_only : (d k : ℕ) (n : Node) → contains_node n (first_of_level d k) ≡ true → (n.depth ≡ d) × (n.index < k)
unfolding first_of_level
level_only d zero n h = absurd (cc)
level_only d (suc k) n h =
    elim (or_cases (contains_node n (first_of_level d k)) (contains_node n (at_node d k ∷ []))
    (sym (list_any-append (is_same_node n) (first_of_level d k) (at_node d k ∷ [])) ∙ h)) [
      | inl early ↦ let r = level_only d k n early in (r.0, omega (arith, r.1))
      | inr last ↦ elim (or_cases (is_same_node n (at_node d k)) false last) [
        | inl here ↦ let is = is_node-true n (at_node d k) here in let index : n.index ≡ k = ap (λ (x : Node). x.index) is in
            (ap (λ (x : Node). x.depth) is, omega (arith, index))
        | inr never ↦ absurd (cc)
      ]
    ]

levels_have : (m d i : ℕ) → d < m → i < 16 ^ d → contains_node (at_node d i) (nodes_above_depth m) ≡ true
unfolding nodes_above_depth
levels_have zero d i lt within = absurd (omega arith)
levels_have (suc m) d i lt within =
    list_any-append (is_same_node (at_node d i)) (nodes_above_depth m) (first_of_level m (16 ^ m))
    ∙ elim (cases_lt d m) [
      | inl less ↦ or_left (contains_node (at_node d i) (nodes_above_depth m)) (contains_node (at_node d i) (first_of_level m (16 ^ m)))
          (levels_have m d i less within)
      | inr more ↦ or_right (contains_node (at_node d i) (nodes_above_depth m)) (contains_node (at_node d i) (first_of_level m (16 ^ m)))
          (subst (λ (k : ℕ). contains_node (at_node d i) (first_of_level k (16 ^ k)) ≡ true) (omega arith) (level_has d (16 ^ d) i within))
    ]

levels_only : (m : ℕ) (n : Node) → contains_node n (nodes_above_depth m) ≡ true → (n.depth < m) × (n.index < 16 ^ n.depth)
unfolding nodes_above_depth
levels_only zero n h = absurd (cc)
levels_only (suc m) n h =
    elim (or_cases (contains_node n (nodes_above_depth m)) (contains_node n (first_of_level m (16 ^ m)))
    (sym (list_any-append (is_same_node n) (nodes_above_depth m) (first_of_level m (16 ^ m))) ∙ h)) [
      | inl early ↦ let r = levels_only m n early in (omega (arith, r.0), r.1)
      | inr last ↦ let r = level_only m (16 ^ m) n last in (omega (arith, r.0), subst (λ (d : ℕ). n.index < 16 ^ d) (sym r.0) r.1)
    ]

-- ---- the partner's own texts

child_digest_of : (t : RowMap) (n : Node) (j : ℕ) → n.depth < tree_depth t.format → j < 16 → child_digest (text_of t n) j ≡ digest_of t (child n j)
child_digest_of t n j deep lt =
    ap (λ (h : ℕ). child_digest (text_above t h n.index) j) (omega (arith, deep))
    ∙ child_digest-text t (tree_depth t.format - suc n.depth) n.index j lt

-- what the proofs below rest on
record IsFair (w : Walk) (other : RowMap) : Type 0 where
  traced : IsTraced w
  partner : IsPartners w other
  honest : IsHonest w other

same_levels : (w : Walk) (other : RowMap) → IsPartners w other → tree_depth other.format ≡ levels w
same_levels w other p = ap tree_depth p.format

pub record IsDifferent (w : Walk) (other : RowMap) (d i : ℕ) : Type 0 where
  pub differs : differs_at w.own other d i ≡ true
  pub shallow : d ≤ levels w
  pub within : i < 16 ^ d

pub asked_times : (w : Walk) → IsTraced w → (n : Node)
    → times n w.asked ≡ times n (first_asked w.own w.root) + times n (flat_map (asks w.own) w.taken)
asked_times w h n = ap (times n) h.asked ∙ times-append n (first_asked w.own w.root) (flat_map (asks w.own) w.taken)

-- the first node is asked only where the roots differ
first_only : (w : Walk) (n : Node) → 1 ≤ times n (first_asked w.own w.root) → (n ≡ top) × (bytes_eq w.root (root_of w.own) ≡ false)
first_only w n h = by_case (bytes_eq w.root (root_of w.own)) refl h
  where
    same : (c : Bool) → is_same_node n top ≡ c → 1 ≤ cond c 1 0 + 0 → n ≡ top
    same true e h = is_node-true n top e
    same false e h = absurd (omega arith)

    by_case : (b : Bool) → bytes_eq w.root (root_of w.own) ≡ b → 1 ≤ times n (cond b [] (top ∷ []))
        → (n ≡ top) × (bytes_eq w.root (root_of w.own) ≡ false)
    by_case true e h = absurd (omega arith)
    by_case false e h = (same (is_same_node n top) refl h, e)

root_unlike : (w : Walk) (other : RowMap) → IsPartners w other → is_unlike w.own other top ≡ not (bytes_eq w.root (root_of w.own))
root_unlike w other p = ap not (bytes_eq_comm (root_of w.own) (root_of other) ∙ ap (λ r. bytes_eq r (root_of w.own)) p.root)

kid_unlike : (w : Walk) (other : RowMap) → IsPartners w other → (n : Node) (j : ℕ) → n.depth < levels w → j < 16
    → is_unlike w.own other (child n j) ≡ not (bytes_eq (child_digest (text_of other n) j) (digest_of w.own (child n j)))
kid_unlike w other p n j deep lt =
    ap not (bytes_eq_comm (digest_of w.own (child n j)) (digest_of other (child n j))
    ∙ ap (λ r. bytes_eq r (digest_of w.own (child n j))) (sym (child_digest_of other n j (omega (arith, deep, same_levels w other p)) lt)))

-- each node that was asked is where they differ
asked_differs : (w : Walk) (other : RowMap) → IsFair w other → (d i : ℕ) → 1 ≤ times (at_node d i) w.asked → IsDifferent w other d i
asked_differs w other fair zero i h =
    elim (cases_lt 0 (times (at_node zero i) (flat_map (asks w.own) w.taken))) [
      | inl kid ↦
          let who = asker (λ t. t.text ≡ text_of other t.node) w.own w.taken (at_node zero i) fair.honest (omega arith) in
          let depth : zero ≡ suc who.t.node.depth = ap (λ (n : Node). n.depth) who.by.kid.is in
          absurd (omega (arith, depth))
      | inr none ↦
          let first = first_only w (at_node zero i) (omega (arith, asked_times w fair.traced (at_node zero i))) in
          let index : i ≡ 0 = ap (λ (n : Node). n.index) first.0 in
          record {
            differs = ap (λ (n : Node). is_unlike w.own other n) first.0 ∙ (root_unlike w other fair.partner ∙ ap not first.1);
            shallow = omega arith;
            within = omega (arith, index);
          }
    ]
asked_differs w other fair (suc d) i h =
    let who = asker (λ t. t.text ≡ text_of other t.node) w.own w.taken (at_node (suc d) i) fair.honest
    (omega (arith, asked_times w fair.traced (at_node (suc d) i), no_root w.own w.root (at_node (suc d) i) d refl)) in
    let kid = who.by.kid in
    let depth : suc d ≡ suc who.t.node.depth = ap (λ (n : Node). n.depth) kid.is in
    let index : i ≡ 16 * who.t.node.index + kid.j = ap (λ (n : Node). n.index) kid.is in
    let deep : d ≡ who.t.node.depth = omega (arith, depth) in
    let up : i / 16 ≡ who.t.node.index = omega (arith, index, kid.below) in
    let parent : who.t.node ≡ at_node d (i / 16) = ap (λ (k : ℕ). at_node k who.t.node.index) (sym deep) ∙ ap (at_node d) (sym up) in
    let taken : 1 ≤ times (at_node d (i / 16)) (nodes_of w.taken) = subst (λ (n : Node). 1 ≤ times n (nodes_of w.taken)) parent who.counts in
    let above = asked_differs w other fair d (i / 16) (omega (arith, taken, fair.traced.took (at_node d (i / 16)))) in
    let unlike : is_unlike w.own other (at_node (suc d) i) ≡ true =
    ap (is_unlike w.own other) kid.is
    ∙ (kid_unlike w other fair.partner who.t.node kid.j who.by.inner kid.below
    ∙ (ap (λ t. not (bytes_eq (child_digest t kid.j) (digest_of w.own (child who.t.node kid.j)))) (sym who.good) ∙ ap not kid.unlike)) in
    record {
      differs = and_from (differs_at w.own other d (i / 16)) (is_unlike w.own other (at_node (suc d) i)) above.differs unlike;
      shallow = omega (arith, who.by.inner, deep);
      within = omega (arith, above.within);
    }

pub is_taken_at : (ts : List TakenText) (n : Node) → 1 ≤ times n (nodes_of ts) → is_some (taken_at ts n) ≡ true
is_taken_at [] n h = absurd (omega arith)
is_taken_at (t ∷ ts) n h =
    elim (cases_Bool (is_same_node t.node n)) [
      | inl same ↦ ap (λ b. is_some (cond b (Some t.text) (taken_at ts n))) same
      | inr other ↦
          let off : is_same_node n t.node ≡ false = false_from_ne_true (is_same_node n t.node)
          (λ e. both_ways (is_same_node t.node n) other
          (subst (λ (x : Node). is_same_node x n ≡ true) (is_node-true n t.node e) (is_node-same n))) in
          let fewer : (cond (is_same_node n t.node) 1 0 + times n (nodes_of ts)) ≡ times n (nodes_of ts) = ap
          (λ b. cond b 1 0 + times n (nodes_of ts)) off ∙ zero-add (times n (nodes_of ts)) in
          ap (λ b. is_some (cond b (Some t.text) (taken_at ts n))) other ∙ is_taken_at ts n (omega (arith, fewer))
    ]

-- the text that was taken for a node is the partner's own
honest_at : (w : Walk) (other : RowMap) → IsHonest w other → (n : Node) → 1 ≤ times n (nodes_of w.taken) → taken_at w.taken n ≡ Some (text_of other n)
honest_at w other honest n h = by_case (taken_at w.taken n) refl (is_taken_at w.taken n h)
  where
    by_case : (o : Option (List ℕ)) → taken_at w.taken n ≡ o → is_some o ≡ true → taken_at w.taken n ≡ Some (text_of other n)
    by_case None at is = absurd (cc)
    by_case (Some text) at is = at ∙ ap (λ (x : List ℕ). Some x) (All-taken_at (λ t. t.text ≡ text_of other t.node) w.taken n text honest at)

-- each node where they differ is asked, where no inner node is outstanding
differing_asked : (w : Walk) (other : RowMap) → IsFair w other → IsOrderly w → IsNearlyDone w → (d i : ℕ) → d ≤ levels w → i < 16 ^ d
    → differs_at w.own other d i ≡ true → 1 ≤ times (at_node d i) w.asked
differing_asked w other fair orderly done zero i shallow within e =
    let index : i ≡ 0 = omega arith in
    let unlike : bytes_eq w.root (root_of w.own) ≡ false = not-true (bytes_eq w.root (root_of w.own))
    (sym (root_unlike w other fair.partner) ∙ (ap (λ (k : ℕ). is_unlike w.own other (at_node zero k)) (sym index) ∙ e)) in
    let first : times (at_node zero 0) (first_asked w.own w.root) ≡ 1 = ap (λ b. times (at_node zero 0) (cond b [] (top ∷ []))) unlike in
    subst (λ (k : ℕ). 1 ≤ times (at_node zero k) w.asked) (sym index) (omega (arith, first, asked_times w fair.traced (at_node zero 0)))
differing_asked w other fair orderly done (suc d) i shallow within e =
    let n = at_node d (i / 16) in
    let parts = and_parts (differs_at w.own other d (i / 16)) (is_unlike w.own other (at_node (suc d) i)) e in
    let above = differing_asked w other fair orderly done d (i / 16) (omega arith) (omega (arith, within)) parts.0 in
    elim (cases_lt 0 (times n w.outstanding)) [
      | inl still ↦ absurd (omega (arith, done n (times_has n w.outstanding (omega arith))))
      | inr none ↦
          let text = honest_at w other fair.honest n (omega (arith, above, orderly.shared n)) in
          let place : 16 * (i / 16) + i % 16 ≡ i = omega arith in
          let unlike : bytes_eq (child_digest (text_of other n) (i % 16)) (digest_of w.own (child n (i % 16))) ≡ false =
          not-true (bytes_eq (child_digest (text_of other n) (i % 16)) (digest_of w.own (child n (i % 16))))
          (sym (kid_unlike w other fair.partner n (i % 16) (omega arith) (omega arith))
          ∙ (ap (λ (k : ℕ). is_unlike w.own other (at_node (suc d) k)) place ∙ parts.1)) in
          let asks_it : 1 ≤ times (at_node (suc d) i) (asks w.own (entry n (text_of other n))) =
          asks_in w.own (entry n (text_of other n)) (at_node (suc d) i)
          (record {
            inner = omega arith;
            kid = record { j = i % 16; below = omega arith; is = ap (at_node (suc d)) (sym place); unlike = unlike };
          }) in
          let found = has_times (at_node (suc d) i) (flat_map (asks w.own) w.taken)
          (has_node-flat_map (asks w.own) w.taken n (at_node (suc d) i) (text_of other n) text
          (times_has (at_node (suc d) i) (asks w.own (entry n (text_of other n))) asks_it)) in
          omega (arith, found, asked_times w fair.traced (at_node (suc d) i))
    ]

pub asked_is_differ : (w : Walk) (other : RowMap) → IsTraced w → IsPartners w other → IsHonest w other → (n : Node) → contains_node n w.asked ≡ true
    → contains_node n (differ w.own other) ≡ true
asked_is_differ w other traced partner honest n h =
    let is = asked_differs w other (record { traced = traced; partner = partner; honest = honest }) n.depth n.index (has_times n w.asked h) in
    has_filter (λ m. differs_at w.own other m.depth m.index) n (all_nodes w.own.format) is.differs
    (levels_have (suc (levels w)) n.depth n.index (omega (arith, is.shallow)) is.within)

pub differ_is_asked : (held : List ℕ → List Version) (w : Walk) (other : RowMap) → Walked held w → IsOrderly w → IsPartners w other → IsHonest w other
    → IsNearlyDone w → (n : Node) → contains_node n (differ w.own other) ≡ true → contains_node n w.asked ≡ true
differ_is_asked held w other walked orderly partner honest done n h =
    let f = filter_has (λ m. differs_at w.own other m.depth m.index) n (all_nodes w.own.format) h in
    let at = levels_only (suc (levels w)) n f.1 in
    times_has n w.asked (differing_asked w other
    (record { traced = traced held w walked orderly; partner = partner; honest = honest }) orderly done n.depth n.index
    (omega (arith, at.0)) at.1 f.0)

-- ---- the true text of an outstanding node is taken

due_digest : (w : Walk) (other : RowMap) → IsFair w other → (d i : ℕ) → 1 ≤ times (at_node d i) w.asked
    → expected_at w.root w.taken d i ≡ Some (digest_of other (at_node d i))
due_digest w other fair zero i h =
    let is = asked_differs w other fair zero i h in
    let index : i ≡ 0 = omega (arith, is.within) in
    ap (λ (x : List ℕ). Some x) (sym fair.partner.root ∙ ap (λ (k : ℕ). digest_of other (at_node zero k)) (sym index))
due_digest w other fair (suc d) i h =
    let who = asker (λ t. t.text ≡ text_of other t.node) w.own w.taken (at_node (suc d) i) fair.honest
    (omega (arith, asked_times w fair.traced (at_node (suc d) i), no_root w.own w.root (at_node (suc d) i) d refl)) in
    let kid = who.by.kid in
    let depth : suc d ≡ suc who.t.node.depth = ap (λ (n : Node). n.depth) kid.is in
    let index : i ≡ 16 * who.t.node.index + kid.j = ap (λ (n : Node). n.index) kid.is in
    let deep : d ≡ who.t.node.depth = omega (arith, depth) in
    let up : i / 16 ≡ who.t.node.index = omega (arith, index, kid.below) in
    let parent : who.t.node ≡ at_node d (i / 16) = ap (λ (k : ℕ). at_node k who.t.node.index) (sym deep) ∙ ap (at_node d) (sym up) in
    let taken : 1 ≤ times (at_node d (i / 16)) (nodes_of w.taken) = subst (λ (n : Node). 1 ≤ times n (nodes_of w.taken)) parent who.counts in
    let place : 16 * (i / 16) + i % 16 ≡ i = omega arith in
    ap (option_map (λ t. child_digest t (i % 16))) (honest_at w other fair.honest (at_node d (i / 16)) taken)
    ∙ ap (λ (x : List ℕ). Some x)
    (child_digest_of other (at_node d (i / 16)) (i % 16) (omega (arith, who.by.inner, deep, same_levels w other fair.partner)) (omega arith)
    ∙ ap (λ (k : ℕ). digest_of other (at_node (suc d) k)) place)

-- the partner's text of a node with children has its form
inner_form : (t : RowMap) (h i : ℕ) → IsInnerText t.format (text_above t (suc h) i)
unfolding node_text inner_text
inner_form t h i = record { size = omega (arith, length-children t h i); mark = refl }

all_here : (f : Row → ℕ) (i : ℕ) (rows : List Row) → AllByRecursion (λ (r : Row). f r ≡ i) (filter (λ r. eqb (f r) i) rows)
all_here f i [] = tt
all_here f i (r ∷ rows) = by_case (eqb (f r) i) refl (all_here f i rows)
  where
    by_case : (b : Bool) → eqb (f r) i ≡ b → AllByRecursion (λ (r : Row). f r ≡ i) (filter (λ r. eqb (f r) i) rows)
        → AllByRecursion (λ (r : Row). f r ≡ i) (cond b (r ∷ filter (λ r. eqb (f r) i) rows) (filter (λ r. eqb (f r) i) rows))
    by_case true e rest = (eqb-true (f r) i e, rest)
    by_case false e rest = rest

-- the rows of a leaf are spelled by its text
leaf_form : (m : RowMap) → IsRowMap m → (n : Node) → AreSpelled m n (text_above m zero n.index) (leaf_rows m n.index)
leaf_form m is n = record {
  text_is = leaf_node m.format (leaf_in m) m.rows n.index;
  are = leaf_are m is n.index;
  range = all-filter _ _ m.rows is.here;
  leaf = all_here (λ r. leaf_in m r.key) n.index m.rows;
}

-- what rows of the partner's spell is spelled by rows of the own range
own_spelled : (w : Walk) (other : RowMap) → IsPartners w other → (n : Node) (text : List ℕ) (rows : List Row) → AreSpelled other n text rows
    → AreSpelled w.own n text rows
own_spelled w other p n text rows is = record {
  text_is = is.text_is ∙ ap (λ (f : Format). leaf_text f rows) p.format;
  are = subst (λ (f : Format). AreRows f rows) p.format is.are;
  range = All-weaker _ _ rows (λ r e. ap (λ (b : ℕ). range_at b r.key) (sym p.bits) ∙ e ∙ p.range) is.range;
  leaf = All-weaker _ _ rows (λ r e. ap (λ (b : ℕ). leaf_at w.own.format b r.key) (sym p.bits)
      ∙ ap (λ (f : Format). leaf_at f other.bits r.key) (sym p.format) ∙ e) is.leaf;
}

-- the partner's own text is one that the node can have
canonical_of : (w : Walk) (other : RowMap) → IsPartners w other → (n : Node) → n.depth ≤ levels w → IsCanonical w.own n (text_of other n)
canonical_of w other p n shallow =
    let same = same_levels w other p in
    elim (cases_lt n.depth (levels w)) [
      | inl inner ↦
          let form : IsInnerText other.format (text_of other n) = subst (λ (h : ℕ). IsInnerText other.format (text_above other h n.index))
          (omega (arith, inner, same)) (inner_form other (tree_depth other.format - suc n.depth) n.index) in
          inl (inner, subst (λ (f : Format). IsInnerText f (text_of other n)) p.format form)
      | inr leaf ↦
          let deep : n.depth ≡ levels w = omega arith in
          let height : zero ≡ tree_depth other.format - n.depth = omega (arith, deep, same) in
          let form : AreSpelled other n (text_of other n) (leaf_rows other n.index) = subst
          (λ (h : ℕ). AreSpelled other n (text_above other h n.index) (leaf_rows other n.index)) height (leaf_form other p.map n) in
          inr (deep, (leaf_rows other n.index, own_spelled w other p n (text_of other n) (leaf_rows other n.index) form))
    ]

pub true_text_due : (held : List ℕ → List Version) (w : Walk) (other : RowMap) → Walked held w → IsOrderly w → IsPartners w other → IsHonest w other
    → (n : Node) → contains_node n w.outstanding ≡ true → IsDue w (entry n (text_of other n)) × IsCanonical w.own n (text_of other n)
true_text_due held w other walked orderly partner honest n h =
    let fair : IsFair w other = record { traced = traced held w walked orderly; partner = partner; honest = honest } in
    let asked : 1 ≤ times n w.asked = omega (arith, has_times n w.outstanding h, orderly.shared n) in
    let is = asked_differs w other fair n.depth n.index asked in (
      record { asked = h; digest = due_digest w other fair n.depth n.index asked },
      canonical_of w other partner n is.shallow,
    )

-- ---- both ways

unlike_comm : (a b : RowMap) (n : Node) → is_unlike a b n ≡ is_unlike b a n
unlike_comm a b n = ap not (bytes_eq_comm (digest_of a n) (digest_of b n))

differs_comm : (a b : RowMap) (d i : ℕ) → differs_at a b d i ≡ differs_at b a d i
differs_comm a b zero i = unlike_comm a b (at_node zero i)
differs_comm a b (suc d) i = rw (differs_comm a b d (i / 16), unlike_comm a b (at_node (suc d) i)) refl

filter_same_test : (p q : Node → Bool) → ((n : Node) → p n ≡ q n) → (xs : List Node) → filter p xs ≡ filter q xs
filter_same_test p q h [] = refl
filter_same_test p q h (x ∷ xs) = ap (λ b. cond b (x ∷ filter p xs) (filter p xs)) (h x)
    ∙ ap (λ ys. cond (q x) (x ∷ ys) ys) (filter_same_test p q h xs)

pub differ_comm : (a b : RowMap) → a.format ≡ b.format → differ a b ≡ differ b a
differ_comm a b e =
    filter_same_test (λ n. differs_at a b n.depth n.index) (λ n. differs_at b a n.depth n.index) (λ n. differs_comm a b n.depth n.index)
    (all_nodes a.format)
    ∙ ap (λ (f : Format). filter (λ n. differs_at b a n.depth n.index) (all_nodes f)) e

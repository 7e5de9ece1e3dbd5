-- What a session expects at the nodes that it has outstanding.
use Rattle.std.proofs.Common.{◌≡◌, ℕ, zero, suc, ◌+◌, ◌*◌, ◌/◌, ◌%◌, ◌<◌, ◌≤◌, true, Option, Some, None, List, length, drop, refl, ap, subst, sym}
use Rattle.std.proofs.Common.{◌∙◌, arith, inl, inr}
use Rattle.std.specs.Prelude.{is_some, option_map}
use Rattle.std.proofs.lemmas.List.{length-take, length-drop}
use Rattle.tree_nodes.specs.Nodes.{Node, contains_node}
use Rattle.sync_session.specs.Walks.{Walk, child_digest, taken_at, expected, IsCanonical, IsExpectedText}
use Rattle.sync_session.specs.Differing.{times, nodes_of, IsOrderly, IsTraced}
use Rattle.sync_session.proofs.DescentLaws.{at_node, levels, All-taken_at}
use Rattle.sync_session.proofs.CountLaws.{has_times, asker, no_root}
use Rattle.sync_session.proofs.HonestLaws.{asked_times, is_taken_at}

-- a node of the tree, and a digest that is expected there
pub record IsAwaited (w : Walk) (n : Node) : Type 0 where
  pub shallow : n.depth ≤ levels w
  pub digest : List ℕ
  pub expects : expected w.root w.taken n ≡ Some digest
  pub long : length digest ≡ 32

-- the text of an inner node has a digest for each child
digest_long : (w : Walk) (n : Node) (text : List ℕ) (j : ℕ) → n.depth < levels w → j < 16 → IsCanonical w.own n text
    → length (child_digest text j) ≡ 32
digest_long w n text j deep lt (inl inner) = omega (arith, lt, inner.1.size, length-take 32 (drop (32 * j + 1) text), length-drop (32 * j + 1) text)
digest_long w n text j deep lt (inr leaf) = absurd (omega (arith, deep, leaf.0))

child_awaited : (w : Walk) (d i : ℕ) → IsTraced w → d < levels w → 1 ≤ times (at_node d (i / 16)) (nodes_of w.taken) → IsAwaited w (at_node (suc d) i)
child_awaited w d i traced deep took = by_case (taken_at w.taken (at_node d (i / 16))) refl (is_taken_at w.taken (at_node d (i / 16)) took)
  where
    by_case : (o : Option (List ℕ)) → taken_at w.taken (at_node d (i / 16)) ≡ o → is_some o ≡ true → IsAwaited w (at_node (suc d) i)
    by_case None at is = absurd (cc)
    by_case (Some text) at is =
        let right = All-taken_at (IsExpectedText w) w.taken (at_node d (i / 16)) text traced.texts at in
        record {
          shallow = omega arith;
          digest = child_digest text (i % 16);
          expects = ap (option_map (λ t. child_digest t (i % 16))) at;
          long = digest_long w (at_node d (i / 16)) text (i % 16) deep (omega arith) right.canonical;
        }

asked_awaited : (w : Walk) → IsTraced w → length w.root ≡ 32 → (d i : ℕ) → 1 ≤ times (at_node d i) w.asked → IsAwaited w (at_node d i)
asked_awaited w traced long zero i h = record { shallow = omega arith; digest = w.root; expects = refl; long = long }
asked_awaited w traced long (suc d) i h =
    let who = asker (IsExpectedText w) w.own w.taken (at_node (suc d) i) traced.texts
    (omega (arith, h, asked_times w traced (at_node (suc d) i), no_root w.own w.root (at_node (suc d) i) d refl)) in
    let kid = who.by.kid in
    let depth : suc d ≡ suc who.t.node.depth = ap (λ (n : Node). n.depth) kid.is in
    let index : i ≡ 16 * who.t.node.index + kid.j = ap (λ (n : Node). n.index) kid.is in
    let deep : d ≡ who.t.node.depth = omega (arith, depth) in
    let up : i / 16 ≡ who.t.node.index = omega (arith, index, kid.below) in
    let parent : who.t.node ≡ at_node d (i / 16) = ap (λ (k : ℕ). at_node k who.t.node.index) (sym deep) ∙ ap (at_node d) (sym up) in
    child_awaited w d i traced (omega (arith, who.by.inner, deep)) (subst (λ (n : Node). 1 ≤ times n (nodes_of w.taken)) parent who.counts)

-- Each outstanding node is one of the tree, and the session expects a digest there.
pub outstanding_awaited : (w : Walk) → IsTraced w → IsOrderly w → length w.root ≡ 32 → (n : Node) → contains_node n w.outstanding ≡ true
    → IsAwaited w n
outstanding_awaited w traced orderly long n has =
    asked_awaited w traced long n.depth n.index (omega (arith, orderly.shared n, has_times n w.outstanding has))

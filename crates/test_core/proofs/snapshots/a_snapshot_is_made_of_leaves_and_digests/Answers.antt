use Rattle.std.proofs.Common.{◌∷◌, ◌++◌, List, ℕ, replicate, ap, ◌∙◌, arith}
use Rattle.sha2.specs.Sha256.{sha256}
use Rattle.vclock.specs.declared.format.Format.TheVariants.{One}
use Rattle.hash_tree.specs.Texts.{inner_text}
use Rattle.test_core.proofs.EmptySnapshot.{empty_snapshot}
use Rattle.test_core.proofs.snapshots.a_snapshot_is_made_of_leaves_and_digests.Goals as goal

pub new-requires : goal.new-requires
new-requires c =
    let above = λ (child : List ℕ). inner_text One (replicate 16 (sha256 child)) in
    let inner = c.in_ok-inner.ensures ∙ ap above c.deref.ensures.value in
    let root = c.in_ok-root.ensures ∙ ap above c.deref-2.ensures.value in
    let digests = c.in_ok-digests.ensures
    ∙ (λ i. sha256 (c.deref-3.ensures.value i) ∷ replicate 16 (sha256 (c.deref-4.ensures.value i)) ++ replicate 256
    (sha256 (c.deref-5.ensures.value i))) in
    empty_snapshot 3 5 c.in_ok-leaves.leaves.items c.in_ok-digests.digests.items (omega arith) (omega arith)
    (record {
      root = c.in_ok-root.root.items;
      inner = c.in_ok-inner.inner.items;
      leaf = c.in_ok-leaf.leaf.items;
      no_rows = c.in_ok-leaves.ensures;
      leaf_is = c.in_ok-leaf.ensures.1;
      inner_is = inner;
      root_is = root;
      digests_are = digests;
    })

use Rattle.std.proofs.Common.{rules, ◌≡◌, ℕ, ◌<◌, ◌/◌, ◌%◌, List, Result, length, get_or, set, sym, ap, subst, ◌∙◌}
use Rattle.std.proofs.lemmas.List.{set-get_or}
use Rattle.std.specs.Result.{IsOk}
use Rattle.vclock.specs.declared.refusal.Refusal.{Refusal}
use Rattle.vclock.specs.Outcome.{Does, gives}
use Rattle.version_set.specs.declared.version.Version.{Version}
use Rattle.hash_tree.specs.Leaves.{Bucket}
use Rattle.tree_nodes.specs.Blocks.{joined, AreOf}
use Rattle.hash_tree.specs.Blocks.{nth_leaf, leaf_with_offer}
use Rattle.tree_nodes.proofs.BlockLaws.{read_at, set_at}
use Rattle.hash_tree.proofs.OutcomeLaws.{does_within, unshared}
use Rattle.hash_tree.proofs.ChunkLaws.{all-set}
use Rattle.hash_tree.proofs.leaves.Leaves.offer.Goals as goal

-- an offer to the leaf in its block is one to the leaf
offered : (blocks : List (List Bucket)) (all : List Bucket) (leaf : ℕ) (b new : List Bucket) (k : List ℕ) (v : Version)
    (r : Result (Unit {0}) Refusal) → joined blocks ≡ all → AreOf 64 blocks → leaf < length all → b ≡ get_or blocks (leaf / 64) b
    → Does r b new (gives tt (set b (leaf % 64) (leaf_with_offer k v (nth_leaf b (leaf % 64)))))
    → Does r all (joined (set blocks (leaf / 64) new)) (gives tt (set all leaf (leaf_with_offer k v (nth_leaf all leaf))))
offered blocks all leaf b new k v r same each within is =
    does_within (λ (x : List Bucket). joined (set blocks (leaf / 64) x)) r b new _ tt all _
    (ap (λ (x : List Bucket). joined (set blocks (leaf / 64) x)) is ∙ ap (λ (l : List (List Bucket)). joined l) (set-get_or blocks (leaf / 64) b)
    ∙ same)
    (set_at blocks all leaf b _ same each within is
    ∙ ap (λ (x : Bucket). set all leaf (leaf_with_offer k v x)) (read_at blocks all leaf b _ same each within is))

pub offer-requires-clause-value : goal.offer-requires-clause-value
offer-requires-clause-value c =
    rw (read_at _ c.args.self.now c.args.leaf c.index_mut.result.now _ c.self.view_is c.self.invariant c.requires.leaf
    (rw (unshared _ _ c.in_ok-blocks.ensures.value) at c.index_mut.ensures.value)) c.requires.value

pub offer-requires-clause-room : goal.offer-requires-clause-room
offer-requires-clause-room c =
    rw (read_at _ c.args.self.now c.args.leaf c.index_mut.result.now _ c.self.view_is c.self.invariant c.requires.leaf
    (rw (unshared _ _ c.in_ok-blocks.ensures.value) at c.index_mut.ensures.value)) c.requires.room

pub invariant_of-self-2 : goal.invariant_of-self-2
invariant_of-self-2 c =
    let each = subst (AreOf 64) (sym (unshared _ _ c.in_ok-blocks.ensures.value)) c.self.invariant in
    let ok : IsOk c.make_mut.result = search rules in
    rw c.make_mut.follows.holds (all-set (λ (b : List Bucket). length b ≡ 64) _ (c.args.leaf / 64) c.offer.new.self c.offer.ensures.valid each)

pub returns : goal.returns
returns c =
    let same = unshared _ _ c.in_ok-blocks.ensures.value in
    let ok : IsOk c.make_mut.result = search rules in
    rw c.make_mut.follows.holds
    (offered c.in_ok-blocks.blocks.now.items c.args.self.now c.args.leaf c.index_mut.result.now c.offer.new.self c.args.key.now c.args.version
    c.offer.result (ap (λ (l : List (List Bucket)). joined l) same ∙ c.self.view_is)
    (subst (AreOf 64) (sym same) c.self.invariant) c.requires.leaf c.index_mut.ensures.value c.offer.ensures.offered)

-- The number of dirty nodes, and what is dirty with a node.
use Rattle.std.proofs.Common.{◌≡◌, ℕ, zero, suc, ◌+◌, ◌*◌, ◌/◌, ◌%◌, ◌^◌, ◌<◌, ◌≤◌, Bool, true, false, not, is_some, Option, Some, None, List, []}
use Rattle.std.proofs.Common.{◌∷◌, length, replicate, set, refl, sym, ap, subst, ◌∙◌, arith}
use mir.Val.{bool_byte}
use Rattle.std.proofs.Math.Nat.{pow-succ'}
use Rattle.std.proofs.lemmas.List.{set-get_or}
use Rattle.tree_nodes.specs.Nodes.{place_at, path_of, kept_digest, dirty_count, AreCleanBelow}
use Rattle.tree_nodes.proofs.PlaceLaws.{Digests}
use Rattle.tree_nodes.proofs.PathLaws.{cleared, cleared_none, cleared_first}

-- ---- the number

-- what a node adds to the number of dirty nodes
abbrev pub dirty_in : Option (List ℕ) → ℕ
dirty_in None = 1
dirty_in (Some d) = 0

count_first : (o : Option (List ℕ)) (digests : Digests) → dirty_count (o ∷ digests) ≡ dirty_in o + dirty_count digests
count_first None digests = omega arith
count_first (Some d) digests = omega arith

-- A node's change is that of the number.
pub count_set : (digests : Digests) (place : ℕ) (o : Option (List ℕ)) → place < length digests
    → dirty_count (set digests place o) + dirty_in (kept_digest digests place) ≡ dirty_count digests + dirty_in o
count_set [] place o within = absurd (omega arith)
count_set (x ∷ digests) zero o within = omega (arith, count_first o digests, count_first x digests)
count_set (x ∷ digests) (suc place) o within =
    omega (arith, count_first x (set digests place o), count_first x digests, count_set digests place o (omega arith))

-- What a node adds is 1 or 0, as it is dirty or not.
pub dirty_byte : (o : Option (List ℕ)) (b : Bool) → is_some o ≡ not b → bool_byte b ≡ dirty_in o
dirty_byte None true e = refl
dirty_byte None false e = absurd (cc)
dirty_byte (Some d) true e = absurd (cc)
dirty_byte (Some d) false e = refl

-- All nodes of a new tree are dirty.
pub count_fresh : (n : ℕ) → dirty_count (replicate n None) ≡ n
count_fresh zero = refl
count_fresh (suc n) = ap suc (count_fresh n)

-- There aren't more dirty nodes than nodes.
pub count_most : (digests : Digests) → dirty_count digests ≤ length digests
count_most [] = omega arith
count_most (None ∷ digests) = omega (arith, count_most digests)
count_most (Some d ∷ digests) = omega (arith, count_most digests)

-- ---- the nodes above

-- a dirty node stays as it is
same_dirty : (digests : Digests) (place : ℕ) → kept_digest digests place ≡ None → set digests place None ≡ digests
same_dirty digests place dirty = subst (λ (o : Option (List ℕ)). set digests place o ≡ digests) dirty (set-get_or digests place None)

-- The nodes above a dirty node are dirty: nothing is left of its path.
pub cleared_dirty : (depth index : ℕ) (digests : Digests) → AreCleanBelow digests → index < 16 ^ depth → place_at depth index < length digests
    → kept_digest digests (place_at depth index) ≡ None → cleared (path_of depth index) digests ≡ digests
unfolding AreCleanBelow
cleared_dirty zero index digests below within inside dirty =
    let root : place_at zero index ≡ 0 = omega arith in
    let here : kept_digest digests 0 ≡ None = subst (λ (p : ℕ). kept_digest digests p ≡ None) root dirty in
    sym (cleared_first 0 [] digests) ∙ cleared_none (set digests 0 None) ∙ same_dirty digests 0 here
cleared_dirty (suc depth) index digests below within inside dirty =
    let place = place_at (suc depth) index in
    let is : place ≡ 16 * place_at depth (index / 16) + 1 + index % 16 = omega arith in
    let above = below (place_at depth (index / 16)) (index % 16) (omega arith) (omega arith)
    (subst (λ (p : ℕ). kept_digest digests p ≡ None) is dirty) in
    sym (cleared_first place (path_of depth (index / 16)) digests)
    ∙ ap (cleared (path_of depth (index / 16))) (same_dirty digests place dirty)
    ∙ cleared_dirty depth (index / 16) digests below (omega (arith, pow-succ' 16 depth)) (omega arith) above

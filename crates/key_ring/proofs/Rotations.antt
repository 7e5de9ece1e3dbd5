-- A preference list is the node list, rotated.
use Rattle.std.proofs.Common.{◌≡◌, ℕ, zero, suc, true, [], ◌∷◌, ◌+◌, ◌-◌, ◌%◌, ◌<◌, ◌≤◌, List, ◌++◌, length, get_or, take, drop, sym, ap, subst, ◌∙◌}
use Rattle.std.proofs.Common.{arith, inl, inr}
use Rattle.std.specs.Prelude.{slice_get, Some, IsPermutation}
use Rattle.std.proofs.Math.Nat.{mod-add-mod, mod-eq_of_lt, mod-lt, add-mod_right}
use Rattle.std.proofs.lemmas.Bool.{cases_order, and_parts, ltb-true}
use Rattle.std.specs.List.{list_all}
use Rattle.std.proofs.lemmas.List.{get_or-drop, get_or_append_left, get_or-append_right, get_or-take, length-drop, length-append, length-take}
use Rattle.std.proofs.lemmas.List.{take-append-drop}
use Rattle.std.proofs.lemmas.List.Sorted.{IsPermutation-append_comm}
use Rattle.std.proofs.lemmas.Option.{slice_get-get_or}
use Rattle.key_ring.specs.Ring.{Places, preference_list, is_node_number, is_ring}

-- before the end of the node list, a place is read from there on
read_before : (nodes : List ℕ) (k i d : ℕ) → k + i < length nodes → get_or (drop k nodes ++ take k nodes) i d ≡ get_or nodes (k + i) d
read_before nodes k i d h = get_or_append_left (drop k nodes) (take k nodes) d i (omega (arith, length-drop k nodes)) ∙ get_or-drop k nodes i d

-- past the end of the node list, it is read from the start
read_past : (nodes : List ℕ) (k i d : ℕ) → i < length nodes → k < length nodes → length nodes ≤ k + i
    → get_or (drop k nodes ++ take k nodes) i d ≡ get_or nodes (k + i - length nodes) d
read_past nodes k i d small within h =
    let e : i - (length nodes - k) ≡ k + i - length nodes = omega arith in
    get_or-append_right (drop k nodes) (take k nodes) (length nodes - k) i d (length-drop k nodes) (omega arith)
    ∙ rw e (get_or-take k nodes (k + i - length nodes) d (omega arith))

-- a number below twice n, divided by n, leaves itself less n
mod_past : (m n : ℕ) → n ≤ m → m < n + n → m % n ≡ m - n
mod_past m n le lt =
    let e : m ≡ m - n + n = omega arith in
    ap (λ k. k % n) e ∙ add-mod_right (m - n) n ∙ mod-eq_of_lt (omega arith)

-- a place of a list that is rotated by k
rotated_at : (nodes : List ℕ) (k i d : ℕ) → k < length nodes → i < length nodes
    → get_or (drop k nodes ++ take k nodes) i d ≡ get_or nodes ((k + i) % length nodes) d
rotated_at nodes k i d hk hi =
    elim (cases_order (k + i) (length nodes)) [
      | inl h ↦ read_past nodes k i d hi hk (omega arith)
          ∙ ap (λ m. get_or nodes m d) (sym (mod_past (k + i) (length nodes) (omega arith) (omega arith)))
      | inr (inl h) ↦ read_before nodes k i d h ∙ ap (λ m. get_or nodes m d) (sym (mod-eq_of_lt h))
      | inr (inr h) ↦ read_past nodes k i d hi hk (omega arith)
          ∙ ap (λ m. get_or nodes m d) (sym (mod_past (k + i) (length nodes) (omega arith) (omega arith)))
    ]

-- the node at a place of a preference list, counted round the ring
pub preference_at : (nodes : List ℕ) (r i d : ℕ) → i < length nodes
    → slice_get (preference_list nodes r) i ≡ Some (get_or nodes ((r + i) % length nodes) d)
preference_at nodes r i d h =
    let k = r % length nodes in
    let within : k < length nodes = mod-lt r (omega arith) in
    let long : length (drop k nodes ++ take k nodes) ≡ length nodes = simp (length-append, length-drop, length-take) (omega arith) in
    slice_get-get_or (drop k nodes ++ take k nodes) i d (omega arith)
    ∙ ap Some (rotated_at nodes k i d within h ∙ ap (λ m. get_or nodes m d) (mod-add-mod r (length nodes) i))

-- a preference list has each node of the ring once
pub preference_once : (nodes : List ℕ) (r : ℕ) → IsPermutation (preference_list nodes r) nodes
preference_once nodes r =
    let k = r % length nodes in
    subst (λ ns. IsPermutation (drop k nodes ++ take k nodes) ns) (take-append-drop k nodes) (IsPermutation-append_comm (drop k nodes) (take k nodes))

-- each node of a list of nodes has a number
pub node_at : (nodes : List ℕ) (i d : ℕ) → list_all is_node_number nodes ≡ true → i < length nodes → 1 ≤ get_or nodes i d
node_at [] i d e h = absurd (omega arith)
node_at (n ∷ nodes) zero d e h = omega (arith, ltb-true 0 n (and_parts _ _ (and_parts _ _ e).0).0)
node_at (n ∷ nodes) (suc i) d e h = node_at nodes i d (and_parts _ _ e).1 (omega arith)

-- the nodes of a ring are nodes
pub ring_nodes : (p : Places) → is_ring p ≡ true → list_all is_node_number p.nodes ≡ true
ring_nodes p e = (and_parts _ _ (and_parts _ _ (and_parts _ _ (and_parts _ _ e).0).0).0).1

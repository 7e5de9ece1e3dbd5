-- Where texts are taken in turn, nodes are asked by depth and then by index.
use Rattle.std.proofs.Common.{◌≡◌, ℕ, zero, suc, ◌+◌, ◌*◌, ◌<◌, ◌≤◌, Bool, true, false, cond, ltb, List, [], ◌∷◌, ◌++◌, refl, sym, ap, subst, ◌∙◌}
use Rattle.std.proofs.Common.{arith, append_assoc, append-nil}
use Rattle.std.specs.Prelude.{bytes_eq}
use Rattle.std.specs.List.{flat_map, AllByRecursion}
use Rattle.std.proofs.lemmas.Bool.{or_left}
use Rattle.std.proofs.lemmas.List.{append_cancel_left}
use Rattle.version_set.proofs.ListLaws.{all-append}
use Rattle.snapshot.specs.RowMaps.{RowMap, root_of}
use Rattle.tree_nodes.specs.Nodes.{Node, top, child, is_same_node, contains_node, place_of, tree_depth}
use Rattle.sync_session.specs.TreeNodes.{digest_of}
use Rattle.sync_session.specs.Walks.{Walk, TakenText, child_digest, differing, asks}
use Rattle.sync_session.specs.Differing.{times, nodes_of, IsTraced, AscendByPlace, IsInTurn}
use Rattle.sync_session.proofs.StepLaws.{All-weaker}
use Rattle.sync_session.proofs.DescentLaws.{is_node-same}
use Rattle.sync_session.proofs.CountLaws.{all_unit, times-append, has_times, asker}

-- ---- lists of nodes

abbrev Below : List Node → List Node → Type 0
Below xs ys = AllByRecursion (λ x. AllByRecursion (λ y. place_of x < place_of y) ys) xs

Ascends-append : (xs ys : List Node) → AscendByPlace xs → AscendByPlace ys → Below xs ys → AscendByPlace (xs ++ ys)
Ascends-append [] ys p q b = q
Ascends-append (x ∷ xs) ys p q b = (all-append (λ y. place_of x < place_of y) xs ys p.0 b.0, Ascends-append xs ys p.1 q b.1)

-- ---- the children that a text asks

abbrev IsBetween : ℕ → ℕ → Node → Type 0
IsBetween low high n = (low ≤ place_of n) × (place_of n < high)

kids_between : (own : RowMap) (n : Node) (text : List ℕ) (k : ℕ)
    → AllByRecursion (IsBetween (16 * place_of n + 1) (16 * place_of n + 1 + k)) (differing own n text k)
unfolding differing
kids_between own n text zero = tt
kids_between own n text (suc k) =
    all-append (IsBetween (16 * place_of n + 1) (16 * place_of n + 1 + suc k)) (differing own n text k) _
    (All-weaker (IsBetween (16 * place_of n + 1) (16 * place_of n + 1 + k)) (IsBetween (16 * place_of n + 1) (16 * place_of n + 1 + suc k))
    (differing own n text k) (λ m h. (h.0, omega (arith, h.1))) (kids_between own n text k))
    (last (bytes_eq (child_digest text k) (digest_of own (child n k))))
  where
    last : (b : Bool) → AllByRecursion (IsBetween (16 * place_of n + 1) (16 * place_of n + 1 + suc k)) (cond b [] (child n k ∷ []))
    last true = tt
    last false = ((omega arith, omega arith), tt)

kids_ascend : (own : RowMap) (n : Node) (text : List ℕ) (k : ℕ) → AscendByPlace (differing own n text k)
unfolding differing
kids_ascend own n text zero = tt
kids_ascend own n text (suc k) =
    last (bytes_eq (child_digest text k) (digest_of own (child n k))) (kids_ascend own n text k) (kids_between own n text k)
  where
    last : (b : Bool) → AscendByPlace (differing own n text k)
        → AllByRecursion (IsBetween (16 * place_of n + 1) (16 * place_of n + 1 + k)) (differing own n text k)
        → AscendByPlace (differing own n text k ++ cond b [] (child n k ∷ []))
    last true p q = subst (λ (xs : List Node). AscendByPlace xs) (sym (append-nil (differing own n text k))) p
    last false p q = Ascends-append (differing own n text k) (child n k ∷ []) p (tt, tt)
        (All-weaker _ _ (differing own n text k) (λ m h. (omega (arith, h.1), tt)) q)

asks_between : (own : RowMap) (t : TakenText) → AllByRecursion (IsBetween (16 * place_of t.node + 1) (16 * place_of t.node + 17)) (asks own t)
asks_between own t = by_case (ltb t.node.depth (tree_depth own.format))
  where
    by_case : (b : Bool) → AllByRecursion (IsBetween (16 * place_of t.node + 1) (16 * place_of t.node + 17))
        (cond b (differing own t.node t.text 16) [])
    by_case true = All-weaker _ _ (differing own t.node t.text 16) (λ m h. (h.0, omega (arith, h.1))) (kids_between own t.node t.text 16)
    by_case false = tt

asks_ascend : (own : RowMap) (t : TakenText) → AscendByPlace (asks own t)
asks_ascend own t = by_case (ltb t.node.depth (tree_depth own.format))
  where
    by_case : (b : Bool) → AscendByPlace (cond b (differing own t.node t.text 16) [])
    by_case true = kids_ascend own t.node t.text 16
    by_case false = tt

-- ---- nothing asks itself

-- what is asked by texts whose nodes it begins with is as deep as one likes
deep : (own : RowMap) (ts : List TakenText) (rest : List Node) → flat_map (asks own) ts ≡ nodes_of ts ++ rest → (d : ℕ) (n : Node)
    → 1 ≤ times n (flat_map (asks own) ts) → d ≤ n.depth
deep own ts rest e zero n h = omega arith
deep own ts rest e (suc d) n h =
    let who = asker (λ u. Unit {0}) own ts n (all_unit ts) h in
    let depth : n.depth ≡ suc who.t.node.depth = ap (λ (m : Node). m.depth) who.by.kid.is in
    let up = deep own ts rest e d who.t.node (omega (arith, who.counts, ap (times who.t.node) e, times-append who.t.node (nodes_of ts) rest)) in
    omega (arith, depth, up)

none_asks_itself : (own : RowMap) (t : TakenText) (ts : List TakenText) (rest : List Node) → flat_map (asks own) (t ∷ ts) ≡ nodes_of (t ∷ ts) ++ rest
    → ⊥
none_asks_itself own t ts rest e =
    let here : 1 ≤ times t.node (flat_map (asks own) (t ∷ ts)) = omega (
      arith,
      ap (times t.node) e,
      has_times t.node (nodes_of (t ∷ ts) ++ rest)
          (or_left (is_same_node t.node t.node) (contains_node t.node (nodes_of ts ++ rest)) (is_node-same t.node)),
    ) in
    let over = deep own (t ∷ ts) rest e (suc t.node.depth) t.node here in
    omega (arith, over)

-- ---- one text after another

abbrev Bound : List Node → List Node → Type 0
Bound xs ys = AllByRecursion (λ x. AllByRecursion (λ y. place_of x < 16 * place_of y + 1) ys) xs

pub Ascends-suffix : (xs ys : List Node) → AscendByPlace (xs ++ ys) → AscendByPlace ys
Ascends-suffix [] ys p = p
Ascends-suffix (x ∷ xs) ys p = Ascends-suffix xs ys p.1

in_order : (own : RowMap) (done pending : List Node) (ts : List TakenText) (rest : List Node) → AscendByPlace (done ++ pending)
    → Bound (done ++ pending) pending
    → (done ++ pending) ++ flat_map (asks own) ts ≡ done ++ (nodes_of ts ++ rest) → AscendByPlace ((done ++ pending) ++ flat_map (asks own) ts)
in_order own done pending [] rest p b e = subst (λ (xs : List Node). AscendByPlace xs) (sym (append-nil (done ++ pending))) p
in_order own done [] (t ∷ ts) rest p b e =
    absurd (none_asks_itself own t ts rest
    (append_cancel_left done (flat_map (asks own) (t ∷ ts)) (nodes_of (t ∷ ts) ++ rest)
    (ap (λ (xs : List Node). xs ++ flat_map (asks own) (t ∷ ts)) (sym (append-nil done)) ∙ e)))
in_order own done (x ∷ pending) (t ∷ ts) rest p b e =
    let kids = asks own t in
    let all = done ++ x ∷ pending in
    let more = flat_map (asks own) ts in
    let whole : (x ∷ pending) ++ (kids ++ more) ≡ t.node ∷ (nodes_of ts ++ rest) = append_cancel_left done ((x ∷ pending) ++ (kids ++ more))
    (t.node ∷ (nodes_of ts ++ rest)) (sym (append_assoc done (x ∷ pending) (kids ++ more)) ∙ e) in
    let same : x ≡ t.node = ap (λ (xs : List Node). first_or x xs) whole in
    let kids_at : AllByRecursion (IsBetween (16 * place_of x + 1) (16 * place_of x + 17)) kids = subst
    (λ (n : Node). AllByRecursion (IsBetween (16 * place_of n + 1) (16 * place_of n + 17)) kids) (sym same) (asks_between own t) in
    let after_x : AllByRecursion (λ y. place_of x < place_of y) pending = (Ascends-suffix done (x ∷ pending) p).0 in
    let regroup : (done ++ x ∷ []) ++ (pending ++ kids) ≡ all ++ kids = append_assoc done (x ∷ []) (pending ++ kids)
    ∙ sym (append_assoc done (x ∷ pending) kids) in
    let up : AscendByPlace (all ++ kids) = Ascends-append all kids p (asks_ascend own t)
    (All-weaker _ _ all (λ m h. All-weaker _ _ kids (λ y k. omega (arith, h.0, k.0)) kids_at) b) in
    let bound : Bound (all ++ kids) (pending ++ kids) =
    all-append (λ m. AllByRecursion (λ y. place_of m < 16 * place_of y + 1) (pending ++ kids)) all kids
    (All-weaker _ _ all (λ m h. all-append (λ y. place_of m < 16 * place_of y + 1) pending kids h.1
    (All-weaker _ _ kids (λ y k. omega (arith, h.0, k.0)) kids_at)) b)
    (All-weaker _ _ kids (λ m k. all-append (λ y. place_of m < 16 * place_of y + 1) pending kids
    (All-weaker _ _ pending (λ y h. omega (arith, h, k.1)) after_x) (All-weaker _ _ kids (λ y l. omega (arith, l.0, k.1)) kids_at)) kids_at) in
    let rest_is : ((done ++ x ∷ []) ++ (pending ++ kids)) ++ more ≡ (done ++ x ∷ []) ++ (nodes_of ts ++ rest) =
    ap (λ (xs : List Node). xs ++ more) regroup
    ∙ (append_assoc all kids more
    ∙ (e ∙ (ap (λ (n : Node). done ++ n ∷ (nodes_of ts ++ rest)) (sym same) ∙ sym (append_assoc done (x ∷ []) (nodes_of ts ++ rest))))) in
    let result = in_order own (done ++ x ∷ []) (pending ++ kids) ts rest (subst (λ (xs : List Node). AscendByPlace xs) (sym regroup) up)
    (subst (λ (xs : List Node). Bound xs (pending ++ kids)) (sym regroup) bound) rest_is in
    subst (λ (xs : List Node). AscendByPlace xs) (ap (λ (xs : List Node). xs ++ more) regroup ∙ append_assoc all kids more) result
  where
    first_or : Node → List Node → Node
    first_or d [] = d
    first_or d (n ∷ nodes) = n

pub asked_in_order : (w : Walk) → IsTraced w → IsInTurn w → AscendByPlace w.asked
asked_in_order w h turn =
    subst (λ (xs : List Node). AscendByPlace xs) (sym h.asked) (by_case (bytes_eq w.root (root_of w.own)) refl)
  where
    by_case : (b : Bool) → bytes_eq w.root (root_of w.own) ≡ b → AscendByPlace (cond b [] (top ∷ []) ++ flat_map (asks w.own) w.taken)
    by_case true e = in_order w.own [] [] w.taken turn.0 tt tt (sym (h.asked ∙ ap (λ b. cond b [] (top ∷ []) ++ flat_map (asks w.own) w.taken) e)
        ∙ turn.1)
    by_case false e = in_order w.own [] (top ∷ []) w.taken turn.0 (tt, tt) ((omega arith, tt), tt)
        (sym (h.asked ∙ ap (λ b. cond b [] (top ∷ []) ++ flat_map (asks w.own) w.taken) e) ∙ turn.1)

-- How often a node is asked.
use Rattle.std.proofs.Common.{◌≡◌, ℕ, zero, suc, ◌+◌, ◌*◌, ◌<◌, ◌≤◌, Bool, true, false, not, cond, eqb, ltb, List, [], ◌∷◌, ◌++◌, ◌&&◌, ◌||◌, refl}
use Rattle.std.proofs.Common.{sym, ap, subst, ◌∙◌, arith, inl, inr, zero-add}
use Rattle.std.specs.Prelude.{bytes_eq}
use Rattle.std.specs.List.{flat_map, filter, AllByRecursion}
use Rattle.std.proofs.lemmas.Bool.{cases_Bool, cases_lt, both_ways, ltb-true, lt-ltb, ne_eqb, false_from_ne_true}
use Rattle.std.proofs.lemmas.List.{map-append}
use Rattle.version_set.specs.declared.version.Version.{Version}
use Rattle.snapshot.specs.RowMaps.{RowMap, root_of}
use Rattle.tree_nodes.specs.Nodes.{Node, top, child, is_same_node, contains_node, tree_depth}
use Rattle.sync_session.specs.TreeNodes.{digest_of}
use Rattle.sync_session.specs.Walks.{Walk, TakenText, Walked, child_digest, first_asked, differing, asks}
use Rattle.sync_session.specs.Steps.{started, after, IsDue}
use Rattle.sync_session.specs.Differing.{times, nodes_of, IsOrderly}
use Rattle.sync_session.proofs.DescentLaws.{is_node-true, is_node-same, differing_has}

pub times-append : (n : Node) (xs ys : List Node) → times n (xs ++ ys) ≡ times n xs + times n ys
times-append n [] ys = omega arith
times-append n (x ∷ xs) ys = let rest = times-append n xs ys in omega (arith, rest)

pub has_times : (n : Node) (xs : List Node) → contains_node n xs ≡ true → 1 ≤ times n xs
has_times n [] h = absurd (cc)
has_times n (x ∷ xs) h = either (is_same_node n x) h (has_times n xs)
  where
    either : (b : Bool) → (b || contains_node n xs) ≡ true → (contains_node n xs ≡ true → 1 ≤ times n xs) → 1 ≤ cond b 1 0 + times n xs
    either true h again = omega arith
    either false h again = omega (arith, again h)

pub times_has : (n : Node) (xs : List Node) → 1 ≤ times n xs → contains_node n xs ≡ true
times_has n [] h = absurd (omega arith)
times_has n (x ∷ xs) h = either (is_same_node n x) h (times_has n xs)
  where
    either : (b : Bool) → 1 ≤ cond b 1 0 + times n xs → (1 ≤ times n xs → contains_node n xs ≡ true) → (b || contains_node n xs) ≡ true
    either true h again = refl
    either false h again = again (omega arith)

-- a child that a text asks
pub record IsKid (own : RowMap) (m : Node) (text : List ℕ) (k : ℕ) (n : Node) : Type 0 where
  pub j : ℕ
  pub below : j < k
  pub is : n ≡ child m j
  pub unlike : bytes_eq (child_digest text j) (digest_of own (child m j)) ≡ false

abbrev last_kid : RowMap → Node → List ℕ → ℕ → List Node
last_kid own m text k = cond (bytes_eq (child_digest text k) (digest_of own (child m k))) [] (child m k ∷ [])

last_node : (own : RowMap) (m : Node) (text : List ℕ) (k : ℕ) (n : Node) → 1 ≤ times n (last_kid own m text k) → n ≡ child m k
last_node own m text k n h = by_case (bytes_eq (child_digest text k) (digest_of own (child m k))) h
  where
    same : (c : Bool) → is_same_node n (child m k) ≡ c → 1 ≤ cond c 1 0 + 0 → is_same_node n (child m k) ≡ true
    same true e h = e
    same false e h = absurd (omega arith)

    by_case : (b : Bool) → 1 ≤ times n (cond b [] (child m k ∷ [])) → n ≡ child m k
    by_case true h = absurd (omega arith)
    by_case false h = is_node-true n (child m k) (same (is_same_node n (child m k)) refl h)

last_is : (own : RowMap) (m : Node) (text : List ℕ) (k : ℕ) (n : Node) → 1 ≤ times n (last_kid own m text k) → IsKid own m text (suc k) n
last_is own m text k n h = by_case (bytes_eq (child_digest text k) (digest_of own (child m k))) refl (last_node own m text k n h) h
  where
    by_case : (b : Bool) → bytes_eq (child_digest text k) (digest_of own (child m k)) ≡ b → n ≡ child m k → 1 ≤ times n (cond b [] (child m k ∷ []))
        → IsKid own m text (suc k) n
    by_case true e is h = absurd (omega arith)
    by_case false e is h = record { j = k; below = omega arith; is = is; unlike = e }

pub kid_of : (own : RowMap) (m : Node) (text : List ℕ) (k : ℕ) (n : Node) → 1 ≤ times n (differing own m text k) → IsKid own m text k n
unfolding differing
kid_of own m text zero n h = absurd (omega arith)
kid_of own m text (suc k) n h =
    elim (cases_lt 0 (times n (differing own m text k))) [
      | inl some ↦
          let kid = kid_of own m text k n (omega arith) in
          record { j = kid.j; below = omega (arith, kid.below); is = kid.is; unlike = kid.unlike }
      | inr none ↦ last_is own m text k n (omega (arith, times-append n (differing own m text k) (last_kid own m text k)))
    ]

pub kid_in : (own : RowMap) (m : Node) (text : List ℕ) (k : ℕ) (n : Node) → IsKid own m text k n → 1 ≤ times n (differing own m text k)
kid_in own m text k n kid =
    subst (λ (x : Node). 1 ≤ times x (differing own m text k)) (sym kid.is)
    (has_times (child m kid.j) (differing own m text k) (differing_has own m text k kid.j kid.below kid.unlike))

same_child : (m : Node) (a b : ℕ) → child m a ≡ child m b → a ≡ b
same_child m a b e = let i : 16 * m.index + a ≡ 16 * m.index + b = ap (λ (n : Node). n.index) e in omega (arith, i)

one_last : (own : RowMap) (m : Node) (text : List ℕ) (k : ℕ) (n : Node) → times n (last_kid own m text k) ≤ 1
one_last own m text k n = by_case (bytes_eq (child_digest text k) (digest_of own (child m k)))
  where
    one : (c : Bool) → cond c 1 0 + 0 ≤ 1
    one true = omega arith
    one false = omega arith

    by_case : (b : Bool) → times n (cond b [] (child m k ∷ [])) ≤ 1
    by_case true = omega arith
    by_case false = one (is_same_node n (child m k))

pub kid_once : (own : RowMap) (m : Node) (text : List ℕ) (k : ℕ) (n : Node) → times n (differing own m text k) ≤ 1
unfolding differing
kid_once own m text zero n = omega arith
kid_once own m text (suc k) n =
    let sum = times-append n (differing own m text k) (last_kid own m text k) in
    elim (cases_lt 0 (times n (last_kid own m text k))) [
      | inl some ↦ elim (cases_lt 0 (times n (differing own m text k))) [
        | inl twice ↦
            let early = kid_of own m text k n (omega arith) in
            let late = last_node own m text k n (omega arith) in
            absurd (omega (arith, early.below, same_child m early.j k (sym early.is ∙ late)))
        | inr none ↦ omega (arith, sum, one_last own m text k n)
      ]
      | inr none ↦ omega (arith, sum, kid_once own m text k n)
    ]

-- ---- all that were asked

pub asks_once : (own : RowMap) (t : TakenText) (n : Node) → times n (asks own t) ≤ 1
asks_once own t n = by_case (ltb t.node.depth (tree_depth own.format))
  where
    by_case : (b : Bool) → times n (cond b (differing own t.node t.text 16) []) ≤ 1
    by_case true = kid_once own t.node t.text 16 n
    by_case false = omega arith

-- a node that a text asks
pub record IsAskedBy (own : RowMap) (t : TakenText) (n : Node) : Type 0 where
  pub inner : t.node.depth < tree_depth own.format
  pub kid : IsKid own t.node t.text 16 n

pub asked_by_text : (own : RowMap) (t : TakenText) (n : Node) → 1 ≤ times n (asks own t) → IsAskedBy own t n
asked_by_text own t n h = by_case (ltb t.node.depth (tree_depth own.format)) refl h
  where
    by_case : (b : Bool) → ltb t.node.depth (tree_depth own.format) ≡ b → 1 ≤ times n (cond b (differing own t.node t.text 16) []) → IsAskedBy own t n
    by_case true e h = record { inner = ltb-true t.node.depth (tree_depth own.format) e; kid = kid_of own t.node t.text 16 n h }
    by_case false e h = absurd (omega arith)

pub asks_in : (own : RowMap) (t : TakenText) (n : Node) → IsAskedBy own t n → 1 ≤ times n (asks own t)
asks_in own t n is = ap_cond (lt-ltb t.node.depth (tree_depth own.format) is.inner)
  where
    ap_cond : ltb t.node.depth (tree_depth own.format) ≡ true → 1 ≤ times n (asks own t)
    ap_cond e = subst (λ (b : Bool). 1 ≤ times n (cond b (differing own t.node t.text 16) [])) (sym e) (kid_in own t.node t.text 16 n is.kid)

-- who asked a node, with what holds of each text
pub record HasAsker (P : TakenText → Type 0) (own : RowMap) (taken : List TakenText) (n : Node) : Type 0 where
  pub t : TakenText
  pub good : P t
  pub by : IsAskedBy own t n
  pub counts : 1 ≤ times t.node (nodes_of taken)

pub asker : (P : TakenText → Type 0) (own : RowMap) (taken : List TakenText) (n : Node) → AllByRecursion P taken
    → 1 ≤ times n (flat_map (asks own) taken) → HasAsker P own taken n
asker P own [] n all h = absurd (omega arith)
asker P own (t ∷ ts) n all h =
    elim (cases_lt 0 (times n (asks own t))) [
      | inl here ↦ record {
        t = t;
        good = all.0;
        by = asked_by_text own t n (omega arith);
        counts = counted (is_same_node t.node t.node) (is_node-same t.node);
      }
      | inr later ↦
          let rest = asker P own ts n all.1 (omega (arith, times-append n (asks own t) (flat_map (asks own) ts))) in
          record { t = rest.t; good = rest.good; by = rest.by; counts = omega (arith, rest.counts) }
    ]
  where
    counted : (b : Bool) → b ≡ true → 1 ≤ cond b 1 0 + times t.node (nodes_of ts)
    counted true e = omega arith
    counted false e = absurd (cc)

pub no_root : (own : RowMap) (offered : List ℕ) (n : Node) (d : ℕ) → n.depth ≡ suc d → times n (first_asked own offered) ≡ 0
no_root own offered n d e = by_case (bytes_eq offered (root_of own)) (ne_eqb n.depth 0 (λ z. omega (arith, e, z)))
  where
    by_case : (b : Bool) → eqb n.depth 0 ≡ false → times n (cond b [] (top ∷ [])) ≡ 0
    by_case true off = refl
    by_case false off = ap (λ c. cond (c && eqb n.index 0) 1 0 + 0) off

-- ---- one at most

same_parent : (m o : Node) (i j : ℕ) → i < 16 → j < 16 → child m i ≡ child o j → m ≡ o
same_parent m o i j a b e =
    let depth : suc m.depth ≡ suc o.depth = ap (λ (n : Node). n.depth) e in
    let index : 16 * m.index + i ≡ 16 * o.index + j = ap (λ (n : Node). n.index) e in
    node_is m o (omega (arith, depth)) (omega (arith, index))
  where
    node_is : (m o : Node) → m.depth ≡ o.depth → m.index ≡ o.index → m ≡ o
    node_is m o d i = ap (λ (k : ℕ). let x : Node = record { depth = k; index = m.index } in x) d
        ∙ ap (λ (k : ℕ). let x : Node = record { depth = o.depth; index = k } in x) i

times-filter : (xs : List Node) (n m : Node) → is_same_node n m ≡ false → times n (filter (λ x. not (is_same_node x m)) xs) ≡ times n xs
times-filter [] n m other = refl
times-filter (x ∷ xs) n m other =
    elim (cases_Bool (is_same_node x m)) [
      | inl gone ↦
          let off : is_same_node n x ≡ false = subst (λ (y : Node). is_same_node n y ≡ false) (sym (is_node-true x m gone)) other in
          ap (λ b. times n (cond (not b) (x ∷ filter (λ x. not (is_same_node x m)) xs) (filter (λ x. not (is_same_node x m)) xs))) gone
          ∙ (times-filter xs n m other ∙ sym (ap (λ b. cond b 1 0 + times n xs) off ∙ zero-add (times n xs)))
      | inr stays ↦
          ap (λ b. times n (cond (not b) (x ∷ filter (λ x. not (is_same_node x m)) xs) (filter (λ x. not (is_same_node x m)) xs))) stays
          ∙ ap (λ k. cond (is_same_node n x) 1 0 + k) (times-filter xs n m other)
    ]

times-gone : (xs : List Node) (m : Node) → times m (filter (λ x. not (is_same_node x m)) xs) ≡ 0
times-gone [] m = refl
times-gone (x ∷ xs) m =
    elim (cases_Bool (is_same_node x m)) [
      | inl gone ↦ ap (λ b. times m (cond (not b) (x ∷ filter (λ x. not (is_same_node x m)) xs) (filter (λ x. not (is_same_node x m)) xs))) gone
          ∙ times-gone xs m
      | inr stays ↦
          let off : is_same_node m x ≡ false = false_from_ne_true (is_same_node m x)
          (λ e. both_ways (is_same_node x m) stays (subst (λ (y : Node). is_same_node x y ≡ true) (sym (is_node-true m x e)) (is_node-same x))) in
          ap (λ b. times m (cond (not b) (x ∷ filter (λ x. not (is_same_node x m)) xs) (filter (λ x. not (is_same_node x m)) xs))) stays
          ∙ (ap (λ b. cond b 1 0 + times m (filter (λ x. not (is_same_node x m)) xs)) off
          ∙ (zero-add (times m (filter (λ x. not (is_same_node x m)) xs)) ∙ times-gone xs m))
    ]

pub all_unit : (ts : List TakenText) → AllByRecursion (λ u. Unit {0}) ts
all_unit [] = tt
all_unit (t ∷ ts) = (tt, all_unit ts)

-- no node that a due text asks was asked before
new_kids : (held : List ℕ → List Version) (w : Walk) (t : TakenText) → Walked held w → IsOrderly w → IsDue w t → (n : Node)
    → 1 ≤ times n (asks w.own t) → times n w.asked ≡ 0
new_kids held w t h o due n kid =
    let by = asked_by_text w.own t n kid in
    elim (cases_lt 0 (times n w.asked)) [
      | inl before ↦
          let all : times n w.asked ≡ times n (first_asked w.own w.root) + times n (flat_map (asks w.own) w.taken) = ap (times n) h.asked
          ∙ times-append n (first_asked w.own w.root) (flat_map (asks w.own) w.taken) in
          let deep : n.depth ≡ suc t.node.depth = ap (λ (x : Node). x.depth) by.kid.is in
          let who = asker (λ u. Unit {0}) w.own w.taken n (all_unit w.taken) (omega (arith, all, no_root w.own w.root n t.node.depth deep)) in
          let same : who.t.node ≡ t.node = same_parent who.t.node t.node who.by.kid.j by.kid.j who.by.kid.below by.kid.below
          (sym who.by.kid.is ∙ by.kid.is) in
          let twice : 1 ≤ times t.node (nodes_of w.taken) = subst (λ (m : Node). 1 ≤ times m (nodes_of w.taken)) same who.counts in
          absurd (omega (arith, twice, o.shared t.node, o.once t.node, has_times t.node w.outstanding due.asked))
      | inr none ↦ omega arith
    ]

pub orderly_after : (held : List ℕ → List Version) (w : Walk) (t : TakenText) → Walked held w → IsOrderly w → IsDue w t → IsOrderly (after w t)
orderly_after held w t h o due =
    record {
      shared = λ n.
          let asked = times-append n w.asked (asks w.own t) in
          let left = times-append n (filter (λ x. not (is_same_node x t.node)) w.outstanding) (asks w.own t) in
          let took : times n (nodes_of (w.taken ++ t ∷ [])) ≡ times n (nodes_of w.taken) + (cond (is_same_node n t.node) 1 0 + 0) = ap (times n)
          (map-append (λ (u : TakenText). u.node) w.taken (t ∷ [])) ∙ times-append n (nodes_of w.taken) (t.node ∷ []) in
          elim (cases_Bool (is_same_node n t.node)) [
            | inl same ↦
                let is = is_node-true n t.node same in
                let gone : times n (filter (λ x. not (is_same_node x t.node)) w.outstanding) ≡ 0 = subst
                (λ (m : Node). times m (filter (λ x. not (is_same_node x t.node)) w.outstanding) ≡ 0) (sym is)
                (times-gone w.outstanding t.node) in
                let out : 1 ≤ times n w.outstanding = subst (λ (m : Node). 1 ≤ times m w.outstanding) (sym is)
                (has_times t.node w.outstanding due.asked) in
                let one : (cond (is_same_node n t.node) 1 0 + 0) ≡ 1 = ap (λ b. cond b 1 0 + 0) same in
                omega (arith, asked, left, took, gone, out, one, o.shared n, o.once n)
            | inr other ↦
                let kept = times-filter w.outstanding n t.node other in
                let none : (cond (is_same_node n t.node) 1 0 + 0) ≡ 0 = ap (λ b. cond b 1 0 + 0) other in
                omega (arith, asked, left, took, kept, none, o.shared n)
          ];
      once = λ n.
          let asked = times-append n w.asked (asks w.own t) in
          elim (cases_lt 0 (times n (asks w.own t))) [
            | inl new ↦ omega (arith, asked, asks_once w.own t n, new_kids held w t h o due n (omega arith))
            | inr none ↦ omega (arith, asked, o.once n)
          ];
    }

pub orderly_started : (own : RowMap) (offered : List ℕ) → IsOrderly (started own offered)
orderly_started own offered =
    record { shared = λ n. sym (zero-add (times n (first_asked own offered))); once = λ n. one (bytes_eq offered (root_of own)) n }
  where
    single : (c : Bool) → cond c 1 0 + 0 ≤ 1
    single true = omega arith
    single false = omega arith

    one : (b : Bool) (n : Node) → times n (cond b [] (top ∷ [])) ≤ 1
    one true n = omega arith
    one false n = single (is_same_node n top)

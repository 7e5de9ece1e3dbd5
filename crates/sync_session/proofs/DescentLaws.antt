-- A finished walk holds what its partner held.
use Rattle.std.proofs.Common.{◌≡◌, ℕ, zero, suc, ◌+◌, ◌-◌, ◌*◌, ◌/◌, ◌%◌, ◌^◌, ◌<◌, ◌⊎◌, Bool, true, false, cond, eqb, Option, Some, None, List, []}
use Rattle.std.proofs.Common.{◌∷◌, ◌++◌, refl, sym, ap, subst, ◌∙◌, arith, inl, inr}
use Rattle.std.specs.Prelude.{is_some, bytes_eq, option_map}
use Rattle.std.specs.List.{flat_map, filter, AllByRecursion, Contains}
use Rattle.std.proofs.lemmas.Bool.{cases_lt, eqb-true, eq-eqb, cases_Bool, and_parts, lt-ltb, or_left, or_right, both_ways}
use Rattle.std.proofs.lemmas.List.Folds.{list_any-append}
use Rattle.std.proofs.lemmas.List.Elements.{Contains-append_right}
use Rattle.std.proofs.lemmas.Slice.Eq.{bytes_eq-Decides}
use Rattle.sha2.specs.Sha256.{sha256}
use Rattle.row_bytes.specs.declared.row.Row.{Row}
use Rattle.version_set.specs.declared.version.Version.{Version}
use Rattle.row_bytes.specs.Rows.{IsRow, AreRows}
use Rattle.hash_tree.proofs.TextLaws.{leaf_node, same_leaf}
use Rattle.vclock.specs.declared.format.Format.{Format}
use Rattle.version_set.proofs.ListLaws.{all-filter}
use Rattle.sync_session.specs.declared.state.SessionState.TheVariants.{Finished}
use Rattle.snapshot.specs.RowMaps.{RowMap, IsRowMap, leaf_in, root_of}
use Rattle.tree_nodes.specs.Nodes.{Node, top, child, is_same_node, contains_node, tree_depth, ancestor_of}
use Rattle.hash_tree.specs.Texts.{leaf_text}
use Rattle.sync_session.specs.TreeNodes.{digest_of}
use Rattle.sync_session.specs.Walks.{Walk, TakenText, taken_at, child_digest, expected, differing, asks, Held, IsLeafHeld, IsExpectedText, Walked}
use Rattle.sync_session.specs.Walks.{IsCompared, NoTwoShareADigest, IsPartners}
use Rattle.sync_session.proofs.TextLaws.{text_above, leaf_rows, leaf_are, child_digest-text, leaf_below, ancestor_below}

-- ---- lists

pub is_node-true : (m n : Node) → is_same_node m n ≡ true → m ≡ n
is_node-true m n e =
    let h = and_parts (eqb m.depth n.depth) (eqb m.index n.index) e in
    let d = eqb-true m.depth n.depth h.0 in
    let i = eqb-true m.index n.index h.1 in
    ap (λ (k : ℕ). let x : Node = record { depth = k; index = m.index } in x) d
    ∙ ap (λ (k : ℕ). let x : Node = record { depth = n.depth; index = k } in x) i

pub is_node-same : (n : Node) → is_same_node n n ≡ true
is_node-same n = rw (eq-eqb n.depth n.depth refl, eq-eqb n.index n.index refl) refl

-- an entry that was found is one of the list
abbrev pub entry : Node → List ℕ → TakenText
entry n text = record { node = n; text = text }

found_here : (t : TakenText) (n : Node) (text : List ℕ) (rest : Option (List ℕ)) → is_same_node t.node n ≡ true
    → cond (is_same_node t.node n) (Some t.text) rest ≡ Some text → t ≡ entry n text
found_here t n text rest same e =
    let at : t.text ≡ text = some_is t.text text (sym (ap (λ b. cond b (Some t.text) rest) same) ∙ e) in
    ap (λ (m : Node). entry m t.text) (is_node-true t.node n same) ∙ ap (entry n) at
  where
    some_is : (x y : List ℕ) → (let s : Option (List ℕ) = Some x in s) ≡ Some y → x ≡ y
    some_is x y e = cc

found_later : (t : TakenText) (n : Node) (text : List ℕ) (rest : Option (List ℕ)) → is_same_node t.node n ≡ false
    → cond (is_same_node t.node n) (Some t.text) rest ≡ Some text → rest ≡ Some text
found_later t n text rest other e = sym (ap (λ b. cond b (Some t.text) rest) other) ∙ e

pub All-taken_at : (P : TakenText → Type 0) (ts : List TakenText) (n : Node) (text : List ℕ) → AllByRecursion P ts → taken_at ts n ≡ Some text
    → P (entry n text)
All-taken_at P [] n text h e = absurd (cc)
All-taken_at P (t ∷ ts) n text h e =
    elim (cases_Bool (is_same_node t.node n)) [
      | inl same ↦ subst P (found_here t n text (taken_at ts n) same e) h.0
      | inr other ↦ All-taken_at P ts n text h.1 (found_later t n text (taken_at ts n) other e)
    ]

pub Contains-taken_at : (ts : List TakenText) (n : Node) (text : List ℕ) → taken_at ts n ≡ Some text → Contains ts (entry n text)
Contains-taken_at [] n text e = absurd (cc)
Contains-taken_at (t ∷ ts) n text e =
    elim (cases_Bool (is_same_node t.node n)) [
      | inl same ↦ (0, omega arith, found_here t n text (taken_at ts n) same e)
      | inr other ↦ Contains-append_right (t ∷ []) ts (entry n text) (Contains-taken_at ts n text (found_later t n text (taken_at ts n) other e))
    ]

pub has_node-flat_map : (f : TakenText → List Node) (ts : List TakenText) (n m : Node) (text : List ℕ) → taken_at ts n ≡ Some text
    → contains_node m (f (entry n text)) ≡ true → contains_node m (flat_map f ts) ≡ true
has_node-flat_map f [] n m text e h = absurd (cc)
has_node-flat_map f (t ∷ ts) n m text e h =
    list_any-append (is_same_node m) (f t) (flat_map f ts)
    ∙ elim (cases_Bool (is_same_node t.node n)) [
      | inl same ↦ or_left (contains_node m (f t)) (contains_node m (flat_map f ts))
          (ap (λ (x : TakenText). contains_node m (f x)) (found_here t n text (taken_at ts n) same e) ∙ h)
      | inr other ↦ or_right (contains_node m (f t)) (contains_node m (flat_map f ts))
          (has_node-flat_map f ts n m text (found_later t n text (taken_at ts n) other e) h)
    ]

-- ---- what a text asks

pub differing_has : (own : RowMap) (n : Node) (text : List ℕ) (k j : ℕ) → j < k → bytes_eq (child_digest text j) (digest_of own (child n j)) ≡ false
    → contains_node (child n j) (differing own n text k) ≡ true
unfolding differing
differing_has own n text zero j lt e = absurd (omega arith)
differing_has own n text (suc k) j lt e =
    let last : List Node = cond (bytes_eq (child_digest text k) (digest_of own (child n k))) [] (child n k ∷ []) in
    list_any-append (is_same_node (child n j)) (differing own n text k) last
    ∙ elim (cases_lt j k) [
      | inl less ↦ or_left (contains_node (child n j) (differing own n text k)) (contains_node (child n j) last) (differing_has own n text k j less e)
      | inr more ↦
          let at : j ≡ k = omega arith in
          or_right (contains_node (child n j) (differing own n text k)) (contains_node (child n j) last)
          (subst (λ (i : ℕ). contains_node (child n j) (cond (bytes_eq (child_digest text i) (digest_of own (child n i))) [] (child n i ∷ [])) ≡ true)
          at
          (ap (λ b. contains_node (child n j) (cond b [] (child n j ∷ []))) e
          ∙ or_left (is_same_node (child n j) (child n j)) false (is_node-same (child n j))))
    ]

-- ---- down to a leaf

abbrev pub at_node : ℕ → ℕ → Node
at_node d i = record { depth = d; index = i }

-- at this node the two trees have one text, or the partner's was taken
abbrev Reached : Walk → RowMap → ℕ → ℕ → ℕ → Type 0
Reached w other h d i = (text_above w.own h i ≡ text_above other h i) ⊎ (taken_at w.taken (at_node d i) ≡ Some (text_above other h i))

-- what the way down rests on
record IsGood (held : List ℕ → List Version) (w : Walk) (other : RowMap) : Type 0 where
  walked : Walked held w
  done : w.state ≡ Finished
  format : other.format ≡ w.own.format
  map : IsRowMap other
  distinct : NoTwoShareADigest w.own other w.taken

abbrev pub levels : Walk → ℕ
levels w = tree_depth w.own.format

own_compared : (w : Walk) (other : RowMap) (h d i : ℕ) → d + h ≡ levels w → i < 16 ^ d → IsCompared w.own other w.taken (text_above w.own h i)
own_compared w other h d i e lt =
    inl (at_node d i, record { shallow = omega (arith, e); within = lt }, ap (λ (k : ℕ). text_above w.own k i) (omega (arith, e)))

other_compared : (w : Walk) (other : RowMap) (h d i : ℕ) → other.format ≡ w.own.format → d + h ≡ levels w → i < 16 ^ d
    → IsCompared w.own other w.taken (text_above other h i)
other_compared w other h d i format e lt =
    let same : tree_depth other.format ≡ levels w = ap tree_depth format in
    inr (inl (at_node d i, record { shallow = omega (arith, e, same); within = lt }, ap (λ (k : ℕ). text_above other k i) (omega (arith, e, same))))

taken_compared : (w : Walk) (other : RowMap) (n : Node) (text : List ℕ) → taken_at w.taken n ≡ Some text → IsCompared w.own other w.taken text
taken_compared w other n text e = inr (inr (entry n text, Contains-taken_at w.taken n text e, refl))

-- a child that was asked was taken, with the partner's text
taken_child : (held : List ℕ → List Version) (w : Walk) (other : RowMap) → IsGood held w other → (h d i : ℕ) → d + h ≡ levels w → i < 16 ^ d
    → contains_node (at_node d i) w.asked ≡ true → expected w.root w.taken (at_node d i) ≡ Some (sha256 (text_above other h i))
    → taken_at w.taken (at_node d i) ≡ Some (text_above other h i)
taken_child held w other good h d i e lt asked due =
    elim (good.walked.answered (at_node d i) asked) [
      | inl is ↦ taken_text (taken_at w.taken (at_node d i)) refl is
      | inr still ↦ absurd (both_ways (contains_node (at_node d i) []) refl (ap (contains_node (at_node d i)) (sym (good.walked.finished good.done))
          ∙ still))
    ]
  where
    some_is : (x y : List ℕ) → (let s : Option (List ℕ) = Some x in s) ≡ Some y → x ≡ y
    some_is x y e = cc

    taken_text : (o : Option (List ℕ)) → taken_at w.taken (at_node d i) ≡ o → is_some o ≡ true
        → taken_at w.taken (at_node d i) ≡ Some (text_above other h i)
    taken_text None at is = absurd (cc)
    taken_text (Some text) at is =
        let digest = (All-taken_at (IsExpectedText w) w.taken (at_node d i) text good.walked.texts at).digest in
        let same : sha256 text ≡ sha256 (text_above other h i) = some_is (sha256 text) (sha256 (text_above other h i)) (sym digest ∙ due) in
        at ∙ ap (λ (x : List ℕ). Some x)
        (good.distinct text (text_above other h i) (taken_compared w other (at_node d i) text at)
        (other_compared w other h d i good.format e lt) same)

-- one step down, to the child through which the leaf is reached
down : (held : List ℕ → List Version) (w : Walk) (other : RowMap) → IsGood held w other → (h d c : ℕ) → d + suc h ≡ levels w → c / 16 < 16 ^ d
    → Reached w other (suc h) d (c / 16) → Reached w other h (suc d) c
down held w other good h d c e lt (inl same) =
    let place : 16 * (c / 16) + c % 16 ≡ c = omega arith in
    let j : c % 16 < 16 = omega arith in
    let digests : sha256 (text_above w.own h (16 * (c / 16) + c % 16)) ≡ sha256 (text_above other h (16 * (c / 16) + c % 16)) =
    sym (child_digest-text w.own h (c / 16) (c % 16) j)
    ∙ (ap (λ (t : List ℕ). child_digest t (c % 16)) same ∙ child_digest-text other h (c / 16) (c % 16) j) in
    let here : sha256 (text_above w.own h c) ≡ sha256 (text_above other h c) = subst
    (λ (k : ℕ). sha256 (text_above w.own h k) ≡ sha256 (text_above other h k)) place digests in
    let deep : suc d + h ≡ levels w = omega (arith, e) in
    let within : c < 16 ^ suc d = omega (arith, lt) in
    inl (good.distinct (text_above w.own h c) (text_above other h c) (own_compared w other h (suc d) c deep within)
    (other_compared w other h (suc d) c good.format deep within) here)
down held w other good h d c e lt (inr taken) =
    let n = at_node d (c / 16) in
    let text = text_above other (suc h) (c / 16) in
    let place : 16 * (c / 16) + c % 16 ≡ c = omega arith in
    let j : c % 16 < 16 = omega arith in
    let deep : suc d + h ≡ levels w = omega (arith, e) in
    let within : c < 16 ^ suc d = omega (arith, lt) in
    let digest : child_digest text (c % 16) ≡ sha256 (text_above other h c) = child_digest-text other h (c / 16) (c % 16) j
    ∙ ap (λ (k : ℕ). sha256 (text_above other h k)) place in
    let own_digest : digest_of w.own (child n (c % 16)) ≡ sha256 (text_above w.own h c) = own_at (levels w - suc d) (16 * (c / 16) + c % 16)
    (omega (arith, e)) place in
    elim (cases_Bool (bytes_eq (child_digest text (c % 16)) (digest_of w.own (child n (c % 16))))) [
      | inl same ↦
          let equal : child_digest text (c % 16) ≡ digest_of w.own (child n (c % 16)) = (bytes_eq-Decides _ _).0 same in
          inl (good.distinct (text_above w.own h c) (text_above other h c) (own_compared w other h (suc d) c deep within)
          (other_compared w other h (suc d) c good.format deep within) (sym own_digest ∙ (sym equal ∙ digest)))
      | inr differs ↦
          let asks_it : contains_node (child n (c % 16)) (asks w.own (entry n text)) ≡ true =
          ap (λ b. contains_node (child n (c % 16)) (cond b (differing w.own n text 16) [])) (lt-ltb d (levels w) (omega (arith, e)))
          ∙ differing_has w.own n text 16 (c % 16) j differs in
          let asked : contains_node (at_node (suc d) c) w.asked ≡ true =
          ap (contains_node (at_node (suc d) c)) good.walked.asked
          ∙ (list_any-append (is_same_node (at_node (suc d) c)) (cond (bytes_eq w.root (root_of w.own)) [] (top ∷ [])) (flat_map (asks w.own) w.taken)
          ∙ or_right (contains_node (at_node (suc d) c) (cond (bytes_eq w.root (root_of w.own)) [] (top ∷ [])))
          (contains_node (at_node (suc d) c) (flat_map (asks w.own) w.taken))
          (subst (λ (k : ℕ). contains_node (at_node (suc d) k) (flat_map (asks w.own) w.taken) ≡ true) place
          (has_node-flat_map (asks w.own) w.taken n (child n (c % 16)) text taken asks_it))) in
          let due : expected w.root w.taken (at_node (suc d) c) ≡ Some (sha256 (text_above other h c)) =
          ap (option_map (λ t. child_digest t (c % 16))) taken ∙ ap (λ (x : List ℕ). Some x) digest in
          inr (taken_child held w other good h (suc d) c deep within asked due)
    ]
  where
    own_at : (k i : ℕ) → k ≡ h → i ≡ c → sha256 (text_above w.own k i) ≡ sha256 (text_above w.own h c)
    own_at k i a b = ap (λ (k : ℕ). sha256 (text_above w.own k i)) a ∙ ap (λ (i : ℕ). sha256 (text_above w.own h i)) b

-- all the way down
to_leaf : (held : List ℕ → List Version) (w : Walk) (other : RowMap) → IsGood held w other → (h d leaf : ℕ) → d + h ≡ levels w → leaf < 16 ^ levels w
    → Reached w other h d (ancestor_of h leaf) → Reached w other zero (levels w) leaf
to_leaf held w other good zero d leaf e lt r = subst (λ (k : ℕ). Reached w other zero k leaf) (omega (arith, e)) r
to_leaf held w other good (suc h) d leaf e lt r =
    let within : ancestor_of (suc h) leaf < 16 ^ d = ancestor_below (suc h) d leaf (subst (λ (n : ℕ). leaf < 16 ^ n) (sym e) lt) in
    to_leaf held w other good h (suc d) leaf (omega (arith, e)) lt (down held w other good h d (ancestor_of h leaf) e within r)

-- at the root
at_root : (held : List ℕ → List Version) (w : Walk) (other : RowMap) → IsGood held w other → root_of other ≡ w.root → Reached w other (levels w) 0 0
at_root held w other good e =
    let same : tree_depth other.format ≡ levels w = ap tree_depth good.format in
    let theirs : sha256 (text_above other (levels w) 0) ≡ w.root = ap (λ (k : ℕ). sha256 (text_above other k 0)) (omega (arith, same)) ∙ e in
    let ours : root_of w.own ≡ sha256 (text_above w.own (levels w) 0) = ap (λ (k : ℕ). sha256 (text_above w.own k 0)) (omega arith) in
    elim (cases_Bool (bytes_eq w.root (root_of w.own))) [
      | inl equal ↦
          inl (good.distinct (text_above w.own (levels w) 0) (text_above other (levels w) 0)
          (own_compared w other (levels w) 0 0 (omega arith) (omega arith))
          (other_compared w other (levels w) 0 0 good.format (omega arith) (omega arith))
          (sym ours ∙ (sym ((bytes_eq-Decides w.root (root_of w.own)).0 equal) ∙ sym theirs)))
      | inr differs ↦
          let asked : contains_node (at_node 0 0) w.asked ≡ true =
          ap (contains_node (at_node 0 0)) good.walked.asked
          ∙ ap (λ b. contains_node (at_node 0 0) (cond b [] (top ∷ []) ++ flat_map (asks w.own) w.taken)) differs in
          inr (taken_child held w other good (levels w) 0 0 (omega arith) (omega arith) asked (ap (λ (x : List ℕ). Some x) (sym theirs)))
    ]

-- ---- the rows

-- what holds of the rows of each leaf holds of all
by_leaves : (P : Row → Type 0) (f : Row → ℕ) (n : ℕ) (rows : List Row) → ((r : Row) → f r < n)
    → ((i : ℕ) → i < n → AllByRecursion P (filter (λ r. eqb (f r) i) rows)) → AllByRecursion P rows
by_leaves P f n [] lt h = tt
by_leaves P f n (r ∷ rows) lt h =
    let at : AllByRecursion P (r ∷ filter (λ x. eqb (f x) (f r)) rows) = subst
    (λ (b : Bool). AllByRecursion P (cond b (r ∷ filter (λ x. eqb (f x) (f r)) rows) (filter (λ x. eqb (f x) (f r)) rows)))
    (eq-eqb (f r) (f r) refl) (h (f r) (lt r)) in
    (at.0, by_leaves P f n rows lt (λ i l. rest (eqb (f r) i) (filter (λ x. eqb (f x) i) rows) (h i l)))
  where
    rest : (b : Bool) (xs : List Row) → AllByRecursion P (cond b (r ∷ xs) xs) → AllByRecursion P xs
    rest true xs h = h.1
    rest false xs h = h

leaf_held : (held : List ℕ → List Version) (w : Walk) (other : RowMap) → IsGood held w other → (leaf : ℕ) → Reached w other zero (levels w) leaf
    → Held (leaf_rows other leaf) held
leaf_held held w other good leaf (inl same) =
    let theirs = leaf_are other good.map leaf in
    let ours = leaf_are w.own good.walked.map leaf in
    let texts : leaf_text w.own.format (leaf_rows w.own leaf) ≡ leaf_text w.own.format (leaf_rows other leaf) =
    sym (leaf_node w.own.format (leaf_in w.own) w.own.rows leaf) ∙ same ∙ leaf_node other.format (leaf_in other) other.rows leaf
    ∙ ap (λ (f : Format). leaf_text f (leaf_rows other leaf)) good.format in
    let equal : leaf_rows w.own leaf ≡ leaf_rows other leaf = same_leaf w.own.format (leaf_rows w.own leaf) (leaf_rows other leaf) ours.each
    (subst (λ (f : Format). AllByRecursion (IsRow f) (leaf_rows other leaf)) good.format theirs.each) texts in
    subst (λ (rs : List Row). Held rs held) equal (all-filter _ _ w.own.rows good.walked.own_held)
leaf_held held w other good leaf (inr taken) =
    let text = text_above other zero leaf in
    let spelled : text ≡ leaf_text w.own.format (leaf_rows other leaf) = leaf_node other.format (leaf_in other) other.rows leaf
    ∙ ap (λ (f : Format). leaf_text f (leaf_rows other leaf)) good.format in
    All-taken_at (IsLeafHeld w.own held) w.taken (at_node (levels w) leaf) text good.walked.rows_held taken refl (leaf_rows other leaf)
    (subst (λ (f : Format). AreRows f (leaf_rows other leaf)) good.format (leaf_are other good.map leaf)) spelled

-- A finished walk holds what the partner's rows had.
pub finished_held : (held : List ℕ → List Version) (w : Walk) (other : RowMap) → Walked held w → w.state ≡ Finished → IsPartners w other
    → NoTwoShareADigest w.own other w.taken → Held other.rows held
finished_held held w other walked done partner distinct =
    let good : IsGood held w other = record { walked = walked; done = done; format = partner.format; map = partner.map; distinct = distinct } in
    let same : tree_depth other.format ≡ levels w = ap tree_depth partner.format in
    by_leaves _ (λ r. leaf_in other r.key) (16 ^ levels w) other.rows
    (λ r. subst (λ (n : ℕ). leaf_in other r.key < 16 ^ n) same (leaf_below other r.key))
    (λ leaf lt.
    let zero_top : ancestor_of (levels w) leaf ≡ 0 = omega
    (arith, ancestor_below (levels w) 0 leaf (subst (λ (n : ℕ). leaf < 16 ^ n) (omega arith) lt)) in
    let start : Reached w other (levels w) 0 (ancestor_of (levels w) leaf) = subst (λ (i : ℕ). Reached w other (levels w) 0 i) (sym zero_top)
    (at_root held w other good partner.root) in
    leaf_held held w other good leaf (to_leaf held w other good (levels w) 0 leaf (omega arith) lt start))

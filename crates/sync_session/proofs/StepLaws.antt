-- A record stays right.
use Rattle.std.proofs.Common.{◌≡◌, ℕ, zero, suc, ◌/◌, ◌%◌, ◌<◌, ◌≤◌, ◌⊎◌, Bool, true, false, not, cond, Option, Some, None, List, [], ◌∷◌, ◌++◌}
use Rattle.std.proofs.Common.{refl, sym, ap, subst, ◌∙◌, inl, inr, append_assoc, append-nil, length, arith}
use Rattle.std.specs.Prelude.{is_some, option_map}
use Rattle.std.specs.List.{flat_map, filter, AllByRecursion}
use Rattle.std.proofs.lemmas.Bool.{cases_Bool, or_left, or_right, or_cases}
use Rattle.std.proofs.lemmas.List.Filters.{length-filter_both}
use Rattle.std.proofs.lemmas.List.Folds.{list_any-append}
use Rattle.std.proofs.lemmas.Grind.{flat_map-append}
use Rattle.row_bytes.specs.declared.row.Row.{Row}
use Rattle.version_set.specs.declared.version.Version.{Version}
use Rattle.version_set.proofs.ListLaws.{all-push}
use Rattle.sync_session.specs.declared.state.SessionState.TheVariants.{Finished}
use Rattle.tree_nodes.specs.Nodes.{Node, is_same_node, contains_node}
use Rattle.snapshot.specs.RowMaps.{RowMap, IsRowMap}
use Rattle.sync_session.specs.Walks.{Walk, TakenText, taken_at, child_digest, expected_at, first_asked, asks, Held, IsLeafHeld, IsCanonical}
use Rattle.sync_session.specs.Walks.{AreSpelled, IsExpectedText, Walked}
use Rattle.sync_session.specs.Steps.{state_by, started, left_after, after, IsDue, Grows}
use Rattle.hash_tree.proofs.TextLaws.{same_leaf}
use Rattle.sync_session.proofs.DescentLaws.{is_node-true, is_node-same}

-- ---- what is covered stays so

pub All-weaker : {X : Type 0} (P Q : X → Type 0) (xs : List X) → ((x : X) → P x → Q x) → AllByRecursion P xs → AllByRecursion Q xs
All-weaker P Q [] f h = tt
All-weaker P Q (x ∷ xs) f h = (f x h.0, All-weaker P Q xs f h.1)

pub Held-grows : (before now : List ℕ → List Version) (rows : List Row) → Grows before now → Held rows before → Held rows now
Held-grows before now rows grows h = All-weaker _ _ rows (λ r each. All-weaker _ _ r.versions (λ v covered. grows v r.key covered) each) h

pub walked_grows : (before now : List ℕ → List Version) (w : Walk) → Grows before now → Walked before w → Walked now w
walked_grows before now w grows h =
    record {
      map = h.map;
      own_held = Held-grows before now w.own.rows grows h.own_held;
      rows_held = All-weaker _ _ w.taken (λ t is leaf rows each spelled. Held-grows before now rows grows (is leaf rows each spelled)) h.rows_held;
      texts = h.texts;
      asked = h.asked;
      answered = h.answered;
      finished = h.finished;
    }

-- the rows that a leaf's text spells are the ones that were accepted
pub spelled_held : (held : List ℕ → List Version) (own : RowMap) (t : TakenText) (rows : List Row) → AreSpelled own t.node t.text rows
    → Held rows held → IsLeafHeld own held t
spelled_held held own t rows is h leaf others are spelled =
    let same : rows ≡ others = same_leaf own.format rows others is.are.each are.each (sym is.text_is ∙ spelled) in
    subst (λ (rs : List Row). Held rs held) same h

-- ---- a new record

state_done : (nodes : List Node) → state_by nodes ≡ Finished → nodes ≡ []
state_done [] e = refl
state_done (n ∷ nodes) e = absurd (cc)

pub walked_started : (held : List ℕ → List Version) (own : RowMap) (offered : List ℕ) → IsRowMap own → Held own.rows held
    → Walked held (started own offered)
walked_started held own offered is h =
    record {
      map = is;
      own_held = h;
      rows_held = tt;
      texts = tt;
      asked = sym (append-nil (first_asked own offered));
      answered = λ n e. inr e;
      finished = state_done (first_asked own offered);
    }

-- ---- a text that is taken

taken_at-stays : (ts us : List TakenText) (n : Node) (text : List ℕ) → taken_at ts n ≡ Some text → taken_at (ts ++ us) n ≡ Some text
taken_at-stays [] us n text e = absurd (cc)
taken_at-stays (t ∷ ts) us n text e = both (is_same_node t.node n) (taken_at-stays ts us n text) e
  where
    both : (b : Bool) → (taken_at ts n ≡ Some text → taken_at (ts ++ us) n ≡ Some text) → cond b (Some t.text) (taken_at ts n) ≡ Some text
        → cond b (Some t.text) (taken_at (ts ++ us) n) ≡ Some text
    both true again e = e
    both false again e = again e

some_stays : (ts us : List TakenText) (n : Node) → is_some (taken_at ts n) ≡ true → is_some (taken_at (ts ++ us) n) ≡ true
some_stays ts us n e = by_case (taken_at ts n) refl e
  where
    by_case : (o : Option (List ℕ)) → taken_at ts n ≡ o → is_some o ≡ true → is_some (taken_at (ts ++ us) n) ≡ true
    by_case None at is = absurd (cc)
    by_case (Some text) at is = ap is_some (taken_at-stays ts us n text at)

taken_now : (ts : List TakenText) (t : TakenText) → is_some (taken_at (ts ++ t ∷ []) t.node) ≡ true
taken_now [] t = ap (λ b. is_some (cond b (Some t.text) None)) (is_node-same t.node)
taken_now (u ∷ ts) t = either (is_same_node u.node t.node) (taken_now ts t)
  where
    either : (b : Bool) → is_some (taken_at (ts ++ t ∷ []) t.node) ≡ true → is_some (cond b (Some u.text) (taken_at (ts ++ t ∷ []) t.node)) ≡ true
    either true h = refl
    either false h = h

expected_stays : (offered : List ℕ) (ts us : List TakenText) (d i : ℕ) (x : List ℕ) → expected_at offered ts d i ≡ Some x
    → expected_at offered (ts ++ us) d i ≡ Some x
expected_stays offered ts us zero i x e = e
expected_stays offered ts us (suc d) i x e = by_case (taken_at ts parent) refl e
  where
    parent : Node
    parent = record { depth = d; index = i / 16 }

    by_case : (o : Option (List ℕ)) → taken_at ts parent ≡ o → option_map (λ t. child_digest t (i % 16)) o ≡ Some x
        → option_map (λ t. child_digest t (i % 16)) (taken_at (ts ++ us) parent) ≡ Some x
    by_case None at e = absurd (cc)
    by_case (Some text) at e = ap (option_map (λ t. child_digest t (i % 16))) (taken_at-stays ts us parent text at) ∙ e

-- what is still outstanding
kept : (nodes : List Node) (n m : Node) → is_same_node m n ≡ false → contains_node m nodes ≡ true
    → contains_node m (filter (λ x. not (is_same_node x n)) nodes) ≡ true
kept [] n m other h = h
kept (x ∷ nodes) n m other h =
    elim (or_cases (is_same_node m x) (contains_node m nodes) h) [
      | inl here ↦
          let stays : is_same_node x n ≡ false = subst (λ (y : Node). is_same_node y n ≡ false) (is_node-true m x here) other in
          ap (λ b. contains_node m (cond (not b) (x ∷ filter (λ x. not (is_same_node x n)) nodes) (filter (λ x. not (is_same_node x n)) nodes))) stays
          ∙ or_left (is_same_node m x) (contains_node m (filter (λ x. not (is_same_node x n)) nodes)) here
      | inr later ↦ pick (not (is_same_node x n)) (filter (λ x. not (is_same_node x n)) nodes) (kept nodes n m other later)
    ]
  where
    pick : (b : Bool) (ys : List Node) → contains_node m ys ≡ true → contains_node m (cond b (x ∷ ys) ys) ≡ true
    pick true ys h = or_right (is_same_node m x) (contains_node m ys) h
    pick false ys h = h

-- a filtered list is no longer, and a list is shorter without a node that it has
few : (p : Node → Bool) (nodes : List Node) → length (filter p nodes) ≤ length nodes
few p nodes = omega (arith, length-filter_both p (λ x. not (p x)) (λ x. refl) nodes)

pub fewer : (nodes : List Node) (n : Node) → contains_node n nodes ≡ true → length (filter (λ x. not (is_same_node x n)) nodes) < length nodes
fewer [] n h = absurd (cc)
fewer (x ∷ nodes) n h =
    let rest = filter (λ y. not (is_same_node y n)) nodes in
    elim (or_cases (is_same_node n x) (contains_node n nodes) h) [
      | inl here ↦
          let gone : is_same_node x n ≡ true = subst (λ (y : Node). is_same_node y n ≡ true) (is_node-true n x here) (is_node-same n) in
          without (not (is_same_node x n)) rest (ap not gone) (few (λ y. not (is_same_node y n)) nodes)
      | inr later ↦ maybe_with (not (is_same_node x n)) rest (fewer nodes n later)
    ]
  where
    without : (b : Bool) (ys : List Node) → b ≡ false → length ys ≤ length nodes → length (cond b (x ∷ ys) ys) < length (x ∷ nodes)
    without true ys e short = absurd (cc)
    without false ys e short = omega (arith, short)

    maybe_with : (b : Bool) (ys : List Node) → length ys < length nodes → length (cond b (x ∷ ys) ys) < length (x ∷ nodes)
    maybe_with true ys short = omega (arith, short)
    maybe_with false ys short = omega (arith, short)

answered_after : (held : List ℕ → List Version) (w : Walk) (t : TakenText) → Walked held w → (n : Node)
    → contains_node n (w.asked ++ asks w.own t) ≡ true → (is_some (taken_at (w.taken ++ t ∷ []) n) ≡ true) ⊎ (contains_node n (left_after w t) ≡ true)
answered_after held w t h n e =
    let rest = filter (λ x. not (is_same_node x t.node)) w.outstanding in
    elim (or_cases (contains_node n w.asked) (contains_node n (asks w.own t)) (sym (list_any-append (is_same_node n) w.asked (asks w.own t)) ∙ e)) [
      | inl before ↦ elim (h.answered n before) [
        | inl taken ↦ inl (some_stays w.taken (t ∷ []) n taken)
        | inr out ↦ elim (cases_Bool (is_same_node n t.node)) [
          | inl same ↦ inl (subst (λ (m : Node). is_some (taken_at (w.taken ++ t ∷ []) m) ≡ true) (sym (is_node-true n t.node same))
              (taken_now w.taken t))
          | inr other ↦ inr (list_any-append (is_same_node n) rest (asks w.own t)
              ∙ or_left (contains_node n rest) (contains_node n (asks w.own t)) (kept w.outstanding t.node n other out))
        ]
      ]
      | inr new ↦ inr (list_any-append (is_same_node n) rest (asks w.own t) ∙ or_right (contains_node n rest) (contains_node n (asks w.own t)) new)
    ]

pub walked_after : (held : List ℕ → List Version) (w : Walk) (t : TakenText) → Walked held w → IsDue w t → IsCanonical w.own t.node t.text
    → IsLeafHeld w.own held t → Walked held (after w t)
walked_after held w t h due canonical is_held =
    record {
      map = h.map;
      own_held = h.own_held;
      rows_held = all-push _ w.taken t h.rows_held is_held;
      texts = all-push (IsExpectedText (after w t)) w.taken t
          (All-weaker (IsExpectedText w) (IsExpectedText (after w t)) w.taken
          (λ u is. record { canonical = is.canonical; digest = expected_stays w.root w.taken (t ∷ []) u.node.depth u.node.index _ is.digest })
          h.texts)
          (record { canonical = canonical; digest = expected_stays w.root w.taken (t ∷ []) t.node.depth t.node.index _ due.digest });
      asked =
          let first = first_asked w.own w.root in
          ap (λ (xs : List Node). xs ++ asks w.own t) h.asked
          ∙ (append_assoc first (flat_map (asks w.own) w.taken) (asks w.own t)
          ∙ ap (λ (xs : List Node). first ++ xs) (ap (λ (xs : List Node). flat_map (asks w.own) w.taken ++ xs) (sym (append-nil (asks w.own t)))
          ∙ sym (flat_map-append (asks w.own) w.taken (t ∷ []))));
      answered = answered_after held w t h;
      finished = state_done (left_after w t);
    }

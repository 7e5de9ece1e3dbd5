-- Making nodes clean, one after another, until all are.
use Rattle.std.proofs.Common.{◌≡◌, ℕ, zero, suc, ◌+◌, ◌*◌, ◌-◌, ◌^◌, ◌<◌, ◌≤◌, Bool, true, false, cond, is_some, is_none, ◌&&◌, Option, Some, None}
use Rattle.std.proofs.Common.{List, [], ◌∷◌, ◌++◌, length, take, drop, map, set, get_or, refl, sym, ap, subst, ◌∙◌, arith, inl, inr, Contains}
use Rattle.std.specs.Prelude.{nat_eq, IsTrue}
use Rattle.std.specs.List.{All, range_with_len}
use Rattle.std.specs.Cmp.Lexicographic.{pointwise}
use Rattle.std.proofs.lemmas.Bool.{cases_eq}
use Rattle.std.proofs.lemmas.Cmp.{nat_list_eq_equiv}
use Rattle.std.proofs.lemmas.List.{get_or-set_same, get_or-set_other, get_or_default, get_or-take, get_or-drop, get_or-map, length-set, length-take}
use Rattle.std.proofs.lemmas.List.{length-drop, length-map, take-append-drop, drop-drop, map_more}
use Rattle.std.proofs.lemmas.List.Elements.{All-take, All-filter, All-get_or, All-from_get_or, Contains-append_left, Contains-push}
use Rattle.std.proofs.lemmas.List.Elements.{Contains-push_cases}
use Rattle.std.proofs.lemmas.Simd.{map-map}
use Rattle.std.proofs.lemmas.List.FromFn.{fill_by_all, length-range_with_len, get_or-range_with_len}
use Rattle.std.proofs.lemmas.List.Sums.{list_all-from_AllPass, length-filter, sum_by-set}
use Rattle.sha2.specs.Sha256.{sha256}
use Rattle.tree_nodes.specs.Nodes.{Node, place_of, tree_depth, nodes_above, node_count, place_at, kept_digest, children_of, are_clean, dirty_count}
use Rattle.tree_nodes.specs.Nodes.{is_ready, ready_from}
use Rattle.hash_tree.specs.Texts.{node_digest}
use Rattle.hash_tree.proofs.KeyLaws.{all_get}
use Rattle.tree_nodes.proofs.PlaceLaws.{above_more, above_below, node_count_is}
use Rattle.tree_nodes.proofs.TreeLaws.{child_at, clean_child}
use Rattle.tree_nodes.proofs.ReadyLaws.{ready_parts, none_ready}
use Rattle.hash_tree.proofs.DigestLaws.{clean_all}
use Rattle.rehash.specs.Jobs.{NodeText}
use Rattle.snapshot.specs.RowMaps.{leaf_in}
use Rattle.range_tree.specs.Trees.{RangeTree, IsRangeTree}
use Rattle.range_tree.specs.Jobs.{IsJob, AreJobs, has_node, text_in, is_current, installed}
use Rattle.range_tree.specs.Rehashes.{level_digests, digests_below, rehashed, HasHashed, IsSameTree}

abbrev Marks : Type 0
Marks = List (Option (List ℕ))

abbrev no_digest : Option (List ℕ)
no_digest = None

-- a tree with dirty nodes is not clean
pub some_dirty : (ds : Marks) → 0 < dirty_count ds → are_clean ds ≡ false
some_dirty [] h = absurd (omega arith)
some_dirty (None ∷ ds) h = refl
some_dirty (Some d ∷ ds) h = some_dirty ds h

-- ---- one more clean node

-- how many nodes are dirty after a digest was set
dirty-set : (marks : Marks) (place : ℕ) (d : List ℕ) → place < length marks
    → dirty_count (set marks place (Some d)) + cond (is_none (kept_digest marks place)) 1 0 ≡ dirty_count marks
dirty-set marks place d within =
    let old = length-filter is_none marks in
    let new = length-filter is_none (set marks place (Some d)) in
    let one = sum_by-set (λ (o : Option (List ℕ)). cond (is_none o) 1 0) marks place (Some d) None within in
    omega (arith, old, new, one)

dirty_no_more : (marks : Marks) (place : ℕ) (d : List ℕ) → place < length marks → dirty_count (set marks place (Some d)) ≤ dirty_count marks
dirty_no_more marks place d within = omega (arith, dirty-set marks place d within)

dirty_fewer : (marks : Marks) (place : ℕ) (d : List ℕ) → place < length marks → kept_digest marks place ≡ None
    → dirty_count (set marks place (Some d)) < dirty_count marks
dirty_fewer marks place d within dirty =
    let one : ◌≡◌ {A = ℕ} (cond (is_none (kept_digest marks place)) 1 0) 1 = ap (λ (o : Option (List ℕ)). cond (is_none o) 1 0) dirty in
    omega (arith, one, dirty-set marks place d within)

-- a clean node stays clean
clean-set : (marks : Marks) (place other : ℕ) (d : List ℕ) → other < length marks → is_some (kept_digest marks other) ≡ true
    → is_some (kept_digest (set marks place (Some d)) other) ≡ true
clean-set marks place other d inside was = elim (cases_eq other place) [
  | inl here ↦ ap (λ (o : Option (List ℕ)). is_some o) (ap (λ (p : ℕ). kept_digest (set marks place (Some d)) p) here
      ∙ get_or-set_same marks place (Some d) None (omega (arith, here)))
  | inr elsewhere ↦ ap (λ (o : Option (List ℕ)). is_some o) (get_or-set_other marks place other (Some d) None elsewhere) ∙ was
]

-- clean children stay clean
children-set : (marks : Marks) (place other : ℕ) (d : List ℕ) → are_clean (children_of marks other) ≡ true
    → are_clean (children_of (set marks place (Some d)) other) ≡ true
children-set marks place other d clean =
    let new = set marks place (Some d) in
    list_all-from_AllPass is_some (children_of new other) (λ j e less.
    let sixteen : j < 16 = omega (arith, length-take 16 (drop (16 * other + 1) new)) in
    let inside : 16 * other + 1 + j < length marks = omega
    (arith, length-take 16 (drop (16 * other + 1) new), length-drop (16 * other + 1) new, length-set marks place (Some d)) in
    subst (λ (o : Option (List ℕ)). is_some o ≡ true) (sym (child_at new other j sixteen) ∙ get_or_default (children_of new other) j None e less)
    (clean-set marks place (16 * other + 1 + j) d inside (clean_child marks other j clean sixteen inside)))

middle : (a b c d : Bool) → (b ≡ true → d ≡ true) → (a && b && c) ≡ true → (a && d && c) ≡ true
middle true true true d f h = rw (f refl) refl
middle true true false d f h = absurd (let no : false ≡ true = h in cc)
middle true false c d f h = absurd (let no : false ≡ true = h in cc)
middle false b c d f h = absurd (let no : false ≡ true = h in cc)

-- A text that was a node's still is, once some node is clean.
pub still_current : (s : RangeTree) (node other : Node) (text digested : List ℕ) → is_current s node text ≡ true
    → is_current (installed s other digested) node text ≡ true
still_current s node other text digested current =
    let new = set s.marks (place_of other) (Some (sha256 digested)) in
    middle (has_node s node) (are_clean (children_of s.marks (place_of node))) (pointwise nat_eq text (text_in s node))
    (are_clean (children_of new (place_of node)))
    (children-set s.marks (place_of other) (place_of node) (sha256 digested)) current

-- ---- making nodes clean, one after another

-- the state after that many of the nodes
pub record IsCleaning (start : RangeTree) (nodes : List Node) (texts : List (List ℕ)) (done : ℕ) (s : RangeTree) : Type 0 where
  pub hashed : HasHashed (map place_of (take done nodes)) start s
  pub long : length s.marks ≡ length start.marks
  pub current : (i : ℕ) (node : Node) (text : List ℕ) → i < length nodes → IsTrue (is_current s (get_or nodes i node) (get_or texts i text))
  pub none : done ≡ 0 → s ≡ start
  pub fewer : 0 < done → dirty_count s.marks < dirty_count start.marks

-- a clean node is another one than a dirty one
elsewhere : (marks : Marks) (dirty clean : ℕ) (d : List ℕ) → kept_digest marks dirty ≡ None → kept_digest marks clean ≡ Some d → clean ≡ dirty → ⊥
elsewhere marks dirty clean d none some same = let clash : no_digest ≡ Some d = sym none ∙ ap (kept_digest marks) (sym same) ∙ some in cc

-- a clean node is in the tree
clean-inside : (marks : Marks) (place : ℕ) → is_some (kept_digest marks place) ≡ true → place < length marks
clean-inside [] place clean = absurd (let no : false ≡ true = clean in cc)
clean-inside (m ∷ ms) zero clean = omega arith
clean-inside (m ∷ ms) (suc place) clean = omega (arith, clean-inside ms place clean)

hashed_next : (places : List ℕ) (start s : RangeTree) (node : Node) (text : List ℕ) → HasHashed places start s → length s.marks ≡ length start.marks
    → place_of node < length start.marks → kept_digest start.marks (place_of node) ≡ None
    → HasHashed (places ++ place_of node ∷ []) start (installed s node text)
hashed_next places start s node text was long within dirty =
    let here = place_of node in
    let new = set s.marks here (Some (sha256 text)) in
    record {
      same = record {
        map = was.same.map;
        kept = λ place d h. get_or-set_other s.marks here place (Some (sha256 text)) None (elsewhere start.marks here place d dirty h)
            ∙ was.same.kept place d h;
      };
      clean = λ place h. elim (Contains-push_cases places here place h) [
        | inl old ↦ clean-set s.marks here place (sha256 text) (clean-inside s.marks place (was.clean place old)) (was.clean place old)
        | inr now ↦ ap (λ (o : Option (List ℕ)). is_some o)
            (ap (λ (p : ℕ). kept_digest new p) (sym now) ∙ get_or-set_same s.marks here (Some (sha256 text)) None (omega (arith, long)))
      ];
      others = λ place h. get_or-set_other s.marks here place (Some (sha256 text)) None
          (λ e. h (subst (λ (p : ℕ). Contains (places ++ here ∷ []) p) (sym e) (Contains-push places here)))
          ∙ was.others place (λ old. h (Contains-append_left places (here ∷ []) place old));
    }

pub cleaning_next : (start : RangeTree) (nodes : List Node) (texts : List (List ℕ)) (done : ℕ) (s t : RangeTree) (node : Node) (text : List ℕ)
    → IsCleaning start nodes texts done s → done < length nodes → get_or nodes done node ≡ node
    → place_of node < length start.marks → kept_digest start.marks (place_of node) ≡ None → t ≡ installed s node text
    → IsCleaning start nodes texts (done + 1) t
cleaning_next start nodes texts done s t node text was less at within dirty is =
    let places : map place_of (take done nodes) ++ place_of node ∷ [] ≡ map place_of (take (done + 1) nodes) =
    ap (λ (n : Node). map place_of (take done nodes) ++ place_of n ∷ []) (sym at) ∙ sym (map_more place_of nodes done node less) in
    subst (λ (u : RangeTree). IsCleaning start nodes texts (done + 1) u) (sym is) (record {
      hashed = subst (λ (xs : List ℕ). HasHashed xs start (installed s node text)) places
          (hashed_next (map place_of (take done nodes)) start s node text was.hashed was.long within dirty);
      long = length-set s.marks (place_of node) (Some (sha256 text)) ∙ was.long;
      current = λ i n u less. still_current s (get_or nodes i n) node (get_or texts i u) text (was.current i n u less);
      none = λ e. absurd (omega arith);
      fewer = λ less. elim (cases_eq done 0) [
        | inl first ↦ subst (λ (m : Marks). dirty_count (set m (place_of node) (Some (sha256 text))) < dirty_count start.marks)
            (sym (ap (λ (u : RangeTree). u.marks) (was.none first))) (dirty_fewer start.marks (place_of node) (sha256 text) within dirty)
        | inr later ↦
            let fewer : dirty_count s.marks < dirty_count start.marks = was.fewer (omega arith) in
            omega (arith, fewer, dirty_no_more s.marks (place_of node) (sha256 text) (omega (arith, was.long)))
      ];
    })

-- ---- jobs

-- A job's text is current.
job_current : (s : RangeTree) (job : NodeText) → IsJob s job → is_current s job.node job.text ≡ true
job_current s job is =
    let children = (ready_parts s.marks (place_of job.node) is.ready).1 in
    let same : pointwise nat_eq job.text (text_in s job.node) ≡ true = subst (λ (t : List ℕ). pointwise nat_eq job.text t ≡ true) is.text
    (nat_list_eq_equiv.refl job.text) in
    rw (is.has, children, same) refl

-- The jobs' texts are current.
pub jobs_current : (s : RangeTree) (most : ℕ) (jobs : List NodeText) (nodes : List Node) (texts : List (List ℕ)) → AreJobs s most jobs
    → nodes ≡ map (λ (job : NodeText). job.node) jobs → texts ≡ map (λ (job : NodeText). job.text) jobs
    → (i : ℕ) (node : Node) (text : List ℕ) → i < length nodes → is_current s (get_or nodes i node) (get_or texts i text) ≡ true
jobs_current s most jobs nodes texts are ns ts i node text less =
    let job : NodeText = record { node = node; text = text } in
    let within : i < length jobs = omega (arith, ap (λ (xs : List Node). length xs) ns, length-map jobs (λ (j : NodeText). j.node)) in
    let n : get_or nodes i node ≡ (get_or jobs i job).node = ap (λ (xs : List Node). get_or xs i node) ns
    ∙ get_or-map (λ (j : NodeText). j.node) jobs i job node within in
    let t : get_or texts i text ≡ (get_or jobs i job).text = ap (λ (xs : List (List ℕ)). get_or xs i text) ts
    ∙ get_or-map (λ (j : NodeText). j.text) jobs i job text within in
    (λ k. is_current s (n k) (t k)) ∙ job_current s (get_or jobs i job) (all_get (IsJob s) jobs i job are.each within)

ready_within : (marks : Marks) (most : ℕ) → All (λ (place : ℕ). place < length marks) (take most (ready_from marks 0))
ready_within marks most =
    let P = λ (place : ℕ). place < length marks in
    let places = range_with_len 0 (length marks - 0) in
    All-take P most (ready_from marks 0) (All-filter (is_ready marks) P places (All-from_get_or P places 0 (λ i less.
    let short : i < length marks - 0 = omega (arith, length-range_with_len 0 (length marks - 0)) in
    omega (arith, get_or-range_with_len 0 (length marks - 0) i 0 short))))

-- The jobs' nodes are dirty nodes of the tree.
pub jobs_dirty : (s : RangeTree) (most : ℕ) (jobs : List NodeText) (nodes : List Node) → AreJobs s most jobs
    → nodes ≡ map (λ (job : NodeText). job.node) jobs
    → (i : ℕ) (node : Node) → i < length nodes → (place_of (get_or nodes i node) < length s.marks)
    × (kept_digest s.marks (place_of (get_or nodes i node)) ≡ None)
jobs_dirty s most jobs nodes are ns i node less =
    let job : NodeText = record { node = node; text = [] } in
    let places = take most (ready_from s.marks 0) in
    let within : i < length jobs = omega (arith, ap (λ (xs : List Node). length xs) ns, length-map jobs (λ (j : NodeText). j.node)) in
    let n : get_or nodes i node ≡ (get_or jobs i job).node = ap (λ (xs : List Node). get_or xs i node) ns
    ∙ get_or-map (λ (j : NodeText). j.node) jobs i job node within in
    let short : i < length places = omega (arith, ap (λ (xs : List ℕ). length xs) are.nodes, length-map jobs (λ (j : NodeText). place_of j.node)) in
    let place : place_of (get_or nodes i node) ≡ get_or places i 0 = ap place_of n
    ∙ sym (get_or-map (λ (j : NodeText). place_of j.node) jobs i job 0 within) ∙ ap (λ (xs : List ℕ). get_or xs i 0) are.nodes in
    let here : get_or places i 0 < length s.marks = All-get_or (λ (p : ℕ). p < length s.marks) places i 0 short (ready_within s.marks most) in (
      omega (arith, place, here),
      ap (λ (x : Node). kept_digest s.marks (place_of x)) n
          ∙ (ready_parts s.marks (place_of (get_or jobs i job).node) (all_get (IsJob s) jobs i job are.each within).ready).0,
    )

-- The places of the jobs' nodes.
pub jobs_places : (s t : RangeTree) (most : ℕ) (jobs : List NodeText) (nodes : List Node) → AreJobs s most jobs
    → nodes ≡ map (λ (job : NodeText). job.node) jobs → HasHashed (map place_of nodes) s t → HasHashed (take most (ready_from s.marks 0)) s t
jobs_places s t most jobs nodes are ns was =
    subst (λ (places : List ℕ). HasHashed places s t) (ap (map place_of) ns ∙ map-map place_of (λ (job : NodeText). job.node) jobs ∙ are.nodes) was

-- If there is no job, all nodes are clean.
pub no_jobs : (s : RangeTree) (most : ℕ) (jobs : List NodeText) → AreJobs s most jobs → 0 < most → length jobs ≡ 0 → are_clean s.marks ≡ true
no_jobs s most jobs are some none =
    let short : length (take most (ready_from s.marks 0)) ≡ 0 = ap (λ (xs : List ℕ). length xs) (sym are.nodes)
    ∙ length-map jobs (λ (j : NodeText). place_of j.node) ∙ none in
    none_ready s.marks (nil (ready_from s.marks 0) (omega (arith, short, length-take most (ready_from s.marks 0))))
  where
    nil : (xs : List ℕ) → length xs ≡ 0 → xs ≡ []
    nil [] e = refl
    nil (x ∷ xs) e = absurd (omega arith)

-- A round makes some node clean, or all are.
pub fewer : (was now : Marks) (any : Bool) → (any ≡ true → dirty_count now < dirty_count was) → (any ≡ false → are_clean now ≡ true)
    → 0 < dirty_count was → dirty_count now < dirty_count was
fewer was now true more none some = more refl
fewer was now false more none some = elim (cases_eq (dirty_count now) 0) [
  | inl all ↦ omega (arith, all, some)
  | inr other ↦ absurd (let clash : true ≡ false = sym (none refl) ∙ some_dirty now (omega arith) in cc)
]

-- ---- all nodes clean

-- from a depth down, the digests are those of the nodes' texts
levels : (s : RangeTree) (marks : Marks) → length marks ≡ node_count s.map.format
    → ((depth height index : ℕ) → depth + height ≡ tree_depth s.map.format → index < 16 ^ depth
    → kept_digest marks (place_at depth index) ≡ Some (node_digest s.map.format (leaf_in s.map) (s.map.rows) height index))
    → (height depth : ℕ) → depth + height ≡ tree_depth s.map.format → drop (nodes_above depth) marks ≡ digests_below s.map depth height
unfolding digests_below
levels s marks all are zero depth sum =
    let rest = drop (nodes_above depth) marks in
    let last : nodes_above (suc (tree_depth s.map.format)) ≡ nodes_above (suc depth) = ap (λ (d : ℕ). nodes_above (suc d)) (omega arith) in
    fill_by_all (λ (index : ℕ). Some (node_digest s.map.format (leaf_in s.map) (s.map.rows) zero index)) rest (16 ^ depth) None
    (omega (arith, length-drop (nodes_above depth) marks, node_count_is s.map.format, last, above_more depth))
    (λ k less. get_or-drop (nodes_above depth) marks k None ∙ are depth zero k sum less)
levels s marks all are (suc height) depth sum =
    let rest = drop (nodes_above depth) marks in
    let level = take (16 ^ depth) rest in
    let below : nodes_above depth + 16 ^ depth ≤ node_count s.map.format = omega
    (arith, node_count_is s.map.format, above_below depth (suc (tree_depth s.map.format)) (omega arith)) in
    let here : level ≡ level_digests s.map depth (suc height) =
    fill_by_all (λ (index : ℕ). Some (node_digest s.map.format (leaf_in s.map) (s.map.rows) (suc height) index)) level (16 ^ depth) None
    (omega (arith, length-take (16 ^ depth) rest, length-drop (nodes_above depth) marks, below, all))
    (λ k less. get_or-take (16 ^ depth) rest k None less ∙ get_or-drop (nodes_above depth) marks k None ∙ are depth (suc height) k sum less) in
    let next : drop (16 ^ depth) rest ≡ digests_below s.map (suc depth) height =
    drop-drop (16 ^ depth) (nodes_above depth) marks ∙ ap (λ (n : ℕ). drop n marks) (sym (above_more depth))
    ∙ levels s marks all are height (suc depth) (omega arith) in
    sym (take-append-drop (16 ^ depth) rest) ∙ (λ i. here i ++ next i)

-- A tree whose nodes are all clean is as if rehashed.
pub all_rehashed : (s t : RangeTree) → IsSameTree s t → IsRangeTree t → are_clean t.marks ≡ true → t ≡ rehashed s
all_rehashed s t same right clean =
    let moved : t ≡ record { map = s.map; marks = t.marks } = λ i. record { map = same.map i; marks = t.marks } in
    let here = (subst IsRangeTree moved right).marks in
    let marks : t.marks ≡ digests_below s.map 0 (tree_depth s.map.format) =
    levels s t.marks here.tree.all (clean_all s.map.format (leaf_in s.map) s.map.rows t.marks here.digests here.tree.all clean)
    (tree_depth s.map.format) 0 (omega arith) in
    moved ∙ ap (λ (m : Marks). record { map = s.map; marks = m }) marks

pub same_trans : (s t u : RangeTree) → IsSameTree s t → IsSameTree t u → IsSameTree s u
same_trans s t u a b = record { map = b.map ∙ a.map; kept = λ place d h. b.kept place d (a.kept place d h) }

use Rattle.std.proofs.Common.{rules, ◌≡◌, ◌<◌, ℕ, get_or, None, true, length, map, arith, sym, subst, ap, ◌∙◌}
use Rattle.std.proofs.lemmas.Bool.{eqb-true, not-false}
use Rattle.std.proofs.lemmas.List.{length-map}
use Rattle.std.specs.Vec.{vec_len}
use Rattle.tree_nodes.specs.Nodes.{Node, place_of, are_clean, kept_digest}
use Rattle.rehash.specs.Jobs.{NodeText}
use Rattle.range_tree.specs.Trees.{RangeTree}
use Rattle.range_tree.proofs.CleaningLaws.{jobs_current, jobs_dirty, jobs_places, no_jobs}
use Rattle.range_tree.proofs.tree.Tree.rehash_ready.Goals as goal
use Rattle.range_tree.proofs.tree.Tree.rehash_ready.Goals.{After-deref-2}

-- the nodes are those of the jobs
nodes : (g : _) (c : After-deref-2 g) → c.deref-2.result.now ≡ map (λ (job : NodeText). job.node) c.in_ok-jobs.jobs.items
nodes g c = search rules

pub make_all_clean-requires-clause-current : goal.make_all_clean-requires-clause-current
make_all_clean-requires-clause-current g c =
    let jobs = c.in_ok-jobs.jobs.items in
    let texts : c.deref-3.result.now ≡ map (λ (job : NodeText). job.text) jobs = search rules in
    jobs_current c.args.self.now c.args.most jobs c.deref-2.result.now c.deref-3.result.now c.in_ok-jobs.ensures.1
    (nodes g (goal.at.make_all_clean-requires-clause-current g c).After-deref-2) texts

dirty : (g : _) (c : After-deref-2 g) (i : ℕ) (node : Node) → i < length c.deref-2.result.now
    → (place_of (get_or c.deref-2.result.now i node) < length c.args.self.now.marks)
    × (kept_digest c.args.self.now.marks (place_of (get_or c.deref-2.result.now i node)) ≡ None)
dirty g c = jobs_dirty c.args.self.now c.args.most c.in_ok-jobs.jobs.items c.deref-2.result.now c.in_ok-jobs.ensures.1 (nodes g c)

pub make_all_clean-requires-clause-has : goal.make_all_clean-requires-clause-has
make_all_clean-requires-clause-has g c = λ i node less. (dirty g (goal.at.make_all_clean-requires-clause-has g c).After-deref-2 i node less).0

pub make_all_clean-requires-clause-dirty : goal.make_all_clean-requires-clause-dirty
make_all_clean-requires-clause-dirty g c = λ i node less. (dirty g (goal.at.make_all_clean-requires-clause-dirty g c).After-deref-2 i node less).1

pub returns-clause-none : goal.returns-clause-none
returns-clause-none g c = λ empty some.
    let jobs = c.in_ok-jobs.jobs.items in
    let len : vec_len c.in_ok-nodes.nodes ≡ 0 = eqb-true (vec_len c.in_ok-nodes.nodes) 0
    (sym c.is_empty.ensures ∙ not-false c.is_empty.result empty) in
    let none : length c.deref-2.result.now ≡ 0 = search rules in
    let no_job : length jobs ≡ 0 = omega
    (arith, ap length (nodes g (goal.at.returns-clause-none g c).After-deref-2), length-map jobs (λ (job : NodeText). job.node)) in
    subst (λ (s : RangeTree). are_clean s.marks ≡ true) (sym (c.make_all_clean.ensures.none none))
    (no_jobs c.args.self.now c.args.most jobs c.in_ok-jobs.ensures.1 some no_job)

pub returns-clause-ok : goal.returns-clause-ok
returns-clause-ok g c =
    jobs_places c.args.self.now c.make_all_clean.new.self c.args.most c.in_ok-jobs.jobs.items c.deref-2.result.now c.in_ok-jobs.ensures.1
    (nodes g (goal.at.returns-clause-ok g c).After-deref-2) c.make_all_clean.ensures.hashed

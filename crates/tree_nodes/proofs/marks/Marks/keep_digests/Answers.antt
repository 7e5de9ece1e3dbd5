use Rattle.std.proofs.Common.{◌≡◌, Bool, Some, None, map, cond, sym, subst}
use Rattle.vclock.specs.declared.refusal.Refusal.TheVariants.{Dirty}
use Rattle.vclock.specs.Answer.{Answers}
use Rattle.tree_nodes.proofs.CopyLaws.{all_clean}
use Rattle.tree_nodes.proofs.marks.Marks.keep_digests.Goals as goal

pub keep_clean-requires-clause-clean : goal.keep_clean-requires-clause-clean
keep_clean-requires-clause-clean c =
    let s = c.self.inside in
    all_clean (record { format = s.format; digests = s.digests.items }) c.args.self.now s.clean s.blocks.items s.whole c.index.result.now
    c.in-Some.root c.self.view_is c.self.invariant c.index.ensures c.in-Some.is

pub returns-in-Some-clause-digests : goal.returns-in-Some-clause-digests
returns-in-Some-clause-digests c =
    let s = c.self.inside in
    let clean = all_clean (record { format = s.format; digests = s.digests.items }) c.args.self.now s.clean s.blocks.items s.whole c.index.result.now
    c.in-Some.root c.self.view_is c.self.invariant c.index.ensures c.in-Some.is in
    subst (λ (b : Bool). Answers c.keep_clean.result (cond b None (Some Dirty)) (λ ds. map Some ds ≡ c.args.self.now.digests))
    (sym clean) c.keep_clean.ensures.digests

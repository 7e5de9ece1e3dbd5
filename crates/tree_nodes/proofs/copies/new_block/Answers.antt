use Rattle.std.proofs.Common.{◌≡◌, ℕ, List, Option, None, Result, Ok, Err, false, sym, ap, subst, ◌∙◌}
use Rattle.std.proofs.lemmas.Bool.{both_ways}
use Rattle.vclock.specs.Answer.{Answers}
use Rattle.vclock.specs.declared.refusal.Refusal.{Refusal}
use Rattle.tree_nodes.specs.Blocks.{IsCopy}
use Rattle.tree_nodes.specs.Nodes.{are_clean, children_of}
use Rattle.tree_nodes.proofs.CopyLaws.{clean_children, copy_of}
use Rattle.tree_nodes.proofs.copies.new_block.Goals as goal

pub unreachable-requires : goal.unreachable-requires
unreachable-requires c =
    let no : are_clean (children_of c.args.digests.now c.args.place) ≡ false = ap are_clean (sym c.children_at.ensures) ∙ c.in_default.ensures in
    both_ways (are_clean (children_of c.args.digests.now c.args.place)) no (clean_children c.args.digests.now c.args.place c.requires.clean)

-- a block of these digests is a copy
copied : (digests : List (Option (List ℕ))) (place : ℕ) (r : Result (List (List ℕ)) Refusal) (is : List (List ℕ))
    → Answers r None (λ block. block ≡ is) → IsCopy digests place is → Answers r None (IsCopy digests place)
copied digests place (Ok block) is made copy = (made.0, subst (IsCopy digests place) (sym made.1) copy)
copied digests place (Err e) is made copy = made

pub returns : goal.returns
returns c =
    let copy = copy_of c.args.digests.now c.args.place c.in-Some.digests c.requires.within (sym c.children_at.ensures ∙ c.in-Some.ensures) in
    copied c.args.digests.now c.args.place c.new.result c.in-Some.digests c.new.ensures copy

use Rattle.std.proofs.Common.{◌≡◌, ◌-◌, ◌≤◌, ℕ, ◌∷◌, refl, sym, ap, subst, ◌∙◌}
use Rattle.vclock.specs.declared.format.Format.{Format}
use Rattle.tree_nodes.specs.Nodes.{tree_depth}
use Rattle.tree_nodes.specs.Blocks.{joined}
use Rattle.text_patch.specs.Marks.{marks_of}
use Rattle.text_patch.specs.Parts.{parts_at, first_at}
use Rattle.text_patch.specs.Patches.{patch_for}
use Rattle.text_patch.proofs.LengthLaws.{parts_short}
use Rattle.text_patch.proofs.PartLaws.{text_of_parts}
use Rattle.text_patch.proofs.TrueLaws.{true_patch}
use Rattle.text_patch.proofs.laws.a_true_patch_makes_the_partners_text.Goals as goal

pub returns : goal.returns
returns c = λ own other n salt width rows short format deep few same.
    let parts = parts_at other n in
    let t = true_patch salt width (parts_at own n) 0 parts short few (parts_short other (tree_depth other.format - n.depth) n.index rows) same in
    let there : n.depth ≤ tree_depth other.format = subst (λ (f : Format). n.depth ≤ tree_depth f) (sym format) deep in
    let first : first_at other n ≡ first_at own n = rw format refl in
    record {
      shallow = deep;
      body = joined parts;
      makes = record {
        steps = patch_for salt (marks_of salt width (parts_at own n)) 0 parts;
        spelled = refl;
        forwards = t.forwards;
        made_is = t.makes;
      };
      text_is = text_of_parts other n there ∙ ap (λ (f : ℕ). f ∷ joined parts) first;
    }

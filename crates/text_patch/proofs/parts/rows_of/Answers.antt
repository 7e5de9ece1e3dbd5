use Rattle.std.proofs.Common.{◌≡◌, ◌++◌, ◌∙◌, List, [], ℕ, map, ap, sym, subst}
use Rattle.std.specs.List.{AllByRecursion}
use Rattle.std.proofs.lemmas.List.{append_assoc, map-append}
use Rattle.vclock.specs.declared.format.Format.{Format}
use Rattle.version_set.proofs.ListLaws.{all-rest}
use Rattle.row_bytes.specs.declared.row.Row.{Row}
use Rattle.row_bytes.specs.Rows.{row_text, FitsText}
use Rattle.tree_nodes.specs.Nodes.{Node}
use Rattle.hash_tree.proofs.ChunkLaws.{all-run}
use Rattle.hash_tree.specs.Leaves.{Bucket, rows_in_leaf}
use Rattle.snapshot.specs.RowMaps.{leaf_in}
use Rattle.text_patch.proofs.PartLaws.{leaf_parts, leaf_fits}
use Rattle.text_patch.proofs.parts.rows_of.Goals as goal

pub loop-rows-init : goal.loop-rows-init
loop-rows-init c =
    let m = c.args.own.now in
    let n = c.args.node in
    let format : c.format-format.result ≡ m.format = c.format-format.ensures.format in
    let rows : c.runs-runs.result ≡ rows_in_leaf (leaf_in m) n.index m.rows =
    c.runs-runs.ensures ∙ ap (λ (b : Bucket). b.rows) c.rows.ensures ∙ ap (λ (k : Node). rows_in_leaf (leaf_in m) k.index m.rows) c.node.view_is in
    let none = c.new-parts.ensures.items in
    let fit = leaf_fits m n.index c.format-format.ensures.valid in
    record {
      all = ap (λ (t : List (List ℕ)). t ++ map (row_text c.format-format.result) c.runs-runs.result) none
          ∙ ap (λ (f : Format). map (row_text f) c.runs-runs.result) format ∙ ap (λ (rs : List Row). map (row_text m.format) rs) rows
          ∙ sym (leaf_parts m n c.requires);
      fit = subst (λ (f : Format). AllByRecursion (FitsText f) c.runs-runs.result) (sym format)
          (subst (λ (rs : List Row). AllByRecursion (FitsText m.format) rs) (sym rows) fit);
    }

pub put_texts-requires : goal.put_texts-requires
put_texts-requires c =
    all-run (FitsText c.format-format.result) [] c.in-Some.rows.now c.next_run.new.self
    (subst (λ (rs : List Row). AllByRecursion (FitsText c.format-format.result) rs) c.in-Some.ensures.0 c.loop-rows.invariant.fit)

pub loop-rows-preserved : goal.loop-rows-preserved
loop-rows-preserved c =
    let text = row_text c.format-format.result in
    let run = c.in-Some.rows.now in
    let rest = c.next_run.new.self in
    let before = c.loop-rows.parts.items in
    let split : map text c.loop-rows.runs ≡ map text run ++ map text rest = ap (λ (rs : List Row). map text rs) c.in-Some.ensures.0
    ∙ map-append text run rest in
    record {
      all = ap (λ (t : List (List ℕ)). t ++ map text rest) c.in_ok-put_texts.ensures.1
          ∙ append_assoc before (map text run) (map text rest) ∙ ap (λ (t : List (List ℕ)). before ++ t) (sym split) ∙ c.loop-rows.invariant.all;
      fit = all-rest (FitsText c.format-format.result) run rest
          (subst (λ (rs : List Row). AllByRecursion (FitsText c.format-format.result) rs) c.in-Some.ensures.0 c.loop-rows.invariant.fit);
    }

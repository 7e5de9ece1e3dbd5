use Rattle.std.proofs.Common.{sym, ◌∙◌, [], ◌∷◌}
use Rattle.std.specs.List.{flat_map}
use Rattle.std.proofs.lemmas.List.{append-nil}
use Rattle.hash_tree.specs.Chunks.{chunk_text}
use Rattle.hash_tree.specs.Texts.{leaf_byte}
use Rattle.hash_tree.proofs.comparison.is_chunked_text.Goals as goal

pub returns-in-None : goal.returns-in-None
returns-in-None c = (
  λ h. absurd (cc h),
  λ e. absurd (c.in-None.ensures [] (e ∙ sym (append-nil (leaf_byte c.args.format ∷ flat_map chunk_text c.args.chunks.now)))),
)

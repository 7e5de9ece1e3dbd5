use Rattle.std.proofs.Common.{sym, ◌∙◌, []}
use Rattle.std.proofs.lemmas.List.{append-nil}
use Rattle.hash_tree.specs.Texts.{inner_text}
use Rattle.hash_tree.proofs.comparison.is_inner_text.Goals as goal

pub returns-in-None : goal.returns-in-None
returns-in-None c = (λ h. absurd (cc h), λ e. absurd (c.in-None.ensures [] (e ∙ sym (append-nil (inner_text c.args.format c.args.digests.now)))))

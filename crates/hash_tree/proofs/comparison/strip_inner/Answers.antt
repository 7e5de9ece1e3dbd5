use Rattle.std.proofs.Common.{ℕ, List, Bor, [], ◌∷◌}
use Rattle.std.specs.List.{flat_map}
use Rattle.row_bytes.proofs.StripLaws.{strips_then, lacks_first}
use Rattle.hash_tree.specs.Texts.{inner_text}
use Rattle.hash_tree.proofs.comparison.strip_inner.Goals as goal

pub returns-in_err-rest : goal.returns-in_err-rest
unfolding inner_text
returns-in_err-rest c =
    let lacks = lacks_first (c.inner_byte.result ∷ []) (flat_map (λ (d : List ℕ). d) c.args.digests.now) c.args.text.now c.in_err-rest.ensures in
    let whole = rw c.inner_byte.ensures at lacks in
    rw c.from_residual.ensures whole

pub returns : goal.returns
unfolding inner_text
returns c =
    let whole = strips_then (λ (x : Bor (List ℕ)). x.now) (c.inner_byte.result ∷ [])
    (flat_map (λ (d : List ℕ). d) c.args.digests.now) c.args.text.now c.in_ok-rest.rest.now c.strip_all.result c.in_ok-rest.ensures
    c.strip_all.ensures in
    rw c.inner_byte.ensures at whole

use Rattle.std.proofs.Common.{map, ap, refl, ◌∙◌}
use Rattle.std.proofs.lemmas.Slice.Zip.{AllZip-map}
use Rattle.rayon.specs.Lists.{vec_items}
use Rattle.rehash.specs.declared.job.Job.{Job}
use Rattle.rehash.proofs.bulk.hash_all.Goals as goal

pub returns : goal.returns
returns g c =
    let vec = ap (λ it. vec_items it.base) c.map.ensures.base ∙ ap vec_items c.with_min_len.ensures.base ∙ c.into_par_iter.ensures in
    let made = c.in_ok-hashed.ensures in
    let chain = made.1 in
    (refl, made.2 ∙ AllZip-map (λ (j : Job). j.text) chain.0 made.0 chain.2 ∙ ap (map (λ (j : Job). j.text)) (chain.1 ∙ vec))

use Rattle.std.proofs.Common.{◌/◌, sym, ap, ◌∙◌}
use Rattle.vclock.specs.declared.format.Format.{Format}
use Rattle.key_ring.specs.Places.{leaf_at}
use Rattle.range_store.proofs.OfferLaws.{bits_fit}
use Rattle.range_store.proofs.TableRowLaws.{narrow}
use Rattle.range_store.proofs.store.table_rows.narrow_leaf.Goals as goal

pub returns-in-One : goal.returns-in-One
returns-in-One c = λ key is.
    let config = c.args.config.now in
    ap (λ n. n / 16) is ∙ narrow config.bits key (bits_fit config c.limit-valid.ensures.valid)
    ∙ ap (λ (f : Format). leaf_at f config.bits key) (sym c.in-One.is ∙ c.format.ensures)

use Rattle.std.proofs.Common.{◌≡◌, rules}
use Rattle.range_store.specs.Store.{dirty_fault}
use Rattle.range_state.specs.declared.local_rows.LocalRows.TheVariants as local_rows
use Rattle.antientropy_c.specs.Offers.{shown_in}
use Rattle.c_calls.specs.Published.{shown_by}
use Rattle.antientropy_c.proofs.MakeLaws.{made_from}
use Rattle.antientropy_c.proofs.offers.antientropy_share_snapshot.Goals as goal

pub returns : goal.returns
returns c =
    let f = c.args.share.now in
    made_from f c.read_into.new.from f.held f.kept c.read_into.result _ (shown_in c.args.publication.now) (shown_in c.read_into.new.into) _ _
    (λ s. dirty_fault s.state.store) (λ s m. m ≡ shown_by local_rows.Now s)
    (λ r said. search rules) c.read_into.ensures.same c.read_into.ensures.filled

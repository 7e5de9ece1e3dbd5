use Rattle.std.proofs.Common.{◌≡◌, sym, ap, arith}
use Rattle.caller_pass.specs.Passes.{BookView}
use Rattle.caller_pass.proofs.RenewalLaws.{at_least}
use Rattle.caller_pass.proofs.book.Book.renew.Goals as goal

pub sub-requires : goal.sub-requires
sub-requires g c =
    let all = at_least g.L.Ledger.parts c.args.passes.items c.requires.there in
    let whole : c.gather-kept.new.share.parts ≡ g.L.Ledger.parts = omega (arith, all, c.gather-kept.ensures.parts, c.gather-kept.ensures.few) in
    let total = ap (λ (b : BookView). b.number) c.self.view_is in
    omega (arith, c.audit.ensures.whole whole, c.audit.ensures.amount, c.requires.entries, total)

pub deal-passes-requires-clause-parts : goal.deal-passes-requires-clause-parts
deal-passes-requires-clause-parts g c =
    let all = at_least g.L.Ledger.parts c.args.passes.items c.requires.there in
    let seats : c.self.inside.seats ≡ g.L.Ledger.parts = c.self.invariant.0 in
    (omega (arith, all, c.gather-kept.ensures.parts, c.gather-kept.ensures.few, c.audit.ensures.parts, c.sub.ensures.parts, seats), sym seats)

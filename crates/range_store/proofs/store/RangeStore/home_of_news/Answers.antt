use Rattle.std.proofs.Common.{◌≡◌, None, true, false, sym, ap, ◌∙◌}
use Rattle.version_set.specs.Version.{covered, offer_fault}
use Rattle.range_journal.specs.Journal.{held}
use Rattle.range_store.specs.Store.{place_fault}
use Rattle.range_store.proofs.FittingLaws.{known_sent, fitting_sent}
use Rattle.range_store.proofs.store.RangeStore.home_of_news.Goals as goal

pub returns-then-covers : goal.returns-then-covers
returns-then-covers c =
    let s = c.args.self.now in
    let key = c.args.key.now in
    let v = c.args.version.now in
    let here : place_fault s.config key v.kind v.value ≡ None = ap (place_fault s.config key v.kind) (sym c.as_slice.ensures)
    ∙ c.in_ok-leaf.ensures.0 in
    let covers : covered v (held s.entries key) ≡ true = cc (c.covers.ensures, c.if-covers.true, c.look_up-known.ensures.held) in
    known_sent s key v here covers

pub returns : goal.returns
returns c =
    let s = c.args.self.now in
    let key = c.args.key.now in
    let v = c.args.version.now in
    let here : place_fault s.config key v.kind v.value ≡ None = ap (place_fault s.config key v.kind) (sym c.as_slice.ensures)
    ∙ c.in_ok-leaf.ensures.0 in
    let uncovered : covered v (held s.entries key) ≡ false = cc (c.covers.ensures, c.if-covers.false, c.look_up-known.ensures.held) in
    let fits : offer_fault v (held s.entries key) ≡ None = rw (c.look_up-known.ensures.held, c.if-crowds.false) at c.crowds.ensures in
    fitting_sent s c.in_ok-leaf.leaf key v c.in_ok-leaf.ensures.1 here uncovered fits

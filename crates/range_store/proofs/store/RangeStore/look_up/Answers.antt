use Rattle.std.proofs.Common.{ℕ, List, sym, subst}
use Rattle.range_store.specs.Store.{Store}
use Rattle.range_store.specs.TableRows.{IsHome}
use Rattle.range_store.proofs.TableRowLaws.{home_found}
use Rattle.range_store.proofs.store.RangeStore.look_up.Goals as goal

pub returns-in-Some-clause-leaf : goal.returns-in-Some-clause-leaf
returns-in-Some-clause-leaf c =
    let i = c.self.inside in
    let key = c.bytes.result.now in
    let leaf = c.in-Some.row.now.leaf in
    subst (λ (k : List ℕ). IsHome c.args.self.now.config.bits c.args.self.now.config.range k leaf) c.bytes.ensures
    (subst (λ (s : Store). IsHome s.config.bits s.config.range key leaf) c.self.view_is
    (home_found i.config.bits i.config.range i.journal.entries i.table.rows key c.in-Some.row.now c.self.invariant.3 (sym c.in-Some.ensures)))

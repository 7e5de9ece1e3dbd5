use Rattle.std.proofs.Common.{ap, ◌∙◌, refl, sym, subst, List, []}
use Rattle.range_journal.specs.declared.journal.Entry.{Entry}
use Rattle.range_journal.specs.Log.{Log}
use Rattle.row_table.specs.declared.table.TableRow.{TableRow}
use Rattle.row_table.specs.Tables.{Table}
use Rattle.range_tree.specs.Trees.{bare}
use Rattle.range_store.specs.TableRows.{IsTableOf}
use Rattle.range_store.proofs.OfferLaws.{bits_fit, range_fits}
use Rattle.range_store.proofs.StoreLaws.{new_range}
use Rattle.range_store.proofs.TableRowLaws.{table_none}
use Rattle.range_store.proofs.store.RangeStore.seeded.Goals as goal

pub empty-requires-clause-few : goal.empty-requires-clause-few
empty-requires-clause-few c = rw c.bits.ensures (bits_fit c.args.config c.limit.ensures.valid)

pub empty-requires-clause-range : goal.empty-requires-clause-range
empty-requires-clause-range c = rw (c.bits.ensures, c.range.ensures) (range_fits c.args.config c.limit.ensures.valid)

pub invariant_of-result : goal.invariant_of-result
invariant_of-result c =
    let tree = c.in_ok-empty.ensures.1 ∙ (λ i. bare (c.format.ensures i) (c.bits.ensures i) (c.range.ensures i)) in
    let all = new_range c.args.config c.new.result.entries c.in_ok-empty.field-0 c.limit.ensures.valid
    (ap (λ (t : Log). t.entries) c.new.ensures) tree in
    let none = subst (λ (es : List Entry). IsTableOf c.args.config.bits c.args.config.range es c.new-2.result.rows)
    (sym (ap (λ (t : Log). t.entries) c.new.ensures))
    (subst (λ (rows : List TableRow). IsTableOf c.args.config.bits c.args.config.range [] rows) (sym (ap (λ (t : Table). t.rows) c.new-2.ensures))
    (table_none c.args.config.bits c.args.config.range)) in
    (all.0, all.1, ap (λ (t : Log). t.limit) c.new.ensures ∙ c.limit.ensures.limit, none)

pub returns : goal.returns
returns c =
    let tree = c.in_ok-empty.ensures.1 ∙ (λ i. bare (c.format.ensures i) (c.bits.ensures i) (c.range.ensures i)) in (
      refl,
      (new_range c.args.config c.new.result.entries c.in_ok-empty.field-0 c.limit.ensures.valid
          (ap (λ (t : Log). t.entries) c.new.ensures) tree).2,
    )

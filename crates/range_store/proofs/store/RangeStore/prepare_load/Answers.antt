use Rattle.std.proofs.Common.{ℕ, List, length, ap, subst, arith}
use Rattle.vclock.specs.Answer.{AnswersOrNoMemory}
use Rattle.row_bytes.specs.declared.row.Row.{Row}
use Rattle.range_journal.specs.declared.journal.Source.TheVariants.{Copy}
use Rattle.range_store.specs.Batches.{IsBatchOf}
use Rattle.range_store.specs.Offers.{offers_of, crowded_in}
use Rattle.range_store.proofs.LoadLaws.{offers_few, acceptable}
use Rattle.range_store.proofs.store.RangeStore.prepare_load.Goals as goal

pub prepare-requires-clause-few : goal.prepare-requires-clause-few
prepare-requires-clause-few c =
    let few = offers_few c.args.rows.now.config.format c.args.rows.now.rows c.leaf.ensures.valid.are.each in
    let same = ap length c.as_slice.ensures in
    omega (arith, few, same, ap (λ rows. length (offers_of rows)) c.as_slice.ensures, c.as_slice.type_inv.1)

pub returns : goal.returns
returns c =
    let s = c.args.self.now in
    let rows = c.args.rows.now in
    acceptable s c.args.seat rows.config rows.leaf rows.rows c.prepare.result c.requires c.leaf.ensures.valid
    (subst (λ (n : ℕ). AnswersOrNoMemory c.prepare.result (crowded_in s c.args.seat Copy (offers_of rows.rows))
    (IsBatchOf s c.args.seat Copy n (offers_of rows.rows))) c.leaf.ensures.value
    (subst (λ (rs : List Row). AnswersOrNoMemory c.prepare.result (crowded_in s c.args.seat Copy (offers_of rs))
    (IsBatchOf s c.args.seat Copy c.leaf.result (offers_of rs))) c.as_slice.ensures c.prepare.ensures))

use Rattle.std.proofs.Common.{◌≡◌, ◌++◌, ℕ, refl, sym, subst, ◌∙◌, inl, inr}
use Rattle.std.proofs.lemmas.Result.{err_from_is_err_and}
use Rattle.range_journal.specs.declared.journal.Source.TheVariants.{Copy}
use Rattle.range_store.specs.Batches.{IsAcceptable}
use Rattle.range_store.specs.Offers.{offers_of}
use Rattle.range_store.proofs.LoadLaws.{load_is, load_crowded, load_tells}
use Rattle.range_store.specs.Loads.{load, accept_offers}
use Rattle.range_store.proofs.store.RangeStore.load_into.Goals as goal
use Rattle.range_store.proofs.store.RangeStore.load_into.Goals.{In_ok-batch}

pub returns-in_err-batch-clause-loads : goal.returns-in_err-batch-clause-loads
returns-in_err-batch-clause-loads c =
    let now = c.args.self.now in
    let rows = c.args.rows.now in
    let p = err_from_is_err_and c.from_residual.result c.from_residual.ensures.1 in
    rw (p.1, p.2) (
      refl,
      elim c.in_err-batch.ensures [
        | inl memory ↦ inl memory
        | inr crowd ↦ inr (load_crowded now c.args.seat rows.config rows.leaf rows.rows c.in_err-batch.field-0.0 c.requires c.leaf-leaf.ensures.valid
            crowd)
      ],
    )

-- the batch can be accepted
acceptable : (c : In_ok-batch) → IsAcceptable c.args.self.now c.args.seat Copy c.leaf-leaf.result (offers_of c.args.rows.now.rows) c.in_ok-batch.batch
acceptable c = subst (λ (leaf : ℕ). IsAcceptable c.args.self.now c.args.seat Copy leaf (offers_of c.args.rows.now.rows) c.in_ok-batch.batch)
    (sym c.leaf-leaf.ensures.value) c.in_ok-batch.ensures.1

-- a load of the rows accepts their versions
loads : (c : In_ok-batch) → load c.args.self.now c.args.seat c.args.rows.now.rows ≡ accept_offers c.args.self.now c.args.seat Copy
    (offers_of c.args.rows.now.rows)
loads c = load_is c.args.self.now c.args.seat c.args.rows.now.config c.args.rows.now.leaf c.args.rows.now.rows c.requires c.leaf-leaf.ensures.valid

pub returns-in_err-loaded-clause-loads : goal.returns-in_err-loaded-clause-loads
returns-in_err-loaded-clause-loads c =
    let at = (goal.at.returns-in_err-loaded-clause-loads c).In_ok-batch in
    let p = err_from_is_err_and c.from_residual-in_err-loaded.result c.from_residual-in_err-loaded.ensures.1 in
    let did = c.in_err-loaded.ensures c.args.seat Copy (offers_of c.args.rows.now.rows) (acceptable at) in
    rw (p.1, p.2) (did.0, elim did.1 [ inl memory ↦ inl memory.0 | inr fault ↦ inr (loads at ∙ fault) ])

pub returns-clause-loads : goal.returns-clause-loads
returns-clause-loads c =
    let at = (goal.at.returns-clause-loads c).In_ok-batch in
    loads at ∙ c.in_ok-loaded.ensures c.args.seat Copy (offers_of c.args.rows.now.rows) (acceptable at)

pub returns-clause-appended : goal.returns-clause-appended
returns-clause-appended c =
    let can = acceptable (goal.at.returns-clause-appended c).In_ok-batch in
    let offers = offers_of c.args.rows.now.rows in
    let tells = load_tells c.args.self.now c.accept_batch.new.self c.args.seat Copy c.leaf-leaf.result offers c.in_ok-batch.batch
    c.in_ok-loaded.loaded can (c.in_ok-loaded.ensures c.args.seat Copy offers can) in
    c.move_to.ensures ∙ (λ i. c.in_ok-added.ensures.same i ++ (c.in_ok-added.ensures.copies.1 ∙ c.entries.ensures ∙ sym tells) i)

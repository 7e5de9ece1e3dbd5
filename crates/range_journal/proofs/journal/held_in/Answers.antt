use Rattle.std.proofs.Common.{None, Some, refl, inl, inr, sym, ◌≡◌, true, false, ◌∙◌, arith}
use Rattle.std.specs.Prelude.{nat_eq}
use Rattle.std.specs.Cmp.Lexicographic.{pointwise}
use Rattle.range_journal.proofs.JournalLaws.{held_took, held_passed, never_refused}
use Rattle.std.proofs.lemmas.Result.{err_from_is_err_and}
use Rattle.range_journal.proofs.journal.held_in.Goals as goal
use Rattle.range_journal.proofs.journal.held_in.Goals.{then-eq+in_ok-try_clone+in_ok-offer, else-eq}

pub loop-entry-preserved : goal.loop-entry-preserved
loop-entry-preserved c =
    elim c.if-eq.branch [
      | then-eq+in_ok-try_clone+in_ok-offer w ↦
          let same : pointwise nat_eq c.entry-item.result.key c.args.key.now ≡ true = cc (c.eq.ensures, c.as_slice.ensures, w.if-eq.true) in
          w.set-is ∙ held_took c.args.entries.now c.loop-entry.entry-index c.entry-item.result c.args.key.now _ _ _
          (omega arith) c.entry-item.is same c.loop-entry.invariant w.in_ok-try_clone.ensures.1 w.in_ok-offer.ensures.set
      | else-eq w ↦
          let other : pointwise nat_eq c.entry-item.result.key c.args.key.now ≡ false = cc (c.eq.ensures, c.as_slice.ensures, w.if-eq.false) in
          w.set-is ∙ held_passed c.args.entries.now c.loop-entry.entry-index c.entry-item.result c.args.key.now _
          (omega arith) c.entry-item.is other c.loop-entry.invariant
    ]

pub returns-in_err-offer-clause-answers : goal.returns-in_err-offer-clause-answers
returns-in_err-offer-clause-answers c never =
    let same : pointwise nat_eq c.entry-item.result.key c.args.key.now ≡ true = cc (c.eq.ensures, c.as_slice.ensures, c.if-eq.true) in
    let none = never_refused c.args.entries.now c.loop-entry.entry-index c.entry-item.result c.args.key.now _ _
    (omega arith) c.entry-item.is same c.loop-entry.invariant c.in_ok-try_clone.ensures.1 never in
    let p = err_from_is_err_and c.from_residual-in_err-offer.result c.from_residual-in_err-offer.ensures.1 in
    rw (p.1, p.2) (elim c.in_err-offer.ensures.answers [ inl n ↦ inl (refl, n.1) | inr e ↦ absurd (let no : None ≡ Some _ = sym none ∙ e in cc) ])

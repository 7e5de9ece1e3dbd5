use Rattle.std.proofs.Common.{◌≡◌, ℕ, List, true, false, Some, get_or, take, subst, sym, ap, ◌∙◌, arith, eq-eqb, eqb, true≢false}
use Rattle.std.specs.Prelude.{slice_get}
use Rattle.std.proofs.lemmas.List.{take_all}
use Rattle.range_journal.specs.declared.journal.Entry.{Entry}
use Rattle.caller_pass.specs.Closings.{of_seat, DifferAt}
use Rattle.caller_pass.proofs.Walk.{filter_split, differs, goes_on, took, passed}
use Rattle.std.proofs.lemmas.Bool.Decides.{nat_tests}
use Rattle.caller_pass.proofs.close.receipts_differ.Goals as goal
use Rattle.caller_pass.proofs.close.receipts_differ.Goals.{then-entry-seat+else-not-is_at, else-entry-seat}

at : (xs ys : List Entry) (k : ℕ) → (take k xs ≡ take k ys) × (¬ (slice_get xs k ≡ slice_get ys k)) → DifferAt xs ys k
at xs ys k both = record { alike = both.0; differ = both.1 }

unequal : (a b : ℕ) → ¬ (a ≡ b) → eqb a b ≡ false
unequal a b h = grind (arith, nat_tests)

pub loop-entry-preserved : goal.loop-entry-preserved
loop-entry-preserved c =
    let es = c.args.entries.now in
    let e = c.entry-item.result in
    let i = c.loop-entry.entry-index in
    let p = λ (x : Entry). eqb x.seat c.args.seat in
    elim c.if-entry-seat.branch [
      | then-entry-seat+else-not-is_at w ↦
          let both = took p c.args.receipts.now es c.loop-entry.count i e c.loop-entry-test.true c.entry-item.is (eq-eqb _ _ w.if-entry-seat.true)
          (w.is_at.ensures.0 w.if-not-is_at.false) c.loop-entry.invariant.same in
          record {
            within = omega (arith, w.count-is, both.0);
            same = ap (λ (n : ℕ). take n c.args.receipts.now) w.count-is ∙ both.1;
          }
      | else-entry-seat w ↦ record {
        within = omega (arith, w.count-is, c.loop-entry.invariant.within);
        same = ap (λ (n : ℕ). take n c.args.receipts.now) w.count-is
            ∙ passed p (take c.loop-entry.count c.args.receipts.now) es i e c.loop-entry-test.true c.entry-item.is
            (unequal _ _ w.if-entry-seat.false) c.loop-entry.invariant.same;
      }
    ]

pub returns-then-not-is_at : goal.returns-then-not-is_at
returns-then-not-is_at c =
    let es = c.args.entries.now in
    let e = c.entry-item.result in
    let i = c.loop-entry.entry-index in
    let passes : eqb (get_or es i e).seat c.args.seat ≡ true = subst (λ (x : Entry). eqb x.seat c.args.seat ≡ true) c.entry-item.is
    (eq-eqb _ _ c.if-entry-seat.true) in
    let f = filter_split (λ (x : Entry). eqb x.seat c.args.seat) es i e c.loop-entry-test.true passes in
    let apart = λ (h : slice_get c.args.receipts.now c.loop-entry.count ≡ Some (get_or es i e)). absurd
    (true≢false (sym (c.is_at.ensures.1 (h ∙ ap Some (sym c.entry-item.is))) ∙ c.if-not-is_at.true)) in
    rw f (at _ _ _ (differs c.args.receipts.now
    (of_seat c.args.seat (take i es)) _ _ c.loop-entry.count c.loop-entry.invariant.within c.loop-entry.invariant.same apart))

pub returns-then-count-receipts : goal.returns-then-count-receipts
returns-then-count-receipts c =
    at _ _ _ (goes_on c.args.receipts.now (of_seat c.args.seat c.args.entries.now) c.loop-entry.count c.if-count-receipts.true
    (c.loop-entry.invariant.same ∙ ap (of_seat c.args.seat) (take_all c.loop-entry.entry-index c.args.entries.now c.loop-entry-test.false)))

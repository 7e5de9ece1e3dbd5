use Rattle.std.proofs.Common.{subst, arith}
use Rattle.admission.specs.Admission.{IsAdmission}
use Rattle.admission.proofs.Ranks.{length_pairs}
use Rattle.admission.proofs.budget.SlotBudget.lent.Goals as goal

pub returns-clause-valid : goal.returns-clause-valid
returns-clause-valid c =
    let i = c.self.invariant in
    subst IsAdmission c.self.view_is (record {
      floor = i.0;
      low = i.1;
      high = i.2;
      ceiling = i.3;
      slots = i.4;
      samples = omega (arith, length_pairs c.self.inside.samples.items, i.6);
    })

-- What a step makes of an outcome.
use Rattle.std.proofs.Common.{◌≡◌, Option, Some, None, refl}
use Rattle.vclock.specs.declared.refusal.Refusal.{Refusal}
use Rattle.vclock.specs.Outcome.{Outcome, gives, ◌>>◌}

-- a call that was not refused at a cause: the cause doesn't stand, and the rest gave it
pub passed : {T S : Type 0} (cause : Option Refusal) (rest : Outcome T S) (x : T) (s : S) → (cause >> rest) ≡ gives x s
    → (cause ≡ None) × (rest ≡ gives x s)
passed None rest x s is = (refl, is)
passed (Some e) rest x s is = absurd (cc)

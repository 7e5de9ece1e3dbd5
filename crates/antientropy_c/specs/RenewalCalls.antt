-- Renewals in handles of C.
use Rattle.std.specs.Prelude.{Bool}
use Rattle.c_calls.specs.KeptRenewals.{KeptRenewal}
use Rattle.antientropy_c.specs.declared.renewal_handle.RenewalHandle.{RenewalHandle}

abbrev pub renewal_in : RenewalHandle → Bool × KeptRenewal
renewal_in h = (h.held, h.renewal)

-- An estimate of the number of keys that differ, from the first two levels of two trees.
use Rattle.std.specs.Prelude.{ℕ, zero, suc, ◌+◌, ◌-◌, ◌/◌, min, length, Bool, true, false, ◌||◌, nat_lt, nat_eq, Option, Some, None, if◌then◌else◌}
use Rattle.std.specs.List.{list_any, filter}
use Rattle.sync_session.specs.Walks.{Walk}
use Rattle.sync_session.specs.declared.state.SessionState.{SessionState}
use Rattle.sync_session.specs.declared.state.SessionState.TheVariants.{Open, Finished, Failed, Cancelled}

-- Random keys are in n different nodes of 256 after, on average, 256/256 + 256/255 + .. draws, n terms (the coupon
-- collector). This sum, in parts of 256.
abbrev pub drawn : ℕ → ℕ
drawn zero = 0
drawn (suc nodes) = drawn nodes + 65536 / (256 - nodes)

abbrev pub keys_in : ℕ → ℕ
keys_in nodes = drawn (min nodes 256) / 256

abbrev pub has_failed : SessionState → Bool
has_failed Failed = true
has_failed Open = false
has_failed Finished = false
has_failed Cancelled = false

-- the estimate, once the root and the nodes below it that differ were taken
abbrev pub estimate_of : Walk → Option ℕ
estimate_of w = if has_failed w.state || list_any (λ n. nat_lt n.depth 2) w.outstanding then None else Some (keys_in (length (filter (λ n. nat_eq n.depth 2) w.asked)))

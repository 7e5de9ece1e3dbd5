-- The duty of a link: its count of failures rises if and only if a call was lost.
use Rattle.std.specs.Prelude.{◌≡◌, ℕ, ◌<◌, Result, Ok, Err}
use Rattle.vclock.specs.declared.refusal.Refusal.{Refusal}
use Rattle.vclock.specs.declared.refusal.Refusal.TheVariants.{LinkLost}
use Rattle.ring_node.specs.declared.link.Reached.{Reached}
use Rattle.ring_node.specs.declared.link.Reached.TheVariants.{Bytes, Lost, Gone}

-- the count rose if the call was lost, and is unchanged otherwise
abbrev pub CountsLosses : ℕ → ℕ → Reached → Type 0
CountsLosses before after Lost = before < after
CountsLosses before after (Bytes bytes) = after ≡ before
CountsLosses before after Gone = after ≡ before

-- a call that asked a link is refused as LinkLost if and only if the count rose, and otherwise the count is unchanged
abbrev pub IsLostExactly : {T : Type 0} → ℕ → ℕ → Result T Refusal → Type 0
IsLostExactly before after (Err LinkLost) = before < after
IsLostExactly before after (Err e) = after ≡ before
IsLostExactly before after (Ok x) = after ≡ before

-- Exchanges in handles of C.
use Rattle.std.specs.Prelude.{◌≡◌, ℕ, Bool, true, false, Result, Ok, Err}
use Rattle.vclock.specs.declared.refusal.Refusal.{Refusal}
use Rattle.range_state.specs.State.{State}
use Rattle.exchange.specs.declared.exchange.Exchange.{Exchange}
use Rattle.c_calls.specs.Numbers.{Returns, HELD}
use Rattle.antientropy_c.specs.declared.exchange_handle.ExchangeHandle.{ExchangeHandle}

abbrev pub exchange_in : ExchangeHandle → Bool × Exchange
exchange_in h = (h.held, h.exchange)

-- a handle holds the exchange of a result, or is empty on error
abbrev pub Holds : Result Exchange Refusal → Bool × Exchange → Type 0
Holds (Ok x) new = (new.0 ≡ true) × (new.1 ≡ x)
Holds (Err e) new = new.0 ≡ false

-- A full handle is unchanged, as the state is, and HELD is returned; otherwise an exchange is opened.
abbrev pub OpensWhere : Bool → ℕ → Bool × Exchange → Bool × Exchange → State → State → (Result Exchange Refusal → Type 0) → Type 0
OpensWhere true code old new s t Right = (new.0 ≡ true) × (new.1 ≡ old.1) × (code ≡ HELD) × (t ≡ s)
OpensWhere false code old new s t Right = Returns code (λ r. Right r × Holds r new)

unfoldable pub OpensIn : ℕ → Bool × Exchange → Bool × Exchange → State → State → (Result Exchange Refusal → Type 0) → Type 0
OpensIn code old new s t Right = OpensWhere old.0 code old new s t Right
